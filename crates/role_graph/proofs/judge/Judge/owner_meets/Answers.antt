use Rattle.role_graph.specs.Judges.{counting}
use Rattle.role_graph.specs.Needs.{needs_of}
use Rattle.role_graph.proofs.LoopLemmas.{has_there, join}
use Rattle.role_graph.proofs.MeetingLemmas.{meets_there}
use Rattle.role_graph.proofs.judge.Judge.owner_meets.Goals as goal

pub returns-clause-answer : goal.returns-clause-answer
returns-clause-answer c =
    let s = counting c.args.self.now in
    join c.any_met.ensures.answer (has_there s _ _ (meets_there s c.args.schema.now (needs_of c.args.needs)))
