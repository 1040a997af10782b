use Rattle.std.specs.Option.{option_copied}
use Rattle.role_graph.specs.Actors.{auth_of}
use Rattle.role_graph.specs.Judges.{Grounds, counting}
use Rattle.cat_items.specs.Reach.{Reaches}
use Rattle.role_graph.proofs.AloneLemmas.{reach_alone}
use Rattle.role_graph.proofs.LoopLemmas.{join}
use Rattle.role_graph.proofs.judge.Judge.reaches.Goals as goal

pub returns-then-not-self-clause-answer : goal.returns-then-not-self-clause-answer
returns-then-not-self-clause-answer c =
    rw (← c.self.view_is)
    (join c.reaches_alone.ensures (reach_alone c.self.inside.c.now.items (option_copied c.self.inside.marks) (auth_of c.args.a) (auth_of c.args.g) (c.self.invariant.2 c.if-not-self.true)))

pub invariant_of-self : goal.invariant_of-self
invariant_of-self c = rw c.reaches_by.ensures.room c.self.invariant
