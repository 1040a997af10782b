use Rattle.std.proofs.Common.{◌↔◌, false, sym, subst}
use Rattle.std.specs.Bool.{IsTrue}
use Rattle.std.specs.List.{All}
use Rattle.cat_items.specs.declared.need.Auth.TheVariants.{Named}
use Rattle.cat_items.specs.Keys.{need_of}
use Rattle.cat_items.specs.Rights.{Met}
use Rattle.role_graph.specs.Judges.{counting}
use Rattle.role_graph.specs.declared.meeting.Needs.{Needs}
use Rattle.role_graph.specs.Needs.{needs_of}
use Rattle.role_graph.proofs.AllLemmas.{all_one}
use Rattle.role_graph.proofs.LoopLemmas.{join}
use Rattle.role_graph.proofs.judge.Judge.all_met.Goals as goal

pub returns-in-Listed-clause-answer : goal.returns-in-Listed-clause-answer
returns-in-Listed-clause-answer c =
    let P = Met false (counting c.args.self.now) (Named c.args.owner.now) in
    subst (λ (n : Needs). IsTrue c.each_met.result ↔ All P (needs_of n)) (sym c.in-Listed.is) c.each_met.ensures.answer

pub returns-in-One-clause-answer : goal.returns-in-One-clause-answer
returns-in-One-clause-answer c =
    let P = Met false (counting c.args.self.now) (Named c.args.owner.now) in
    subst (λ (n : Needs). IsTrue c.met_by.result ↔ All P (needs_of n)) (sym c.in-One.is) (join c.met_by.ensures.answer (all_one P (need_of c.in-One.need)))

pub returns-in-References-clause-answer : goal.returns-in-References-clause-answer
returns-in-References-clause-answer c =
    let P = Met false (counting c.args.self.now) (Named c.args.owner.now) in
    subst (λ (n : Needs). IsTrue c.each_referenced.result ↔ All P (needs_of n)) (sym c.in-References.is) c.each_referenced.ensures.answer
