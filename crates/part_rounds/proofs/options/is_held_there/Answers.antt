use Rattle.std.proofs.Common.{◌↔◌, Bool, List, Option, Some, subst}
use Rattle.std.specs.Bool.{IsTrue}
use Rattle.std.proofs.lemmas.Bool.{both_ways, false≢true}
use Rattle.cat_items.specs.declared.item.Item.{Item}
use Rattle.cat_items.specs.declared.need.Need.{Need}
use Rattle.cat_items.specs.Rights.{Stands}
use Rattle.role_graph.specs.Marked.{counted, marked}
use Rattle.part_rounds.proofs.options.is_held_there.Goals as goal

pub returns-then-not-is_made-clause-answer : goal.returns-then-not-is_made-clause-answer
returns-then-not-is_made-clause-answer c = (λ e. absurd (false≢true e), λ h. absurd (both_ways _ c.if-not-is_made.true (c.is_made.ensures.1 h.1)))

pub returns-clause-answer : goal.returns-clause-answer
returns-clause-answer c =
    let judge = c.new-judge.result in
    let need = c.args.right.now.need in
    let stands : IsTrue c.stands-answer.result ↔ Stands (marked c.args.c.now.items c.args.marks.now) need =
    subst (λ (items : List Item). IsTrue c.stands-answer.result ↔ Stands (counted items (Some c.args.marks.now)) need) c.new-judge.ensures.items
    (subst (λ (marks : Option (List Bool)). IsTrue c.stands-answer.result ↔ Stands (counted judge.items marks) need) c.new-judge.ensures.marks (subst (λ (n : Need). IsTrue c.stands-answer.result ↔ Stands (counted judge.items judge.marks) n) c.into.ensures c.stands-answer.ensures)) in
    (λ e. (stands.0 e, c.is_made.ensures.0 c.if-not-is_made.false), λ h. stands.1 h.0)
