use Rattle.std.proofs.Common.{◌↔◌, Bool, List, Option, Some, subst}
use Rattle.std.specs.Bool.{IsTrue}
use Rattle.cat_items.specs.declared.item.Item.{Item}
use Rattle.role_graph.specs.Marked.{counted}
use Rattle.part_rounds.specs.Grants.{IsStanding}
use Rattle.part_rounds.proofs.granted.stands_by.Goals as goal

pub returns-clause-answer : goal.returns-clause-answer
returns-clause-answer c =
    let judge = c.new-judge.result in
    subst (λ (items : List Item). IsTrue c.stands-answer.result ↔ IsStanding (counted items (Some c.args.marks.now)) c.args.grant c.args.by.now) c.new-judge.ensures.items
    (subst (λ (marks : Option (List Bool)). IsTrue c.stands-answer.result ↔ IsStanding (counted judge.items marks) c.args.grant c.args.by.now) c.new-judge.ensures.marks c.stands-answer.ensures)
