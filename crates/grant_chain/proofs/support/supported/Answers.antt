use Rattle.std.proofs.Common.{◌↔◌, Bool, List, Option, Some, subst}
use Rattle.std.specs.Bool.{IsTrue}
use Rattle.cat_items.specs.declared.item.Item.{Item}
use Rattle.cat_items.specs.Supported.{Supported}
use Rattle.role_graph.specs.Marked.{counted}
use Rattle.grant_chain.proofs.support.supported.Goals as goal

pub returns-clause-answer : goal.returns-clause-answer
returns-clause-answer c =
    let judge = c.new-judge.result in
    subst (λ (items : List Item). IsTrue c.is_supported-answer.result ↔ Supported items (counted items (Some c.args.marks.now)) c.args.item.now) c.new-judge.ensures.items
    (subst (λ (marks : Option (List Bool)). IsTrue c.is_supported-answer.result ↔ Supported judge.items (counted judge.items marks) c.args.item.now) c.new-judge.ensures.marks c.is_supported-answer.ensures.answer)
