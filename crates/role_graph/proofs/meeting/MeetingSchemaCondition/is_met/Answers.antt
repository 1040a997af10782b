use Rattle.std.proofs.Common.{◌↔◌, false, refl}
use Rattle.std.specs.Bool.{IsTrue}
use Rattle.cat_items.specs.declared.item.Item.{Item}
use Rattle.cat_items.specs.declared.item.Item.TheVariants as item
use Rattle.cat_items.specs.Rights.{MeetsAll}
use Rattle.role_graph.specs.Judges.{counting}
use Rattle.role_graph.specs.Needs.{needs_of}
use Rattle.role_graph.proofs.LoopLemmas.{at_item}
use Rattle.role_graph.proofs.meeting.MeetingSchemaCondition.is_met.Goals as goal

pub returns-then-same-clause-answer : goal.returns-then-same-clause-answer
returns-then-same-clause-answer c =
    let s = counting c.args.judge.now in
    at_item (λ (y : Item). IsTrue c.all_met.result ↔ MeetsAll false s c.args.self.now.schema.now (needs_of c.args.self.now.needs) y) item.Schema _ _ _ c.in-Schema.is c.get-schema.ensures
    (λ e. (c.if-same.ensures.0 refl, c.all_met.ensures.answer.0 e), λ h. c.all_met.ensures.answer.1 h.1)
