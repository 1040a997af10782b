use Rattle.std.specs.List.{Contains}
use Rattle.cat_items.specs.declared.item.Item.{Item}
use Rattle.asked_parts.specs.Schemas.{IsNewSchemaKey}
use Rattle.asked_parts.proofs.schemas.schema_keys.Given as goal

abbrev pub invariant-loop-x : goal.invariant-loop-x
invariant-loop-x l = (k : Item) → Contains l.keys.items k → IsNewSchemaKey l.suspects l.asked.items k
