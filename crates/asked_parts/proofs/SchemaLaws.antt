-- The schemas that suspects ask for by what they name are asked for over each part.
use Rattle.std.proofs.Common.{inl, inr, List}
use Rattle.std.specs.List.{Contains}
use Rattle.cat_items.specs.declared.item.Item.{Item}
use Rattle.cascade_laws.specs.Asks.{Asks, by_far, by_name}
use Rattle.cascade_laws.specs.Topics.{schema}
use Rattle.asked_parts.specs.Parts.{IsAskedBy}
use Rattle.asked_parts.specs.Schemas.{IsSchemaKey}

pub schema_asked : (part suspects : List Item) (x k : Item) → Contains suspects x → IsSchemaKey x k → IsAskedBy part suspects k
schema_asked part suspects x k here is = (x, here, (schema is.0, (asks, tt), is.2))
  where
    asks : Asks part x (schema is.0)
    asks = elim is.1 [ inl e ↦ by_name e | inr e ↦ by_far e ]
