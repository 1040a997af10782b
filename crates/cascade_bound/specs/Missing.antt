-- Whether what items need and name stands.
use Rattle.std.specs.Prelude.{◌⊎◌, List}
use Rattle.std.specs.List.{Contains}
use Rattle.finite_chains.specs.Chains.{IsWithin}
use Rattle.cat_items.specs.declared.edit.Edit.{Edit}
use Rattle.cat_items.specs.declared.need.Need.{Need}
use Rattle.cat_items.specs.declared.item.Item.{Item}
use Rattle.cat_items.specs.declared.item.Item.TheVariants as item
use Rattle.cat_items.specs.Bound.{IsSuspect}
use Rattle.cat_items.specs.Catalogues.{IsInOrder}
use Rattle.cat_items.specs.Relevant.{Relevant}
use Rattle.cat_items.specs.Rights.{Stands}
use Rattle.cascade_laws.specs.Asks.{Asks}
use Rattle.cascade_laws.specs.Topics.{Topic}
use Rattle.look_up_bound.specs.TopicParts.{HasParts}

-- a view or a routine needs it
abbrev pub IsNeededBy : Item → Need → Type 0
IsNeededBy (item.View v) need = Contains v.needs need
IsNeededBy (item.Routine z) need = Contains z.needs need
IsNeededBy x need = ⊥

-- what the views and routines of a part need stands among what is spoken of
abbrev pub NeedsStand : List Item → List Item → Type 0
NeedsStand u part = (y : Item) (need : Need) → Contains part y → IsNeededBy y need → Stands u need

-- The part is of what is spoken of, and of suspects and what is relevant to them; nothing that the views and routines of it need, and that the added items
-- ask for over it, is missing.
pub record LacksNothing (u part : List Item) (edit : Edit) : Type 0 where
  pub order : IsInOrder part
  pub within : IsWithin part u
  pub concerns : (y : Item) → Contains part y → IsSuspect u edit y ⊎ ((x : Item) × IsSuspect u edit x × Relevant u y x)
  pub needs : NeedsStand u part
  pub asked : (x : Item) (t : Topic) → Contains edit.added x → Asks part x t → HasParts u t

-- Nothing is missing: what the added items ask for stands among what is spoken of.
abbrev pub MissesNothing : List Item → Edit → Type 0
MissesNothing u edit = (x : Item) (t : Topic) → Contains edit.added x → Asks u x t → HasParts u t
