-- What an edit makes of a catalogue, and what it takes beyond its target.
use Rattle.std.specs.Prelude.{◌↔◌, ◌⊎◌, List}
use Rattle.std.specs.List.{Contains}
use Rattle.cat_items.specs.declared.item.Item.{Item}
use Rattle.cat_items.specs.declared.edit.Edit.{Edit}
use Rattle.cat_items.specs.Catalogues.{IsInOrder}
use Rattle.cat_items.specs.Survivors.{IsWithSystem, AreSurvivors}

-- the catalogue without target and changed items, with the added ones
pub record IsEdited (c : List Item) (edit : Edit) (edited : List Item) : Type 0 where
  pub order : IsInOrder edited
  pub members : (x : Item) → Contains edited x ↔ ((Contains c x × (¬ (Contains edit.target x)) × (¬ (Contains edit.changed x))) ⊎ Contains edit.added x)

-- the new catalogue: what survives of the edited one and the rights that the system could grant for its objects
pub record IsNew (c : List Item) (edit : Edit) (new : List Item) : Type 0 where
  pub edited : List Item
  pub is_edited : IsEdited c edit edited
  pub all : List Item
  pub with_system : IsWithSystem edited all
  pub survivors : AreSurvivors all new

-- an item beyond the target that the edit takes, or puts back with other fields
abbrev pub IsFurther : List Item → Edit → List Item → Item → Type 0
IsFurther c edit new x = Contains c x × (¬ (Contains edit.target x)) × (¬ (Contains new x))
