-- What an edit takes, brings, and fails to bring, beyond what it says.
use Rattle.std.specs.Prelude.{◌↔◌, List}
use Rattle.std.specs.List.{Contains}
use Rattle.cat_items.specs.declared.edit.Edit.{Edit}
use Rattle.cat_items.specs.declared.item.Item.{Item}
use Rattle.cat_items.specs.Catalogues.{IsInOrder}
use Rattle.cat_items.specs.Edits.{IsNew}
use Rattle.cat_items.specs.Fit.{IsFit}
use Rattle.catalogue_changes.specs.declared.effects.Effects.{Effects}

-- what the edit takes beyond its target and the items that it changes
pub record AreLost (c : List Item) (edit : Edit) (new lost : List Item) : Type 0 where
  pub order : IsInOrder lost
  pub members : (x : Item) → Contains lost x ↔ (Contains c x × (¬ (Contains edit.target x)) × (¬ (Contains edit.changed x)) × (¬ (Contains new x)))

-- what it brings beyond the items that it adds
pub record AreGained (c : List Item) (edit : Edit) (new gained : List Item) : Type 0 where
  pub order : IsInOrder gained
  pub members : (x : Item) → Contains gained x ↔ (Contains new x × (¬ (Contains c x)) × (¬ (Contains edit.added x)))

-- the added items that don't stand
pub record AreFallen (edit : Edit) (new fallen : List Item) : Type 0 where
  pub order : IsInOrder fallen
  pub members : (x : Item) → Contains fallen x ↔ (Contains edit.added x × (¬ (Contains new x)))

-- all three of the edit that makes `new` of c
pub record AreEffects (c : List Item) (edit : Edit) (new : List Item) (effects : Effects) : Type 0 where
  pub lost : AreLost c edit new effects.lost.items
  pub gained : AreGained c edit new effects.gained.items
  pub fallen : AreFallen edit new effects.fallen.items

-- the edit fits the catalogue c and makes `new` of it, with these effects
pub record IsMadeBy (c edited : List Item) (edit : Edit) (new : List Item) (effects : Effects) : Type 0 where
  pub order : IsInOrder c
  pub fit : IsFit c edit edited
  pub is_new : IsNew c edit new
  pub has_effects : AreEffects c edit new effects
