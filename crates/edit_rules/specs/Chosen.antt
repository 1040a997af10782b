-- Lists of descriptors, and edits that only add or only take.
use Rattle.std.specs.Prelude.{◌≡◌, ◌↔◌, List, []}
use Rattle.std.specs.List.{Contains}
use Rattle.cat_items.specs.declared.edit.Edit.{Edit}
use Rattle.cat_items.specs.declared.item.Item.{Item}
use Rattle.cat_items.specs.declared.item.Item.TheVariants as item
use Rattle.cat_items.specs.Catalogues.{IsInOrder}

-- in order, all items that are so
pub record AreAll (P : Item → Type 0) (items : List Item) : Type 0 where
  pub order : IsInOrder items
  pub members : (x : Item) → Contains items x ↔ P x

-- in order, the items of a list that are so
abbrev pub AreChosen : List Item → (Item → Type 0) → List Item → Type 0
AreChosen c P items = AreAll (λ x. Contains c x × P x) items

-- a right or a role grant
abbrev pub IsRightOrRoleGrant : Item → Type 0
IsRightOrRoleGrant (item.RoleAuth g) = Unit {0}
IsRightOrRoleGrant (item.RoleAdmin g) = Unit {0}
IsRightOrRoleGrant (item.Held r) = Unit {0}
IsRightOrRoleGrant (item.Grantable r) = Unit {0}
IsRightOrRoleGrant x = ⊥

-- the edit adds what is so, and nothing else is done
pub record IsAdding (P : Item → Type 0) (edit : Edit) : Type 0 where
  pub target : edit.target ≡ []
  pub changed : edit.changed ≡ []
  pub added : AreAll P edit.added

-- the edit takes what is so of a catalogue, and nothing else is done
pub record IsTaking (c : List Item) (P : Item → Type 0) (edit : Edit) : Type 0 where
  pub target : AreChosen c P edit.target
  pub changed : edit.changed ≡ []
  pub added : edit.added ≡ []
