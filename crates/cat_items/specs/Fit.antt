-- Edits that fit a catalogue.
use Rattle.std.specs.Prelude.{◌⊎◌, ℕ, List}
use Rattle.std.specs.List.{Contains}
use Rattle.finite_chains.specs.Chains.{IsWithin}
use Rattle.cat_items.specs.declared.need.Auth.{Auth}
use Rattle.cat_items.specs.declared.need.Auth.TheVariants.{System}
use Rattle.cat_items.specs.declared.item.Right.{Right}
use Rattle.cat_items.specs.declared.item.Item.{Item}
use Rattle.cat_items.specs.declared.item.Item.TheVariants as item
use Rattle.cat_items.specs.declared.edit.Edit.{Edit}
use Rattle.cat_items.specs.Catalogues.{IsInOrder, HasKeyAt}
use Rattle.cat_items.specs.Reach.{Has}
use Rattle.cat_items.specs.Rights.{IsObject, HasColumn}
use Rattle.cat_items.specs.Supported.{IsGrantee}
use Rattle.cat_items.specs.Edits.{IsEdited}
use Rattle.cat_items.specs.Shape.{HasDerivedFields}

abbrev pub IsRight : Item → Type 0
IsRight (item.Held r) = Unit {0}
IsRight (item.Grantable r) = Unit {0}
IsRight x = ⊥

-- the grantee of a right, its object or its column doesn't stand
abbrev pub LacksPart : List Item → Right → Type 0
LacksPart s r = (¬ (IsGrantee s r.grantee)) ⊎ ((¬ (Has s (IsObject r.need.action r.need.on))) ⊎ (¬ (HasColumn s r.need.on r.need.column)))

abbrev pub LacksPartBy : Auth → List Item → Right → Type 0
LacksPartBy System s r = LacksPart s r
LacksPartBy grantor s r = Unit {0}

-- a right by the system lacks a part
abbrev pub IsSystemRightGone : List Item → Item → Type 0
IsSystemRightGone s (item.Held r) = LacksPartBy r.grantor s r
IsSystemRightGone s (item.Grantable r) = LacksPartBy r.grantor s r
IsSystemRightGone s x = Unit {0}

-- no item of the list has the key, where the item is a schema, a view or a routine
abbrev pub HasNewKey : List Item → Item → Type 0
HasNewKey c (item.Schema x) = (k : ℕ) → HasKeyAt c k (item.Schema x) → ⊥
HasNewKey c (item.View v) = (k : ℕ) → HasKeyAt c k (item.View v) → ⊥
HasNewKey c (item.Routine r) = (k : ℕ) → HasKeyAt c k (item.Routine r) → ⊥
HasNewKey c x = Unit {0}

-- no two items of the edited catalogue have one key: it can be put in order
pub record IsFit (c : List Item) (edit : Edit) (edited : List Item) : Type 0 where
  pub target_order : IsInOrder edit.target
  pub target : IsWithin edit.target c
  pub changed_order : IsInOrder edit.changed
  pub changed : IsWithin edit.changed c
  pub added_order : IsInOrder edit.added
  pub apart : (x : Item) → Contains edit.changed x → (¬ (Contains edit.target x)) × (¬ (Contains edit.added x)) × (¬ (IsRight x))
  pub gone : (x : Item) → Contains edit.target x → IsSystemRightGone edited x
  pub is_edited : IsEdited c edit edited
  pub new_keys : (x : Item) → Contains edit.added x → HasNewKey c x
  pub derived : (x : Item) → Contains edit.added x → HasDerivedFields x
