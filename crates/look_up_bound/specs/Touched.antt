-- What an edit touches in the graph of a catalogue.
use Rattle.std.specs.Prelude.{◌≡◌, ◌⊎◌, List}
use Rattle.std.specs.List.{Contains}
use Rattle.cat_items.specs.declared.edit.Edit.{Edit}
use Rattle.cat_items.specs.declared.need.Auth.TheVariants.{System}
use Rattle.cat_items.specs.declared.item.Right.{Right}
use Rattle.cat_items.specs.declared.item.Item.{Item}
use Rattle.cat_items.specs.declared.item.Item.TheVariants as item
use Rattle.cat_items.specs.Bound.{IsSuspect}
use Rattle.cat_items.specs.Relevant.{IsPartOfNeed}
use Rattle.cat_items.specs.Survivors.{IsSystemRight}
use Rattle.cascade_laws.specs.Topics.{Topic, IsUnder, DependsOn}
use Rattle.look_up_bound.specs.PossibleRights.{IsRightOn}

-- It begins with what the edit destroys, changes and adds, and with the rights that the system could grant from then on, and spreads over topics to
-- what stands, and to rights that the system could grant.
pub data IsTouched (c : List Item) (edit : Edit) (edited : List Item) : Item → Type 0 where
  of_target : (x : Item) → Contains edit.target x → IsTouched c edit edited x
  of_changed : (x : Item) → Contains edit.changed x → IsTouched c edit edited x
  of_added : (x : Item) → Contains edit.added x → IsTouched c edit edited x
  of_new : (x : Item) → IsSystemRight edited x → (¬ (IsSystemRight c x)) → IsTouched c edit edited x
  spread : (y x : Item) (t : Topic) → IsTouched c edit edited y → Contains c x ⊎ IsSystemRight c x → IsUnder t y → DependsOn c x t → IsTouched c edit edited x

-- the item is a right by the system, and the payer, in the catalogue, is what it is on
pub record IsPaidBy (c : List Item) (payer x : Item) : Type 0 where
  pub right : Right
  pub is : (x ≡ item.Held right) ⊎ (x ≡ item.Grantable right)
  pub by_system : right.grantor ≡ System
  pub stands : Contains c payer
  pub is_on : IsRightOn right payer
  pub is_part : IsPartOfNeed right.need payer

-- a suspect pays for it
pub record IsPaidFor (u c : List Item) (edit : Edit) (x : Item) : Type 0 where
  pub payer : Item
  pub pays : IsPaidBy c payer x
  pub suspect : IsSuspect u edit payer
