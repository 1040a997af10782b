-- What the support of an item does depend on: of what is relevant to it, role authorizations only where rights are looked
-- for, and the needs of a routine only where the right is EXECUTE on it.
use Rattle.std.specs.Prelude.{◌⊎◌, List}
use Rattle.cat_items.specs.declared.need.Auth.{Auth}
use Rattle.cat_items.specs.declared.need.Need.{Need}
use Rattle.cat_items.specs.declared.item.Item.{Item}
use Rattle.cat_items.specs.declared.item.Item.TheVariants as item
use Rattle.cat_items.specs.Relevant.{IsActor, IsPartOfNeed, Names, IsRightOf, IsRoleFor, IsAdminForGrant, IsOptionOn, IsNeedOf}

abbrev pub IsRoleGrant : Item → Type 0
IsRoleGrant (item.RoleAuth g) = Unit {0}
IsRoleGrant (item.RoleAdmin g) = Unit {0}
IsRoleGrant x = ⊥

-- rights or admin options are looked for that the actor of the item reaches
abbrev pub Seeks : List Item → Item → Auth → Type 0
Seeks u x a = IsActor u x a × (((need : Need) × IsNeedOf u x need) ⊎ IsRoleGrant x)

-- y concerns x, where u has all items that are spoken of
pub data Concerns (u : List Item) (y x : Item) : Type 0 where
  named : Names x y → Concerns u y x
  on_need : (need : Need) → IsNeedOf u x need → IsPartOfNeed need y → Concerns u y x
  right_of : (need : Need) (a : Auth) → IsNeedOf u x need → IsActor u x a → IsRightOf u a need y → Concerns u y x
  role_for : (a : Auth) → Seeks u x a → IsRoleFor u a y → Concerns u y x
  admin_for : (a : Auth) → IsActor u x a → IsAdminForGrant u a x y → Concerns u y x
  without : IsOptionOn x y → Concerns u y x
