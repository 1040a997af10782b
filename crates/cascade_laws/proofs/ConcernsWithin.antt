-- What concerns an item is relevant to it.
use Rattle.std.proofs.Common.{List}
use Rattle.cat_items.specs.declared.item.Item.{Item}
use Rattle.cat_items.specs.Relevant.{Relevant, IsObjectNeed, IsRightNeed, IsNeedOf}
use Rattle.cat_items.specs.Relevant as relevant
use Rattle.cascade_laws.specs.Concerns.{Concerns, named, on_need, right_of, role_for, admin_for, without}

pub concerns_is_relevant : (u : List Item) (y x : Item) → Concerns u y x → Relevant u y x
concerns_is_relevant u y x (named is) = relevant.named is
concerns_is_relevant u y x (on_need need needed part) = relevant.on_need need needed part
concerns_is_relevant u y x (right_of need a needed acts is) = relevant.right_of need a needed acts is
concerns_is_relevant u y x (role_for a seeks is) = relevant.role_for a seeks.0 is
concerns_is_relevant u y x (admin_for a acts is) = relevant.admin_for a acts is
concerns_is_relevant u y x (without is) = relevant.without is
