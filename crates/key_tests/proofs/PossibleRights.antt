-- What the system could grant may have a ghost.
use Rattle.std.proofs.Common.{◌≡◌, true, List, ap, ◌∙◌}
use Rattle.cat_items.specs.declared.need.Auth.TheVariants.{System}
use Rattle.cat_items.specs.declared.item.Right.{Right}
use Rattle.cat_items.specs.declared.item.Item.{Item}
use Rattle.cat_items.specs.declared.item.Item.TheVariants as item
use Rattle.cat_items.specs.Survivors.{MayBeSystemSchema, MayBeSystemRight, IsSystemRight}
use Rattle.key_tests.specs.Tests.{is_by_system, may_be_ghost}

-- the grantee of a right that the system could grant has a name
by_system : (c : List Item) (r : Right) → MayBeSystemRight c r → is_by_system r.grantor r.grantee ≡ true
by_system c r is = by is.2.0 is.2.2
  where
    by : (z : Item) → MayBeSystemSchema c r z → is_by_system r.grantor r.grantee ≡ true
    by (item.Schema z) h = ap (λ a. is_by_system a r.grantee) is.0 ∙ ap (is_by_system System) h.0
    by _ h = absurd h

pub possible_is_ghost : (c : List Item) (x : Item) → IsSystemRight c x → may_be_ghost x ≡ true
possible_is_ghost c (item.Held r) is = by_system c r is
possible_is_ghost c (item.Grantable r) is = by_system c r is
possible_is_ghost c _ is = absurd is
