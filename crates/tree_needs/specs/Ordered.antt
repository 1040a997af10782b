-- Needs in order, and needs that are put in.
use Rattle.std.specs.Prelude.{◌≡◌, ◌↔◌, ◌⊎◌, List}
use Rattle.std.specs.List.{AllPairs, Contains}
use Rattle.std.specs.declared.cmp.Ordering.TheVariants.{Less}
use Rattle.cat_items.specs.declared.need.Need.{Need}
use Rattle.cat_items.specs.Order.{need_cmp}

-- by action, place and column, each once
abbrev pub AreInOrder : List Need → Type 0
AreInOrder needs = AllPairs (λ a b. need_cmp a b ≡ Less) needs

-- the members of a list where more are put in
abbrev pub Gains : List Need → List Need → List Need → Type 0
Gains old new more = (x : Need) → Contains new x ↔ (Contains old x ⊎ Contains more x)
