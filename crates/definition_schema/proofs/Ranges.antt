-- Ranges and positions are the only ones.
use Rattle.std.proofs.Common.{ℕ, zero, suc, ◌<◌, ◌≤◌, List, arith}
use Rattle.cat_items.specs.declared.item.Item.{Item}
use Rattle.cat_items.specs.Ranges.{IsRange}

module _ (items : List Item) (P : Item → Type 0) (d : Item) where
  -- two ranges of the same items are one, where there is an item of them
  pub one_start : (from to from' to' : ℕ) → IsRange items from to P → IsRange items from' to' P → from < to → from' ≤ from
  one_start from to from' to' a b some = let h = b.outside from d (omega (arith, a.within)) (a.inside from d (omega arith) some) in h.0

  pub one_end : (from to from' to' : ℕ) → IsRange items from to P → IsRange items from' to' P → from < to → to ≤ to'
  one_end from zero from' to' a b some = omega arith
  one_end from (suc k) from' to' a b some = let h = b.outside k d (omega (arith, a.within)) (a.inside k d (omega arith) (omega arith)) in omega (arith, h.1)
