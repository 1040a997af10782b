-- A column has one ordinal position: the one by its place in the catalogue.
use Rattle.std.proofs.Common.{◌≡◌, inl, inr, refl, sym, subst, ℕ, ◌+◌, ◌<◌, ◌≤◌, List, Some, length, arith}
use Rattle.std.specs.Prelude.{slice_get, slice_index_or}
use Rattle.std.proofs.lemmas.Bool.{cases_lt}
use Rattle.std.proofs.lemmas.Cmp.{tied_itself}
use Rattle.std.proofs.lemmas.Option.{slice_get_within, get_or_from_slice_get}
use Rattle.std.specs.declared.cmp.Ordering.TheVariants.{Less, Equal}
use Rattle.cat_items.specs.declared.item.Column.{Column}
use Rattle.cat_items.specs.declared.item.Item.{Item}
use Rattle.cat_items.specs.declared.item.Item.TheVariants as item
use Rattle.cat_items.specs.Catalogues.{IsInOrder}
use Rattle.cat_items.specs.Order.{item_cmp}
use Rattle.cat_items.specs.Ranges.{IsRange}
use Rattle.cat_items.specs.Shape.{IsColumnOf}
use Rattle.cat_items.proofs.OrderLemmas.{item_cmp-total}
use Rattle.schema_tables.specs.Sight.{IsPosition}

module _ (items : List Item) (order : IsInOrder items) where
  -- an item stands at one place
  not_before : (y : Item) (i j : ℕ) → i < j → j < length items → slice_index_or items i y ≡ y → slice_index_or items j y ≡ y → ⊥
  not_before y i j less within e f =
      let less_than : item_cmp (slice_index_or items i y) (slice_index_or items j y) ≡ Less = order i j y less within in
      let tied : item_cmp y y ≡ Equal = tied_itself item_cmp-total y in
      let same : item_cmp y y ≡ Less = subst (λ z. item_cmp y z ≡ Less) f (subst (λ z. item_cmp z (slice_index_or items j y) ≡ Less) e less_than) in
      cc

  one_place : (y : Item) (i j : ℕ) → i < length items → j < length items → slice_index_or items i y ≡ y → slice_index_or items j y ≡ y → i ≡ j
  one_place y i j here there e f = elim (cases_lt i j) [
    | inl less ↦ absurd (not_before y i j less there e f)
    | inr from ↦ elim (cases_lt j i) [
      | inl less ↦ absurd (not_before y j i less here f e)
      | inr to ↦ omega (arith, from, to)
    ]
  ]

  one_start : (P : Item → Type 0) (d : Item) (from to other end : ℕ) → IsRange items from to P → IsRange items other end P → from < to → other ≤ from
  one_start P d from to other end a b some = let h = b.outside from d (omega (arith, a.within)) (a.inside from d (omega arith) some) in h.0

  pub one_position : (x : Column) (n m : ℕ) → IsPosition items x n → IsPosition items x m → n ≡ m
  one_position x n m p q =
      let place : p.2 ≡ q.2 = one_place (item.Column x) p.2 q.2 (omega (arith, p.4, p.3.within)) (omega (arith, q.4, q.3.within)) p.5 q.5 in
      let low = one_start (IsColumnOf x.table) (item.Column x) p.0 p.1 q.0 q.1 p.3 q.3 (omega (arith, p.4, p.6)) in
      let high = one_start (IsColumnOf x.table) (item.Column x) q.0 q.1 p.0 p.1 q.3 p.3 (omega (arith, q.4, q.6)) in
      omega (arith, place, low, high, p.7, q.7)

  -- the position by a place
  pub position_at : (x : Column) (at from to n : ℕ) → IsRange items from to (IsColumnOf x.table) → Some (item.Column x) ≡ slice_get items at → n + from ≡ at + 1 → IsPosition items x n
  position_at x at from to n range here e =
      let within : at < length items = slice_get_within items at (item.Column x) (sym here) in
      let is : slice_index_or items at (item.Column x) ≡ item.Column x = get_or_from_slice_get items at (item.Column x) (item.Column x) (sym here) in
      let inside = range.outside at (item.Column x) within (subst (IsColumnOf x.table) (sym is) refl) in
      (from, to, at, range, inside.1, is, inside.0, omega (arith, e))

  pub position_within : (x : Column) (at from to : ℕ) → IsRange items from to (IsColumnOf x.table) → Some (item.Column x) ≡ slice_get items at → (from ≤ at) × (at < length items)
  position_within x at from to range here =
      let within : at < length items = slice_get_within items at (item.Column x) (sym here) in
      let is : slice_index_or items at (item.Column x) ≡ item.Column x = get_or_from_slice_get items at (item.Column x) (item.Column x) (sym here) in
      let inside = range.outside at (item.Column x) within (subst (IsColumnOf x.table) (sym is) refl) in
      (inside.0, within)
