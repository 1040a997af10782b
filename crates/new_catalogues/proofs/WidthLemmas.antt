-- Columns as a part of a list, and tables and views with many.
use Rattle.std.proofs.Common.{◌≡◌, ℕ, ◌+◌, ◌-◌, ◌<◌, ◌≤◌, List, length, take, drop, get_or, None, Some, sym, ◌∙◌, ap, subst, inl, inr, arith}
use Rattle.std.specs.List.{Contains}
use Rattle.std.specs.declared.cmp.Ordering.TheVariants.{Less}
use Rattle.std.proofs.lemmas.List.{get_or-take, get_or-drop, get_or_default, length-drop, length-take-le}
use Rattle.sql_names.specs.declared.object.Object.{Object}
use Rattle.cat_items.specs.declared.item.Item.{Item}
use Rattle.cat_items.specs.Catalogues.{IsInOrder}
use Rattle.cat_items.specs.Order.{item_cmp}
use Rattle.cat_items.specs.Ranges.{IsRange}
use Rattle.cat_items.specs.Shape.{IsColumnOf}
use Rattle.cat_items.proofs.CatalogueLemmas.{same_in_order}
use Rattle.cat_items.proofs.Rising.{fact_from_take, fact_from_drop}
use Rattle.new_catalogues.specs.Width.{table_name, HasColumnCount, HasMoreColumns, IsLeastWide}
use Rattle.new_catalogues.proofs.FurtherLemmas.{NoneBefore, first_of_all, one_first, none_at_all}

-- the items of a range
abbrev pub part_of : List Item → ℕ → ℕ → List Item
part_of c from to = take (to - from) (drop from c)

module _ (c : List Item) (from to : ℕ) (P : Item → Type 0) (range : IsRange c from to P) where
  part_len : length (part_of c from to) ≡ to - from
  part_len = length-take-le (to - from) (drop from c) (omega (arith, length-drop from c, range.ordered, range.within))

  in_part : (k : ℕ) (d : Item) → k < to - from → get_or (part_of c from to) k d ≡ get_or c (from + k) d
  in_part k d below = get_or-take (to - from) (drop from c) k d below ∙ get_or-drop from c k d

  part_order : IsInOrder c → IsInOrder (part_of c from to)
  part_order order i j d low high =
      let below : j < to - from = omega (arith, high, part_len) in
      subst (λ a. item_cmp a (get_or (part_of c from to) j d) ≡ Less) (sym (in_part i d (omega (arith, low, below))))
      (subst (λ b. item_cmp (get_or c (from + i) d) b ≡ Less) (sym (in_part j d below)) (order (from + i) (from + j) d (omega (arith, low)) (omega (arith, below, range.within))))

  part_has : (x : Item) → Contains (part_of c from to) x → Contains c x × P x
  part_has x h =
      let below : h.0 < to - from = omega (arith, h.1, part_len) in
      let is : get_or c (from + h.0) x ≡ x = sym (in_part h.0 x below) ∙ h.2 in
      ((from + h.0, omega (arith, below, range.within), is), subst P is (range.inside (from + h.0) x (omega arith) (omega (arith, below))))

  has_part : (x : Item) → Contains c x → P x → Contains (part_of c from to) x
  has_part x h p =
      let between = range.outside h.0 x h.1 (subst P (sym h.2) p) in
      let below : h.0 - from < to - from = omega (arith, between.0, between.1) in
      let place : from + (h.0 - from) ≡ h.0 = omega (arith, between.0) in
      (h.0 - from, omega (arith, below, part_len), in_part (h.0 - from) x below ∙ ap (λ k. get_or c k x) place ∙ h.2)

-- so many columns as places
pub column_range : (c : List Item) (table : Object) (from to : ℕ) → IsInOrder c → IsRange c from to (IsColumnOf table) → HasColumnCount c table (to - from)
column_range c table from to order range = record {
  columns = part_of c from to;
  order = part_order c from to (IsColumnOf table) range order;
  members = λ x. (part_has c from to (IsColumnOf table) range x, λ h. has_part c from to (IsColumnOf table) range x h.0 h.1);
  counted = part_len c from to (IsColumnOf table) range;
}

-- a table has one count of columns
pub one_count : (c : List Item) (table : Object) (a b : ℕ) → HasColumnCount c table a → HasColumnCount c table b → a ≡ b
one_count c table a b p q =
    let same = same_in_order p.columns q.columns p.order q.order (λ x. (λ h. (q.members x).1 ((p.members x).0 h), λ h. (p.members x).1 ((q.members x).0 h))) in
    sym p.counted ∙ ap length same ∙ q.counted

-- a table or view with more columns than some
abbrev pub IsWide : List Item → ℕ → Item → Type 0
IsWide c most x = (n : ℕ) × HasMoreColumns c most n x

-- an item that is no table and no view isn't
pub unnamed : (c : List Item) (most : ℕ) (x : Item) → table_name x ≡ None → ¬ (IsWide c most x)
unnamed c most x none wide = let odd : None ≡ Some wide.1.table = sym none ∙ wide.1.named in absurd cc

-- so few columns aren't more
pub not_wide : (c : List Item) (most count : ℕ) (x : Item) (table : Object) → table_name x ≡ Some table → HasColumnCount c table count → count ≤ most → ¬ (IsWide c most x)
not_wide c most count x table named counted few wide =
    let same : wide.1.table ≡ table = let e : Some wide.1.table ≡ Some table = sym wide.1.named ∙ named in cc in
    let is : wide.0 ≡ count = one_count c table wide.0 count (subst (λ t. HasColumnCount c t wide.0) same wide.1.columns) counted in
    absurd (omega (arith, is, few, wide.1.more))

-- the first is the least
pub least_wide : (c : List Item) (most count i : ℕ) (x : Item) (table : Object) → IsInOrder c → i < length c → x ≡ get_or c i x → NoneBefore c (IsWide c most) i
    → table_name x ≡ Some table → HasColumnCount c table count → most < count → IsLeastWide c most count
least_wide c most count i x table order within at none named counted more = record {
  table = x;
  is = record { table = table; within = (i, within, sym at); named = named; columns = counted; more = more };
  least = λ n other h. first_of_all c (IsWide c most) i x order within at none other h.within (n, h);
}

-- where no item is wide none has more columns
pub none_wide : (c : List Item) (most i : ℕ) → length c ≤ i → NoneBefore c (IsWide c most) i → (count : ℕ) (x : Item) → HasMoreColumns c most count x → ⊥
none_wide c most i all none count x h = none_at_all c (IsWide c most) i all none x h.within (count, h)

-- the first has one count
pub one_width : (c : List Item) (most a b : ℕ) → IsLeastWide c most a → IsLeastWide c most b → a ≡ b
one_width c most a b p q =
    let table : p.table ≡ q.table = one_first p.table q.table (p.least b q.table q.is) (q.least a p.table p.is) in
    let named : Some p.is.table ≡ Some q.is.table = sym p.is.named ∙ ap table_name table ∙ q.is.named in
    let same : p.is.table ≡ q.is.table = cc in
    one_count c q.is.table a b (subst (λ t. HasColumnCount c t a) same p.is.columns) q.is.columns
