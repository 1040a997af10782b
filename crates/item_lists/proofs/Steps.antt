-- Steps of a walk along a list in order.
use Rattle.std.proofs.Common.{◌≡◌, ◌↔◌, ℕ, ◌+◌, ◌-◌, ◌<◌, ◌≤◌, Bool, true, false, List, length, take, drop, get_or, Ordering, Err, refl, sym, ◌∙◌, ap, subst, inl, inr, arith}
use Rattle.std.specs.List.{Contains}
use Rattle.std.specs.List.Sorted.{IsBinarySearchResult, IsPartitionPoint}
use Rattle.std.specs.Ordering.{ordering_reverse}
use Rattle.std.specs.declared.cmp.Ordering.TheVariants.{Less, Equal, Greater}
use Rattle.std.proofs.Math.Bool.{beq}
use Rattle.std.proofs.lemmas.Bool.{cases_lt}
use Rattle.std.proofs.lemmas.List.{get_or_default, get_or-drop, get_or-take, length-drop, length-take-le, take-append-drop}
use Rattle.finite_chains.specs.StrictOrder.{IsRising}
use Rattle.cat_items.specs.declared.item.Item.{Item}
use Rattle.cat_items.specs.Catalogues.{HasKeyAt, IsInOrder}
use Rattle.cat_items.specs.Order.{item_cmp}
use Rattle.cat_items.proofs.CatalogueLemmas.{comparisons_rise, in_order, rising}
use Rattle.cat_items.proofs.KeyLemmas.{same_key}
use Rattle.cat_items.proofs.OrderLemmas.{item_cmp-total}
use Rattle.cat_items.proofs.Rising.{rising_right}
use Rattle.item_lists.specs.Walks.{AreBefore, IsGap, StandsAs}

-- ---- one item and others

pub turned : (x y : Item) → item_cmp y x ≡ Greater → item_cmp x y ≡ Less
turned x y e = item_cmp-total.antisymm x y ∙ ap ordering_reverse e

turned_back : (x y : Item) → item_cmp x y ≡ Less → item_cmp y x ≡ Greater
turned_back x y e = item_cmp-total.antisymm y x ∙ ap ordering_reverse e

-- what comes behind an item that comes behind x
behind_more : (x y z : Item) → item_cmp y x ≡ Greater → item_cmp y z ≡ Less → item_cmp z x ≡ Greater
behind_more x y z greater less = turned_back x z (item_cmp-total.trans x y z (turned x y greater) less)

-- what has the key of x comes before all that comes behind x
equal_before : (x y z : Item) → item_cmp y x ≡ Equal → item_cmp x z ≡ Less → item_cmp y z ≡ Less
equal_before x y z equal less = item_cmp-total.congr y x z equal ∙ less

module _ (items : List Item) (x : Item) where
  -- ---- the item at the place where the walk stands

  module _ (from : ℕ) (y : Item) (low : from < length items) (is : y ≡ get_or items from y) where
    at_place : (P : Item → Type 0) (k : ℕ) (d : Item) → k ≡ from → P y → P (get_or items k d)
    at_place P k d same so = subst (λ n. P (get_or items n d)) (sym same) (subst P (is ∙ get_or_default items from y d low) so)

    -- where this item comes before x, so do all before it
    pub before_to : IsInOrder items → item_cmp y x ≡ Less → AreBefore items (from + 1) x
    before_to order less = record {
      within = omega (arith, low);
      before = λ k d below. elim (cases_lt k from) [
        | inl early ↦ item_cmp-total.trans (get_or items k d) (get_or items from d) x (order k from d early low) (at_place (λ z. item_cmp z x ≡ Less) from d refl less)
        | inr here ↦ at_place (λ z. item_cmp z x ≡ Less) k d (omega (arith, below, here)) less
      ];
    }

    pub key_here : item_cmp y x ≡ Equal → HasKeyAt items from x
    key_here equal = (low, λ d. at_place (λ z. item_cmp z x ≡ Equal) from d refl equal)

    -- where this item comes behind x, so do all behind it
    pub behind_from : IsInOrder items → item_cmp y x ≡ Greater → (k : ℕ) (d : Item) → from ≤ k → k < length items → item_cmp (get_or items k d) x ≡ Greater
    behind_from order greater k d above high = elim (cases_lt from k) [
      | inl later ↦ behind_more x (get_or items from d) (get_or items k d) (at_place (λ z. item_cmp z x ≡ Greater) from d refl greater) (order from k d later high)
      | inr here ↦ at_place (λ z. item_cmp z x ≡ Greater) k d (omega (arith, above, here)) greater
    ]

    pub gap_here : IsInOrder items → item_cmp y x ≡ Greater → AreBefore items from x → IsGap items from x
    gap_here order greater front = record { front = front; behind = behind_from order greater }

  pub gap_at_end : (from : ℕ) → length items ≤ from → AreBefore items from x → IsGap items from x
  gap_at_end from end front = record { front = front; behind = λ k d above high. absurd (omega (arith, end, above, high)) }

  -- ---- a search of the rest

  key_behind : (from at : ℕ) → at < length (drop from items) → ((d : Item) → item_cmp (get_or (drop from items) at d) x ≡ Equal) → HasKeyAt items (from + at) x
  key_behind from at low equal =
      let len : length (drop from items) ≡ length items - from = length-drop from items in
      (omega (arith, low, len), λ d. subst (λ z. item_cmp z x ≡ Equal) (get_or-drop from items at d) (equal d))

  pub key_from : (rest : List Item) (from at : ℕ) → rest ≡ drop from items → at < length rest → ((d : Item) → item_cmp (get_or rest at d) x ≡ Equal) → HasKeyAt items (from + at) x
  key_from rest from at is = subst (λ l. at < length l → ((d : Item) → item_cmp (get_or l at d) x ≡ Equal) → HasKeyAt items (from + at) x) (sym is) (key_behind from at)

  gap_behind : (from gap : ℕ) → IsInOrder items → AreBefore items from x → gap ≤ length (drop from items) → IsBinarySearchResult (λ y. item_cmp y x) (drop from items) (Err gap) → IsGap items (from + gap) x
  gap_behind from gap order front low parted = record {
    front = record {
      within = omega (arith, low, len, front.within);
      before = λ k d below. elim (cases_lt k from) [
        | inl early ↦ front.before k d early
        | inr late ↦ at_rest Less k d late (part.0 (k - from) d (omega arith) (omega (arith, below, late)))
      ];
    };
    behind = λ k d above high. at_rest Greater k d (omega (arith, above)) (part.1 (k - from) d (omega (arith, above)) (omega (arith, len, high, above)));
  }
    where
      len : length (drop from items) ≡ length items - from
      len = length-drop from items

      rest_order : IsInOrder (drop from items)
      rest_order = in_order (drop from items) (rising_right item_cmp (take from items) (drop from items) (subst (IsRising item_cmp) (sym (take-append-drop from items)) (rising items order)))

      part : IsPartitionPoint (λ y. item_cmp y x ≡ Less) (λ y. item_cmp y x ≡ Greater) (drop from items) gap
      part = parted (comparisons_rise (drop from items) rest_order x)

      at_rest : (o : Ordering) (k : ℕ) (d : Item) → from ≤ k → item_cmp (get_or (drop from items) (k - from) d) x ≡ o → item_cmp (get_or items k d) x ≡ o
      at_rest o k d late is =
          let here : from + (k - from) ≡ k = omega (arith, late) in
          subst (λ n. item_cmp (get_or items n d) x ≡ o) here (subst (λ z. item_cmp z x ≡ o) (get_or-drop from items (k - from) d) is)

  pub gap_from : (rest : List Item) (from gap : ℕ) → rest ≡ drop from items → IsInOrder items → AreBefore items from x → gap ≤ length rest → IsBinarySearchResult (λ y. item_cmp y x) rest (Err gap) → IsGap items (from + gap) x
  gap_from rest from gap is order front =
      subst (λ l. gap ≤ length l → IsBinarySearchResult (λ y. item_cmp y x) l (Err gap) → IsGap items (from + gap) x) (sym is) (gap_behind from gap order front)

  -- ---- a search of a front, behind which all items come behind x

  module _ (to : ℕ) (within : to ≤ length items) where
    front_length : length (take to items) ≡ to
    front_length = length-take-le to items within

    pub key_in_front : (at : ℕ) → HasKeyAt (take to items) at x → HasKeyAt items at x
    key_in_front at has =
        let low : at < to = omega (arith, has.0, front_length) in
        (omega (arith, low, within), λ d. subst (λ z. item_cmp z x ≡ Equal) (get_or-take to items at d low) (has.1 d))

    pub gap_in_front : ((k : ℕ) (d : Item) → to ≤ k → k < length items → item_cmp (get_or items k d) x ≡ Greater) → (gap : ℕ) → IsGap (take to items) gap x → IsGap items gap x
    gap_in_front rest gap gone =
        let low : gap ≤ to = omega (arith, gone.front.within, front_length) in
        record {
          front = record {
            within = omega (arith, low, within);
            before = λ k d below. subst (λ z. item_cmp z x ≡ Less) (get_or-take to items k d (omega (arith, below, low))) (gone.front.before k d below);
          };
          behind = λ k d above high. elim (cases_lt k to) [
            | inl early ↦ subst (λ z. item_cmp z x ≡ Greater) (get_or-take to items k d early) (gone.behind k d above (omega (arith, early, front_length)))
            | inr late ↦ rest k d late high
          ];
        }

  -- ---- what the walk tells of x

  -- an item of the list with the key of x is x, where x stands in it
  pub key_is : (at : ℕ) (y : Item) → IsInOrder items → HasKeyAt items at x → y ≡ get_or items at y → Contains items x → y ≡ x
  key_is at y order has is (k, low, e) = elim (cases_lt k at) [
    | inl before ↦
        let less : item_cmp x (get_or items at x) ≡ Less = subst (λ z. item_cmp z (get_or items at x) ≡ Less) e (order k at x before has.0) in
        let back = turned_back x (get_or items at x) less in
        let equal = has.1 x in
        absurd (let odd : Greater ≡ Equal = sym back ∙ equal in cc)
    | inr from ↦ (elim (cases_lt at k) [
      | inl after ↦
          let less : item_cmp (get_or items at x) x ≡ Less = subst (λ z. item_cmp (get_or items at x) z ≡ Less) e (order at k x after low) in
          let equal = has.1 x in
          absurd (let odd : Less ≡ Equal = sym less ∙ equal in cc)
      | inr here ↦ is ∙ get_or_default items at y x has.0 ∙ subst (λ n. get_or items n x ≡ x) (let same : k ≡ at = omega (arith, from, here) in same) e
    ])
  ]

  pub key_stands : (at : ℕ) (y : Item) → at < length items → y ≡ get_or items at y → y ≡ x → Contains items x
  key_stands at y low is same = (at, low, sym (get_or_default items at y x low) ∙ sym is ∙ same)

  pub gap_stands_not : (gap : ℕ) → IsGap items gap x → Contains items x → ⊥
  gap_stands_not gap is (k, low, e) =
      let equal : item_cmp (get_or items k x) x ≡ Equal = subst (λ z. item_cmp z x ≡ Equal) (sym e) (same_key x) in
      elim (cases_lt k gap) [
        | inl before ↦ (let less = is.front.before k x before in let odd : Less ≡ Equal = sym less ∙ equal in absurd (let no : Less ≡ Equal = odd in cc))
        | inr from ↦ (let more = is.behind k x from low in absurd (let no : Greater ≡ Equal = sym more ∙ equal in cc))
      ]

  -- ---- what the walk has passed comes before all that comes behind x

  pub key_passed : (at : ℕ) → IsInOrder items → HasKeyAt items at x → (y : Item) → item_cmp x y ≡ Less → AreBefore items (at + 1) y
  key_passed at order has y less = record {
    within = omega (arith, has.0);
    before = λ k d below.
        let here : item_cmp (get_or items at d) y ≡ Less = equal_before x (get_or items at d) y (has.1 d) less in
        elim (cases_lt k at) [
          | inl early ↦ item_cmp-total.trans (get_or items k d) (get_or items at d) y (order k at d early has.0) here
          | inr late ↦ subst (λ n. item_cmp (get_or items n d) y ≡ Less) (let same : at ≡ k = omega (arith, below, late) in same) here
        ];
  }

  pub gap_passed : (gap : ℕ) → IsGap items gap x → (y : Item) → item_cmp x y ≡ Less → AreBefore items gap y
  gap_passed gap is y less = record {
    within = is.front.within;
    before = λ k d below. item_cmp-total.trans (get_or items k d) x y (is.front.before k d below) less;
  }

-- ---- the walk of a whole list

-- all items of a list from this place on come behind what was passed of the other
abbrev pub HasPassed : List Item → ℕ → List Item → ℕ → Type 0
HasPassed items i other from = (k : ℕ) (d : Item) → i ≤ k → k < length items → AreBefore other from (get_or items k d)

pub none_passed : (items other : List Item) → HasPassed items 0 other 0
none_passed items other k d low high = record { within = omega arith; before = λ j e below. absurd (omega (arith, below)) }

pub has_passed : (items : List Item) (i : ℕ) (x : Item) (other : List Item) (from : ℕ) → IsInOrder items → i < length items → x ≡ get_or items i x → ((y : Item) → item_cmp x y ≡ Less → AreBefore other from y) → HasPassed items (i + 1) other from
has_passed items i x other from order low is passed k d above high =
    passed (get_or items k d) (subst (λ z. item_cmp z (get_or items k d) ≡ Less) (sym (is ∙ get_or_default items i x d low)) (order i k d (omega (arith, above)) high))

pub next_before : (items : List Item) (i : ℕ) (x : Item) (other : List Item) (from : ℕ) → i < length items → x ≡ get_or items i x → HasPassed items i other from → AreBefore other from x
next_before items i x other from low is passed = subst (AreBefore other from) (sym is) (passed i x (omega arith) low)

-- whether an item stands in a list is what is asked for
pub stands_so : (there stands : Bool) (items : List Item) (x : Item) → ((stands ≡ true) ↔ Contains items x) → beq stands there ≡ true → StandsAs there items x
stands_so true true items x is e = is.0 refl
stands_so true false items x is e = absurd (let odd : false ≡ true = e in cc)
stands_so false true items x is e = absurd (let odd : false ≡ true = e in cc)
stands_so false false items x is e = λ h. absurd (let odd : false ≡ true = is.1 h in cc)

pub stands_otherwise : (there stands : Bool) (items : List Item) (x : Item) → ((stands ≡ true) ↔ Contains items x) → beq stands there ≡ false → StandsAs there items x → ⊥
stands_otherwise true true items x is e h = absurd (let odd : true ≡ false = e in cc)
stands_otherwise true false items x is e h = absurd (let odd : false ≡ true = is.1 h in cc)
stands_otherwise false true items x is e h = h (is.0 refl)
stands_otherwise false false items x is e h = absurd (let odd : true ≡ false = e in cc)
