-- Two lists in order are merged, item by item of the second.
use Rattle.std.proofs.Common.{◌≡◌, ◌⊎◌, ◌↔◌, inl, inr, ℕ, ◌+◌, ◌<◌, ◌≤◌, List, [], ◌∷◌, ◌++◌, length, take, drop, get_or, sym, ◌∙◌, ap, subst, arith}
use Rattle.std.specs.List.{Contains, between}
use Rattle.std.specs.declared.cmp.Ordering.TheVariants.{Less}
use Rattle.std.proofs.lemmas.List.{get_or_default, get_or-take, length-take-le, take-append-drop, take_all}
use Rattle.std.proofs.lemmas.List.Elements.{Contains-append_left, Contains-append_right, Contains-append_cases, Contains-push, Contains-push_cases}
use Rattle.finite_chains.specs.StrictOrder.{IsRising}
use Rattle.finite_chains.proofs.Members.{Contains-nil, Contains-head, Contains-tail, Contains-cases}
use Rattle.cat_items.specs.declared.item.Item.{Item}
use Rattle.cat_items.specs.Batch.{IsJoined}
use Rattle.cat_items.specs.Catalogues.{HasKeyAt, IsInOrder}
use Rattle.cat_items.specs.Order.{item_cmp}
use Rattle.cat_items.proofs.CatalogueLemmas.{cut_at_key, in_order, rising}
use Rattle.cat_items.proofs.OrderLemmas.{item_cmp-total}
use Rattle.cat_items.proofs.Rising.{fact_from_drop, fact_from_take, rising_append, rising_left, rising_right}
use Rattle.item_lists.specs.Merges.{AreOneByKey, AreMerged}
use Rattle.item_lists.specs.Walks.{AreBefore, IsGap}
use Rattle.item_lists.proofs.Fronts.{front_more, front_next, rest_more, rest_next}
use Rattle.item_lists.proofs.Steps.{turned}

-- ---- by plain lists

module _ (front mid rest done later all : List Item) (x : Item) (mid_rest : IsRising item_cmp (mid ++ rest)) (x_later : IsRising item_cmp (x ∷ later)) (was : AreMerged front (mid ++ rest) done (x ∷ later) all)
    (mid_before : (y : Item) → Contains mid y → item_cmp y x ≡ Less) where
  with_mid : List Item
  with_mid = all ++ mid

  before_x : (y : Item) → Contains (all ++ mid) y → item_cmp y x ≡ Less
  before_x y h = elim (Contains-append_cases all mid y h) [ inl old ↦ was.ahead y x old (inr (Contains-head x later)) | inr here ↦ mid_before y here ]

  one : IsRising item_cmp (x ∷ [])
  one = (λ y h. absurd (Contains-nil y h), tt)

  order : IsInOrder ((all ++ mid) ++ x ∷ [])
  order =
      let first = rising_append item_cmp all mid (rising all was.order) (rising_left item_cmp mid rest mid_rest) (λ a b here there. was.ahead a b here (inl (Contains-append_left mid rest b there))) in
      in_order ((all ++ mid) ++ x ∷ []) (rising_append item_cmp (all ++ mid) (x ∷ []) first one (λ a b here there. elim (Contains-cases x [] b there) [
        | inl e ↦ subst (λ z. item_cmp a z ≡ Less) e (before_x a here)
        | inr none ↦ absurd (Contains-nil b none)
      ]))

  later_behind : (y z : Item) → Contains ((all ++ mid) ++ x ∷ []) y → Contains later z → item_cmp y z ≡ Less
  later_behind y z h there =
      let next : item_cmp x z ≡ Less = x_later.0 z there in
      elim (Contains-push_cases (all ++ mid) x y h) [
        | inl before ↦ item_cmp-total.trans y x z (before_x y before) next
        | inr e ↦ subst (λ w. item_cmp w z ≡ Less) e next
      ]

  rest_behind : (tail : List Item) → ((z : Item) → Contains tail z → Contains rest z) → ((z : Item) → Contains tail z → item_cmp x z ≡ Less) → (y z : Item) → Contains ((all ++ mid) ++ x ∷ []) y → Contains tail z → item_cmp y z ≡ Less
  rest_behind tail within behind y z h there = elim (Contains-push_cases (all ++ mid) x y h) [
    | inl before ↦ item_cmp-total.trans y x z (before_x y before) (behind z there)
    | inr e ↦ subst (λ w. item_cmp w z ≡ Less) e (behind z there)
  ]

  members : (y : Item) → Contains ((all ++ mid) ++ x ∷ []) y ↔ (Contains (front ++ mid) y ⊎ Contains (done ++ x ∷ []) y)
  members y = (
    λ h. elim (Contains-push_cases (all ++ mid) x y h) [
      | inr e ↦ inr (subst (Contains (done ++ x ∷ [])) e (Contains-push done x))
      | inl before ↦ (elim (Contains-append_cases all mid y before) [
        | inr here ↦ inl (Contains-append_right front mid y here)
        | inl old ↦ (elim ((was.members y).0 old) [ inl f ↦ inl (Contains-append_left front mid y f) | inr d ↦ inr (Contains-append_left done (x ∷ []) y d) ])
      ])
    ],
    λ h. elim h [
      | inl f ↦ Contains-append_left (all ++ mid) (x ∷ []) y (elim (Contains-append_cases front mid y f) [ inl old ↦ Contains-append_left all mid y ((was.members y).1 (inl old)) | inr here ↦ Contains-append_right all mid y here ])
      | inr d ↦ elim (Contains-push_cases done x y d) [
        | inl old ↦ Contains-append_left (all ++ mid) (x ∷ []) y (Contains-append_left all mid y ((was.members y).1 (inr old)))
        | inr e ↦ subst (Contains ((all ++ mid) ++ x ∷ [])) e (Contains-push (all ++ mid) x)
      ]
    ],
  )

  -- x goes into a gap
  pub into_gap : ((z : Item) → Contains rest z → item_cmp x z ≡ Less) → AreMerged (front ++ mid) rest (done ++ x ∷ []) later ((all ++ mid) ++ x ∷ [])
  into_gap behind = record {
    order = order;
    members = members;
    ahead = λ y z h there. elim there [ inl r ↦ rest_behind rest (λ w i. i) behind y z h r | inr l ↦ later_behind y z h l ];
  }

  -- x is the next of the first list too
  pub onto_itself : (tail : List Item) → rest ≡ x ∷ tail → AreMerged ((front ++ mid) ++ x ∷ []) tail (done ++ x ∷ []) later ((all ++ mid) ++ x ∷ [])
  onto_itself tail is =
      let own : IsRising item_cmp (x ∷ tail) = subst (IsRising item_cmp) is (rising_right item_cmp mid rest mid_rest) in
      record {
        order = order;
        members = λ y. (
          λ h. elim ((members y).0 h) [ inl f ↦ inl (Contains-append_left (front ++ mid) (x ∷ []) y f) | inr d ↦ inr d ],
          λ h. elim h [
            | inr d ↦ (members y).1 (inr d)
            | inl f ↦ (elim (Contains-push_cases (front ++ mid) x y f) [ inl old ↦ (members y).1 (inl old) | inr e ↦ subst (Contains ((all ++ mid) ++ x ∷ [])) e (Contains-push (all ++ mid) x) ])
          ],
        );
        ahead = λ y z h there. elim there [
          | inl t ↦ rest_behind tail (λ w i. subst (λ l. Contains l w) (sym is) (Contains-tail x tail w i)) own.0 y z h t
          | inr l ↦ later_behind y z h l
        ];
      }

-- ---- by places

module _ (items more all : List Item) (from next : ℕ) (x : Item) (items_order : IsInOrder items) (more_order : IsInOrder more) (low : next < length more) (is : x ≡ get_or more next x)
    (was : AreMerged (take from items) (drop from items) (take next more) (drop next more) all) where
  -- what comes before x
  next_later : drop next more ≡ x ∷ drop (next + 1) more
  next_later = rest_next more next x low is

  x_there : Contains (drop next more) x
  x_there = subst (λ l. Contains l x) (sym next_later) (Contains-head x (drop (next + 1) more))

  pub front_before : from ≤ length items → AreBefore items from x
  front_before within = record {
    within = within;
    before = λ k d below. was.ahead (get_or items k d) x ((was.members (get_or items k d)).1 (inl (in_front k d below))) (inr x_there);
  }
    where
      in_front : (k : ℕ) (d : Item) → k < from → Contains (take from items) (get_or items k d)
      in_front k d below = (k, omega (arith, below, within, length-take-le from items within), get_or-take from items k (get_or items k d) below ∙ get_or_default items k (get_or items k d) d (omega (arith, below, within)))

  module _ (to : ℕ) (up : from ≤ to) (before : AreBefore items to x) where
    mid : List Item
    mid = between from to items

    apart : drop from items ≡ between from to items ++ drop to items
    apart = rest_more items from to up

    mid_rest : IsRising item_cmp (between from to items ++ drop to items)
    mid_rest = subst (IsRising item_cmp) apart (rising_right item_cmp (take from items) (drop from items) (subst (IsRising item_cmp) (sym (take-append-drop from items)) (rising items items_order)))

    x_later : IsRising item_cmp (x ∷ drop (next + 1) more)
    x_later = subst (IsRising item_cmp) next_later (rising_right item_cmp (take next more) (drop next more) (subst (IsRising item_cmp) (sym (take-append-drop next more)) (rising more more_order)))

    mid_before : (y : Item) → Contains (between from to items) y → item_cmp y x ≡ Less
    mid_before y h =
        fact_from_take (λ z. item_cmp z x ≡ Less) items to before.within before.before y (subst (λ l. Contains l y) (sym (front_more items from to up)) (Contains-append_right (take from items) (between from to items) y h))

    begun : AreMerged (take from items) (between from to items ++ drop to items) (take next more) (x ∷ drop (next + 1) more) all
    begun = subst (λ l. AreMerged (take from items) l (take next more) (x ∷ drop (next + 1) more) all) apart (subst (λ l. AreMerged (take from items) (drop from items) (take next more) l all) next_later was)

    pub gap_merged : IsGap items to x → (pushed new : List Item) → pushed ≡ all ++ between from to items → new ≡ pushed ++ x ∷ [] → AreMerged (take to items) (drop to items) (take (next + 1) more) (drop (next + 1) more) new
    gap_merged gap pushed new first last =
        let behind : (z : Item) → Contains (drop to items) z → item_cmp x z ≡ Less = fact_from_drop (λ z. item_cmp x z ≡ Less) items to (λ k d above high. turned x (get_or items k d) (gap.behind k d above high)) in
        let step = into_gap (take from items) (between from to items) (drop to items) (take next more) (drop (next + 1) more) all x mid_rest x_later begun mid_before behind in
        let whole : (all ++ between from to items) ++ x ∷ [] ≡ new = sym (last ∙ ap (λ l. l ++ x ∷ []) first) in
        subst (λ l. AreMerged (take to items) (drop to items) l (drop (next + 1) more) new) (sym (front_next more next x low is))
        (subst (λ l. AreMerged l (drop to items) (take next more ++ x ∷ []) (drop (next + 1) more) new) (sym (front_more items from to up))
        (subst (AreMerged (take from items ++ between from to items) (drop to items) (take next more ++ x ∷ []) (drop (next + 1) more)) whole step))

    pub key_merged : (high : to < length items) → x ≡ get_or items to x → (pushed new : List Item) → pushed ≡ all ++ between from to items → new ≡ pushed ++ x ∷ [] → AreMerged (take (to + 1) items) (drop (to + 1) items) (take (next + 1) more) (drop (next + 1) more) new
    key_merged high here pushed new first last =
        let step = onto_itself (take from items) (between from to items) (drop to items) (take next more) (drop (next + 1) more) all x mid_rest x_later begun mid_before (drop (to + 1) items) (rest_next items to x high here) in
        let whole : (all ++ between from to items) ++ x ∷ [] ≡ new = sym (last ∙ ap (λ l. l ++ x ∷ []) first) in
        let front : (take from items ++ between from to items) ++ x ∷ [] ≡ take (to + 1) items = sym (front_next items to x high here ∙ ap (λ l. l ++ x ∷ []) (front_more items from to up)) in
        subst (λ l. AreMerged (take (to + 1) items) (drop (to + 1) items) l (drop (next + 1) more) new) (sym (front_next more next x low is))
        (subst (λ l. AreMerged l (drop (to + 1) items) (take next more ++ x ∷ []) (drop (next + 1) more) new) front
        (subst (AreMerged ((take from items ++ between from to items) ++ x ∷ []) (drop (to + 1) items) (take next more ++ x ∷ []) (drop (next + 1) more)) whole step))

-- nothing is merged yet
pub none_merged : (items more : List Item) → IsInOrder [] → AreMerged (take 0 items) (drop 0 items) (take 0 more) (drop 0 more) []
none_merged items more order = record {
  order = order;
  members = λ x. (λ h. absurd (Contains-nil x h), λ h. elim h [ inl f ↦ f | inr d ↦ d ]);
  ahead = λ x y h there. absurd (Contains-nil x h);
}

-- the rest of the first list comes last
pub all_merged : (items more all new : List Item) (from next : ℕ) → IsInOrder items → length more ≤ next → AreMerged (take from items) (drop from items) (take next more) (drop next more) all → new ≡ all ++ drop from items → IsInOrder new × IsJoined items more new
all_merged items more all new from next items_order end was last = subst (λ l. IsInOrder l × IsJoined items more l) (sym last) (
  in_order (all ++ drop from items) (rising_append item_cmp all (drop from items) (rising all was.order) rest_rising (λ a b here there. was.ahead a b here (inl there))),
  λ x. (
    λ h. elim (Contains-append_cases all (drop from items) x h) [
      | inr r ↦ inl (whole x (inr r))
      | inl a ↦ elim ((was.members x).0 a) [ inl f ↦ inl (whole x (inl f)) | inr d ↦ inr (subst (λ l. Contains l x) (take_all next more end) d) ]
    ],
    λ h. elim h [
      | inl i ↦ (elim (Contains-append_cases (take from items) (drop from items) x (subst (λ l. Contains l x) (sym (take-append-drop from items)) i)) [
        | inl f ↦ Contains-append_left all (drop from items) x ((was.members x).1 (inl f))
        | inr r ↦ Contains-append_right all (drop from items) x r
      ])
      | inr m ↦ Contains-append_left all (drop from items) x ((was.members x).1 (inr (subst (λ l. Contains l x) (sym (take_all next more end)) m)))
    ],
  ),
)
  where
    rest_rising : IsRising item_cmp (drop from items)
    rest_rising = rising_right item_cmp (take from items) (drop from items) (subst (IsRising item_cmp) (sym (take-append-drop from items)) (rising items items_order))

    whole : (x : Item) → Contains (take from items) x ⊎ Contains (drop from items) x → Contains items x
    whole x h = subst (λ l. Contains l x) (take-append-drop from items) (elim h [ inl f ↦ Contains-append_left (take from items) (drop from items) x f | inr r ↦ Contains-append_right (take from items) (drop from items) x r ])

-- the item at the place of the key of x is x, and all items before it come before x
pub key_found : (items more : List Item) (at : ℕ) (x : Item) → AreOneByKey items more → Contains more x → HasKeyAt items at x → x ≡ get_or items at x
key_found items more at x known there has = sym (known (get_or items at x) x (at, has.0, get_or_default items at (get_or items at x) x has.0) there (has.1 x))

pub key_before : (items : List Item) (at : ℕ) (x : Item) → IsInOrder items → HasKeyAt items at x → AreBefore items at x
key_before items at x order has = let cut = cut_at_key items x at order has.0 has.1 in record { within = cut.within; before = cut.before }
