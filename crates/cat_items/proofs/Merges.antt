-- Two runs in order that are put into one, and items that are brought behind the others.
use Rattle.std.proofs.Common.{◌≡◌, ◌↔◌, ℕ, zero, suc, ◌+◌, ◌-◌, ◌<◌, ◌≤◌, List, [], ◌∷◌, ◌++◌, Some, None, Ordering, is_lt, true, length, get_or, take, drop, slice_get, length-append, append_assoc, sym, ap, subst, ◌∙◌, refl, inl, inr, arith}
use Rattle.std.specs.List.{Contains}
use Rattle.std.specs.declared.cmp.Ordering.TheVariants.{Less, Equal, Greater}
use Rattle.std.proofs.lemmas.List.{take-append-drop, take_at, drop_at, get_or_at, get_or_default, append-nil, length-take-le, length-drop, take_all, drop_all}
use Rattle.std.proofs.lemmas.List.Elements.{Contains-append_left, Contains-append_right, Contains-append_cases, Contains-push}
use Rattle.std.proofs.lemmas.Bool.{cases_lt}
use borrow.Rule.Slice.PartMut.{put_mid, mid_of}
use Rattle.finite_chains.specs.StrictOrder.{IsRising}
use Rattle.finite_chains.proofs.Members.{Contains-nil, Contains-head, Contains-cases}
use Rattle.cat_items.specs.declared.item.Item.{Item}
use Rattle.cat_items.specs.Order.{item_cmp}
use Rattle.cat_items.specs.Catalogues.{IsInOrder, IsCut}
use Rattle.cat_items.specs.Batch.{AreParts, HaveNoKeyInCommon, IsJoined}
use Rattle.cat_items.proofs.OrderLemmas.{item_cmp-total}
use Rattle.cat_items.proofs.Rising.{rising_append, rising_left, rising_right, rising_across, less_back}
use Rattle.cat_items.proofs.CatalogueLemmas.{before_cut, after_cut, rising, in_order}

empty : {X : Type 0} (xs : List X) → length xs ≤ 0 → xs ≡ []
empty [] h = refl
empty (x ∷ xs) h = absurd (omega (arith, h))

-- what a turn of the two middle parts gives
pub exchanged : {X : Type 0} (items ys : List X) (from middle to : ℕ) (before first second after : List X) → AreParts items from middle to before first second after → ys ≡ drop (middle - from) (mid_of from (to - from) items) ++ take (middle - from) (mid_of from (to - from) items) → put_mid from (to - from) items ys ≡ before ++ (second ++ (first ++ after))
exchanged items ys from middle to before first second after p turn =
    let front : take from items ≡ before = ap (take from) p.is ∙ take_at before (first ++ (second ++ after)) from p.before_len in
    let joined : drop from items ≡ (first ++ second) ++ after = ap (drop from) p.is ∙ drop_at before (first ++ (second ++ after)) from p.before_len ∙ sym (append_assoc first second after) in
    let first_is : length first ≡ middle - from = omega (arith, p.first_len) in
    let long : length (first ++ second) ≡ to - from = length-append first second ∙ omega (arith, p.first_len, p.second_len) in
    let mid : take (to - from) (drop from items) ≡ first ++ second = ap (take (to - from)) joined ∙ take_at (first ++ second) after (to - from) long in
    let post : drop (to - from) (drop from items) ≡ after = ap (drop (to - from)) joined ∙ drop_at (first ++ second) after (to - from) long in
    let turned : ys ≡ second ++ first =
    turn ∙ (λ i. drop (middle - from) (mid i) ++ take (middle - from) (mid i)) ∙ (λ i. drop_at first second (middle - from) first_is i ++ take_at first second (middle - from) first_is i) in
    (λ i. front i ++ (turned i ++ post i)) ∙ ap (λ l. before ++ l) (append_assoc second first after)

-- an exchange keeps what is in the list
pub members_exchanged : {X : Type 0} (before first second after : List X) (x : X) → Contains (before ++ (first ++ (second ++ after))) x → Contains (before ++ (second ++ (first ++ after))) x
members_exchanged before first second after x c =
    elim (Contains-append_cases before (first ++ (second ++ after)) x c) [
      | inl b ↦ Contains-append_left before (second ++ (first ++ after)) x b
      | inr c2 ↦ Contains-append_right before (second ++ (first ++ after)) x (elim (Contains-append_cases first (second ++ after) x c2) [
        | inl f ↦ Contains-append_right second (first ++ after) x (Contains-append_left first after x f)
        | inr c3 ↦ elim (Contains-append_cases second after x c3) [
          | inl s ↦ Contains-append_left second (first ++ after) x s
          | inr a ↦ Contains-append_right second (first ++ after) x (Contains-append_right first after x a)
        ]
      ])
    ]

-- the last of a list that isn't empty
pub split_last : {X : Type 0} (xs : List X) → 0 < length xs → (front : List X) × (x : X) × (xs ≡ front ++ x ∷ [])
split_last [] some = absurd (omega (arith, some))
split_last (x ∷ []) some = ([], x, refl)
split_last (x ∷ (y ∷ ys)) some = let rest = split_last (y ∷ ys) (omega arith) in (x ∷ rest.0, rest.1, ap (λ l. x ∷ l) rest.2)

-- an item at a place
pub at_place : {X : Type 0} (xs : List X) (k : ℕ) (x : X) → Some x ≡ slice_get xs k → (k < length xs) × (x ≡ get_or xs k x)
at_place [] k x e = absurd (let odd : Some x ≡ None = e in cc)
at_place (y ∷ ys) zero x e = (omega arith, let same : Some x ≡ Some y = e in cc)
at_place (y ∷ ys) (suc k) x e = let rest = at_place ys k x e in (omega (arith, rest.0), rest.1)

-- a list that was written back whole
pub written_back : {X : Type 0} (new all : List X) (n : ℕ) → length new ≡ length all → n ≡ length all → take n (new ++ drop (length new) all) ≡ new
written_back new all n same size =
    let none : drop (length new) all ≡ [] = drop_all (length new) all (omega (arith, same)) in
    let whole : new ++ drop (length new) all ≡ new = ap (λ l. new ++ l) none ∙ append-nil new in
    ap (take n) whole ∙ take_all n new (omega (arith, same, size))

-- the two parts of a list of two
pub apart_from : (all a b : List Item) (n : ℕ) → all ≡ a ++ b → length a ≡ n → HaveNoKeyInCommon a b → HaveNoKeyInCommon (take n all) (drop n all)
apart_from all a b n is size apart =
    let front : take n all ≡ a = ap (take n) is ∙ take_at a b n size in
    let rest : drop n all ≡ b = ap (drop n) is ∙ drop_at a b n size in
    λ x y cx cy. apart x y (subst (λ l. Contains l x) front cx) (subst (λ l. Contains l y) rest cy)

-- what has the items of a list of two has those of both
pub joined_members : (new old a b : List Item) → old ≡ a ++ b → ((x : Item) → Contains new x ↔ Contains old x) → IsJoined a b new
joined_members new old a b is same x = (
  λ c. Contains-append_cases a b x (subst (λ l. Contains l x) is ((same x).0 c)),
  λ h. (same x).1 (subst (λ l. Contains l x) (sym is) (elim h [ inl c ↦ Contains-append_left a b x c | inr c ↦ Contains-append_right a b x c ])),
)

-- where the last of a list comes before x, all do
pub cut_behind : (items : List Item) (x last : Item) → IsInOrder items → 0 < length items → last ≡ get_or items (length items - 1) last → item_cmp last x ≡ Less → IsCut items (length items) x
cut_behind items x last order some at less = record {
  within = omega arith;
  before = λ k d below. elim (cases_lt k (length items - 1)) [
    | inl earlier ↦ item_cmp-total.trans (get_or items k d) last x
        (subst (λ z. item_cmp (get_or items k d) z ≡ Less) (get_or_default items (length items - 1) d last (omega (arith, some)) ∙ sym at) (order k (length items - 1) d earlier (omega (arith, some)))) less
    | inr here ↦ let e : k ≡ length items - 1 = omega arith in subst (λ z. item_cmp z x ≡ Less) (at ∙ get_or_default items (length items - 1) last d (omega (arith, some)) ∙ ap (λ n. get_or items n d) (sym e)) less
  ];
  after = λ k d above high _. absurd (omega (arith, above, high));
}

less_from_test : (o : Ordering) → is_lt o ≡ true → o ≡ Less
less_from_test Less e = refl
less_from_test Equal e = cc
less_from_test Greater e = cc

-- so by a test of the last
pub cut_by_test : (items : List Item) (x last : Item) (o : Ordering) → IsInOrder items → Some last ≡ slice_get items (length items - 1) → o ≡ item_cmp last x → is_lt o ≡ true → IsCut items (length items) x
cut_by_test items x last o order at is test =
    let there = at_place items (length items - 1) last at in
    cut_behind items x last order (omega (arith, there.0)) there.1 (sym is ∙ less_from_test o test)

-- The state of a merge: what is left of both runs, and what is done.
pub record IsMerging (items origin : List Item) (old end : ℕ) (a b done : List Item) : Type 0 where
  pub is : items ≡ a ++ (b ++ done)
  pub a_len : length a ≡ old
  pub b_len : old + length b ≡ end
  pub len : length items ≡ length origin
  pub a_order : IsRising item_cmp a
  pub b_order : IsRising item_cmp b
  pub done_order : IsRising item_cmp done
  pub apart : HaveNoKeyInCommon a b
  pub a_before : (x y : Item) → Contains a x → Contains done y → item_cmp x y ≡ Less
  pub b_before : (x y : Item) → Contains b x → Contains done y → item_cmp x y ≡ Less
  pub members : (x : Item) → Contains items x ↔ Contains origin x

abbrev pub Merging : List Item → List Item → ℕ → ℕ → Type 0
Merging items origin old end = (a : List Item) × (b : List Item) × (done : List Item) × IsMerging items origin old end a b done

pub merging_begins : (items : List Item) (old : ℕ) → old ≤ length items → IsInOrder (take old items) → IsInOrder (drop old items) → HaveNoKeyInCommon (take old items) (drop old items) → Merging items items old (length items)
merging_begins items old within first second apart = (
  take old items,
  drop old items,
  [],
  record {
    is = sym (take-append-drop old items) ∙ ap (λ l. take old items ++ l) (sym (append-nil (drop old items)));
    a_len = length-take-le old items within;
    b_len = omega (arith, length-drop old items);
    len = refl;
    a_order = rising (take old items) first;
    b_order = rising (drop old items) second;
    done_order = tt;
    apart = apart;
    a_before = λ x y cx cy. absurd (Contains-nil y cy);
    b_before = λ x y cx cy. absurd (Contains-nil y cy);
    members = λ x. (λ c. c, λ c. c);
  },
)

-- the first run is in order
pub merging_front : (items origin : List Item) (old end : ℕ) → Merging items origin old end → IsInOrder (take old items)
merging_front items origin old end m =
    let run : take old items ≡ m.0 = ap (take old) m.3.is ∙ take_at m.0 (m.1 ++ m.2) old m.3.a_len in
    rw run (in_order m.0 m.3.a_order)

pub merging_ends : (items origin : List Item) (old end : ℕ) → Merging items origin old end → end ≤ old → IsInOrder items
merging_ends items origin old end m over =
    let none : m.1 ≡ [] = empty m.1 (omega (arith, over, m.3.b_len)) in
    let whole : items ≡ m.0 ++ m.2 = m.3.is ∙ ap (λ l. m.0 ++ (l ++ m.2)) none in
    rw whole (in_order (m.0 ++ m.2) (rising_append item_cmp m.0 m.2 m.3.a_order m.3.done_order m.3.a_before))

-- one turn of a merge: the last of the second run goes, with all of the first run that comes after it, before what is done
pub merging_goes : (items next origin : List Item) (old end at : ℕ) → Merging items origin old end → old < end → at ≤ old
    → ((d : Item) → IsCut (take old items) at (get_or items (end - 1) d))
    → length next ≡ length items
    → ((before first second after : List Item) → AreParts items at old end before first second after → next ≡ before ++ (second ++ (first ++ after)))
    → Merging next origin at (end - (old - at + 1))
merging_goes items next origin old end at m more within cut same_len parts =
    let a : List Item = m.0 in
    let b : List Item = m.1 in
    let done : List Item = m.2 in
    let s : IsMerging items origin old end a b done = m.3 in
    let last = split_last b (omega (arith, more, s.b_len)) in
    merging_step items next origin old end at a last.0 last.1 done (subst (λ l. IsMerging items origin old end a l done) last.2 s) within cut same_len parts
  where
    merging_step : (items next origin : List Item) (old end at : ℕ) (a b : List Item) (x : Item) (done : List Item) → IsMerging items origin old end a (b ++ x ∷ []) done → at ≤ old
        → ((d : Item) → IsCut (take old items) at (get_or items (end - 1) d))
        → length next ≡ length items
        → ((before first second after : List Item) → AreParts items at old end before first second after → next ≡ before ++ (second ++ (first ++ after)))
        → Merging next origin at (end - (old - at + 1))
    merging_step items next origin old end at a b x done s within cut same_len parts =
        let run : take old items ≡ a = ap (take old) s.is ∙ take_at a ((b ++ x ∷ []) ++ done) old s.a_len in
        let pushed : length (b ++ x ∷ []) ≡ length b + 1 = length-append b (x ∷ []) in
        let placed : items ≡ (a ++ b) ++ x ∷ done = s.is ∙ ap (λ l. a ++ l) (append_assoc b (x ∷ []) done) ∙ sym (append_assoc a b (x ∷ done)) in
        let where_last : length (a ++ b) ≡ end - 1 = length-append a b ∙ omega (arith, s.a_len, s.b_len, pushed) in
        let is_last : get_or items (end - 1) x ≡ x = ap (λ l. get_or l (end - 1) x) placed ∙ get_or_at (a ++ b) x done x (end - 1) where_last in
        let cut_x : IsCut a at x = subst (λ z. IsCut a at z) is_last (subst (λ l. IsCut l at (get_or items (end - 1) x)) run (cut x)) in
        let low : List Item = take at a in
        let high : List Item = drop at a in
        let split : low ++ high ≡ a = take-append-drop at a in
        let fits : at ≤ length a = omega (arith, within, s.a_len) in
        let low_len : length low ≡ at = length-take-le at a fits in
        let high_len : length high ≡ length a - at = length-drop at a in
        let four : AreParts items at old end low high (b ++ x ∷ []) done = record {
          is = s.is ∙ ap (λ l. l ++ ((b ++ x ∷ []) ++ done)) (sym split) ∙ append_assoc low high ((b ++ x ∷ []) ++ done);
          before_len = low_len;
          first_len = omega (arith, high_len, fits, s.a_len);
          second_len = s.b_len;
        } in
        let next_is : next ≡ low ++ ((b ++ x ∷ []) ++ (high ++ done)) = parts low high (b ++ x ∷ []) done four in
        let runs : IsRising item_cmp (low ++ high) = subst (IsRising item_cmp) (sym split) s.a_order in
        let in_low : (y : Item) → Contains low y → Contains a y = λ y c. subst (λ l. Contains l y) split (Contains-append_left low high y c) in
        let in_high : (y : Item) → Contains high y → Contains a y = λ y c. subst (λ l. Contains l y) split (Contains-append_right low high y c) in
        let in_b : (y : Item) → Contains b y → Contains (b ++ x ∷ []) y = λ y c. Contains-append_left b (x ∷ []) y c in
        let x_in : Contains (b ++ x ∷ []) x = Contains-push b x in
        let x_high : (y : Item) → Contains high y → item_cmp x y ≡ Less = λ y c. less_back item_cmp item_cmp-total x y (after_cut a at x cut_x y c) (s.apart y x (in_high y c) x_in) in
        let b_x : (y : Item) → Contains b y → item_cmp y x ≡ Less = λ y c. rising_across item_cmp b (x ∷ []) s.b_order y x c (Contains-head x []) in
        let after : (y z : Item) → item_cmp y x ≡ Less → ((w : Item) → Contains done w → item_cmp y w ≡ Less) → ((w : Item) → Contains high w → item_cmp y w ≡ Less) → Contains (x ∷ (high ++ done)) z → item_cmp y z ≡ Less =
        λ y z to_x to_done to_high c. elim (Contains-cases x (high ++ done) z c) [
          | inl e ↦ subst (λ w. item_cmp y w ≡ Less) e to_x
          | inr later ↦ elim (Contains-append_cases high done z later) [ inl h ↦ to_high z h | inr d ↦ to_done z d ]
        ] in (
          low,
          b,
          x ∷ (high ++ done),
          record {
            is = next_is ∙ ap (λ l. low ++ l) (append_assoc b (x ∷ []) (high ++ done));
            a_len = low_len;
            b_len = omega (arith, pushed, s.b_len, s.a_len, within);
            len = same_len ∙ s.len;
            a_order = rising_left item_cmp low high runs;
            b_order = rising_left item_cmp b (x ∷ []) s.b_order;
            done_order = (
              λ y c. elim (Contains-append_cases high done y c) [ inl h ↦ x_high y h | inr d ↦ s.b_before x y x_in d ],
              rising_append item_cmp high done (rising_right item_cmp low high runs) s.done_order (λ y z cy cz. s.a_before y z (in_high y cy) cz),
            );
            apart = λ y z cy cz. s.apart y z (in_low y cy) (in_b z cz);
            a_before = λ y z cy cz. after y z (before_cut a at x cut_x y cy) (λ w cw. s.a_before y w (in_low y cy) cw) (λ w cw. rising_across item_cmp low high runs y w cy cw) cz;
            b_before = λ y z cy cz. after y z (b_x y cy) (λ w cw. s.b_before y w (in_b y cy) cw) (λ w cw. item_cmp-total.trans y x w (b_x y cy) (x_high w cw)) cz;
            members = λ y. (
              λ c. (s.members y).0 (subst (λ l. Contains l y) (sym four.is) (members_exchanged low (b ++ x ∷ []) high done y (subst (λ l. Contains l y) next_is c))),
              λ c. subst (λ l. Contains l y) (sym next_is) (members_exchanged low high (b ++ x ∷ []) done y (subst (λ l. Contains l y) four.is ((s.members y).1 c))),
            );
          },
        )
