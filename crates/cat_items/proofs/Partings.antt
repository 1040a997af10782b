-- Items that are brought behind the others, which stay in order.
use Rattle.std.proofs.Common.{◌≡◌, ◌≢◌, ◌↔◌, ℕ, ◌+◌, ◌-◌, ◌<◌, ◌≤◌, List, [], ◌∷◌, ◌++◌, length, get_or, take, drop, length-append, append_assoc, sym, ap, subst, ◌∙◌, refl, inl, inr, arith}
use Rattle.std.specs.List.{Contains}
use Rattle.std.specs.declared.cmp.Ordering.TheVariants.{Less}
use Rattle.std.proofs.lemmas.List.{take-append-drop, take_at, drop_at, take_all, append-nil, take_more, drop_more, length-take-le}
use Rattle.std.proofs.lemmas.List.Elements.{Contains-append_left, Contains-append_cases, Contains-push, Contains-push_cases}
use Rattle.finite_chains.specs.Chains.{IsWithin}
use Rattle.finite_chains.specs.StrictOrder.{IsRising}
use Rattle.finite_chains.proofs.Members.{Contains-nil, Contains-head, Contains-tail, Contains-cases}
use Rattle.cat_items.specs.declared.item.Item.{Item}
use Rattle.cat_items.specs.Order.{item_cmp}
use Rattle.cat_items.specs.Catalogues.{IsInOrder, IsCut}
use Rattle.cat_items.specs.Batch.{AreParts, IsWithout}
use Rattle.cat_items.proofs.OrderLemmas.{item_cmp-total}
use Rattle.cat_items.proofs.Rising.{rising_append, rising_left, rising_right, rising_across, Contains-insert}
use Rattle.cat_items.proofs.CatalogueLemmas.{before_cut, after_cut, rising, in_order}
use Rattle.cat_items.proofs.KeyLemmas.{same_key}

not_before_itself : (x : Item) → item_cmp x x ≡ Less → ⊥
not_before_itself x less = let equal = same_key x in cc

-- the first of a list in order that is not before x, where x is in the list
head_is : (items : List Item) (x : Item) → IsRising item_cmp items → Contains items x → ((y : Item) → Contains items y → item_cmp y x ≢ Less) → (rest : List Item) × (items ≡ x ∷ rest)
head_is [] x order c after = absurd (Contains-nil x c)
head_is (y ∷ ys) x order c after =
    elim (Contains-cases y ys x c) [
      | inl e ↦ (ys, ap (λ z. z ∷ ys) e)
      | inr later ↦ absurd (after y (Contains-head y ys) (order.0 x later))
    ]

-- The state: what stays, what goes, and what isn't looked at yet.
pub record IsParting (items origin out : List Item) (i kept read : ℕ) (stay gone rest : List Item) : Type 0 where
  pub is : items ≡ stay ++ (gone ++ rest)
  pub stay_len : length stay ≡ kept
  pub gone_len : kept + length gone ≡ read
  pub count : length gone ≡ i
  pub len : length items ≡ length origin
  pub order : IsRising item_cmp (stay ++ rest)
  pub members : (x : Item) → Contains (stay ++ rest) x ↔ (Contains origin x × (¬ (Contains (take i out) x)))
  pub ahead : (x y : Item) → Contains stay x → Contains (drop i out) y → item_cmp x y ≡ Less

abbrev pub Parting : List Item → List Item → List Item → ℕ → ℕ → ℕ → Type 0
Parting items origin out i kept read = (stay : List Item) × (gone : List Item) × (rest : List Item) × IsParting items origin out i kept read stay gone rest

pub parting_begins : (items out : List Item) → IsInOrder items → Parting items items out 0 0 0
parting_begins items out order = (
  [],
  [],
  items,
  record {
    is = refl;
    stay_len = refl;
    gone_len = refl;
    count = refl;
    len = refl;
    order = rising items order;
    members = λ x. (λ c. (c, Contains-nil x), λ h. h.0);
    ahead = λ x y c _. absurd (Contains-nil x c);
  },
)

-- what isn't looked at is in order
pub parting_rest : (items origin out : List Item) (i kept read : ℕ) → Parting items origin out i kept read → (read ≤ length items) × IsInOrder (drop read items)
parting_rest items origin out i kept read m =
    let s : IsParting items origin out i kept read m.0 m.1 m.2 = m.3 in
    let front_len : length (m.0 ++ m.1) ≡ read = length-append m.0 m.1 ∙ omega (arith, s.stay_len, s.gone_len) in
    let whole : items ≡ (m.0 ++ m.1) ++ m.2 = s.is ∙ sym (append_assoc m.0 m.1 m.2) in
    let rest_is : drop read items ≡ m.2 = ap (drop read) whole ∙ drop_at (m.0 ++ m.1) m.2 read front_len in
    let all : length items ≡ length (m.0 ++ m.1) + length m.2 = ap length whole ∙ length-append (m.0 ++ m.1) m.2 in
    (omega (arith, all, front_len), rw rest_is (in_order m.2 (rising_right item_cmp m.0 m.2 s.order)))

parting_step : (items next origin out : List Item) (i kept read at : ℕ) (x : Item) (stay gone rest : List Item) → IsParting items origin out i kept read stay gone rest → IsInOrder out → IsWithin out origin → i < length out → x ≡ get_or out i x
    → IsCut (drop read items) at x → length next ≡ length items
    → ((before first second after : List Item) → AreParts items kept read (read + at) before first second after → next ≡ before ++ (second ++ (first ++ after)))
    → Parting next origin out (i + 1) (kept + at) (read + at + 1)
parting_step items next origin out i kept read at x stay gone rest s out_order within more at_i cut same_len parts =
    let front_len : length (stay ++ gone) ≡ read = length-append stay gone ∙ omega (arith, s.stay_len, s.gone_len) in
    let rest_is : drop read items ≡ rest = ap (drop read) (s.is ∙ sym (append_assoc stay gone rest)) ∙ drop_at (stay ++ gone) rest read front_len in
    let cut_x : IsCut rest at x = subst (λ l. IsCut l at x) rest_is cut in
    let t : List Item = take at rest in
    let u : List Item = drop at rest in
    let split : t ++ u ≡ rest = take-append-drop at rest in
    let t_len : length t ≡ at = length-take-le at rest cut_x.within in
    let out_is : drop i out ≡ x ∷ drop (i + 1) out = drop_more out i x more ∙ ap (λ z. z ∷ drop (i + 1) out) (sym at_i) in
    let out_more : take (i + 1) out ≡ take i out ++ x ∷ [] = take_more out i x more ∙ ap (λ z. take i out ++ z ∷ []) (sym at_i) in
    let x_ahead : Contains (drop i out) x = subst (λ l. Contains l x) (sym out_is) (Contains-head x (drop (i + 1) out)) in
    let out_rising : IsRising item_cmp (take i out ++ drop i out) = subst (IsRising item_cmp) (sym (take-append-drop i out)) (rising out out_order) in
    let x_new : Contains (take i out) x → ⊥ = λ c. not_before_itself x (rising_across item_cmp (take i out) (drop i out) out_rising x x c x_ahead) in
    let x_there : Contains (stay ++ rest) x = (s.members x).1 (within x (i, more, sym at_i), x_new) in
    let order : IsRising item_cmp (stay ++ (t ++ u)) = subst (λ l. IsRising item_cmp (stay ++ l)) (sym split) s.order in
    let x_rest : Contains u x =
    elim (Contains-append_cases stay rest x x_there) [
      | inl early ↦ absurd (not_before_itself x (s.ahead x x early x_ahead))
      | inr late ↦ elim (Contains-append_cases t u x (subst (λ l. Contains l x) (sym split) late)) [
        | inl early ↦ absurd (not_before_itself x (before_cut rest at x cut_x x early))
        | inr here ↦ here
      ]
    ] in
    let head = head_is u x (rising_right item_cmp t u (rising_right item_cmp stay (t ++ u) order)) x_rest (after_cut rest at x cut_x) in
    let v : List Item = head.0 in
    let whole : rest ≡ t ++ x ∷ v = sym split ∙ ap (λ l. t ++ l) head.1 in
    let four : AreParts items kept read (read + at) stay gone t (x ∷ v) = record {
      is = s.is ∙ ap (λ l. stay ++ (gone ++ l)) whole;
      before_len = s.stay_len;
      first_len = s.gone_len;
      second_len = omega (arith, t_len);
    } in
    let next_is : next ≡ stay ++ (t ++ (gone ++ x ∷ v)) = parts stay gone t (x ∷ v) four in
    let kept_all : stay ++ rest ≡ (stay ++ t) ++ x ∷ v = ap (λ l. stay ++ l) whole ∙ sym (append_assoc stay t (x ∷ v)) in
    let run : IsRising item_cmp ((stay ++ t) ++ x ∷ v) = subst (IsRising item_cmp) kept_all s.order in
    let x_gone : Contains ((stay ++ t) ++ v) x → ⊥ = λ c. elim (Contains-append_cases (stay ++ t) v x c) [
      | inl early ↦ not_before_itself x (rising_across item_cmp (stay ++ t) (x ∷ v) run x x early (Contains-head x v))
      | inr late ↦ not_before_itself x ((rising_right item_cmp (stay ++ t) (x ∷ v) run).0 x late)
    ] in
    let gone_more : length (gone ++ x ∷ []) ≡ length gone + 1 = length-append gone (x ∷ []) in
    let stay_more : length (stay ++ t) ≡ length stay + length t = length-append stay t in (
      stay ++ t,
      gone ++ x ∷ [],
      v,
      record {
        is = next_is ∙ sym (append_assoc stay t (gone ++ x ∷ v)) ∙ ap (λ l. (stay ++ t) ++ l) (sym (append_assoc gone (x ∷ []) v));
        stay_len = omega (arith, stay_more, s.stay_len, t_len);
        gone_len = omega (arith, gone_more, s.gone_len);
        count = omega (arith, gone_more, s.count);
        len = same_len ∙ s.len;
        order = rising_append item_cmp (stay ++ t) v (rising_left item_cmp (stay ++ t) (x ∷ v) run) (rising_right item_cmp (stay ++ t) (x ∷ v) run).1 (λ a b ca cb. rising_across item_cmp (stay ++ t) (x ∷ v) run a b ca (Contains-tail x v b cb));
        members = λ z. (
          λ c. let old = (s.members z).0 (subst (λ l. Contains l z) (sym kept_all) ((Contains-insert (stay ++ t) v x z).1 (inl c))) in (
            old.0,
            λ taken. elim (Contains-push_cases (take i out) x z (subst (λ l. Contains l z) out_more taken)) [
              | inl early ↦ old.1 early
              | inr e ↦ x_gone (subst (λ w. Contains ((stay ++ t) ++ v) w) (sym e) c)
            ],
          ),
          λ h. elim ((Contains-insert (stay ++ t) v x z).0 (subst (λ l. Contains l z) kept_all ((s.members z).1 (h.0, λ early. h.1 (subst (λ l. Contains l z) (sym out_more) (Contains-append_left (take i out) (x ∷ []) z early)))))) [
            | inl c ↦ c
            | inr e ↦ absurd (h.1 (subst (λ l. Contains l z) (sym out_more) (subst (λ w. Contains (take i out ++ x ∷ []) w) (sym e) (Contains-push (take i out) x))))
          ],
        );
        ahead = λ y w cy cw.
            let y_x : item_cmp y x ≡ Less = elim (Contains-append_cases stay t y cy) [ inl early ↦ s.ahead y x early x_ahead | inr late ↦ before_cut rest at x cut_x y late ] in
            let x_w : item_cmp x w ≡ Less = (subst (IsRising item_cmp) out_is (rising_right item_cmp (take i out) (drop i out) out_rising)).0 w cw in
            item_cmp-total.trans y x w y_x x_w;
      },
    )

-- one turn: the next item goes behind what stays
pub parting_goes : (items next origin out : List Item) (i kept read at : ℕ) (x : Item) → Parting items origin out i kept read → IsInOrder out → IsWithin out origin → i < length out → x ≡ get_or out i x
    → IsCut (drop read items) at x → length next ≡ length items
    → ((before first second after : List Item) → AreParts items kept read (read + at) before first second after → next ≡ before ++ (second ++ (first ++ after)))
    → Parting next origin out (i + 1) (kept + at) (read + at + 1)
parting_goes items next origin out i kept read at x m = parting_step items next origin out i kept read at x m.0 m.1 m.2 m.3

-- What stays, at the end.
pub record IsParted (next origin out : List Item) (n : ℕ) : Type 0 where
  pub order : IsInOrder (take n next)
  pub members : IsWithout origin out (take n next)
  pub len : n + length out ≡ length next

parting_last : (items next origin out : List Item) (kept read : ℕ) (stay gone rest : List Item) → IsParting items origin out (length out) kept read stay gone rest → length next ≡ length items
    → ((before first second after : List Item) → AreParts items kept read (length items) before first second after → next ≡ before ++ (second ++ (first ++ after)))
    → IsParted next origin out (length items - (read - kept))
parting_last items next origin out kept read stay gone rest s same_len parts =
    let all : length items ≡ length stay + (length gone + length rest) = ap length s.is ∙ length-append stay (gone ++ rest) ∙ ap (λ n. length stay + n) (length-append gone rest) in
    let rest_end : length (rest ++ []) ≡ length rest = ap length (append-nil rest) in
    let four : AreParts items kept read (length items) stay gone rest [] = record {
      is = s.is ∙ ap (λ l. stay ++ (gone ++ l)) (sym (append-nil rest));
      before_len = s.stay_len;
      first_len = s.gone_len;
      second_len = omega (arith, all, s.stay_len, s.gone_len);
    } in
    let next_is : next ≡ (stay ++ rest) ++ (gone ++ []) = parts stay gone rest [] four ∙ sym (append_assoc stay rest (gone ++ [])) in
    let size : length (stay ++ rest) ≡ length items - (read - kept) = length-append stay rest ∙ omega (arith, all, s.stay_len, s.gone_len) in
    let kept_is : take (length items - (read - kept)) next ≡ stay ++ rest = ap (take (length items - (read - kept))) next_is ∙ take_at (stay ++ rest) (gone ++ []) (length items - (read - kept)) size in
    let every : take (length out) out ≡ out = take_all (length out) out (omega arith) in
    record {
      order = rw kept_is (in_order (stay ++ rest) s.order);
      members = λ x. subst (λ l. Contains l x ↔ (Contains origin x × (¬ (Contains out x)))) (sym kept_is) (subst (λ l. Contains (stay ++ rest) x ↔ (Contains origin x × (¬ (Contains l x)))) every (s.members x));
      len = omega (arith, same_len, all, s.stay_len, s.gone_len, s.count);
    }

pub parting_ends : (items next origin out : List Item) (kept read : ℕ) → Parting items origin out (length out) kept read → length next ≡ length items
    → ((before first second after : List Item) → AreParts items kept read (length items) before first second after → next ≡ before ++ (second ++ (first ++ after)))
    → IsParted next origin out (length items - (read - kept))
parting_ends items next origin out kept read m = parting_last items next origin out kept read m.0 m.1 m.2 m.3
