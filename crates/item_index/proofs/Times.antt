-- How often a number stands in a list.
use Rattle.std.proofs.Common.{◌≡◌, ℕ, zero, suc, ◌+◌, ◌<◌, Bool, not, cond, nat_eq, List, [], ◌∷◌, ◌++◌, length, get_or, slice_get, Some, sym, ◌∙◌, ap, refl, inl, inr, arith, eq-eqb}
use Rattle.std.specs.List.{remove}
use Rattle.std.proofs.lemmas.List.Sums.{sum_by-cons, sum_by_push, sum_by-remove}
use Rattle.std.proofs.lemmas.Option.{slice_get_within, get_or_from_slice_get}
use Rattle.std.proofs.lemmas.Bool.{cases_eq, ne_eqb}
use Rattle.item_index.specs.Shelves.{times, without}

-- 1 for a number and itself, and 0 for two
abbrev pub hit : ℕ → ℕ → ℕ
hit x y = cond (nat_eq y x) 1 0

pub hit-same : (x : ℕ) → hit x x ≡ 1
hit-same x = ap (λ (b : Bool). cond b 1 0) (eq-eqb x x refl)

pub hit-other : (x y : ℕ) → (y ≡ x → ⊥) → hit x y ≡ 0
hit-other x y ne = ap (λ (b : Bool). cond b 1 0) (ne_eqb y x ne)

pub times-cons : (x y : ℕ) (ys : List ℕ) → times x (y ∷ ys) ≡ hit x y + times x ys
times-cons x y ys = sum_by-cons (hit x) y ys

pub times-push : (x y : ℕ) (ys : List ℕ) → times x (ys ++ y ∷ []) ≡ times x ys + hit x y
times-push x y ys = sum_by_push (hit x) ys y

pub times-remove : (x y k : ℕ) (ys : List ℕ) → slice_get ys k ≡ Some y → times x (remove ys k) + hit x y ≡ times x ys
times-remove x y k ys here =
    ap (λ (z : ℕ). times x (remove ys k) + hit x z) (sym (get_or_from_slice_get ys k y 0 here)) ∙ sum_by-remove (hit x) ys k 0 (slice_get_within ys k y here)

pub times-there : (x k : ℕ) (xs : List ℕ) → slice_get xs k ≡ Some x → 0 < times x xs
times-there x k xs here = let e = times-remove x x k xs here in let h = hit-same x in omega arith

-- a number that stands in a list has a place there
pub place_of : (x : ℕ) (xs : List ℕ) → 0 < times x xs → (k : ℕ) × (k < length xs) × (get_or xs k 0 ≡ x)
place_of x [] some = absurd (omega arith)
place_of x (y ∷ ys) some = elim (cases_eq y x) [
  | inl e ↦ (0, omega arith, e)
  | inr ne ↦
      let h = hit-other x y ne in
      let t = times-cons x y ys in
      let rest = place_of x ys (omega arith) in
      (suc rest.0, omega arith, rest.2)
]

pub without-cons_same : (x : ℕ) (ys : List ℕ) → without x (x ∷ ys) ≡ without x ys
without-cons_same x ys = ap (λ (b : Bool). cond (not b) (x ∷ without x ys) (without x ys)) (eq-eqb x x refl)

pub without-cons_other : (x y : ℕ) (ys : List ℕ) → (y ≡ x → ⊥) → without x (y ∷ ys) ≡ y ∷ without x ys
without-cons_other x y ys ne = ap (λ (b : Bool). cond (not b) (y ∷ without x ys) (without x ys)) (ne_eqb y x ne)

pub without-none : (x : ℕ) (xs : List ℕ) → times x xs ≡ 0 → without x xs ≡ xs
without-none x [] none = refl
without-none x (y ∷ ys) none = elim (cases_eq y x) [
  | inl e ↦
      let h : hit x y ≡ 1 = rw e (hit-same x) in
      let t = times-cons x y ys in
      absurd (omega arith)
  | inr ne ↦ let t = times-cons x y ys in without-cons_other x y ys ne ∙ ap (λ (r : List ℕ). y ∷ r) (without-none x ys (omega arith))
]

-- a list without a number is the same once one place of it is gone
pub without-remove : (x k : ℕ) (xs : List ℕ) → slice_get xs k ≡ Some x → without x (remove xs k) ≡ without x xs
without-remove x k [] here = absurd (let h = slice_get_within [] k x here in omega arith)
without-remove x zero (y ∷ ys) here =
    let e : y ≡ x = get_or_from_slice_get (y ∷ ys) 0 x 0 here in
    rw e (sym (without-cons_same x ys))
without-remove x (suc k) (y ∷ ys) here = elim (cases_eq y x) [
  | inl e ↦ rw e (without-cons_same x (remove ys k) ∙ without-remove x k ys here ∙ sym (without-cons_same x ys))
  | inr ne ↦ without-cons_other x y (remove ys k) ne ∙ ap (λ (r : List ℕ). y ∷ r) (without-remove x k ys here) ∙ sym (without-cons_other x y ys ne)
]

pub times-without_same : (x : ℕ) (xs : List ℕ) → times x (without x xs) ≡ 0
times-without_same x [] = refl
times-without_same x (y ∷ ys) = elim (cases_eq y x) [
  | inl e ↦ rw e (ap (times x) (without-cons_same x ys) ∙ times-without_same x ys)
  | inr ne ↦ ap (times x) (without-cons_other x y ys ne) ∙ times-cons x y (without x ys) ∙ (let h = hit-other x y ne in let t = times-without_same x ys in let r : hit x y + times x (without x ys) ≡ 0 = omega arith in r)
]

pub times-without_other : (x y : ℕ) (xs : List ℕ) → (y ≡ x → ⊥) → times y (without x xs) ≡ times y xs
times-without_other x y [] ne = refl
times-without_other x y (z ∷ zs) ne =
    let t = times-cons y z zs in
    let rest = times-without_other x y zs ne in
    elim (cases_eq z x) [
      | inl e ↦
          let h : hit y z ≡ 0 = hit-other y z (λ f. ne (sym f ∙ e)) in
          let w : without x (z ∷ zs) ≡ without x zs = rw e (without-cons_same x zs) in
          ap (times y) w ∙ rest ∙ (let r : times y zs ≡ times y (z ∷ zs) = omega arith in r)
      | inr nz ↦ ap (times y) (without-cons_other x z zs nz) ∙ times-cons y z (without x zs) ∙ ap (λ (n : ℕ). hit y z + n) rest ∙ sym t
    ]
