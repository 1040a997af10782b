-- Sums over distinct numbers that all stand in a list.
use Rattle.std.proofs.Common.{◌≡◌, ◌≢◌, ℕ, suc, ◌+◌, ◌<◌, ◌≤◌, List, [], ◌∷◌, ◌++◌, length, get_or, take, drop, sym, ◌∙◌, ap, subst, inl, inr, arith}
use Rattle.std.specs.List.{AllPairs, Contains, sum_by}
use Rattle.std.proofs.lemmas.List.{drop_more, get_or-take, length-take-le, take-append-drop}
use Rattle.std.proofs.lemmas.List.Elements.{Contains-append_cases, Contains-append_left, Contains-append_right}
use Rattle.std.proofs.lemmas.List.Sums.{sum_by-append, sum_by-cons}
use Rattle.finite_chains.proofs.Members.{Contains-cases, Contains-head, Contains-tail}

abbrev pub Differ : List ℕ → Type 0
Differ xs = AllPairs (λ a b. a ≢ b) xs

pub no_pairs : Differ []
no_pairs i j d before within = absurd (omega (arith, within))

differ_tail : (x : ℕ) (xs : List ℕ) → Differ (x ∷ xs) → Differ xs
differ_tail x xs h i j d before within = h (suc i) (suc j) d (omega (arith, before)) (omega (arith, within))

differ_head : (x : ℕ) (xs : List ℕ) → Differ (x ∷ xs) → Contains xs x → ⊥
differ_head x xs h (k, within, is) = h 0 (suc k) x (omega (arith)) (omega (arith, within)) (sym is)

abbrev Apart : List ℕ → ℕ → Type 0
Apart ys x = (before after : List ℕ) × (ys ≡ before ++ x ∷ after)

parted : (ys : List ℕ) (x : ℕ) → Contains ys x → Apart ys x
parted ys x (k, within, is) = (take k ys, drop (k + 1) ys, sym (take-append-drop k ys) ∙ ap (λ rest. take k ys ++ rest) (drop_more ys k x within ∙ ap (λ y. y ∷ drop (k + 1) ys) is))

without_it : (before after : List ℕ) (x y : ℕ) → (x ≡ y → ⊥) → Contains (before ++ x ∷ after) y → Contains (before ++ after) y
without_it before after x y other h = elim (Contains-append_cases before (x ∷ after) y h) [
  | inl early ↦ Contains-append_left before after y early
  | inr late ↦ elim (Contains-cases x after y late) [ inl same ↦ absurd (other same) | inr there ↦ Contains-append_right before after y there ]
]

-- distinct numbers that all stand in a list sum up to no more
pub sum_within : (f : ℕ → ℕ) (xs ys : List ℕ) → Differ xs → ((x : ℕ) → Contains xs x → Contains ys x) → sum_by f xs ≤ sum_by f ys
sum_within f [] ys differ within = omega (arith)
sum_within f (x ∷ xs) ys differ within =
    let part : Apart ys x = parted ys x (within x (Contains-head x xs)) in
    let rest : sum_by f xs ≤ sum_by f (part.0 ++ part.1) =
    sum_within f xs (part.0 ++ part.1) (differ_tail x xs differ)
    (λ y h. without_it part.0 part.1 x y (λ e. differ_head x xs differ (subst (Contains xs) (sym e) h)) (subst (λ l. Contains l y) part.2 (within y (Contains-tail x xs y h)))) in
    omega (arith, rest, sum_by-cons f x xs, ap (sum_by f) part.2, sum_by-append f part.0 (x ∷ part.1), sum_by-cons f x part.1, sum_by-append f part.0 part.1)

pub differ_front : (n : ℕ) (xs : List ℕ) → n ≤ length xs → Differ xs → Differ (take n xs)
differ_front n xs fits differ i j d before within =
    let below : j < n = omega (arith, within, length-take-le n xs fits) in
    subst (λ b. get_or (take n xs) i d ≢ b) (sym (get_or-take n xs j d below)) (subst (λ a. a ≢ get_or xs j d) (sym (get_or-take n xs i d (omega (arith, before, below)))) (differ i j d before (omega (arith, below, fits))))
