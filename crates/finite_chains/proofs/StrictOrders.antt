-- A list in strict order is settled by what it contains.
use Rattle.std.proofs.Common.{◌≡◌, ◌↔◌, suc, Bool, List, [], ◌∷◌, Ordering, sym, ◌∙◌, ap, subst, refl, inl, inr, arith}
use Rattle.std.specs.List.{Contains, AllPairs, filter}
use Rattle.std.specs.declared.cmp.Ordering.TheVariants.{Less, Greater}
use Rattle.std.specs.Ordering.{ordering_reverse}
use Rattle.std.specs.Cmp.{IsTotalOrder}
use Rattle.std.proofs.lemmas.Bool.{cond_both}
use Rattle.finite_chains.specs.StrictOrder.{IsRising}
use Rattle.finite_chains.proofs.Members.{Contains-nil, Contains-head, Contains-tail, Contains-cases, filter_passes_one}

-- from the same by index
pub IsRising-from_pairs : {X : Type 0} (R : X → X → Ordering) (xs : List X) → AllPairs (λ a b. R a b ≡ Less) xs → IsRising R xs
IsRising-from_pairs R [] h = tt
IsRising-from_pairs R (x ∷ xs) h = (
  λ y c. subst (λ z. R x z ≡ Less) c.2 (h 0 (suc c.0) y (omega arith) (omega (arith, c.1))),
  IsRising-from_pairs R xs (λ i j d low high. h (suc i) (suc j) d (omega (arith, low)) (omega (arith, high))),
)

pub IsRising-filter : {X : Type 0} (R : X → X → Ordering) (p : X → Bool) (xs : List X) → IsRising R xs → IsRising R (filter p xs)
IsRising-filter R p [] h = tt
IsRising-filter R p (x ∷ xs) h =
    cond_both (p x) (x ∷ filter p xs) (filter p xs) (λ zs. IsRising R zs)
    (λ _. (λ y c. h.0 y (filter_passes_one p xs y c).0, IsRising-filter R p xs h.1))
    (λ _. IsRising-filter R p xs h.1)

module _ {X : Type 0} (R : X → X → Ordering) (total : IsTotalOrder R) where
  -- nothing is before itself, and no two are before each other
  not_both : (x y : X) → R x y ≡ Less → R y x ≡ Less → ⊥
  not_both x y p q = let e = total.antisymm x y in let f = ap ordering_reverse q in let odd : Less ≡ Greater = sym p ∙ e ∙ f in cc

  pub rising_same : (xs ys : List X) → IsRising R xs → IsRising R ys → ((x : X) → Contains xs x ↔ Contains ys x) → xs ≡ ys
  rising_same [] [] p q same = refl
  rising_same [] (y ∷ ys) p q same = absurd (Contains-nil y ((same y).1 (Contains-head y ys)))
  rising_same (x ∷ xs) [] p q same = absurd (Contains-nil x ((same x).0 (Contains-head x xs)))
  rising_same (x ∷ xs) (y ∷ ys) p q same =
      let heads : x ≡ y =
      elim (Contains-cases y ys x ((same x).0 (Contains-head x xs))) [
        | inl e ↦ sym e
        | inr later ↦ elim (Contains-cases x xs y ((same y).1 (Contains-head y ys))) [
          | inl e ↦ e
          | inr later' ↦ absurd (not_both x y (p.0 y later') (q.0 x later))
        ]
      ] in
      let tails : (z : X) → Contains xs z ↔ Contains ys z = λ z. (
        λ c. elim (Contains-cases y ys z ((same z).0 (Contains-tail x xs z c))) [
          | inl e ↦ absurd (let before = p.0 z c in let e' : x ≡ z = heads ∙ e in not_both x x (subst (λ v. R x v ≡ Less) (sym e') before) (subst (λ v. R x v ≡ Less) (sym e') before))
          | inr later ↦ later
        ],
        λ c. elim (Contains-cases x xs z ((same z).1 (Contains-tail y ys z c))) [
          | inl e ↦ absurd (let before = q.0 z c in let e' : y ≡ z = sym heads ∙ e in not_both y y (subst (λ v. R y v ≡ Less) (sym e') before) (subst (λ v. R y v ≡ Less) (sym e') before))
          | inr later ↦ later
        ],
      ) in
      λ i. heads i ∷ rising_same xs ys p.1 q.1 tails i
