-- What is at marked places.
use Rattle.std.proofs.Common.{◌≡◌, ℕ, zero, suc, ◌<◌, Bool, true, false, List, [], ◌∷◌, Option, None, Some, length, get_or, refl, inl, inr, arith}
use Rattle.std.specs.List.{Contains}
use Rattle.std.proofs.lemmas.Bool.{both_ways}
use Rattle.std.proofs.lemmas.List.Elements.{Contains-get_or}
use Rattle.finite_chains.proofs.Members.{Contains-nil, Contains-head, Contains-tail, Contains-cases}
use Rattle.role_graph.specs.Marked.{marked, counted, counts}

-- an item at a marked place is among the marked ones
pub Contains-marked : {X : Type 0} (xs : List X) (m : List Bool) (k : ℕ) (d : X) → k < length xs → get_or m k false ≡ true → Contains (marked xs m) (get_or xs k d)
Contains-marked [] m k d low t = absurd (omega (arith, low))
Contains-marked (x ∷ xs) [] k d low t = absurd (both_ways false refl t)
Contains-marked (x ∷ xs) (true ∷ m) zero d low t = Contains-head x (marked xs m)
Contains-marked (x ∷ xs) (false ∷ m) zero d low t = absurd (both_ways false refl t)
Contains-marked (x ∷ xs) (true ∷ m) (suc k) d low t = Contains-tail x (marked xs m) (get_or xs k d) (Contains-marked xs m k d (omega (arith, low)) t)
Contains-marked (x ∷ xs) (false ∷ m) (suc k) d low t = Contains-marked xs m k d (omega (arith, low)) t

-- the place of an item that counts
pub record IsPlaceOf {X : Type 0} (xs : List X) (counts_at : ℕ → Bool) (y : X) (k : ℕ) : Type 0 where
  pub low : k < length xs
  pub mark : counts_at k ≡ true
  pub is : get_or xs k y ≡ y

-- a marked item has a marked place
pub place_of_marked : {X : Type 0} (xs : List X) (m : List Bool) (y : X) → Contains (marked xs m) y → (k : ℕ) × IsPlaceOf xs (λ j. get_or m j false) y k
place_of_marked [] m y h = absurd (Contains-nil y h)
place_of_marked (x ∷ xs) [] y h = absurd (Contains-nil y h)
place_of_marked (x ∷ xs) (true ∷ m) y h =
    elim (Contains-cases x (marked xs m) y h) [
      | inl e ↦ (0, record { low = omega arith; mark = refl; is = e })
      | inr later ↦ let r = place_of_marked xs m y later in (suc r.0, record { low = omega (arith, r.1.low); mark = r.1.mark; is = r.1.is })
    ]
place_of_marked (x ∷ xs) (false ∷ m) y h =
    let r = place_of_marked xs m y h in (suc r.0, record { low = omega (arith, r.1.low); mark = r.1.mark; is = r.1.is })

-- an item at a place that counts is among those that count
pub Contains-counted : {X : Type 0} (xs : List X) (marks : Option (List Bool)) (k : ℕ) (d : X) → k < length xs → counts marks k ≡ true → Contains (counted xs marks) (get_or xs k d)
Contains-counted xs None k d low t = Contains-get_or xs k d low
Contains-counted xs (Some m) k d low t = Contains-marked xs m k d low t

pub place_of_counted : {X : Type 0} (xs : List X) (marks : Option (List Bool)) (y : X) → Contains (counted xs marks) y → (k : ℕ) × IsPlaceOf xs (counts marks) y k
place_of_counted xs None y h = (h.0, record { low = h.1; mark = refl; is = h.2 })
place_of_counted xs (Some m) y h = let r = place_of_marked xs m y h in (r.0, record { low = r.1.low; mark = r.1.mark; is = r.1.is })
