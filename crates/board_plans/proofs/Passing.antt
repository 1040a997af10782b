-- A list of which all so far passes a test.
use Rattle.std.proofs.Common.{◌≡◌, ℕ, zero, suc, ◌+◌, ◌≤◌, ◌&&◌, Bool, true, false, List, [], ◌∷◌, length, get_or, take, Some, slice_get, sym, ◌∙◌, ap, inl, inr, arith}
use Rattle.std.specs.List.{count_by, list_all}
use Rattle.std.proofs.lemmas.List.Folds.{list_all_at, list_all_more}
use Rattle.std.proofs.lemmas.Bool.{cases_Bool}
use Rattle.std.proofs.lemmas.Grind.{common_steps}
use Rattle.link_marks.proofs.Places.{place_of_some, read_of_some}

module _ (p : ℕ → Bool) where
  -- one more
  pub more_pass : (xs : List ℕ) (i x : ℕ) → Some x ≡ slice_get xs i → list_all p (take i xs) ≡ true → p x ≡ true → list_all p (take (i + 1) xs) ≡ true
  more_pass xs i x at so_far here =
      list_all_more p xs i x (place_of_some xs i x at).0 ∙ ap (λ b. b && p (get_or xs i x)) so_far ∙ sym (ap p (read_of_some xs i x at)) ∙ here

  -- one that doesn't pass
  pub one_fails : (xs : List ℕ) (i x : ℕ) → Some x ≡ slice_get xs i → p x ≡ false → list_all p xs ≡ false
  one_fails xs i x at fails = list_all_at p xs i x (place_of_some xs i x at).0 (sym (ap p (read_of_some xs i x at)) ∙ fails)

  -- so many pass at least
  pub so_many : (xs : List ℕ) (i : ℕ) → i ≤ length xs → list_all p (take i xs) ≡ true → i ≤ count_by p xs
  so_many xs zero within so_far = omega arith
  so_many [] (suc i) within so_far = absurd (omega arith)
  so_many (x ∷ xs) (suc i) within so_far =
      elim (cases_Bool (p x)) [
        | inl here ↦
            let rest = so_many xs i (omega arith) (sym (ap (λ b. b && list_all p (take i xs)) here) ∙ so_far) in
            grind (arith, common_steps, rest, here)
        | inr fails ↦ absurd (false_is (sym (ap (λ b. b && list_all p (take i xs)) fails) ∙ so_far))
      ]
    where
      false_is : false ≡ true → ⊥
      false_is e = cc
