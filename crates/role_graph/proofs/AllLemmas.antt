-- Loops that ask for all of a list.
use Rattle.std.proofs.Common.{◌≡◌, ◌↔◌, ℕ, zero, suc, ◌+◌, ◌<◌, ◌≤◌, List, [], ◌∷◌, length, get_or, sym, ◌∙◌, ap, subst, inl, inr, arith}
use Rattle.std.specs.List.{All}
use Rattle.std.specs.Prelude.{map}
use Rattle.std.proofs.lemmas.Bool.{cases_lt}
use Rattle.std.proofs.lemmas.List.{get_or_default}

-- each before a place is so
abbrev pub AllBelow : {X : Type 0} → (X → Type 0) → List X → ℕ → Type 0
AllBelow {X} P xs i = (k : ℕ) (d : X) → k < i → P (get_or xs k d)

pub all_more : {X : Type 0} (P : X → Type 0) (xs shown : List X) (i : ℕ) (x : X) → shown ≡ xs → AllBelow P xs i → i < length shown → x ≡ get_or shown i x → P x → AllBelow P xs (i + 1)
all_more P xs shown i x same before low is so k d below =
    elim (cases_lt k i) [
      | inl earlier ↦ before k d earlier
      | inr now ↦ let here : i ≡ k = omega (arith, now, below) in
          subst (λ n. P (get_or xs n d)) here (subst P (is ∙ get_or_default shown i x d low ∙ ap (λ l. get_or l i d) same) so)
    ]

pub all_done : {X : Type 0} (P : X → Type 0) (xs shown : List X) (i : ℕ) → shown ≡ xs → AllBelow P xs i → length shown ≤ i → All P xs
all_done P xs shown i same before all k d low = before k d (omega (arith, all, low, ap length same))

pub of_all : {X : Type 0} (P : X → Type 0) (xs shown : List X) (i : ℕ) (x : X) → shown ≡ xs → i < length shown → x ≡ get_or shown i x → All P xs → P x
of_all P xs shown i x same low is all =
    subst P (sym (is ∙ ap (λ l. get_or l i x) same)) (all i x (omega (arith, low, ap length same)))

module _ {X Y : Type 0} (P : Y → Type 0) (f : X → Y) where
  made : (xs : List X) → All (λ x. P (f x)) xs → All P (map f xs)
  made [] all k d low = absurd (omega (arith, low))
  made (x ∷ xs) all zero d low = all 0 x (omega arith)
  made (x ∷ xs) all (suc k) d low = made xs (λ j e below. all (suc j) e (omega (arith, below))) k d (omega (arith, low))

  unmade : (xs : List X) → All P (map f xs) → All (λ x. P (f x)) xs
  unmade [] all k d low = absurd (omega (arith, low))
  unmade (x ∷ xs) all zero d low = all 0 (f x) (omega arith)
  unmade (x ∷ xs) all (suc k) d low = unmade xs (λ j e below. all (suc j) e (omega (arith, below))) k d (omega (arith, low))

  -- what is made of each element is so
  pub all_map : (xs : List X) → All (λ x. P (f x)) xs ↔ All P (map f xs)
  all_map xs = (made xs, unmade xs)

-- a list of one
pub all_one : {X : Type 0} (P : X → Type 0) (x : X) → P x ↔ All P (x ∷ [])
all_one {X} P x = (one, λ all. all 0 x (omega arith))
  where
    one : P x → All P (x ∷ [])
    one so zero d low = so
    one so (suc k) d low = absurd (omega (arith, low))
