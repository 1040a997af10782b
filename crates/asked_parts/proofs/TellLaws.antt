-- Lists of which no element is so, or all are.
use Rattle.std.proofs.Common.{◌≡◌, ℕ, ◌+◌, ◌<◌, ◌≤◌, List, length, get_or, sym, ◌∙◌, subst, inl, inr, arith}
use Rattle.std.specs.List.{Contains}
use Rattle.std.proofs.lemmas.Bool.{cases_lt}
use Rattle.std.proofs.lemmas.List.{get_or_default}

-- none before a place
abbrev pub NoneBelow : {X : Type 0} → (X → Type 0) → List X → ℕ → Type 0
NoneBelow {X} P xs i = (k : ℕ) (d : X) → k < i → P (get_or xs k d) → ⊥

pub none_more : {X : Type 0} (P : X → Type 0) (xs : List X) (i : ℕ) (x : X) → NoneBelow P xs i → i < length xs → x ≡ get_or xs i x → (P x → ⊥) → NoneBelow P xs (i + 1)
none_more P xs i x before low is not k d below so = elim (cases_lt k i) [
  | inl earlier ↦ before k d earlier so
  | inr now ↦
      let here : k ≡ i = omega (arith, now, below) in
      not (subst P (sym (is ∙ get_or_default xs i x d low)) (subst (λ n. P (get_or xs n d)) here so))
]

pub none_at_all : {X : Type 0} (P : X → Type 0) (xs : List X) (i : ℕ) → length xs ≤ i → NoneBelow P xs i → (y : X) → Contains xs y → P y → ⊥
none_at_all P xs i all none y h so = none h.0 y (omega (arith, all, h.1)) (subst P (sym h.2) so)

-- all before a place are so
abbrev pub AllBelow : {X : Type 0} → (X → Type 0) → List X → ℕ → Type 0
AllBelow {X} P xs i = (k : ℕ) (d : X) → k < i → P (get_or xs k d)

pub all_more : {X : Type 0} (P : X → Type 0) (xs : List X) (i : ℕ) (x : X) → AllBelow P xs i → i < length xs → x ≡ get_or xs i x → P x → AllBelow P xs (i + 1)
all_more P xs i x before low is so k d below = elim (cases_lt k i) [
  | inl earlier ↦ before k d earlier
  | inr now ↦
      let here : i ≡ k = omega (arith, now, below) in
      subst (λ n. P (get_or xs n d)) here (subst P (is ∙ get_or_default xs i x d low) so)
]

pub all_at_all : {X : Type 0} (P : X → Type 0) (xs : List X) (i : ℕ) → length xs ≤ i → AllBelow P xs i → (y : X) → Contains xs y → P y
all_at_all P xs i all every y h = subst P h.2 (every h.0 y (omega (arith, all, h.1)))
