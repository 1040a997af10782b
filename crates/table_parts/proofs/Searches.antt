-- Searches through a list, place by place.
use Rattle.std.proofs.Common.{◌≡◌, ◌↔◌, ℕ, ◌+◌, ◌<◌, ◌≤◌, List, length, get_or, sym, ◌∙◌, subst, inl, inr, arith}
use Rattle.std.specs.List.{Any, Contains}
use Rattle.std.proofs.lemmas.Bool.{cases_lt}
use Rattle.std.proofs.lemmas.List.{get_or_default}

-- none of the members before a place is so
abbrev pub NoneBelow : {X : Type 0} → (X → Type 0) → List X → ℕ → Type 0
NoneBelow {X} P xs i = (k : ℕ) (d : X) → k < i → P (get_or xs k d) → ⊥

pub none_begin : {X : Type 0} (P : X → Type 0) (xs : List X) → NoneBelow P xs 0
none_begin P xs k d below is = omega (arith, below)

pub none_more : {X : Type 0} (P : X → Type 0) (xs : List X) (i : ℕ) (x : X) → NoneBelow P xs i → i < length xs → x ≡ get_or xs i x → (P x → ⊥) → NoneBelow P xs (i + 1)
none_more {X} P xs i x none within is not k d below so =
    elim (cases_lt k i) [
      | inl before ↦ none k d before so
      | inr now ↦ let same : k ≡ i = omega (arith, now, below) in
          not (subst P (sym (is ∙ get_or_default xs i x d within)) (subst (λ n. P (get_or xs n d)) same so))
    ]

pub none_any : {X : Type 0} (P : X → Type 0) (xs : List X) (i : ℕ) → NoneBelow P xs i → length xs ≤ i → Any P xs → ⊥
none_any P xs i none all h = none h.0 h.1 (omega (arith, h.2, all)) (subst P (sym h.3) h.4)

pub some_any : {X : Type 0} (P : X → Type 0) (xs : List X) (i : ℕ) (x : X) → i < length xs → x ≡ get_or xs i x → P x → Any P xs
some_any P xs i x within is so = (i, x, within, sym is, so)

-- a list contains what equals one of its members
pub contains_any : {X : Type 0} (xs : List X) (x : X) → Contains xs x ↔ Any (λ y. y ≡ x) xs
contains_any xs x = (λ h. (h.0, x, h.1, h.2, λ i. x), λ h. subst (λ z. Contains xs z) h.4 (h.0, h.2, h.3))
