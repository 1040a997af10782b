-- The function gives the survivors.
use Rattle.std.proofs.Common.{◌≡◌, ◌⊎◌, ℕ, zero, suc, ◌+◌, ◌≤◌, Bool, false, List, [], ◌∷◌, length, sym, subst, refl, inl, inr, arith}
use Rattle.std.specs.List.{Contains}
use Rattle.std.proofs.lemmas.Bool.{cases_Bool, both_ways, cond_both}
use Rattle.finite_chains.specs.Chains.{IsWithin, IsChain, IsMonotone, HasSurvivors}
use Rattle.finite_chains.specs.Growth.{without_first, with_first, grown, IsTest}
use Rattle.finite_chains.proofs.Members.{Contains-nil, Contains-head, Contains-tail, Contains-cases, IsWithin-cons}
use Rattle.finite_chains.proofs.Chains.{chain_within_closed}

left_within : {X : Type 0} (p : X → Bool) (xs : List X) → IsWithin (without_first p xs) xs
left_within p [] y = λ h. h
left_within {X} p (x ∷ xs) y =
    cond_both (p x) xs (x ∷ without_first p xs) (λ zs. Contains zs y → Contains (x ∷ xs) y)
    (λ _ h. Contains-tail x xs y h)
    (λ _ h. IsWithin-cons x (without_first p xs) (x ∷ xs) (Contains-head x xs) (λ z k. Contains-tail x xs z (left_within p xs z k)) y h)

-- each item is left or was put on, or none passed
parts : {X : Type 0} (p : X → Bool) (xs chain : List X) (y : X) → Contains xs y → Contains (without_first p xs) y ⊎ Contains (with_first p xs chain) y
parts p [] chain y h = absurd (Contains-nil y h)
parts {X} p (x ∷ xs) chain y h =
    elim (cases_Bool (p x)) [
      | inl on ↦ rw (on) (elim (Contains-cases x xs y h) [ inl e ↦ inr (subst (λ z. Contains (x ∷ chain) z) e (Contains-head x chain)) | inr later ↦ inl later ])
      | inr off ↦ rw (off) (elim (Contains-cases x xs y h) [
        | inl e ↦ inl (subst (λ z. Contains (x ∷ without_first p xs) z) e (Contains-head x (without_first p xs)))
        | inr later ↦ elim (parts p xs chain y later) [ inl l ↦ inl (Contains-tail x (without_first p xs) y l) | inr r ↦ inr r ]
      ])
    ]

chain_kept : {X : Type 0} (p : X → Bool) (xs chain : List X) → IsWithin chain (with_first p xs chain)
chain_kept p [] chain y h = h
chain_kept p (x ∷ xs) chain y h =
    cond_both (p x) (x ∷ chain) (with_first p xs chain) (λ zs. Contains zs y) (λ _. Contains-tail x chain y h) (λ _. chain_kept p xs chain y h)

chain_more : {X : Type 0} (sup : List X → X → Type 0) (test : List X → X → Bool) → IsTest sup test → (c xs chain : List X) → IsWithin xs c → IsChain sup c chain → IsChain sup c (with_first (test chain) xs chain)
chain_more sup test is c [] chain w h = h
chain_more sup test is c (x ∷ xs) chain w h =
    cond_both (test chain x) (x ∷ chain) (with_first (test chain) xs chain) (λ zs. IsChain sup c zs)
    (λ on. (w x (Contains-head x xs), (is chain x).0 on, h))
    (λ _. chain_more sup test is c xs chain (λ z k. w z (Contains-tail x xs z k)) h)

-- either none passes, or one is less
fewer : {X : Type 0} (p : X → Bool) (xs chain : List X) → (((y : X) → Contains xs y → p y ≡ false) × (with_first p xs chain ≡ chain)) ⊎ (length (without_first p xs) + 1 ≡ length xs)
fewer p [] chain = inl ((λ y h. absurd (Contains-nil y h)), refl)
fewer {X} p (x ∷ xs) chain =
    elim (cases_Bool (p x)) [
      | inl on ↦ inr (rw (on) (omega arith))
      | inr off ↦ elim (fewer p xs chain) [
        | inl none ↦ inl ((λ y h. elim (Contains-cases x xs y h) [ inl e ↦ subst (λ z. p z ≡ false) e off | inr later ↦ none.0 y later ]), rw (off) none.1)
        | inr less ↦ inr (rw (off) (omega (arith, less)))
      ]
    ]

pub grown_chain : {X : Type 0} (sup : List X → X → Type 0) (test : List X → X → Bool) → IsTest sup test → (c : List X) (n : ℕ) (left chain : List X) → IsWithin left c → IsChain sup c chain → IsChain sup c (grown test n left chain)
grown_chain sup test is c zero left chain w h = h
grown_chain sup test is c (suc n) left chain w h =
    grown_chain sup test is c n (without_first (test chain) left) (with_first (test chain) left chain)
    (λ y k. w y (left_within (test chain) left y k)) (chain_more sup test is c left chain w h)

grown_keeps : {X : Type 0} (test : List X → X → Bool) (n : ℕ) (left chain : List X) → IsWithin chain (grown test n left chain)
grown_keeps test zero left chain y h = h
grown_keeps test (suc n) left chain y h =
    grown_keeps test n (without_first (test chain) left) (with_first (test chain) left chain) y (chain_kept (test chain) left chain y h)

none_first : {X : Type 0} (p : X → Bool) (xs chain : List X) → ((y : X) → Contains xs y → p y ≡ false) → with_first p xs chain ≡ chain
none_first p [] chain none = refl
none_first p (x ∷ xs) chain none = rw (none x (Contains-head x xs)) (none_first p xs chain (λ y h. none y (Contains-tail x xs y h)))

-- once none passes, nothing changes
grown_still : {X : Type 0} (test : List X → X → Bool) (n : ℕ) (left chain : List X) → ((y : X) → Contains left y → test chain y ≡ false) → grown test n left chain ≡ chain
grown_still test zero left chain none = refl
grown_still {X} test (suc n) left chain none =
    subst (λ z. grown test n (without_first (test chain) left) z ≡ chain) (sym (none_first (test chain) left chain none))
    (grown_still test n (without_first (test chain) left) chain (λ y h. none y (left_within (test chain) left y h)))

-- in the end nothing more is supported
pub grown_closed : {X : Type 0} (sup : List X → X → Type 0) (test : List X → X → Bool) → IsTest sup test → (c : List X) (n : ℕ) (left chain : List X) → length left ≤ n → ((x : X) → Contains c x → Contains left x ⊎ Contains chain x) → (x : X) → Contains c x → sup (grown test n left chain) x → Contains (grown test n left chain) x
grown_closed sup test is c zero [] chain low cover x here h =
    elim (cover x here) [ inl l ↦ absurd (Contains-nil x l) | inr r ↦ r ]
grown_closed sup test is c zero (y ∷ left) chain low cover x here h = absurd (omega (arith, low))
grown_closed {X} sup test is c (suc n) left chain low cover x here h =
    elim (fewer (test chain) left chain) [
      | inl none ↦
          let still : grown test (suc n) left chain ≡ chain = grown_still test (suc n) left chain none.0 in
          elim (cover x here) [
            | inl l ↦ absurd (both_ways (test chain x) (none.0 x l) ((is chain x).1 (subst (λ z. sup z x) still h)))
            | inr r ↦ subst (λ z. Contains z x) (sym still) r
          ]
      | inr less ↦ grown_closed sup test is c n (without_first (test chain) left) (with_first (test chain) left chain) (omega (arith, less, low))
          (λ y k. elim (cover y k) [ inl l ↦ parts (test chain) left chain y l | inr r ↦ inr (chain_kept (test chain) left chain y r) ]) x here h
    ]

-- the grown chain has exactly the survivors
pub HasSurvivors-grown : {X : Type 0} (sup : List X → X → Type 0) (test : List X → X → Bool) → IsTest sup test → IsMonotone sup → (c : List X) → HasSurvivors sup c (grown test (length c) c [])
HasSurvivors-grown sup test is mono c x =
    let chain = grown_chain sup test is c (length c) c [] (λ y h. h) tt in (
      λ h. (grown test (length c) c [], chain, h),
      λ s. chain_within_closed sup mono c (grown test (length c) c []) (grown_closed sup test is c (length c) c [] (omega arith) (λ y h. inl h)) s.0 s.1 x s.2,
    )
