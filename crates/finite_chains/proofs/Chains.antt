-- The theory of chains: joined chains, a closed list has every survivor, survivors of survivors.
use Rattle.std.proofs.Common.{◌≡◌, Bool, true, sym, List, [], ◌∷◌, ◌++◌, subst, inl, inr}
use Rattle.std.specs.List.{Contains, All, AllByRecursion as AllRec}
use Rattle.std.proofs.lemmas.List.Elements.{Contains-append_left, Contains-append_right, All-contains, recursion_from_All}
use Rattle.finite_chains.specs.Chains.{IsWithin, IsChain, Survives, HasSurvivors, IsMonotone, Agree}
use Rattle.finite_chains.proofs.Members.{Contains-nil, Contains-head, Contains-tail, Contains-cases, IsWithin-cons}

-- two chains joined are a chain
pub IsChain-append : {X : Type 0} (sup : List X → X → Type 0) → IsMonotone sup → (c l m : List X) → IsChain sup c l → IsChain sup c m → IsChain sup c (l ++ m)
IsChain-append sup mono c [] m p q = q
IsChain-append sup mono c (x ∷ l) m p q =
    (p.0, mono.more l (l ++ m) x (Contains-append_left l m) p.1, IsChain-append sup mono c l m p.2 q)

-- one chain for a list of survivors
pub chain_of_survivors : {X : Type 0} (sup : List X → X → Type 0) → IsMonotone sup → (c s : List X) → AllRec (Survives sup c) s → (chain : List X) × IsChain sup c chain × IsWithin s chain
chain_of_survivors sup mono c [] all = ([], tt, λ y h. absurd (Contains-nil y h))
chain_of_survivors sup mono c (x ∷ s) all =
    let rest = chain_of_survivors sup mono c s all.1 in
    let first = all.0 in (
      first.0 ++ rest.0,
      IsChain-append sup mono c first.0 rest.0 first.1 rest.1,
      IsWithin-cons x s (first.0 ++ rest.0)
          (Contains-append_left first.0 rest.0 x first.2)
          (λ y h. Contains-append_right first.0 rest.0 y (rest.2 y h)),
    )

-- what survivors support survives
pub Survives-step : {X : Type 0} (sup : List X → X → Type 0) → IsMonotone sup → (c s : List X) (x : X) → All (Survives sup c) s → Contains c x → sup s x → Survives sup c x
Survives-step sup mono c s x all here held =
    let got = chain_of_survivors sup mono c s (recursion_from_All (Survives sup c) s all) in
    (x ∷ got.0, (here, mono.more s got.0 x got.2 held, got.1), Contains-head x got.0)

-- a list that has each item of c that it supports has every chain of c
pub chain_within_closed : {X : Type 0} (sup : List X → X → Type 0) → IsMonotone sup → (c f : List X) → ((x : X) → Contains c x → sup f x → Contains f x) → (chain : List X) → IsChain sup c chain → IsWithin chain f
chain_within_closed sup mono c f closed [] p y h = absurd (Contains-nil y h)
chain_within_closed sup mono c f closed (x ∷ chain) p y h =
    let below : IsWithin chain f = chain_within_closed sup mono c f closed chain p.2 in
    IsWithin-cons x chain f (closed x p.0 (mono.more chain f x below p.1)) below y h

-- rounds find the survivors: what is marked survives, and what is marked supports no unmarked item
pub HasSurvivors-from_rounds : {X : Type 0} (sup : List X → X → Type 0) → IsMonotone sup → (c f : List X) → All (Survives sup c) f → ((x : X) → Contains c x → sup f x → Contains f x) → HasSurvivors sup c f
HasSurvivors-from_rounds sup mono c f sound closed x = (
  All-contains (Survives sup c) f x sound,
  λ s. chain_within_closed sup mono c f closed s.0 s.1 x s.2,
)

-- a chain of c lies in c
pub IsChain-within : {X : Type 0} (sup : List X → X → Type 0) (c chain : List X) → IsChain sup c chain → IsWithin chain c
IsChain-within sup c [] p y h = absurd (Contains-nil y h)
IsChain-within sup c (x ∷ chain) p y h =
    IsWithin-cons x chain c p.0 (IsChain-within sup c chain p.2) y h

-- a chain of the larger list, whose items all survive, is one of the part
chain_down : {X : Type 0} (in_a in_b : List X → X → Type 0) (a b n : List X) → Agree in_a in_b a b n → (chain : List X) → IsWithin chain n → IsChain in_a a chain → IsChain in_b b chain
chain_down in_a in_b a b n laws [] w p = tt
chain_down in_a in_b a b n laws (x ∷ chain) w p =
    let rest : IsWithin chain n = λ y h. w y (Contains-tail x chain y h) in
    let here = w x (Contains-head x chain) in
    (laws.survivors x here, laws.down chain x rest here p.1, chain_down in_a in_b a b n laws chain rest p.2)

chain_up : {X : Type 0} (in_a in_b : List X → X → Type 0) (a b n : List X) → Agree in_a in_b a b n → (chain : List X) → IsChain in_b b chain → IsChain in_a a chain
chain_up in_a in_b a b n laws [] p = tt
chain_up in_a in_b a b n laws (x ∷ chain) p =
    (laws.part x p.0, laws.up chain x (IsChain-within in_b b chain p.2) p.0 p.1, chain_up in_a in_b a b n laws chain p.2)

-- the survivors of a list are those of each part that has them: so survivors, taken again, are themselves
pub HasSurvivors-part : {X : Type 0} (in_a in_b : List X → X → Type 0) (a b n : List X) → Agree in_a in_b a b n → HasSurvivors in_a a n → HasSurvivors in_b b n
HasSurvivors-part {X} in_a in_b a b n laws has x = (
  λ h.
      let s = (has x).0 h in
      let w : IsWithin s.0 n = λ y hy. (has y).1 (s.0, s.1, hy) in
      (s.0, chain_down in_a in_b a b n laws s.0 w s.1, s.2),
  λ s. (has x).1 (s.0, chain_up in_a in_b a b n laws s.0 s.1, s.2),
)

-- items each of which is supported only together with another of them are in no chain
circle_in_no_chain : {X : Type 0} (sup : List X → X → Type 0) (circle : X → Bool) → ((s : List X) (x : X) → circle x ≡ true → sup s x → (y : X) × Contains s y × (circle y ≡ true))
    → (c chain : List X) → IsChain sup c chain → (x : X) → Contains chain x → circle x ≡ true → ⊥
circle_in_no_chain sup circle needs c [] h x has is = Contains-nil x has
circle_in_no_chain sup circle needs c (y ∷ earlier) h x has is =
    elim (Contains-cases y earlier x has) [
      | inl e ↦ let other = needs earlier y (subst (λ z. circle z ≡ true) (sym e) is) h.1 in circle_in_no_chain sup circle needs c earlier h.2 other.0 other.1 other.2
      | inr later ↦ circle_in_no_chain sup circle needs c earlier h.2 x later is
    ]

pub circle_falls : {X : Type 0} (sup : List X → X → Type 0) (circle : X → Bool) → ((s : List X) (x : X) → circle x ≡ true → sup s x → (y : X) × Contains s y × (circle y ≡ true))
    → (c : List X) (x : X) → circle x ≡ true → Survives sup c x → ⊥
circle_falls sup circle needs c x is survives = circle_in_no_chain sup circle needs c survives.0 survives.1 x survives.2 is
