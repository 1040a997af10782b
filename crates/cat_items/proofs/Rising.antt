-- Lists in strict order, put together and taken apart.
use Rattle.std.proofs.Common.{◌≡◌, ◌≢◌, ◌↔◌, ◌⊎◌, ℕ, zero, suc, ◌+◌, ◌<◌, ◌≤◌, List, [], ◌∷◌, ◌++◌, length, get_or, take, drop, Ordering, sym, subst, refl, ap, ◌∙◌, inl, inr, arith}
use Rattle.std.specs.List.{Contains, AllPairs}
use Rattle.std.specs.declared.cmp.Ordering.TheVariants.{Less, Equal, Greater}
use Rattle.std.specs.Ordering.{ordering_reverse}
use Rattle.std.specs.Cmp.{IsTotalOrder}
use Rattle.std.proofs.lemmas.List.{take-append-drop, get_or-take, get_or-drop}
use Rattle.std.proofs.lemmas.List.Elements.{Contains-get_or, Contains-append_left, Contains-append_right, Contains-append_cases}
use Rattle.finite_chains.specs.StrictOrder.{IsRising}
use Rattle.finite_chains.proofs.Members.{Contains-nil, Contains-head, Contains-tail, Contains-cases}

-- the same by index
pub pairs_from_rising : {X : Type 0} (R : X → X → Ordering) (xs : List X) → IsRising R xs → AllPairs (λ a b. R a b ≡ Less) xs
pairs_from_rising R [] h i j d low high = absurd (omega (arith, high))
pairs_from_rising R (x ∷ xs) h i zero d low high = absurd (omega (arith, low))
pairs_from_rising R (x ∷ xs) h zero (suc j) d low high = h.0 (get_or xs j d) (Contains-get_or xs j d (omega (arith, high)))
pairs_from_rising R (x ∷ xs) h (suc i) (suc j) d low high = pairs_from_rising R xs h.1 i j d (omega (arith, low)) (omega (arith, high))

pub rising_append : {X : Type 0} (R : X → X → Ordering) (xs ys : List X) → IsRising R xs → IsRising R ys → ((a b : X) → Contains xs a → Contains ys b → R a b ≡ Less) → IsRising R (xs ++ ys)
rising_append R [] ys p q across = q
rising_append R (x ∷ xs) ys p q across = (
  λ y c. elim (Contains-append_cases xs ys y c) [
    | inl near ↦ p.0 y near
    | inr far ↦ across x y (Contains-head x xs) far
  ],
  rising_append R xs ys p.1 q (λ a b ca cb. across a b (Contains-tail x xs a ca) cb),
)

pub rising_left : {X : Type 0} (R : X → X → Ordering) (xs ys : List X) → IsRising R (xs ++ ys) → IsRising R xs
rising_left R [] ys h = tt
rising_left R (x ∷ xs) ys h = (λ y c. h.0 y (Contains-append_left xs ys y c), rising_left R xs ys h.1)

pub rising_right : {X : Type 0} (R : X → X → Ordering) (xs ys : List X) → IsRising R (xs ++ ys) → IsRising R ys
rising_right R [] ys h = h
rising_right R (x ∷ xs) ys h = rising_right R xs ys h.1

pub rising_across : {X : Type 0} (R : X → X → Ordering) (xs ys : List X) → IsRising R (xs ++ ys) → (a b : X) → Contains xs a → Contains ys b → R a b ≡ Less
rising_across R [] ys h a b ca cb = absurd (Contains-nil a ca)
rising_across R (x ∷ xs) ys h a b ca cb =
    elim (Contains-cases x xs a ca) [
      | inl e ↦ subst (λ z. R z b ≡ Less) e (h.0 b (Contains-append_right xs ys b cb))
      | inr later ↦ rising_across R xs ys h.1 a b later cb
    ]

-- an item of the front of a list, by its place
pub fact_from_take : {X : Type 0} (P : X → Type 0) (xs : List X) (n : ℕ) → n ≤ length xs → ((k : ℕ) (d : X) → k < n → P (get_or xs k d)) → (y : X) → Contains (take n xs) y → P y
fact_from_take P xs n within holds y c =
    let below : c.0 < n = fronts xs n c.0 within c.1 in
    subst P (sym (get_or-take n xs c.0 y below) ∙ c.2) (holds c.0 y below)
  where
    fronts : {X : Type 0} (xs : List X) (n k : ℕ) → n ≤ length xs → k < length (take n xs) → k < n
    fronts xs n k within h = omega (arith, Rattle.std.proofs.lemmas.List.length-take-le n xs within)

-- an item of the rest of a list, by its place
pub fact_from_drop : {X : Type 0} (P : X → Type 0) (xs : List X) (n : ℕ) → ((k : ℕ) (d : X) → n ≤ k → k < length xs → P (get_or xs k d)) → (y : X) → Contains (drop n xs) y → P y
fact_from_drop P xs n holds y c =
    let there : n + c.0 < length xs = rests xs n c.0 c.1 in
    subst P (sym (get_or-drop n xs c.0 y) ∙ c.2) (holds (n + c.0) y (omega arith) there)
  where
    rests : {X : Type 0} (xs : List X) (n k : ℕ) → k < length (drop n xs) → n + k < length xs
    rests xs n k h = omega (arith, Rattle.std.proofs.lemmas.List.length-drop n xs)

-- what is neither less nor equal is greater
greater_else : (o : Ordering) → o ≢ Less → o ≢ Equal → o ≡ Greater
greater_else Less p q = absurd (p refl)
greater_else Equal p q = absurd (q refl)
greater_else Greater p q = refl

pub less_back : {X : Type 0} (R : X → X → Ordering) → IsTotalOrder R → (x y : X) → R y x ≢ Less → R y x ≢ Equal → R x y ≡ Less
less_back R total x y p q = total.antisymm x y ∙ ap ordering_reverse (greater_else (R y x) p q)

-- an item that goes between a front that is before it and a rest that isn't and that doesn't equal it
pub rising_insert : {X : Type 0} (R : X → X → Ordering) → IsTotalOrder R → (xs ys : List X) (x : X) → IsRising R (xs ++ ys) → ((a : X) → Contains xs a → R a x ≡ Less) → ((b : X) → Contains ys b → R b x ≢ Less) → ((b : X) → Contains ys b → R b x ≢ Equal) → IsRising R (xs ++ x ∷ ys)
rising_insert R total xs ys x h before after other =
    rising_append R xs (x ∷ ys) (rising_left R xs ys h) (λ b c. less_back R total x b (after b c) (other b c), rising_right R xs ys h)
    (λ a b ca cb. elim (Contains-cases x ys b cb) [
      | inl e ↦ subst (λ z. R a z ≡ Less) e (before a ca)
      | inr later ↦ rising_across R xs ys h a b ca later
    ])

-- what a list has with one item more
pub Contains-insert : {X : Type 0} (xs ys : List X) (x z : X) → Contains (xs ++ x ∷ ys) z ↔ (Contains (xs ++ ys) z ⊎ (z ≡ x))
Contains-insert xs ys x z = (
  λ c. elim (Contains-append_cases xs (x ∷ ys) z c) [
    | inl near ↦ inl (Contains-append_left xs ys z near)
    | inr far ↦ elim (Contains-cases x ys z far) [ inl e ↦ inr (sym e) | inr later ↦ inl (Contains-append_right xs ys z later) ]
  ],
  λ h. elim h [
    | inl c ↦ elim (Contains-append_cases xs ys z c) [
      | inl near ↦ Contains-append_left xs (x ∷ ys) z near
      | inr far ↦ Contains-append_right xs (x ∷ ys) z (Contains-tail x ys z far)
    ]
    | inr e ↦ subst (λ v. Contains (xs ++ x ∷ ys) v) (sym e) (Contains-append_right xs (x ∷ ys) x (Contains-head x ys))
  ],
)
