-- Lists without repeats, lists made of others, and lists in turn.
use Rattle.std.proofs.Common.{◌≡◌, ◌≢◌, ◌<◌, ℕ, zero, suc, List, [], ◌∷◌, ◌++◌, length, map, get_or, slice_get, Some, inl, inr, refl, sym, ◌∙◌, ap, subst, arith}
use Rattle.std.specs.List.{AllPairs, AllZip, Contains, flat_map, zip}
use Rattle.std.proofs.lemmas.List.Elements.{Contains-append_cases, Contains-append_left, Contains-append_right}
use Rattle.std.proofs.lemmas.List.Kept.{AllPairs-cons}
use Rattle.item_index.specs.Graphs.{Graph, inserted}
use Rattle.item_index.specs.Undo.{numbers_given}
use Rattle.finite_chains.proofs.Members.{All-from_contains, Contains-cases, Contains-head, Contains-nil, Contains-tail}

-- ---- no element is among the later ones

abbrev pub Apart : {X : Type 0} → List X → Type 0
Apart [] = Unit {0}
Apart (x ∷ xs) = (Contains xs x → ⊥) × Apart xs

pub pairs_of_apart : {X : Type 0} (xs : List X) → Apart xs → AllPairs (λ a b. a ≢ b) xs
pairs_of_apart [] apart = λ i j d before below. absurd (omega arith)
pairs_of_apart (x ∷ xs) apart =
    AllPairs-cons (λ a b. a ≢ b) x xs (All-from_contains (λ y. x ≢ y) xs (λ y h e. apart.0 (subst (Contains xs) (sym e) h))) (pairs_of_apart xs apart.1)

pub apart_of_pairs : {X : Type 0} (xs : List X) → AllPairs (λ a b. a ≢ b) xs → Apart xs
apart_of_pairs [] pairs = tt
apart_of_pairs (x ∷ xs) pairs = (
  λ h. pairs 0 (suc h.0) x (omega arith) (omega (arith, h.1)) (sym h.2),
  apart_of_pairs xs (λ i j d before below. pairs (suc i) (suc j) d (omega arith) (omega arith)),
)

pub apart_append : {X : Type 0} (xs ys : List X) → Apart xs → Apart ys → ((z : X) → Contains xs z → Contains ys z → ⊥) → Apart (xs ++ ys)
apart_append [] ys one other none = other
apart_append (x ∷ xs) ys one other none = (
  λ h. elim (Contains-append_cases xs ys x h) [ inl here ↦ one.0 here | inr there ↦ none x (Contains-head x xs) there ],
  apart_append xs ys one.1 other (λ z here there. none z (Contains-tail x xs z here) there),
)

-- ---- images

pub of_map : {X Y : Type 0} (f : X → Y) (xs : List X) (y : Y) → Contains (map f xs) y → (x : X) × Contains xs x × (f x ≡ y)
of_map f [] y h = absurd (Contains-nil y h)
of_map {X} {Y} f (x ∷ xs) y h =
    elim (Contains-cases (f x) (map f xs) y h) [
      | inl e ↦ (x, Contains-head x xs, e)
      | inr more ↦ let r = of_map f xs y more in (r.0, Contains-tail x xs r.0 r.1, r.2)
    ]

pub map_has : {X Y : Type 0} (f : X → Y) (xs : List X) (x : X) → Contains xs x → Contains (map f xs) (f x)
map_has f [] x h = absurd (Contains-nil x h)
map_has {X} {Y} f (z ∷ xs) x h =
    elim (Contains-cases z xs x h) [
      | inl e ↦ subst (λ w. Contains (map f (z ∷ xs)) (f w)) e (Contains-head (f z) (map f xs))
      | inr more ↦ Contains-tail (f z) (map f xs) (f x) (map_has f xs x more)
    ]

pub apart_map : {X Y : Type 0} (f : X → Y) (xs : List X) → ((x y : X) → f x ≡ f y → x ≡ y) → Apart xs → Apart (map f xs)
apart_map f [] own apart = tt
apart_map f (x ∷ xs) own apart = (
  λ h. let r = of_map f xs (f x) h in apart.0 (subst (Contains xs) (own r.0 x r.2) r.1),
  apart_map f xs own apart.1,
)

-- images differ where elements do
pub pairs_map : {X Y : Type 0} (f : X → Y) (xs : List X) → AllPairs (λ a b. f a ≢ f b) xs → Apart (map f xs)
pairs_map f [] pairs = tt
pairs_map f (x ∷ xs) pairs = (
  λ h. let r = of_map f xs (f x) h in pairs 0 (suc r.1.0) r.0 (omega arith) (omega (arith, r.1.1)) (sym (ap f r.1.2 ∙ r.2)),
  pairs_map f xs (λ i j d before below. pairs (suc i) (suc j) d (omega arith) (omega arith)),
)

pub flat_has : {X Y : Type 0} (f : X → List Y) (xs : List X) (x : X) (y : Y) → Contains xs x → Contains (f x) y → Contains (flat_map f xs) y
flat_has f [] x y h is = absurd (Contains-nil x h)
flat_has {X} {Y} f (z ∷ xs) x y h is =
    elim (Contains-cases z xs x h) [
      | inl e ↦ Contains-append_left (f z) (flat_map f xs) y (subst (λ w. Contains (f w) y) (sym e) is)
      | inr later ↦ Contains-append_right (f z) (flat_map f xs) y (flat_has f xs x y later is)
    ]

pub of_flat : {X Y : Type 0} (f : X → List Y) (xs : List X) (y : Y) → Contains (flat_map f xs) y → (x : X) × Contains xs x × Contains (f x) y
of_flat f [] y h = absurd (Contains-nil y h)
of_flat {X} {Y} f (x ∷ xs) y h =
    elim (Contains-append_cases (f x) (flat_map f xs) y h) [
      | inl here ↦ (x, Contains-head x xs, here)
      | inr later ↦ let r = of_flat f xs y later in (r.0, Contains-tail x xs r.0 r.1, r.2)
    ]

-- lists of elements that are told apart by a key, joined end to end
pub apart_flat : {X Y Z : Type 0} (f : X → List Y) (key : X → Z) (xs : List X) → ((x : X) → Contains xs x → Apart (f x))
    → ((x y : X) (z : Y) → Contains xs x → Contains xs y → Contains (f x) z → Contains (f y) z → key x ≡ key y) → Apart (map key xs) → Apart (flat_map f xs)
apart_flat f key [] each same apart = tt
apart_flat f key (x ∷ xs) each same apart =
    apart_append (f x) (flat_map f xs) (each x (Contains-head x xs))
    (apart_flat f key xs (λ y h. each y (Contains-tail x xs y h)) (λ y w z h k. same y w z (Contains-tail x xs y h) (Contains-tail x xs w k)) apart.1)
    (λ z here there.
    let r = of_flat f xs z there in
    apart.0 (subst (Contains (map key xs)) (sym (same x r.0 z (Contains-head x xs) (Contains-tail x xs r.0 r.1) here r.2)) (map_has key xs r.0 r.1)))

-- ---- two lists, place by place

module _ {X Y : Type 0} (R : X → Y → Type 0) where
  pub zip_left : (xs : List X) (ys : List Y) → AllZip R xs ys → (x : X) → Contains xs x → (y : Y) × Contains ys y × R x y
  zip_left [] [] all x h = absurd (Contains-nil x h)
  zip_left [] (y ∷ ys) all x h = absurd all
  zip_left (z ∷ xs) [] all x h = absurd all
  zip_left (z ∷ xs) (y ∷ ys) all x h =
      elim (Contains-cases z xs x h) [
        | inl e ↦ (y, Contains-head y ys, subst (λ (w : X). R w y) e all.0)
        | inr later ↦ let r = zip_left xs ys all.1 x later in (r.0, Contains-tail y ys r.0 r.1, r.2)
      ]

  pub zip_right : (xs : List X) (ys : List Y) → AllZip R xs ys → (y : Y) → Contains ys y → (x : X) × Contains xs x × R x y
  zip_right [] [] all y h = absurd (Contains-nil y h)
  zip_right (x ∷ xs) [] all y h = absurd all
  zip_right [] (z ∷ ys) all y h = absurd all
  zip_right (x ∷ xs) (z ∷ ys) all y h =
      elim (Contains-cases z ys y h) [
        | inl e ↦ (x, Contains-head x xs, subst (λ (w : Y). R x w) e all.0)
        | inr later ↦ let r = zip_right xs ys all.1 y later in (r.0, Contains-tail x xs r.0 r.1, r.2)
      ]

  pub zip_append : (xs : List X) (ys : List Y) (zs : List X) (ws : List Y) → AllZip R xs ys → AllZip R zs ws → AllZip R (xs ++ zs) (ys ++ ws)
  zip_append [] [] zs ws all more = more
  zip_append [] (y ∷ ys) zs ws all more = absurd all
  zip_append (x ∷ xs) [] zs ws all more = absurd all
  zip_append (x ∷ xs) (y ∷ ys) zs ws all more = (all.0, zip_append xs ys zs ws all.1 more)

  pub zip_read : (xs : List X) (ys : List Y) (i : ℕ) (d : X) (e : Y) → AllZip R xs ys → i < length xs → R (get_or xs i d) (get_or ys i e)
  zip_read [] ys i d e all below = absurd (omega arith)
  zip_read (x ∷ xs) [] i d e all below = absurd all
  zip_read (x ∷ xs) (y ∷ ys) zero d e all below = all.0
  zip_read (x ∷ xs) (y ∷ ys) (suc i) d e all below = zip_read xs ys i d e all.1 (omega arith)

  -- images of the second list differ where elements of the first do
  pub zip_apart : {Z : Type 0} (f : Y → Z) (xs : List X) (ys : List Y) → AllZip R xs ys → ((x w : X) (y z : Y) → Contains xs x → Contains xs w → R x y → R w z → f y ≡ f z → x ≡ w) → Apart xs → Apart (map f ys)
  zip_apart f [] [] all own apart = tt
  zip_apart f [] (y ∷ ys) all own apart = absurd all
  zip_apart f (x ∷ xs) [] all own apart = absurd all
  zip_apart f (x ∷ xs) (y ∷ ys) all own apart = (
    λ h.
        let r = of_map f ys (f y) h in
        let s = zip_right xs ys all.1 r.0 r.1 in
        apart.0 (subst (Contains xs) (own s.0 x r.0 y (Contains-tail x xs s.0 s.1) (Contains-head x xs) s.2 all.0 r.2) s.1),
    zip_apart f xs ys all.1 (λ a b c d h k. own a b c d (Contains-tail x xs a h) (Contains-tail x xs b k)) apart.1,
  )

pub zip_weaker : {X Y : Type 0} (R S : X → Y → Type 0) (xs : List X) (ys : List Y) → ((x : X) (y : Y) → R x y → S x y) → AllZip R xs ys → AllZip S xs ys
zip_weaker R S [] [] weaker all = tt
zip_weaker R S [] (y ∷ ys) weaker all = absurd all
zip_weaker R S (x ∷ xs) [] weaker all = absurd all
zip_weaker R S (x ∷ xs) (y ∷ ys) weaker all = (weaker x y all.0, zip_weaker R S xs ys weaker all.1)

-- ---- pairs of two lists

pub zip_at : {K : Type 0} (numbers : List ℕ) (keys : List K) (place : ℕ) (k : K) → length numbers ≡ length keys → slice_get keys place ≡ Some k → Contains (zip numbers keys) (get_or numbers place 0, k)
zip_at numbers [] place k len at = cc
zip_at [] (j ∷ keys) place k len at = absurd (omega arith)
zip_at {K} (n ∷ numbers) (j ∷ keys) zero k len at =
    let e : j ≡ k = cc in subst (λ (i : K). Contains ((n, j) ∷ zip numbers keys) (n, i)) e (Contains-head (n, j) (zip numbers keys))
zip_at (n ∷ numbers) (j ∷ keys) (suc place) k len at = Contains-tail (n, j) (zip numbers keys) (get_or numbers place 0, k) (zip_at numbers keys place k (omega arith) at)

pub zip_key : {K : Type 0} (numbers : List ℕ) (keys : List K) (n : ℕ) (k : K) → Contains (zip numbers keys) (n, k) → Contains keys k
zip_key [] keys n k h = absurd (Contains-nil (n, k) h)
zip_key (m ∷ numbers) [] n k h = absurd (Contains-nil (n, k) h)
zip_key {K} (m ∷ numbers) (j ∷ keys) n k h =
    elim (Contains-cases (m, j) (zip numbers keys) (n, k) h) [
      | inl e ↦ subst (Contains (j ∷ keys)) (ap (λ (p : ℕ × K). p.1) e) (Contains-head j keys)
      | inr later ↦ Contains-tail j keys k (zip_key numbers keys n k later)
    ]

pub zip_one : {K : Type 0} (numbers : List ℕ) (keys : List K) (m n : ℕ) (k : K) → Apart keys → Contains (zip numbers keys) (m, k) → Contains (zip numbers keys) (n, k) → m ≡ n
zip_one [] keys m n k apart h g = absurd (Contains-nil (m, k) h)
zip_one (i ∷ numbers) [] m n k apart h g = absurd (Contains-nil (m, k) h)
zip_one {K} (i ∷ numbers) (j ∷ keys) m n k apart h g =
    elim (Contains-cases (i, j) (zip numbers keys) (m, k) h) [
      | inl e ↦ (elim (Contains-cases (i, j) (zip numbers keys) (n, k) g) [
        | inl f ↦ sym (ap (λ (p : ℕ × K). p.0) e) ∙ ap (λ (p : ℕ × K). p.0) f
        | inr later ↦ absurd (never m e n later)
      ])
      | inr later ↦ (elim (Contains-cases (i, j) (zip numbers keys) (n, k) g) [
        | inl f ↦ absurd (never n f m later)
        | inr more ↦ zip_one numbers keys m n k apart.1 later more
      ])
    ]
  where
    never : (l : ℕ) → ◌≡◌ {A = ℕ × K} (i, j) (l, k) → (o : ℕ) → Contains (zip numbers keys) (o, k) → ⊥
    never l e o later = apart.0 (subst (Contains keys) (sym (ap (λ (p : ℕ × K). p.1) e)) (zip_key numbers keys o k later))

pub length-given : {K : Type 0} (g : Graph K) (keys : List K) → length (numbers_given g keys) ≡ length keys
length-given g [] = refl
length-given g (k ∷ keys) = ap (λ (n : ℕ). suc n) (length-given (inserted g k) keys)
