-- Lists without repeats that have the same elements are equally long; numbered elements.
use Rattle.std.proofs.Common.{◌≡◌, inl, inr, sym, ap, subst, ◌∙◌, ℕ, ◌+◌, ◌<◌, ◌≤◌, List, [], ◌∷◌, map, length, arith}
use Rattle.std.specs.Prelude.{◌↔◌}
use Rattle.std.specs.List.{Contains}
use Rattle.std.specs.Str.{bytes_eq}
use Rattle.std.specs.Cmp.{decided}
use Rattle.std.proofs.lemmas.Bool.{cases_lt}
use Rattle.std.proofs.lemmas.Slice.Eq.{bytes_eq-Decides}
use Rattle.std.proofs.lemmas.Map.Made.{length-le_from_is_member, IsDistinct-from_AllPairs}
use Rattle.std.proofs.lemmas.Map.Views.{Contains-from_any, list_any-from_Contains}
use Rattle.finite_chains.proofs.Members.{Contains-nil, Contains-head, Contains-tail, Contains-cases}
use Rattle.cat_items.specs.Shape.{Differ}
use Rattle.schema_tables.specs.TableRows.{numbered}

shorter : (xs ys : List (List ℕ)) → Differ xs → ((x : List ℕ) → Contains xs x → Contains ys x) → length xs ≤ length ys
shorter xs ys d f =
    let laws = decided bytes_eq bytes_eq-Decides in
    length-le_from_is_member laws xs ys (IsDistinct-from_AllPairs bytes_eq-Decides xs d)
    (λ q h. list_any-from_Contains laws q ys (f q (Contains-from_any (λ x y. (bytes_eq-Decides x y).0) q xs h)))

pub same_length : (xs ys : List (List ℕ)) → Differ xs → Differ ys → ((x : List ℕ) → Contains xs x ↔ Contains ys x) → length xs ≡ length ys
same_length xs ys d e same =
    let p = shorter xs ys d (λ x. (same x).0) in
    let q = shorter ys xs e (λ x. (same x).1) in
    omega arith

within_first : {X : Type 0} (m : ℕ) (x : X) (xs : List X) (p : ℕ × X) → (m, x) ≡ p → (m ≤ p.0) × (p.0 < m + length (x ∷ xs))
within_first {X} m x xs p e = let n : m ≡ p.0 = ap (λ (q : ℕ × X). q.0) e in (omega arith, omega arith)

within_rest : {X : Type 0} (m : ℕ) (x : X) (xs : List X) (p : ℕ × X) → (m + 1 ≤ p.0) × (p.0 < m + 1 + length xs) → (m ≤ p.0) × (p.0 < m + length (x ∷ xs))
within_rest m x xs p r = (omega (arith, r.0), omega (arith, r.1))

pub numbered_within : {X : Type 0} (m : ℕ) (xs : List X) (p : ℕ × X) → Contains (numbered m xs) p → (m ≤ p.0) × (p.0 < m + length xs)
numbered_within m [] p h = absurd (Contains-nil p h)
numbered_within {X} m (x ∷ xs) p h =
    elim (Contains-cases (m, x) (numbered (m + 1) xs) p h) [
      | inl e ↦ within_first m x xs p e
      | inr more ↦ within_rest m x xs p (numbered_within (m + 1) xs p more)
    ]

above : {X : Type 0} (m n : ℕ) (x : X) (xs : List X) → n < m + length (x ∷ xs) → n < m + 1 + length xs
above m n x xs h = omega (arith, h)

pub numbered_at : {X : Type 0} (m : ℕ) (xs : List X) (n : ℕ) → m ≤ n → n < m + length xs → (x : X) × Contains (numbered m xs) (n, x)
numbered_at m [] n low high = absurd (let bad : ⊥ = omega arith in bad)
numbered_at {X} m (x ∷ xs) n low high =
    elim (cases_lt m n) [
      | inl less ↦ let r = numbered_at (m + 1) xs n (omega arith) (above m n x xs high) in (r.0, Contains-tail (m, x) (numbered (m + 1) xs) (n, r.0) r.1)
      | inr here ↦ let e : m ≡ n = omega arith in (x, subst (λ k. Contains (numbered m (x ∷ xs)) (k, x)) e (Contains-head (m, x) (numbered (m + 1) xs)))
    ]

not_later : {X : Type 0} (m n : ℕ) (y : X) (xs : List X) → m ≡ n → Contains (numbered (m + 1) xs) (n, y) → ⊥
not_later {X} m n y xs k later = let r = numbered_within (m + 1) xs (n, y) later in omega (arith, r.0)

-- an element has one number
pub numbered_once : {X : Type 0} (m : ℕ) (xs : List X) (n : ℕ) (x y : X) → Contains (numbered m xs) (n, x) → Contains (numbered m xs) (n, y) → x ≡ y
numbered_once m [] n x y p q = absurd (Contains-nil (n, x) p)
numbered_once {X} m (z ∷ xs) n x y p q =
    elim (Contains-cases (m, z) (numbered (m + 1) xs) (n, x) p) [
      | inl e ↦ elim (Contains-cases (m, z) (numbered (m + 1) xs) (n, y) q) [
        | inl f ↦ sym (ap (λ (r : ℕ × X). r.1) e) ∙ ap (λ (r : ℕ × X). r.1) f
        | inr b ↦ absurd (not_later m n y xs (ap (λ (r : ℕ × X). r.0) e) b)
      ]
      | inr a ↦ elim (Contains-cases (m, z) (numbered (m + 1) xs) (n, y) q) [
        | inl f ↦ absurd (not_later m n x xs (ap (λ (r : ℕ × X). r.0) f) a)
        | inr b ↦ numbered_once (m + 1) xs n x y a b
      ]
    ]

-- ---- elements of a list of images

pub of_map : {X Y : Type 0} (f : X → Y) (xs : List X) (y : Y) → Contains (map f xs) y → (x : X) × Contains xs x × (f x ≡ y)
of_map f [] y h = absurd (Contains-nil y h)
of_map {X} {Y} f (x ∷ xs) y h =
    elim (Contains-cases (f x) (map f xs) y h) [
      | inl e ↦ (x, Contains-head x xs, e)
      | inr more ↦ let r = of_map f xs y more in (r.0, Contains-tail x xs r.0 r.1, r.2)
    ]

pub map_has : {X Y : Type 0} (f : X → Y) (xs : List X) (x : X) → Contains xs x → Contains (map f xs) (f x)
map_has f [] x h = absurd (Contains-nil x h)
map_has {X} {Y} f (z ∷ xs) x h =
    elim (Contains-cases z xs x h) [
      | inl e ↦ subst (λ w. Contains (map f (z ∷ xs)) (f w)) e (Contains-head (f z) (map f xs))
      | inr more ↦ Contains-tail (f z) (map f xs) (f x) (map_has f xs x more)
    ]

-- a numbered element is one of the list
pub numbered_has : {X : Type 0} (m : ℕ) (xs : List X) (p : ℕ × X) → Contains (numbered m xs) p → Contains xs p.1
numbered_has m [] p h = absurd (Contains-nil p h)
numbered_has {X} m (x ∷ xs) p h =
    elim (Contains-cases (m, x) (numbered (m + 1) xs) p h) [
      | inl e ↦ subst (λ (q : ℕ × X). Contains (x ∷ xs) q.1) e (Contains-head x xs)
      | inr more ↦ Contains-tail x xs p.1 (numbered_has (m + 1) xs p more)
    ]
