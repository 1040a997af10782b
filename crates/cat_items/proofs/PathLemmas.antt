-- A path from its names.
use Rattle.std.proofs.Common.{◌≡◌, ℕ, List, [], ◌∷◌, Some, None, Ordering, ap, refl}
use Rattle.std.specs.List.{slice_get}
use Rattle.std.specs.Ordering.{ordering_then}
use Rattle.std.specs.Cmp.Lexicographic.{slice_cmp}
use Rattle.std.specs.declared.cmp.Ordering.TheVariants.{Less, Equal, Greater}
use Rattle.cat_items.specs.Order.{name_cmp}

pub no_name : {X : Type 0} (xs : List X) → None ≡ slice_get xs 0 → xs ≡ []
no_name [] e = refl
no_name (x ∷ xs) e = cc

pub one_name : {X : Type 0} (xs : List X) (a : X) → Some a ≡ slice_get xs 0 → None ≡ slice_get xs 1 → xs ≡ a ∷ []
one_name [] a e f = cc
one_name (x ∷ []) a e f = cc
one_name (x ∷ y ∷ xs) a e f = cc

pub two_names : {X : Type 0} (xs : List X) (a b : X) → Some a ≡ slice_get xs 0 → Some b ≡ slice_get xs 1 → None ≡ slice_get xs 2 → xs ≡ a ∷ b ∷ []
two_names [] a b e f g = cc
two_names (x ∷ []) a b e f g = cc
two_names (x ∷ y ∷ []) a b e f g = cc
two_names (x ∷ y ∷ z ∷ xs) a b e f g = cc

pub more_names : {X : Type 0} (xs : List X) (a b c : X) → Some a ≡ slice_get xs 0 → Some b ≡ slice_get xs 1 → Some c ≡ slice_get xs 2 → (rest : List X) × (xs ≡ a ∷ b ∷ c ∷ rest)
more_names [] a b c e f g = absurd (cc)
more_names (x ∷ []) a b c e f g = absurd (cc)
more_names (x ∷ y ∷ []) a b c e f g = absurd (cc)
more_names (x ∷ y ∷ z ∷ xs) a b c e f g = (xs, cc)

-- compared with the path of two names

then_equal : (o : Ordering) → o ≡ ordering_then o Equal
then_equal Less = refl
then_equal Equal = refl
then_equal Greater = refl

pub compare_none : (xs : List (List ℕ)) (s n : List ℕ) → None ≡ slice_get xs 0 → Less ≡ slice_cmp name_cmp xs (s ∷ n ∷ [])
compare_none xs s n e = rw (no_name xs e) refl

pub compare_one : (xs : List (List ℕ)) (a s n : List ℕ) → Some a ≡ slice_get xs 0 → None ≡ slice_get xs 1 → ordering_then (name_cmp a s) Less ≡ slice_cmp name_cmp xs (s ∷ n ∷ [])
compare_one xs a s n e f = rw (one_name xs a e f) refl

pub compare_two : (xs : List (List ℕ)) (a b s n : List ℕ) → Some a ≡ slice_get xs 0 → Some b ≡ slice_get xs 1 → None ≡ slice_get xs 2 → ordering_then (name_cmp a s) (name_cmp b n) ≡ slice_cmp name_cmp xs (s ∷ n ∷ [])
compare_two xs a b s n e f g = rw (two_names xs a b e f g) (ap (ordering_then (name_cmp a s)) (then_equal (name_cmp b n)))

pub compare_more : (xs : List (List ℕ)) (a b c s n : List ℕ) → Some a ≡ slice_get xs 0 → Some b ≡ slice_get xs 1 → Some c ≡ slice_get xs 2 → ordering_then (name_cmp a s) (ordering_then (name_cmp b n) Greater) ≡ slice_cmp name_cmp xs (s ∷ n ∷ [])
compare_more xs a b c s n e f g = rw ((more_names xs a b c e f g).1) refl
