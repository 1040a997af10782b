-- What holds of each element of a list, by recursion on the list.
use Rattle.std.proofs.Common.{◌≡◌, ℕ, zero, suc, List, [], ◌∷◌, ◌++◌, All, Some, map, subst}
use Rattle.std.specs.Prelude.{flat_map, slice_get}
use Rattle.std.proofs.lemmas.List.Elements.{All-nil, All-cons, All-head, All-tail}

abbrev pub Every : {X : Type 0} → (X → Type 0) → List X → Type 0
Every P [] = Unit {0}
Every P (x ∷ xs) = P x × Every P xs

module _ {X : Type 0} (P : X → Type 0) where
  pub every_append : (xs ys : List X) → Every P xs → Every P ys → Every P (xs ++ ys)
  every_append [] ys a b = b
  every_append (x ∷ xs) ys a b = (a.0, every_append xs ys a.1 b)

  pub every_left : (xs ys : List X) → Every P (xs ++ ys) → Every P xs
  every_left [] ys a = tt
  every_left (x ∷ xs) ys a = (a.0, every_left xs ys a.1)

  pub every_right : (xs ys : List X) → Every P (xs ++ ys) → Every P ys
  every_right [] ys a = a
  every_right (x ∷ xs) ys a = every_right xs ys a.1

  pub every_to : (xs : List X) → Every P xs → All P xs
  every_to [] a = All-nil P
  every_to (x ∷ xs) a = All-cons P x xs a.0 (every_to xs a.1)

  pub every_from : (xs : List X) → All P xs → Every P xs
  every_from [] a = tt
  every_from (x ∷ xs) a = (All-head P x xs a, every_from xs (All-tail P x xs a))

  pub every_at : (xs : List X) (i : ℕ) (x : X) → Every P xs → slice_get xs i ≡ Some x → P x
  every_at [] i x a e = absurd (let odd : slice_get [] i ≡ Some x = e in cc)
  every_at (y ∷ ys) zero x a e = let same : y ≡ x = (let is : Some y ≡ Some x = e in cc) in subst P same a.0
  every_at (y ∷ ys) (suc i) x a e = every_at ys i x a.1 e

  -- of the parts of all elements, and of all parts
  module _ {Y : Type 0} (parts : Y → List X) where
    pub gather : (ys : List Y) → Every (λ y. Every P (parts y)) ys → Every P (flat_map (λ part. part) (map parts ys))
    gather [] a = tt
    gather (y ∷ ys) a = every_append (parts y) (flat_map (λ part. part) (map parts ys)) a.0 (gather ys a.1)

    pub spread : (ys : List Y) → Every P (flat_map (λ part. part) (map parts ys)) → Every (λ y. Every P (parts y)) ys
    spread [] a = tt
    spread (y ∷ ys) a = (every_left (parts y) (flat_map (λ part. part) (map parts ys)) a, spread ys (every_right (parts y) (flat_map (λ part. part) (map parts ys)) a))

pub every_weaker : {X : Type 0} (P Q : X → Type 0) (xs : List X) → ((x : X) → P x → Q x) → Every P xs → Every Q xs
every_weaker P Q [] f a = tt
every_weaker P Q (x ∷ xs) f a = (f x a.0, every_weaker P Q xs f a.1)

-- the elements that stand beside a proof
pub firsts : {X : Type 0} (P : X → Type 0) (ys : List ((x : X) × P x)) → Every P (map (λ e. e.0) ys)
firsts P [] = tt
firsts P (y ∷ ys) = (y.1, firsts P ys)
