-- The first member of a list that equals an earlier one.
use Rattle.std.proofs.Common.{◌≡◌, ◌≢◌, ℕ, ◌+◌, ◌<◌, ◌≤◌, List, [], ◌∷◌, ◌++◌, length, get_or, take, drop, sym, ◌∙◌, ap, subst, arith}
use Rattle.std.specs.List.{AllPairs, Contains}
use Rattle.std.proofs.lemmas.List.{take-append-drop, drop_more, take_more, take_all}
use Rattle.std.proofs.lemmas.List.Elements.{Contains-get_or}
use Rattle.std.proofs.lemmas.List.Quantifiers.{all_pairs_push}

-- a list is parted by one of its members
pub parted_at : {X : Type 0} (xs : List X) (i : ℕ) (x : X) → i < length xs → x ≡ get_or xs i x → xs ≡ take i xs ++ x ∷ drop (i + 1) xs
parted_at xs i x within is =
    sym (take-append-drop i xs) ∙ ap (λ rest. take i xs ++ rest) (drop_more xs i x within ∙ ap (λ y. y ∷ drop (i + 1) xs) (sym is))

pub differ_begin : {X : Type 0} (xs : List X) → AllPairs (λ a b. a ≢ b) (take 0 xs)
differ_begin xs i j d before within = omega (arith, within)

-- where a member isn't among the ones before it, one more differ
pub differ_more : {X : Type 0} (xs : List X) (i : ℕ) (x : X) → i < length xs → x ≡ get_or xs i x → AllPairs (λ a b. a ≢ b) (take i xs) → (Contains (take i xs) x → ⊥) → AllPairs (λ a b. a ≢ b) (take (i + 1) xs)
differ_more {X} xs i x within is differ new =
    let P : List X → Type 0 = λ ys. AllPairs (λ a b. a ≢ b) ys in
    subst P (sym (take_more xs i x within ∙ ap (λ y. take i xs ++ y ∷ []) (sym is)))
    (all_pairs_push (λ a b. a ≢ b) (take i xs) x differ (λ k d below same. new (subst (λ z. Contains (take i xs) z) same (Contains-get_or (take i xs) k d below))))

pub differ_all : {X : Type 0} (xs : List X) (i : ℕ) → length xs ≤ i → AllPairs (λ a b. a ≢ b) (take i xs) → AllPairs (λ a b. a ≢ b) xs
differ_all {X} xs i all differ = let P : List X → Type 0 = λ ys. AllPairs (λ a b. a ≢ b) ys in subst P (take_all i xs all) differ
