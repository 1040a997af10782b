-- The texts of the elements of a list, one after the other.
use Rattle.std.proofs.Common.{◌≡◌, ◌<◌, ◌+◌, ◌++◌, ◌∷◌, [], ℕ, List, Option, length, take, drop, get_or, flat_map, ap, sym, ◌∙◌, append-nil}
use Rattle.std.proofs.lemmas.List.{take-append-drop, drop_more, take_more}
use Rattle.std.proofs.lemmas.List.Concat.{flat_map-append}
use Rattle.svc_io.specs.Bytes.{Got, GotFront}
use Rattle.svc_io.proofs.Told.{Got-append, GotFront-after, GotFront-before}

flat_map-split : {X : Type 0} (f : X → List ℕ) (xs : List X) (i : ℕ) (d : X) → i < length xs → flat_map f xs ≡ flat_map f (take i xs) ++ (f (get_or xs i d) ++ flat_map f (drop (i + 1) xs))
flat_map-split f xs i d within =
    ap (λ b. flat_map f b) (sym (take-append-drop i xs)) ∙ (flat_map-append f (take i xs) (drop i xs)
    ∙ ap (λ b. flat_map f (take i xs) ++ flat_map f b) (drop_more xs i d within))

flat_map-more : {X : Type 0} (f : X → List ℕ) (xs : List X) (i : ℕ) (d : X) → i < length xs → flat_map f (take (i + 1) xs) ≡ flat_map f (take i xs) ++ f (get_or xs i d)
flat_map-more f xs i d within =
    ap (λ b. flat_map f b) (take_more xs i d within) ∙ (flat_map-append f (take i xs) (get_or xs i d ∷ [])
    ∙ ap (λ b. flat_map f (take i xs) ++ b) (append-nil (f (get_or xs i d))))

-- the text of one more element went out
pub one_more : {X : Type 0} (f : X → List ℕ) (xs : List X) (i : ℕ) (x d : X) (old mid new : Option (List ℕ)) → i < length xs → x ≡ get_or xs i d → Got old (flat_map f (take i xs)) mid → Got mid (f x) new → Got old (flat_map f (take (i + 1) xs)) new
one_more f xs i x d old mid new within is before then = rw (flat_map-more f xs i d within, sym is) (Got-append old mid new (flat_map f (take i xs)) (f x) before then)

-- a front of the text of one more element went out
pub broke_off : {X : Type 0} (f : X → List ℕ) (xs : List X) (i : ℕ) (x d : X) (old mid new : Option (List ℕ)) → i < length xs → x ≡ get_or xs i d → Got old (flat_map f (take i xs)) mid → GotFront mid (f x) new → GotFront old (flat_map f xs) new
broke_off f xs i x d old mid new within is before then =
    rw (flat_map-split f xs i d within, sym is)
    (GotFront-after old mid new (flat_map f (take i xs)) (f x ++ flat_map f (drop (i + 1) xs)) before (GotFront-before mid new (f x) (flat_map f (drop (i + 1) xs)) then))
