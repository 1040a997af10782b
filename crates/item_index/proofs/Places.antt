-- What stands at a place of a list that has changed.
use Rattle.std.proofs.Common.{◌≡◌, ℕ, zero, suc, ◌+◌, ◌<◌, ◌≢◌, List, [], ◌∷◌, ◌++◌, length, map, reverse, take, get_or, slice_get, Some, sym, ◌∙◌, ap, refl, inl, inr, arith}
use Rattle.std.specs.List.{slice_set}
use Rattle.std.proofs.lemmas.List.{get_or_past, get_or-set_other, get_or-set_same, get_or_read, length-append, length-map, length-set, reverse-append, take_all, take_more}
use Rattle.std.proofs.lemmas.Option.{slice_get_past}
use Rattle.std.proofs.lemmas.Bool.{cases_lt}
use Rattle.item_index.specs.Graphs.{cut_off}
use Rattle.item_index.specs.Shelves.{list_at, without}

pub slice_get-set_same : {X : Type 0} (xs : List X) (i : ℕ) (y : X) → i < length xs → slice_get (slice_set xs i y) i ≡ Some y
slice_get-set_same [] i y h = absurd (omega arith)
slice_get-set_same (x ∷ xs) zero y h = refl
slice_get-set_same (x ∷ xs) (suc i) y h = slice_get-set_same xs i y (omega arith)

pub slice_get-set_other : {X : Type 0} (xs : List X) (i j : ℕ) (y : X) → j ≢ i → slice_get (slice_set xs i y) j ≡ slice_get xs j
slice_get-set_other [] i j y ne = refl
slice_get-set_other (x ∷ xs) zero zero y ne = absurd (ne refl)
slice_get-set_other (x ∷ xs) zero (suc j) y ne = refl
slice_get-set_other (x ∷ xs) (suc i) zero y ne = refl
slice_get-set_other (x ∷ xs) (suc i) (suc j) y ne = slice_get-set_other xs i j y (λ e. ne (ap (λ (n : ℕ). suc n) e))

pub slice_get-push_before : {X : Type 0} (xs : List X) (y : X) (i : ℕ) → i < length xs → slice_get (xs ++ y ∷ []) i ≡ slice_get xs i
slice_get-push_before [] y i h = absurd (omega arith)
slice_get-push_before (x ∷ xs) y zero h = refl
slice_get-push_before (x ∷ xs) y (suc i) h = slice_get-push_before xs y i (omega arith)

pub slice_get-push_last : {X : Type 0} (xs : List X) (y : X) → slice_get (xs ++ y ∷ []) (length xs) ≡ Some y
slice_get-push_last [] y = refl
slice_get-push_last (x ∷ xs) y = slice_get-push_last xs y

-- an empty list more changes nothing at any place
pub list_at-push_nil : (lists : List (List ℕ)) (n : ℕ) → list_at (lists ++ [] ∷ []) n ≡ list_at lists n
list_at-push_nil [] zero = refl
list_at-push_nil [] (suc n) = refl
list_at-push_nil (xs ∷ lists) zero = refl
list_at-push_nil (xs ∷ lists) (suc n) = list_at-push_nil lists n

pub slice_get-push_other : {X : Type 0} (xs : List X) (y : X) (i : ℕ) → i ≢ length xs → slice_get (xs ++ y ∷ []) i ≡ slice_get xs i
slice_get-push_other xs y i ne = elim (cases_lt i (length xs)) [
  | inl lt ↦ slice_get-push_before xs y i lt
  | inr ge ↦ slice_get_past (xs ++ y ∷ []) i (let e = length-append xs (y ∷ []) in omega arith) ∙ sym (slice_get_past xs i ge)
]

-- what a list without a number shows at each place
pub list_at-map_without : (n m : ℕ) (lists : List (List ℕ)) → list_at (map (without n) lists) m ≡ without n (list_at lists m)
list_at-map_without n m [] = refl
list_at-map_without n zero (xs ∷ lists) = refl
list_at-map_without n (suc m) (xs ∷ lists) = list_at-map_without n m lists

pub list_at-cut_off_same : (n : ℕ) (lists : List (List ℕ)) → list_at (cut_off n lists) n ≡ []
list_at-cut_off_same n lists = elim (cases_lt n (length lists)) [
  | inl lt ↦ get_or-set_same (map (without n) lists) n [] [] (rw (length-map lists (without n)) lt)
  | inr ge ↦ get_or_past (cut_off n lists) n [] (rw (length-set (map (without n) lists) n [], length-map lists (without n)) ge)
]

pub list_at-cut_off_other : (n m : ℕ) (lists : List (List ℕ)) → m ≢ n → list_at (cut_off n lists) m ≡ without n (list_at lists m)
list_at-cut_off_other n m lists ne = get_or-set_other (map (without n) lists) n m [] [] ne ∙ list_at-map_without n m lists

pub length-cut_off : (n : ℕ) (lists : List (List ℕ)) → length (cut_off n lists) ≡ length lists
length-cut_off n lists = length-set (map (without n) lists) n [] ∙ length-map lists (without n)

-- the last of a list is the first of it reversed
pub reverse-last : (xs : List ℕ) (last x : ℕ) → last + 1 ≡ length xs → x ≡ get_or xs last x → reverse xs ≡ x ∷ reverse (take last xs)
reverse-last xs last x len is =
    let within : last < length xs = omega arith in
    let whole : xs ≡ take last xs ++ x ∷ [] = sym (take_all (last + 1) xs (omega arith)) ∙ take_more xs last 0 within ∙ ap (λ (y : ℕ). take last xs ++ y ∷ []) (sym (get_or_read xs last x within is 0)) in
    ap (λ (ys : List ℕ). reverse ys) whole ∙ reverse-append (take last xs) (x ∷ [])
