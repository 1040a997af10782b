-- How often numbers stand in lists, after steps on them.
use Rattle.std.proofs.Common.{◌≡◌, ℕ, ◌+◌, ◌<◌, Bool, true, false, cond, nat_eq, List, [], ◌∷◌, ◌++◌, length, map, slice_get, Some, sym, ◌∙◌, ap, refl, inl, inr, arith}
use Rattle.std.specs.List.{filter, remove, slice_set, sum_by}
use Rattle.std.specs.List.Sorted.{IsPermutation}
use Rattle.std.proofs.lemmas.Bool.{cases_eq}
use Rattle.std.proofs.lemmas.List.{get_or-set_other, get_or-set_same}
use Rattle.std.proofs.lemmas.List.Edits.{length-remove}
use Rattle.std.proofs.lemmas.List.Sorted.{sum_by-IsPermutation}
use Rattle.std.proofs.lemmas.List.Sums.{sum_by-cons}
use Rattle.std.proofs.lemmas.Option.{slice_get-get_or}
use Rattle.item_index.specs.Graphs.{cut_off, dependents_of, rests_of}
use Rattle.item_index.specs.Shelves.{list_at, times, without}
use Rattle.item_index.proofs.Places.{list_at-cut_off_other, list_at-cut_off_same}
use Rattle.item_index.proofs.Times.{hit, hit-same, place_of, times-cons, times-push, times-remove, times-without_other, times-without_same}

-- each number stands in both as often
abbrev pub HaveSame : List ℕ → List ℕ → Type 0
HaveSame xs ys = (m : ℕ) → times m ys ≡ times m xs

-- so they are as long
pub same_length : (xs ys : List ℕ) → HaveSame xs ys → length ys ≡ length xs
same_length [] [] same = refl
same_length [] (y ∷ ys) same = let none = same y in let first = times-cons y y ys in let one = hit-same y in absurd (omega arith)
same_length (x ∷ xs) ys same =
    let first = times-cons x x xs in
    let one = hit-same x in
    let all = same x in
    let some : 0 < times x ys = omega arith in
    let at = place_of x ys some in
    let there : slice_get ys at.0 ≡ Some x = slice_get-get_or ys at.0 0 at.1 ∙ ap (λ (y : ℕ). Some y) at.2 in
    let rest = same_length xs (remove ys at.0) (λ m. let a = same m in let b = times-cons m x xs in let d = times-remove m x at.0 ys there in omega arith) in
    let fewer = length-remove ys at.0 at.1 in
    omega arith

pub same_without : (x : ℕ) (xs ys : List ℕ) → HaveSame xs ys → HaveSame (without x xs) (without x ys)
same_without x xs ys same m = elim (cases_eq m x) [
  | inl e ↦ rw e (times-without_same x ys ∙ sym (times-without_same x xs))
  | inr ne ↦ times-without_other x m ys ne ∙ same m ∙ sym (times-without_other x m xs ne)
]

-- the same of many lists
abbrev pub HaveSameLists : List (List ℕ) → List (List ℕ) → Type 0
HaveSameLists these those = (n : ℕ) → HaveSame (list_at these n) (list_at those n)

pub same_cut_off : (x : ℕ) (these those : List (List ℕ)) → HaveSameLists these those → HaveSameLists (cut_off x these) (cut_off x those)
same_cut_off x these those same n = elim (cases_eq n x) [
  | inl e ↦ rw e (λ m. ap (times m) (list_at-cut_off_same x those ∙ sym (list_at-cut_off_same x these)))
  | inr ne ↦ λ m. ap (times m) (list_at-cut_off_other x n those ne) ∙ same_without x (list_at these n) (list_at those n) (same n) m ∙ sym (ap (times m) (list_at-cut_off_other x n these ne))
]

-- the lists with a number more in one
abbrev pub with_more : ℕ → ℕ → List (List ℕ) → List (List ℕ)
with_more a b lists = slice_set lists a (list_at lists a ++ b ∷ [])

more_here : (a b : ℕ) (lists : List (List ℕ)) → a < length lists → (m : ℕ) → times m (list_at (with_more a b lists) a) ≡ times m (list_at lists a) + hit m b
more_here a b lists there m = ap (times m) (get_or-set_same lists a (list_at lists a ++ b ∷ []) [] there) ∙ times-push m b (list_at lists a)

more_else : (a b : ℕ) (lists : List (List ℕ)) (n : ℕ) → (n ≡ a → ⊥) → (m : ℕ) → times m (list_at (with_more a b lists) n) ≡ times m (list_at lists n)
more_else a b lists n ne m = ap (times m) (get_or-set_other lists a n (list_at lists a ++ b ∷ []) [] ne)

pub same_with_more : (a b : ℕ) (these those : List (List ℕ)) → a < length these → a < length those → HaveSameLists these those → HaveSameLists (with_more a b these) (with_more a b those)
same_with_more a b these those here there same n = elim (cases_eq n a) [
  | inl e ↦ rw e (λ m. more_here a b those there m ∙ ap (λ (k : ℕ). k + hit m b) (same a m) ∙ sym (more_here a b these here m))
  | inr ne ↦ λ m. more_else a b those n ne m ∙ same n m ∙ sym (more_else a b these n ne m)
]

-- ---- links in whatever order

-- how often a number is what these links have, of those that are chosen
abbrev chosen : (ℕ × ℕ → Bool) → (ℕ × ℕ → ℕ) → ℕ → ℕ × ℕ → ℕ
chosen p f m l = cond (p l) (hit m (f l)) 0

times-chosen : (p : ℕ × ℕ → Bool) (f : ℕ × ℕ → ℕ) (m : ℕ) (links : List (ℕ × ℕ)) → times m (map f (filter p links)) ≡ sum_by (chosen p f m) links
times-chosen p f m [] = refl
times-chosen p f m (l ∷ links) = go (p l) refl (times-chosen p f m links) (sum_by-cons (chosen p f m) l links)
  where
    go : (b : Bool) → p l ≡ b → times m (map f (filter p links)) ≡ sum_by (chosen p f m) links → sum_by (chosen p f m) (l ∷ links) ≡ chosen p f m l + sum_by (chosen p f m) links
        → times m (map f (filter p (l ∷ links))) ≡ sum_by (chosen p f m) (l ∷ links)
    go true e rest all =
        let here : cond (p l) (hit m (f l)) 0 ≡ hit m (f l) = ap (λ (b : Bool). cond b (hit m (f l)) 0) e in
        let kept : filter p (l ∷ links) ≡ l ∷ filter p links = rw e refl in
        let one = ap (λ (ls : List (ℕ × ℕ)). times m (map f ls)) kept in
        let first = times-cons m (f l) (map f (filter p links)) in
        omega arith
    go false e rest all =
        let none : cond (p l) (hit m (f l)) 0 ≡ 0 = ap (λ (b : Bool). cond b (hit m (f l)) 0) e in
        let left : filter p (l ∷ links) ≡ filter p links = rw e refl in
        let same = ap (λ (ls : List (ℕ × ℕ)). times m (map f ls)) left in
        omega arith

moved : (p : ℕ × ℕ → Bool) (f : ℕ × ℕ → ℕ) (links others : List (ℕ × ℕ)) → IsPermutation links others → HaveSame (map f (filter p links)) (map f (filter p others))
moved p f links others are m = times-chosen p f m others ∙ sum_by-IsPermutation (chosen p f m) links others are ∙ sym (times-chosen p f m links)

pub moved_rests : (links others : List (ℕ × ℕ)) → IsPermutation links others → (n : ℕ) → HaveSame (rests_of links n) (rests_of others n)
moved_rests links others are n = moved (λ l. nat_eq l.0 n) (λ l. l.1) links others are

pub moved_dependents : (links others : List (ℕ × ℕ)) → IsPermutation links others → (n : ℕ) → HaveSame (dependents_of links n) (dependents_of others n)
moved_dependents links others are n = moved (λ l. nat_eq l.1 n) (λ l. l.0) links others are
