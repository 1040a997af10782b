-- The links that go with numbers are those that touch them, each once; and keys that numbers have are had in turn.
use Rattle.std.proofs.Common.{◌≡◌, ◌≢◌, ◌+◌, ◌<◌, ℕ, suc, Bool, true, false, not, ◌||◌, ◌&&◌, cond, if◌then◌else◌, nat_eq, List, [], ◌∷◌, ◌++◌, length, map, get_or, take, None, sym, ◌∙◌, ap, refl, inl, inr, subst, arith}
use Rattle.std.specs.List.{AllPairs, AllZip, Contains, filter, flat_map, list_any}
use Rattle.std.specs.List.Sorted.{IsPermutation}
use Rattle.std.specs.Cmp.{nat_eq_equiv}
use Rattle.std.proofs.lemmas.Bool.{cases_Bool, eqb-true}
use Rattle.std.proofs.lemmas.List.{append-nil, append_assoc, get_or-take, get_or_default, length-take-le, map-append, take_more}
use Rattle.std.proofs.lemmas.List.Elements.{filter_agree}
use Rattle.std.proofs.lemmas.Grind.{flat_map-append}
use Rattle.indexmap.specs.IndexSet.{insert_key}
use Rattle.std.proofs.lemmas.List.Sorted.{IsPermutation-append_left, IsPermutation-append_right, IsPermutation-cons, IsPermutation-middle, IsPermutation-refl, IsPermutation-sym, IsPermutation-trans}
use Rattle.std.proofs.lemmas.Map.Views.{Contains-from_any, list_any-from_Contains}
use Rattle.finite_chains.proofs.Members.{Contains-head, Contains-tail}
use Rattle.item_index.specs.Graphs.{AreLinks, Graph, HasKey, dependents_of, removed, rests_of}
use Rattle.item_index.specs.Shelves.{list_at}
use Rattle.item_index.specs.Undo.{HaveKeys, touches}
use Rattle.item_index.proofs.Places.{slice_get-set_other}
use Rattle.board_changes.specs.Leaving.{link_if_stays, links_with}

abbrev pub Differ : List ℕ → Type 0
Differ ns = AllPairs (λ m n. m ≢ n) ns

differ_rest : (n : ℕ) (ns : List ℕ) → Differ (n ∷ ns) → Differ ns
differ_rest n ns once i j d before below = once (suc i) (suc j) d (omega arith) (omega arith)

differ_first : (n : ℕ) (ns : List ℕ) → Differ (n ∷ ns) → (m : ℕ) → Contains ns m → m ≢ n
differ_first n ns once m h e = once 0 (suc h.0) m (omega arith) (omega (arith, h.1)) (sym e ∙ sym h.2)

pub there : (n : ℕ) (ns : List ℕ) → Contains ns n → list_any (nat_eq n) ns ≡ true
there n ns h = list_any-from_Contains nat_eq_equiv n ns h

pub told : (n : ℕ) (ns : List ℕ) → list_any (nat_eq n) ns ≡ true → Contains ns n
told n ns h = Contains-from_any (λ x y e. eqb-true x y e) n ns h

-- ---- keys

module _ {K : Type 0} where
  still : (g : Graph K) (n : ℕ) (out : List ℕ) (old : List K) → ((m : ℕ) → Contains out m → m ≢ n) → AllZip (HasKey g) out old → AllZip (HasKey (removed g n)) out old
  still g n [] [] other has = tt
  still g n [] (k ∷ old) other has = absurd has
  still g n (m ∷ out) [] other has = absurd has
  still g n (m ∷ out) (k ∷ old) other has =
      (slice_get-set_other g.keys n m None (other m (Contains-head m out)) ∙ has.0, still g n out old (λ i h. other i (Contains-tail m out i h)) has.1)

  pub had_in_turn : (g : Graph K) (out : List ℕ) (old : List K) → Differ out → AllZip (HasKey g) out old → HaveKeys g out old
  had_in_turn g [] [] once has = tt
  had_in_turn g [] (k ∷ old) once has = absurd has
  had_in_turn g (n ∷ out) [] once has = absurd has
  had_in_turn g (n ∷ out) (k ∷ old) once has = (has.0, had_in_turn (removed g n) out old (differ_rest n out once) (still g n out old (differ_first n out once) has.1))

  pub one_more : (g : Graph K) (out : List ℕ) (old : List K) (n : ℕ) (k : K) → AllZip (HasKey g) out old → HasKey g n k → AllZip (HasKey g) (out ++ n ∷ []) (old ++ k ∷ [])
  one_more g [] [] n k has here = (here, tt)
  one_more g [] (j ∷ old) n k has here = absurd has
  one_more g (m ∷ out) [] n k has here = absurd has
  one_more g (m ∷ out) (j ∷ old) n k has here = (has.0, one_more g out old n k has.1 here)

-- ---- links

-- what passes one of two tests that nothing passes both
both_parts : {X : Type 0} (a b : X → Bool) → ((x : X) → a x ≡ true → b x ≡ true → ⊥) → (xs : List X) → IsPermutation (filter (λ x. a x || b x) xs) (filter a xs ++ filter b xs)
both_parts a b apart [] = IsPermutation-refl []
both_parts {X} a b apart (x ∷ xs) = go (a x) (b x) refl refl (both_parts a b apart xs)
  where
    go : (s t : Bool) → a x ≡ s → b x ≡ t → IsPermutation (filter (λ x. a x || b x) xs) (filter a xs ++ filter b xs) → IsPermutation (filter (λ x. a x || b x) (x ∷ xs)) (filter a (x ∷ xs) ++ filter b (x ∷ xs))
    go true true e f rest = absurd (apart x e f)
    go true false e f rest = rw (e, f) (IsPermutation-cons x _ _ rest)
    go false true e f rest =
        rw (e, f) (IsPermutation-trans _ (x ∷ (filter a xs ++ filter b xs)) _ (IsPermutation-cons x _ _ rest) (IsPermutation-sym _ _ (IsPermutation-middle (filter a xs) x (filter b xs))))
    go false false e f rest = rw (e, f) rest

from_rests : (n : ℕ) (links : List (ℕ × ℕ)) → map (λ (m : ℕ). (n, m)) (rests_of links n) ≡ filter (λ (l : ℕ × ℕ). nat_eq l.0 n) links
from_rests n [] = refl
from_rests n ((a, b) ∷ links) = go (nat_eq a n) refl (from_rests n links)
  where
    go : (t : Bool) → nat_eq a n ≡ t → map (λ (m : ℕ). (n, m)) (rests_of links n) ≡ filter (λ (l : ℕ × ℕ). nat_eq l.0 n) links
        → map (λ (m : ℕ). (n, m)) (rests_of ((a, b) ∷ links) n) ≡ filter (λ (l : ℕ × ℕ). nat_eq l.0 n) ((a, b) ∷ links)
    go true e rest = rw e (ap (λ (ls : List (ℕ × ℕ)). (n, b) ∷ ls) rest ∙ ap (λ (k : ℕ). (k, b) ∷ filter (λ (l : ℕ × ℕ). nat_eq l.0 n) links) (sym (eqb-true a n e)))
    go false e rest = rw e rest

module _ (out : List ℕ) where
  from_dependents : (n : ℕ) (links : List (ℕ × ℕ)) → flat_map (λ (m : ℕ). link_if_stays out m n) (dependents_of links n) ≡ filter (λ (l : ℕ × ℕ). nat_eq l.1 n && not (list_any (nat_eq l.0) out)) links
  from_dependents n [] = refl
  from_dependents n ((a, b) ∷ links) = go (nat_eq b n) (list_any (nat_eq a) out) refl refl (from_dependents n links)
    where
      go : (s t : Bool) → nat_eq b n ≡ s → list_any (nat_eq a) out ≡ t
          → flat_map (λ (m : ℕ). link_if_stays out m n) (dependents_of links n) ≡ filter (λ (l : ℕ × ℕ). nat_eq l.1 n && not (list_any (nat_eq l.0) out)) links
          → flat_map (λ (m : ℕ). link_if_stays out m n) (dependents_of ((a, b) ∷ links) n) ≡ filter (λ (l : ℕ × ℕ). nat_eq l.1 n && not (list_any (nat_eq l.0) out)) ((a, b) ∷ links)
      go true true e f rest = rw (e, f) rest
      go true false e f rest =
          rw (e, f) (ap (λ (ls : List (ℕ × ℕ)). (a, n) ∷ ls) rest
          ∙ ap (λ (k : ℕ). (a, k) ∷ filter (λ (l : ℕ × ℕ). nat_eq l.1 n && not (list_any (nat_eq l.0) out)) links) (sym (eqb-true b n e)))
      go false t e f rest = rw e rest

  -- the end of a link with which it goes: its first, if that goes
  owner : ℕ × ℕ → ℕ
  owner l = cond (list_any (nat_eq l.0) out) l.0 l.1

  touched : (l : ℕ × ℕ) → touches out l ≡ list_any (nat_eq (owner l)) out
  unfolding owner
  touched l = go (list_any (nat_eq l.0) out) refl
    where
      go : (t : Bool) → list_any (nat_eq l.0) out ≡ t → touches out l ≡ list_any (nat_eq (cond (list_any (nat_eq l.0) out) l.0 l.1)) out
      go true e = rw e (sym e)
      go false e = rw e refl

  owned : (n : ℕ) → Contains out n → (l : ℕ × ℕ) → nat_eq (owner l) n ≡ (nat_eq l.0 n || (nat_eq l.1 n && not (list_any (nat_eq l.0) out)))
  unfolding owner
  owned n h l = go (list_any (nat_eq l.0) out) (nat_eq l.0 n) (nat_eq l.1 n) refl refl refl
    where
      go : (s t u : Bool) → list_any (nat_eq l.0) out ≡ s → nat_eq l.0 n ≡ t → nat_eq l.1 n ≡ u
          → nat_eq (cond (list_any (nat_eq l.0) out) l.0 l.1) n ≡ (nat_eq l.0 n || (nat_eq l.1 n && not (list_any (nat_eq l.0) out)))
      go true true u e f i = rw (e, f) refl
      go true false true e f i = rw (e, f, i) refl
      go true false false e f i = rw (e, f, i) refl
      go false true u e f i = absurd (clash (there l.0 out (subst (Contains out) (sym (eqb-true l.0 n f)) h)) e)
        where
          clash : {b : Bool} → b ≡ true → b ≡ false → ⊥
          clash p q = cc
      go false false true e f i = rw (e, f, i) refl
      go false false false e f i = rw (e, f, i) refl

  apart : (n : ℕ) → Contains out n → (l : ℕ × ℕ) → nat_eq l.0 n ≡ true → (nat_eq l.1 n && not (list_any (nat_eq l.0) out)) ≡ true → ⊥
  apart n h l e f =
      let here = there l.0 out (subst (Contains out) (sym (eqb-true l.0 n e)) h) in
      go (nat_eq l.1 n) (list_any (nat_eq l.0) out) here f
    where
      go : (s t : Bool) → t ≡ true → (s && not t) ≡ true → ⊥
      go true true p q = cc
      go true false p q = cc
      go false t p q = cc

  module _ {K : Type 0} (g : Graph K) (links : List (ℕ × ℕ)) (are : AreLinks g links) where
    of_one : (n : ℕ) → Contains out n → IsPermutation (filter (λ l. nat_eq (owner l) n) links) (links_with g out n)
    of_one n h =
        let a : ℕ × ℕ → Bool = λ l. nat_eq l.0 n in
        let b : ℕ × ℕ → Bool = λ l. nat_eq l.1 n && not (list_any (nat_eq l.0) out) in
        let rests = ap (map (λ (m : ℕ). (n, m))) (are.rests_are n) ∙ from_rests n links in
        let dependents = ap (flat_map (λ (m : ℕ). link_if_stays out m n)) (are.dependents_are n) ∙ from_dependents n links in
        subst (λ (ls : List (ℕ × ℕ)). IsPermutation ls (links_with g out n)) (sym (filter_agree (λ l. nat_eq (owner l) n) (λ l. a l || b l) (owned n h) links))
        (subst (λ (ls : List (ℕ × ℕ)). IsPermutation (filter (λ l. a l || b l) links) (ls ++ flat_map (λ (m : ℕ). link_if_stays out m n) (list_at g.dependents n))) (sym rests)
        (subst (λ (ls : List (ℕ × ℕ)). IsPermutation (filter (λ l. a l || b l) links) (filter a links ++ ls)) (sym dependents) (both_parts a b (apart n h) links)))

    of_all : (ns : List ℕ) → ((n : ℕ) → Contains ns n → Contains out n) → Differ ns → IsPermutation (filter (λ l. list_any (nat_eq (owner l)) ns) links) (flat_map (links_with g out) ns)
    of_all [] within once = none links
      where
        none : (ls : List (ℕ × ℕ)) → IsPermutation (filter (λ l. false) ls) []
        none [] = IsPermutation-refl []
        none (l ∷ ls) = none ls
    of_all (n ∷ ns) within once =
        let a : ℕ × ℕ → Bool = λ l. nat_eq (owner l) n in
        let b : ℕ × ℕ → Bool = λ l. list_any (nat_eq (owner l)) ns in
        let rest = of_all ns (λ m h. within m (Contains-tail n ns m h)) (differ_rest n ns once) in
        let here = of_one n (within n (Contains-head n ns)) in
        let parts = both_parts a b (λ l e f. differ_first n ns once (owner l) (told (owner l) ns f) (eqb-true (owner l) n e)) links in
        IsPermutation-trans _ (filter a links ++ filter b links) _ parts
        (IsPermutation-trans _ (links_with g out n ++ filter b links) _ (IsPermutation-append_left (filter b links) (filter a links) (links_with g out n) here)
        (IsPermutation-append_right (links_with g out n) (filter b links) (flat_map (links_with g out) ns) rest))

    pub all_taken : Differ out → IsPermutation (filter (touches out) links) (flat_map (links_with g out) out)
    all_taken once =
        subst (λ (ls : List (ℕ × ℕ)). IsPermutation ls (flat_map (links_with g out) out)) (sym (filter_agree (touches out) (λ l. list_any (nat_eq (owner l)) out) touched links)) (of_all out (λ n h. h) once)

-- ---- one by one

pub set_more : (ns keys after : List ℕ) (i d : ℕ) → Differ ns → i < length ns → keys ≡ take i ns → after ≡ insert_key nat_eq keys (get_or ns i d) → after ≡ take (i + 1) ns
set_more ns keys after i d once within is put =
    let x = get_or ns i d in
    let new : list_any (nat_eq x) (take i ns) ≡ false = elim (cases_Bool (list_any (nat_eq x) (take i ns))) [
      | inl old ↦
          let at = told x (take i ns) old in
          let before : at.0 < i = omega (arith, at.1, length-take-le i ns (omega (arith, within))) in
          absurd (once at.0 i x before within (sym (get_or-take i ns at.0 x before) ∙ at.2 ∙ get_or_default ns i d x within))
      | inr none ↦ none
    ] in
    put ∙ ap (λ (ks : List ℕ). insert_key nat_eq ks x) is ∙ ap (λ (b : Bool). if b then take i ns else (take i ns ++ x ∷ [])) new ∙ sym (take_more ns i d within)

pub mapped_more : {X : Type 0} (f : ℕ → X) (xs : List ℕ) (i x : ℕ) (before : List X) → take (i + 1) xs ≡ take i xs ++ x ∷ [] → (before ++ map f (take i xs)) ++ f x ∷ [] ≡ before ++ map f (take (i + 1) xs)
mapped_more f xs i x before e = append_assoc before (map f (take i xs)) (f x ∷ []) ∙ ap (λ ls. before ++ ls) (sym (map-append f (take i xs) (x ∷ [])) ∙ sym (ap (map f) e))

pub joined_more : {X : Type 0} (f : ℕ → List X) (xs : List ℕ) (i x : ℕ) (before : List X) → take (i + 1) xs ≡ take i xs ++ x ∷ [] → (before ++ flat_map f (take i xs)) ++ f x ≡ before ++ flat_map f (take (i + 1) xs)
joined_more f xs i x before e =
    append_assoc before (flat_map f (take i xs)) (f x)
    ∙ ap (λ ls. before ++ ls) (ap (λ ls. flat_map f (take i xs) ++ ls) (sym (append-nil (f x))) ∙ sym (flat_map-append f (take i xs) (x ∷ [])) ∙ sym (ap (flat_map f) e))
