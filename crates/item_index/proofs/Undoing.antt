-- A change of a graph, undone in reverse.
use Rattle.std.proofs.Common.{◌≡◌, ℕ, zero, suc, ◌+◌, ◌-◌, ◌<◌, ◌≤◌, ◌⊎◌, Bool, true, false, not, ◌||◌, ◌&&◌, nat_eq, List, [], ◌∷◌, ◌++◌, length, reverse, get_or, slice_get, Option, Some, None, sym, ◌∙◌, ap, refl, inl, inr, subst, arith}
use Rattle.std.specs.List.{All, filter, list_any}
use Rattle.std.specs.List.Sorted.{IsPermutation}
use Rattle.std.proofs.lemmas.List.{append-nil, append_assoc, length-append, length-reverse, length-set, get_or_past}
use Rattle.std.proofs.lemmas.List.Elements.{All-filter, All-head, All-tail, All-weaker, filter-append, filter_agree}
use Rattle.std.proofs.lemmas.List.Sorted.{All-permutation, length_permutation, IsPermutation-append_right, IsPermutation-filter_both, IsPermutation-reverse, IsPermutation-trans, list_any-IsPermutation}
use Rattle.std.proofs.lemmas.Option.{slice_get-get_or, slice_get_past, slice_get_within}
use Rattle.std.proofs.lemmas.Bool.{cases_eq, cases_lt, ne_eqb, or_from}
use Rattle.item_index.specs.Graphs.{AreLinks, AreWhole, Graph, IsWhole, dependents_of, first_free, inserted, inserted_at, linked, links_without, removed, rests_of}
use Rattle.item_index.specs.Shelves.{list_at, without}
use Rattle.item_index.specs.Undo.{AreNewLinks, HasRoomFor, HaveKeys, IsAsBefore, changed, flat, inserted_all, linked_all, number_in_turn, numbers_given, removed_all, touches, undone, without_new}
use Rattle.item_index.proofs.GraphLemmas.{AreLinksOf-cut_off, AreLinksOf-push, AreWhole-removed, dependents_of-cons_other, dependents_of-cons_same, kept_link, left_link_from, left_link_to, rests_of-cons_other, rests_of-cons_same}
use Rattle.item_index.proofs.Places.{length-cut_off, list_at-push_nil}
use Rattle.item_index.proofs.Times.{without-cons_other, without-cons_same}
use Rattle.item_index.proofs.Turns.{AreAlike, AreAlike-put_all, AreAlike-trans, AreVacant, Book, HadKeys, IsOrderly, IsOrderly-strike_all, IsOrderly-whole, at_number, in_turn, put, put_all, put_all-strike_all, strike_all, strike_all-put_all, turns_are_vacant, turns_of, turns_of-alike}

next-turn : (free : List ℕ) (fresh : ℕ) → first_free free fresh ≡ number_in_turn free fresh 0
next-turn [] fresh = omega arith
next-turn (n ∷ free) fresh = refl

module _ {K : Type 0} where
  -- the keys and the free numbers of a graph
  abbrev book : Graph K → Book K
  book g = (g.keys, g.free)

  book-inserted_at : (g : Graph K) (k : K) (free : List ℕ) → g.free ≡ free → book (inserted_at g k free) ≡ put (g.keys, free) k
  book-inserted_at g k [] e = ap (λ (free : List ℕ). (g.keys ++ Some k ∷ [], free)) e
  book-inserted_at g k (n ∷ free) e = refl

  book-inserted : (g : Graph K) (k : K) → book (inserted g k) ≡ put (book g) k
  book-inserted g k = book-inserted_at g k g.free refl

  book-inserted_all : (g : Graph K) (keys : List K) → book (inserted_all g keys) ≡ put_all (book g) keys
  book-inserted_all g [] = refl
  book-inserted_all g (k ∷ keys) = book-inserted_all (inserted g k) keys ∙ ap (λ (b : Book K). put_all b keys) (book-inserted g k)

  book-removed_all : (g : Graph K) (numbers : List ℕ) → book (removed_all g numbers) ≡ strike_all (book g) numbers
  book-removed_all g [] = refl
  book-removed_all g (n ∷ numbers) = book-removed_all (removed g n) numbers

  book-linked_all : (g : Graph K) (links : List (ℕ × ℕ)) → book (linked_all g links) ≡ book g
  book-linked_all g [] = refl
  book-linked_all g (l ∷ links) = book-linked_all (linked g l.0 l.1) links

  numbers-turns : (g : Graph K) (keys : List K) → numbers_given g keys ≡ turns_of (book g) keys
  numbers-turns g [] = refl
  numbers-turns g (k ∷ keys) =
      ap (λ (n : ℕ). n ∷ numbers_given (inserted g k) keys) (next-turn g.free (length g.keys))
      ∙ ap (λ (ns : List ℕ). in_turn (book g) 0 ∷ ns) (numbers-turns (inserted g k) keys ∙ ap (λ (b : Book K). turns_of b keys) (book-inserted g k))

  had_keys : (g : Graph K) (numbers : List ℕ) (keys : List K) → HaveKeys g numbers keys → HadKeys (book g) numbers keys
  had_keys g [] [] had = tt
  had_keys g [] (k ∷ keys) had = had
  had_keys g (n ∷ numbers) [] had = had
  had_keys g (n ∷ numbers) (k ∷ keys) had = (ap flat had.0, had_keys (removed g n) numbers keys had.1)

  -- the numbers of a change that is undone
  module _ (g : Graph K) (out : List ℕ) (old new : List K) (added taken : List (ℕ × ℕ)) (orderly : IsOrderly (book g)) (had : HaveKeys g out old) where
    less : Book K
    less = strike_all (book g) out

    given : List ℕ
    given = turns_of less new

    back : Book K
    back = strike_all (put_all less new) (reverse given)

    less_orderly : IsOrderly less
    unfolding less
    less_orderly = IsOrderly-strike_all (book g) out old (had_keys g out old had) orderly

    given_is : numbers_given (removed_all g out) new ≡ given
    unfolding given less
    given_is = numbers-turns (removed_all g out) new ∙ ap (λ (b : Book K). turns_of b new) (book-removed_all g out)

    changed_is : book (changed g out new added) ≡ put_all less new
    unfolding less
    changed_is = book-linked_all (inserted_all (removed_all g out) new) added ∙ book-inserted_all (removed_all g out) new ∙ ap (λ (b : Book K). put_all b new) (book-removed_all g out)

    back_is : book (without_new g out new added) ≡ back
    unfolding back
    back_is = book-removed_all (changed g out new added) (reverse (numbers_given (removed_all g out) new)) ∙ ap (λ (b : Book K). strike_all b (reverse (numbers_given (removed_all g out) new))) changed_is
        ∙ ap (λ (ns : List ℕ). strike_all (put_all less new) (reverse ns)) given_is

    back_alike : AreAlike back less × IsOrderly back
    unfolding back given
    back_alike = strike_all-put_all less new less_orderly

    whole_again : AreAlike (put_all less (reverse old)) (book g) × (turns_of less (reverse old) ≡ reverse out)
    unfolding less
    whole_again = put_all-strike_all (book g) out old (had_keys g out old had) orderly

    pub old_numbers : numbers_given (without_new g out new added) (reverse old) ≡ reverse out
    old_numbers = numbers-turns (without_new g out new added) (reverse old) ∙ ap (λ (b : Book K). turns_of b (reverse old)) back_is
        ∙ turns_of-alike back less (reverse old) back_alike.1 less_orderly back_alike.0 ∙ whole_again.1

    pub undone_alike : AreAlike (book (undone g out old new added taken)) (book g)
    undone_alike =
        let is : book (undone g out old new added taken) ≡ put_all back (reverse old)
        = book-linked_all (inserted_all (without_new g out new added) (reverse old)) taken ∙ book-inserted_all (without_new g out new added) (reverse old) ∙ ap (λ (b : Book K). put_all b (reverse old)) back_is in
        rw is (AreAlike-trans (put_all back (reverse old)) (put_all less (reverse old)) (book g) (AreAlike-put_all back less (reverse old) back_alike.1 less_orderly back_alike.0) whole_again.0)

    pub new_are_vacant : AreVacant (book (removed_all g out)) (numbers_given (removed_all g out) new)
    unfolding given less
    new_are_vacant = rw (given_is, book-removed_all g out) (turns_are_vacant (strike_all (book g) out) new less_orderly)

-- the links of a graph, with as many lists as numbers
record Shows {K : Type 0} (g : Graph K) (links : List (ℕ × ℕ)) : Type 0 where
  rests_len : length g.rests ≡ length g.keys
  dependents_len : length g.dependents ≡ length g.keys
  are : AreLinks g links

-- the links that no number of these has a part in
abbrev links_without_all : List ℕ → List (ℕ × ℕ) → List (ℕ × ℕ)
links_without_all [] links = links
links_without_all (n ∷ numbers) links = links_without_all numbers (links_without n links)

module _ {K : Type 0} where
  Shows-inserted_at : (g : Graph K) (k : K) (free : List ℕ) (links : List (ℕ × ℕ)) → Shows g links → Shows (inserted_at g k free) links
  Shows-inserted_at g k [] links s = record {
    rests_len = length-append g.rests ([] ∷ []) ∙ ap (λ (n : ℕ). n + 1) s.rests_len ∙ sym (length-append g.keys (Some k ∷ []));
    dependents_len = length-append g.dependents ([] ∷ []) ∙ ap (λ (n : ℕ). n + 1) s.dependents_len ∙ sym (length-append g.keys (Some k ∷ []));
    are = record { rests_are = λ n. list_at-push_nil g.rests n ∙ s.are.rests_are n; dependents_are = λ n. list_at-push_nil g.dependents n ∙ s.are.dependents_are n };
  }
  Shows-inserted_at g k (n ∷ free) links s = record {
    rests_len = s.rests_len ∙ sym (length-set g.keys n (Some k));
    dependents_len = s.dependents_len ∙ sym (length-set g.keys n (Some k));
    are = s.are;
  }

  Shows-inserted_all : (g : Graph K) (keys : List K) (links : List (ℕ × ℕ)) → Shows g links → Shows (inserted_all g keys) links
  Shows-inserted_all g [] links s = s
  Shows-inserted_all g (k ∷ keys) links s = Shows-inserted_all (inserted g k) keys links (Shows-inserted_at g k g.free links s)

  Shows-removed : (g : Graph K) (n : ℕ) (links : List (ℕ × ℕ)) → Shows g links → Shows (removed g n) (links_without n links)
  Shows-removed g n links s = record {
    rests_len = length-cut_off n g.rests ∙ s.rests_len ∙ sym (length-set g.keys n None);
    dependents_len = length-cut_off n g.dependents ∙ s.dependents_len ∙ sym (length-set g.keys n None);
    are = AreLinksOf-cut_off g.rests g.dependents n links s.are;
  }

  Shows-removed_all : (g : Graph K) (numbers : List ℕ) (links : List (ℕ × ℕ)) → Shows g links → Shows (removed_all g numbers) (links_without_all numbers links)
  Shows-removed_all g [] links s = s
  Shows-removed_all g (n ∷ numbers) links s = Shows-removed_all (removed g n) numbers (links_without n links) (Shows-removed g n links s)

  -- both ends of a link are numbers
  abbrev AreEnds : Graph K → ℕ × ℕ → Type 0
  AreEnds g l = (l.0 < length g.keys) × (l.1 < length g.keys)

  Shows-linked_all : (g : Graph K) (more links : List (ℕ × ℕ)) → All (AreEnds g) more → Shows g links → Shows (linked_all g more) (links ++ more)
  Shows-linked_all g [] links ends s = rw (append-nil links) s
  Shows-linked_all g (l ∷ more) links ends s =
      let here = All-head (AreEnds g) l more ends in
      let rests_len = s.rests_len in
      let dependents_len = s.dependents_len in
      let from : l.0 < length g.rests = let h = here.0 in omega arith in
      let to : l.1 < length g.dependents = let h = here.1 in omega arith in
      let next : Shows (linked g l.0 l.1) (links ++ l ∷ []) = record {
        rests_len = length-set g.rests l.0 (list_at g.rests l.0 ++ l.1 ∷ []) ∙ rests_len;
        dependents_len = length-set g.dependents l.1 (list_at g.dependents l.1 ++ l.0 ∷ []) ∙ dependents_len;
        are = AreLinksOf-push g.rests g.dependents l.0 l.1 from to links s.are;
      } in
      let rest = Shows-linked_all (linked g l.0 l.1) more (links ++ l ∷ []) (All-tail (AreEnds g) l more ends) next in
      rw (← (append_assoc links (l ∷ []) more)) rest

-- a number's links are those that go with it
link_counts : (n : ℕ) (links : List (ℕ × ℕ)) → length links ≡ length (links_without n links) + (length (rests_of links n) + length (without n (dependents_of links n)))
link_counts n [] = refl
link_counts n ((a, b) ∷ links) =
    let rest = link_counts n links in
    elim (cases_eq a n) [
      | inl ea ↦
          let gone = ap length (left_link_from n a b links ea) in
          let one = ap length (rests_of-cons_same n a b links ea) in
          elim (cases_eq b n) [
            | inl eb ↦
                let same : without n (dependents_of ((a, b) ∷ links) n) ≡ without n (dependents_of links n) = ap (without n) (dependents_of-cons_same n a b links eb) ∙ rw ea (without-cons_same n (dependents_of links n)) in
                let none = ap length same in
                omega arith
            | inr nb ↦
                let none = ap (λ (ns : List ℕ). length (without n ns)) (dependents_of-cons_other n a b links nb) in
                omega arith
          ]
      | inr na ↦
          let zero_rests = ap length (rests_of-cons_other n a b links na) in
          elim (cases_eq b n) [
            | inl eb ↦
                let gone = ap length (left_link_to n a b links na eb) in
                let same : without n (dependents_of ((a, b) ∷ links) n) ≡ a ∷ without n (dependents_of links n) = ap (without n) (dependents_of-cons_same n a b links eb) ∙ without-cons_other n a (dependents_of links n) na in
                let one = ap length same in
                omega arith
            | inr nb ↦
                let kept = ap length (kept_link n a b links na nb) in
                let none = ap (λ (ns : List ℕ). length (without n ns)) (dependents_of-cons_other n a b links nb) in
                omega arith
          ]
    ]

module _ {K : Type 0} where
  -- room and links together stay the same
  spare-removed : (g : Graph K) (n : ℕ) (links : List (ℕ × ℕ)) → AreLinks g links → (removed g n).spare_links + length (links_without n links) ≡ g.spare_links + length links
  spare-removed g n links are =
      let count = link_counts n links in
      let rests = ap length (are.rests_are n) in
      let dependents = ap (λ (ns : List ℕ). length (without n ns)) (are.dependents_are n) in
      omega arith

  spare-removed_all : (g : Graph K) (numbers : List ℕ) (links : List (ℕ × ℕ)) → Shows g links
      → ((removed_all g numbers).spare_links + length (links_without_all numbers links) ≡ g.spare_links + length links) × ((removed_all g numbers).spare_keys ≡ g.spare_keys + length numbers)
  spare-removed_all g [] links s = (refl, omega arith)
  spare-removed_all g (n ∷ numbers) links s =
      let rest = spare-removed_all (removed g n) numbers (links_without n links) (Shows-removed g n links s) in
      let here = spare-removed g n links s.are in
      let links_rest = rest.0 in
      let keys_rest = rest.1 in
      (omega arith, omega arith)

  spare-inserted_at : (g : Graph K) (k : K) (free : List ℕ) → ((inserted_at g k free).spare_links ≡ g.spare_links) × ((inserted_at g k free).spare_keys ≡ g.spare_keys - 1)
  spare-inserted_at g k [] = (refl, refl)
  spare-inserted_at g k (n ∷ free) = (refl, refl)

  spare-inserted_all : (g : Graph K) (keys : List K) → length keys ≤ g.spare_keys → ((inserted_all g keys).spare_links ≡ g.spare_links) × ((inserted_all g keys).spare_keys + length keys ≡ g.spare_keys)
  spare-inserted_all g [] fit = (refl, omega arith)
  spare-inserted_all g (k ∷ keys) fit =
      let here = spare-inserted_at g k g.free in
      let one = here.1 in
      let rest = spare-inserted_all (inserted g k) keys (omega arith) in
      let keys_rest = rest.1 in
      (rest.0 ∙ here.0, omega arith)

  spare-linked_all : (g : Graph K) (links : List (ℕ × ℕ)) → length links ≤ g.spare_links → ((linked_all g links).spare_links + length links ≡ g.spare_links) × ((linked_all g links).spare_keys ≡ g.spare_keys)
  spare-linked_all g [] fit = (omega arith, refl)
  spare-linked_all g (l ∷ links) fit =
      let rest = spare-linked_all (linked g l.0 l.1) links (omega arith) in
      let links_rest = rest.0 in
      (omega arith, rest.1)

  length-numbers_given : (g : Graph K) (keys : List K) → length (numbers_given g keys) ≡ length keys
  length-numbers_given g [] = refl
  length-numbers_given g (k ∷ keys) = ap (λ (n : ℕ). suc n) (length-numbers_given (inserted g k) keys)

  length-had : (g : Graph K) (numbers : List ℕ) (keys : List K) → HaveKeys g numbers keys → length keys ≡ length numbers
  length-had g [] [] had = refl
  length-had g [] (k ∷ keys) had = absurd had
  length-had g (n ∷ numbers) [] had = absurd had
  length-had g (n ∷ numbers) (k ∷ keys) had = ap (λ (m : ℕ). suc m) (length-had (removed g n) numbers keys had.1)

-- what is left of links, by a test
filter-filter : (p q : ℕ × ℕ → Bool) (links : List (ℕ × ℕ)) → filter p (filter q links) ≡ filter (λ l. q l && p l) links
filter-filter p q [] = refl
filter-filter p q (l ∷ links) = go (q l) (p l) refl refl (filter-filter p q links)
  where
    go : (a b : Bool) → q l ≡ a → p l ≡ b → filter p (filter q links) ≡ filter (λ l. q l && p l) links → filter p (filter q (l ∷ links)) ≡ filter (λ l. q l && p l) (l ∷ links)
    go true true e f rest = rw (e, f) (ap (λ (ls : List (ℕ × ℕ)). l ∷ ls) rest)
    go true false e f rest = rw (e, f) rest
    go false b e f rest = rw e rest

not_not : (b : Bool) → not (not b) ≡ b
not_not true = refl
not_not false = refl

keeps_cases : (a b c d : Bool) → (not (a || b) && not (c || d)) ≡ not ((a || c) || (b || d))
keeps_cases true b c d = refl
keeps_cases false true true d = refl
keeps_cases false true false d = refl
keeps_cases false false true d = refl
keeps_cases false false false d = refl

keeps_all : (links : List (ℕ × ℕ)) → filter (λ l. true) links ≡ links
keeps_all [] = refl
keeps_all (l ∷ links) = ap (λ (ls : List (ℕ × ℕ)). l ∷ ls) (keeps_all links)

left_links : (numbers : List ℕ) (links : List (ℕ × ℕ)) → links_without_all numbers links ≡ filter (λ l. not (touches numbers l)) links
left_links [] links = sym (keeps_all links)
left_links (n ∷ numbers) links =
    left_links numbers (links_without n links)
    ∙ filter-filter (λ l. not (touches numbers l)) (λ l. not (nat_eq l.0 n || nat_eq l.1 n)) links
    ∙ filter_agree (λ l. not (nat_eq l.0 n || nat_eq l.1 n) && not (touches numbers l)) (λ l. not (touches (n ∷ numbers) l))
    (λ l. keeps_cases (nat_eq l.0 n) (nat_eq l.1 n) (list_any (nat_eq l.0) numbers) (list_any (nat_eq l.1) numbers)) links

touches-reverse : (numbers : List ℕ) (l : ℕ × ℕ) → touches (reverse numbers) l ≡ touches numbers l
touches-reverse numbers l =
    let p = IsPermutation-reverse numbers in
    let a = list_any-IsPermutation (nat_eq l.0) numbers (reverse numbers) p in
    let b = list_any-IsPermutation (nat_eq l.1) numbers (reverse numbers) p in
    rw (a, b) refl

filter_none : (p : ℕ × ℕ → Bool) (links : List (ℕ × ℕ)) → All (λ l. p l ≡ false) links → filter p links ≡ []
filter_none p [] fails = refl
filter_none p (l ∷ links) fails = rw (All-head (λ l. p l ≡ false) l links fails) (filter_none p links (All-tail (λ l. p l ≡ false) l links fails))

filter_all : (p : ℕ × ℕ → Bool) (links : List (ℕ × ℕ)) → All (λ l. p l ≡ true) links → filter p links ≡ links
filter_all p [] all = refl
filter_all p (l ∷ links) all = rw (All-head (λ l. p l ≡ true) l links all) (ap (λ (ls : List (ℕ × ℕ)). l ∷ ls) (filter_all p links (All-tail (λ l. p l ≡ true) l links all)))

-- the ends of a link have it in their lists
rests_of-some : (links : List (ℕ × ℕ)) (i : ℕ) (d : ℕ × ℕ) → i < length links → rests_of links (get_or links i d).0 ≡ [] → ⊥
rests_of-some [] i d h none = omega arith
rests_of-some ((a, b) ∷ links) zero d h none = let e = rests_of-cons_same a a b links refl in cc
rests_of-some ((a, b) ∷ links) (suc i) d h none = elim (cases_eq a (get_or links i d).0) [
  | inl same ↦ let e = rests_of-cons_same (get_or links i d).0 a b links same in cc
  | inr other ↦ rests_of-some links i d (omega arith) (sym (rests_of-cons_other (get_or links i d).0 a b links other) ∙ none)
]

dependents_of-some : (links : List (ℕ × ℕ)) (i : ℕ) (d : ℕ × ℕ) → i < length links → dependents_of links (get_or links i d).1 ≡ [] → ⊥
dependents_of-some [] i d h none = omega arith
dependents_of-some ((a, b) ∷ links) zero d h none = let e = dependents_of-cons_same b a b links refl in cc
dependents_of-some ((a, b) ∷ links) (suc i) d h none = elim (cases_eq b (get_or links i d).1) [
  | inl same ↦ let e = dependents_of-cons_same (get_or links i d).1 a b links same in cc
  | inr other ↦ dependents_of-some links i d (omega arith) (sym (dependents_of-cons_other (get_or links i d).1 a b links other) ∙ none)
]

module _ {K : Type 0} (eq : K → K → Bool) where
  -- a number with a list of links has a key
  has_key_by : (keys : List (Option K)) (free : List ℕ) (rests dependents : List (List ℕ)) → AreWhole eq keys free rests dependents → (n : ℕ)
      → ((list_at rests n ≡ [] → ⊥) ⊎ (list_at dependents n ≡ [] → ⊥)) → (k : K) × (at_number (keys, free) n ≡ Some k)
  has_key_by keys free rests dependents whole n some = go (slice_get keys n) refl
    where
      go : (o : Option (Option K)) → slice_get keys n ≡ o → (k : K) × (at_number (keys, free) n ≡ Some k)
      go None is =
          let past : length keys ≤ n = elim (cases_lt n (length keys)) [
            | inl lt ↦ let h = slice_get-get_or keys n None lt in cc
            | inr ge ↦ ge
          ] in
          let rests_len = whole.rests_len in
          let dependents_len = whole.dependents_len in
          elim some [
            | inl s ↦ absurd (s (get_or_past rests n [] (omega arith)))
            | inr s ↦ absurd (s (get_or_past dependents n [] (omega arith)))
          ]
      go (Some None) is = elim some [
        | inl s ↦ absurd (s (whole.unlinked n is).0)
        | inr s ↦ absurd (s (whole.unlinked n is).1)
      ]
      go (Some (Some k)) is = (k, ap flat is)

  abbrev EndsHaveKeys : Book K → ℕ × ℕ → Type 0
  EndsHaveKeys b l = ((k : K) × (at_number b l.0 ≡ Some k)) × ((k : K) × (at_number b l.1 ≡ Some k))

  ends_have_keys : (g : Graph K) (links : List (ℕ × ℕ)) → IsWhole eq g → AreLinks g links → All (EndsHaveKeys (book g)) links
  ends_have_keys g links whole are i d h = (
    has_key_by g.keys g.free g.rests g.dependents whole (get_or links i d).0 (inl (λ e. rests_of-some links i d h (sym (are.rests_are (get_or links i d).0) ∙ e))),
    has_key_by g.keys g.free g.rests g.dependents whole (get_or links i d).1 (inr (λ e. dependents_of-some links i d h (sym (are.dependents_are (get_or links i d).1) ∙ e))),
  )

  IsWhole-removed_all : (g : Graph K) (numbers : List ℕ) (keys : List K) → HaveKeys g numbers keys → IsWhole eq g → IsWhole eq (removed_all g numbers)
  IsWhole-removed_all g [] [] had whole = whole
  IsWhole-removed_all g [] (k ∷ keys) had whole = absurd had
  IsWhole-removed_all g (n ∷ numbers) [] had whole = absurd had
  IsWhole-removed_all g (n ∷ numbers) (k ∷ keys) had whole =
      IsWhole-removed_all (removed g n) numbers keys had.1 (AreWhole-removed eq g.keys g.free g.rests g.dependents n k had.0 whole)

  -- a number with a key is none of those that have none
  vacant_apart : (b : Book K) (numbers : List ℕ) (x : ℕ) (k : K) → AreVacant b numbers → at_number b x ≡ Some k → list_any (nat_eq x) numbers ≡ false
  vacant_apart b [] x k v is = refl
  vacant_apart b (n ∷ numbers) x k v is =
      or_from (nat_eq x n) (list_any (nat_eq x) numbers) (ne_eqb x n (λ e. let h : at_number b x ≡ None = ap (at_number b) e ∙ v.0 in cc)) (vacant_apart b numbers x k v.1 is)

  key_below : (b : Book K) (n : ℕ) (k : K) → at_number b n ≡ Some k → n < length b.0
  key_below b n k is = elim (cases_lt n (length b.0)) [
    | inl lt ↦ lt
    | inr ge ↦ let past : at_number b n ≡ None = ap flat (slice_get_past b.0 n ge) in cc
  ]

  module _ (g : Graph K) (out : List ℕ) (old new : List K) (links added taken : List (ℕ × ℕ)) (whole : IsWhole eq g) (had : HaveKeys g out old) (are : AreLinks g links)
      (fresh : AreNewLinks g out new added) (room : HasRoomFor g out new added) (took : IsPermutation (filter (touches out) links) taken) where
    orderly : IsOrderly (book g)
    orderly = IsOrderly-whole g.keys g.free whole.free_once

    left : List (ℕ × ℕ)
    left = links_without_all out links

    numbers : List ℕ
    numbers = numbers_given (removed_all g out) new

    shown : Shows g links
    shown = record { rests_len = whole.rests_len; dependents_len = whole.dependents_len; are = are }

    left_shown : Shows (removed_all g out) left
    unfolding left
    left_shown = Shows-removed_all g out links shown

    changed_shown : Shows (changed g out new added) (left ++ added)
    unfolding left
    changed_shown = Shows-linked_all (inserted_all (removed_all g out) new) added left
        (λ i d h. let f = fresh i d h in (slice_get_within _ _ _ f.1.1, slice_get_within _ _ _ f.2.1))
        (Shows-inserted_all (removed_all g out) new left left_shown)

    left_apart : All (λ l. not (touches (reverse numbers) l) ≡ true) left
    unfolding left numbers
    left_apart i d h =
        let l = get_or left i d in
        let keyed = ends_have_keys (removed_all g out) left (IsWhole-removed_all g out old had whole) left_shown.are i d h in
        let vacant = new_are_vacant g out old new added taken orderly had in
        let from = vacant_apart (book (removed_all g out)) numbers l.0 keyed.0.0 vacant keyed.0.1 in
        let to = vacant_apart (book (removed_all g out)) numbers l.1 keyed.1.0 vacant keyed.1.1 in
        rw (touches-reverse numbers l, from, to) refl

    added_gone : All (λ l. not (touches (reverse numbers) l) ≡ false) added
    unfolding numbers
    added_gone i d h = rw (touches-reverse numbers (get_or added i d), (fresh i d h).0) refl

    cleaned : links_without_all (reverse numbers) (left ++ added) ≡ left
    cleaned = left_links (reverse numbers) (left ++ added) ∙ filter-append (λ l. not (touches (reverse numbers) l)) left added
        ∙ ap (λ (ls : List (ℕ × ℕ)). ls ++ filter (λ l. not (touches (reverse numbers) l)) added) (filter_all (λ l. not (touches (reverse numbers) l)) left left_apart)
        ∙ ap (λ (ls : List (ℕ × ℕ)). left ++ ls) (filter_none (λ l. not (touches (reverse numbers) l)) added added_gone) ∙ append-nil left

    without_shown : Shows (without_new g out new added) left
    unfolding numbers
    without_shown = subst (λ (ls : List (ℕ × ℕ)). Shows (without_new g out new added) ls) cleaned (Shows-removed_all (changed g out new added) (reverse numbers) (left ++ added) changed_shown)

    ends_again : All (AreEnds (inserted_all (without_new g out new added) (reverse old))) taken
    ends_again =
        let keyed : All (EndsHaveKeys (book g)) taken = All-permutation (EndsHaveKeys (book g)) (filter (touches out) links) taken took (All-filter (touches out) (EndsHaveKeys (book g)) links (ends_have_keys g links whole are)) in
        let again = undone_alike g out old new added [] orderly had in
        All-weaker (EndsHaveKeys (book g)) (AreEnds (inserted_all (without_new g out new added) (reverse old))) (λ l k. (
          key_below (book (inserted_all (without_new g out new added) (reverse old))) l.0 k.0.0 (again.keys l.0 ∙ k.0.1),
          key_below (book (inserted_all (without_new g out new added) (reverse old))) l.1 k.1.0 (again.keys l.1 ∙ k.1.1),
        )) taken keyed

    undone_shown : Shows (undone g out old new added taken) (left ++ taken)
    undone_shown = Shows-linked_all (inserted_all (without_new g out new added) (reverse old)) taken left ends_again (Shows-inserted_all (without_new g out new added) (reverse old) left without_shown)

    same_links_again : IsPermutation links (left ++ taken)
    unfolding left
    same_links_again =
        let parts : IsPermutation links (filter (λ l. not (touches out l)) links ++ filter (touches out) links)
        = IsPermutation-filter_both (λ l. not (touches out l)) (touches out) (λ l. sym (not_not (touches out l))) links in
        let first : left ≡ filter (λ l. not (touches out l)) links = left_links out links in
        rw first (IsPermutation-trans _ _ _ parts (IsPermutation-append_right (filter (λ l. not (touches out l)) links) (filter (touches out) links) taken took))

    spare_again : ((undone g out old new added taken).spare_keys ≡ g.spare_keys) × ((undone g out old new added taken).spare_links ≡ g.spare_links)
    unfolding left numbers
    spare_again =
        let first = spare-removed_all g out links shown in
        let first_links = first.0 in
        let first_keys = first.1 in
        let keys_fit = room.keys_fit in
        let links_fit = room.links_fit in
        let second = spare-inserted_all (removed_all g out) new keys_fit in
        let second_links = second.0 in
        let second_keys = second.1 in
        let third = spare-linked_all (inserted_all (removed_all g out) new) added (omega arith) in
        let third_links = third.0 in
        let third_keys = third.1 in
        let fourth = spare-removed_all (changed g out new added) (reverse numbers) (left ++ added) changed_shown in
        let fourth_links = fourth.0 in
        let fourth_keys = fourth.1 in
        let count = length-reverse numbers in
        let given = length-numbers_given (removed_all g out) new in
        let both = length-append left added in
        let clean = ap length cleaned in
        let had_length = length-had g out old had in
        let old_length = length-reverse old in
        let fifth = spare-inserted_all (without_new g out new added) (reverse old) (omega arith) in
        let fifth_links = fifth.0 in
        let fifth_keys = fifth.1 in
        let all = length-append left taken in
        let same = length_permutation links (left ++ taken) same_links_again in
        let sixth = spare-linked_all (inserted_all (without_new g out new added) (reverse old)) taken (omega arith) in
        let sixth_links = sixth.0 in
        let sixth_keys = sixth.1 in
        (omega arith, omega arith)

    pub as_before : (numbers_given (without_new g out new added) (reverse old) ≡ reverse out) × IsAsBefore g (undone g out old new added taken) links
    as_before =
        let alike = undone_alike g out old new added taken orderly had in
        (old_numbers g out old new added taken orderly had, record { keys = alike.keys; numbers = alike.turns; same_links = (left ++ taken, undone_shown.are, same_links_again); spare_keys = spare_again.0; spare_links = spare_again.1 })
