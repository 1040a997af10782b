-- A change that was made can be undone by a change.
use Rattle.std.proofs.Common.{◌≡◌, ◌≢◌, ◌⊎◌, ℕ, suc, ◌+◌, ◌-◌, ◌<◌, Bool, true, false, nat_eq, List, [], ◌∷◌, length, reverse, get_or, slice_get, Option, Some, None, sym, ◌∙◌, ap, refl, inl, inr, subst, arith}
use Rattle.std.specs.List.{AllPairs, Contains, filter}
use Rattle.std.specs.List.Sorted.{IsPermutation}
use Rattle.std.proofs.lemmas.Bool.{cases_Bool}
use Rattle.std.proofs.lemmas.List.{length-reverse, reverse-append}
use Rattle.std.proofs.lemmas.List.Elements.{Contains-get_or}
use Rattle.std.proofs.lemmas.List.Kept.{AllPairs-cons}
use Rattle.std.proofs.lemmas.List.Quantifiers.{all_pairs_push}
use Rattle.std.proofs.lemmas.List.Sorted.{All-permutation, Contains-permutation, IsPermutation-reverse, IsPermutation-sym, list_any-IsPermutation}
use Rattle.finite_chains.proofs.Members.{All-from_contains, Contains-cases, Contains-head, Contains-nil, Contains-tail, filter_passes_one}
use Rattle.item_index.specs.Graphs.{AreLinks, Graph, HasKey, IsNode, IsWhole, inserted, linked, next_number, removed}
use Rattle.item_index.specs.Shelves.{list_at, times}
use Rattle.item_index.specs.Undo.{AreNewLinks, HasRoomFor, HaveKeys, IsAsBefore, changed, flat, inserted_all, key_at, linked_all, numbers_given, removed_all, touches, undone}
use Rattle.item_index.proofs.Turns.{IsOrderly, IsOrderly-strike}
use Rattle.item_index.proofs.Undoing.{as_before}
use Rattle.graph_steps.specs.Steps.{AreNewKeys, AreNodes}
use Rattle.graph_steps.proofs.Inserting.{IsOrderly-inserted, book, key_here, keys_after, new_in_turn, no_links, orderly, was_vacant}
use Rattle.graph_steps.proofs.Linking.{same_keys}
use Rattle.graph_steps.proofs.Numbers.{given_number, in_rests, key_given, key_of_number, key_stood, no_times}
use Rattle.graph_steps.proofs.Removing.{had_in_turn, left_whole}
use Rattle.graph_changes.specs.Changes.{CanChange}
use Rattle.graph_changes.proofs.Turning.{links_room, room-inserted_at}

in_reverse : {X : Type 0} (xs : List X) (x : X) → Contains xs x → Contains (reverse xs) x
in_reverse xs x h = Contains-permutation xs (reverse xs) x (IsPermutation-reverse xs) h

of_reverse : {X : Type 0} (xs : List X) (x : X) → Contains (reverse xs) x → Contains xs x
of_reverse xs x h = Contains-permutation (reverse xs) xs x (IsPermutation-sym xs (reverse xs) (IsPermutation-reverse xs)) h

pairs-reverse : {X : Type 0} (R : X → X → Type 0) (xs : List X) → AllPairs R xs → AllPairs (λ a b. R b a) (reverse xs)
pairs-reverse R [] pairs = λ i j d before below. absurd (omega arith)
pairs-reverse {X} R (x ∷ xs) pairs =
    subst (AllPairs (λ (a : X) (b : X). R b a)) (sym (reverse-append (x ∷ []) xs))
    (all_pairs_push (λ (a : X) (b : X). R b a) (reverse xs) x (pairs-reverse R xs (λ i j d before below. pairs (suc i) (suc j) d (omega arith) (omega arith)))
    (λ k d below.
    let y = get_or (reverse xs) k d in
    let h = of_reverse xs y (Contains-get_or (reverse xs) k d below) in
    subst (R x) h.2 (pairs 0 (suc h.0) y (omega arith) (omega (arith, h.1)))))

touches-reverse : (numbers : List ℕ) (l : ℕ × ℕ) → touches (reverse numbers) l ≡ touches numbers l
touches-reverse numbers l =
    let p = IsPermutation-reverse numbers in
    let a = list_any-IsPermutation (nat_eq l.0) numbers (reverse numbers) p in
    let b = list_any-IsPermutation (nat_eq l.1) numbers (reverse numbers) p in
    rw (a, b) refl

module _ {K : Type 0} where
  -- ---- room

  keys_left : (g : Graph K) (out : List ℕ) → (removed_all g out).spare_keys ≡ g.spare_keys + length out
  keys_left g [] = omega arith
  keys_left g (n ∷ out) = let rest = keys_left (removed g n) out in omega arith

  keys_in : (g : Graph K) (keys : List K) → (inserted_all g keys).spare_keys ≡ g.spare_keys - length keys
  keys_in g [] = omega arith
  keys_in g (k ∷ keys) = let rest = keys_in (inserted g k) keys in let here = (room-inserted_at g k g.free).0 in omega arith

  links_in : (g : Graph K) (links : List (ℕ × ℕ)) → ((linked_all g links).spare_links ≡ g.spare_links - length links) × ((linked_all g links).spare_keys ≡ g.spare_keys)
  links_in g [] = (omega arith, refl)
  links_in g (l ∷ links) = let rest = links_in (linked g l.0 l.1) links in let some = rest.0 in (omega arith, rest.1)

  length-given : (g : Graph K) (keys : List K) → length (numbers_given g keys) ≡ length keys
  length-given g [] = refl
  length-given g (k ∷ keys) = ap (λ (n : ℕ). suc n) (length-given (inserted g k) keys)

  length-old : (g : Graph K) (out : List ℕ) (old : List K) → HaveKeys g out old → length old ≡ length out
  length-old g [] [] had = refl
  length-old g [] (k ∷ old) had = absurd had
  length-old g (n ∷ out) [] had = absurd had
  length-old g (n ∷ out) (k ∷ old) had = ap (λ (m : ℕ). suc m) (length-old (removed g n) out old had.1)

  -- ---- order of numbers

  orderly_left : (g : Graph K) (out : List ℕ) (old : List K) → HaveKeys g out old → IsOrderly (book g) → IsOrderly (book (removed_all g out))
  orderly_left g [] [] had o = o
  orderly_left g [] (k ∷ old) had o = absurd had
  orderly_left g (n ∷ out) [] had o = absurd had
  orderly_left g (n ∷ out) (k ∷ old) had o = orderly_left (removed g n) out old had.1 (IsOrderly-strike (book g) n k (ap flat had.0) o)

  orderly_more : (g : Graph K) (keys : List K) → IsOrderly (book g) → IsOrderly (book (inserted_all g keys))
  orderly_more g [] o = o
  orderly_more g (k ∷ keys) o = orderly_more (inserted g k) keys (IsOrderly-inserted g k o)

  orderly_linked : (g : Graph K) (links : List (ℕ × ℕ)) → IsOrderly (book g) → IsOrderly (book (linked_all g links))
  orderly_linked g [] o = o
  orderly_linked g (l ∷ links) o = orderly_linked (linked g l.0 l.1) links o

  -- no number is given twice
  given_once : (g : Graph K) (keys : List K) → IsOrderly (book g) → AllPairs (λ m n. m ≢ n) (numbers_given g keys)
  given_once g [] o = λ i j d before below. absurd (omega arith)
  given_once g (k ∷ keys) o =
      let next = IsOrderly-inserted g k o in
      AllPairs-cons (λ m n. m ≢ n) (next_number g) (numbers_given (inserted g k) keys)
      (All-from_contains (λ n. next_number g ≢ n) (numbers_given (inserted g k) keys) (λ n h e.
      let none = was_vacant (inserted g k) keys next n h in
      let some : key_at (inserted g k) n ≡ Some k = subst (λ (m : ℕ). key_at (inserted g k) m ≡ Some k) e (key_here g k o) in
      cc))
      (given_once (inserted g k) keys next)

  -- ---- keys that went out

  old_number : (g : Graph K) (out : List ℕ) (old : List K) → HaveKeys g out old → (k : K) → Contains old k → (m : ℕ) × Contains out m × HasKey g m k
  old_number g [] [] had k h = absurd (Contains-nil k h)
  old_number g [] (j ∷ old) had k h = absurd had
  old_number g (n ∷ out) [] had k h = absurd had
  old_number g (n ∷ out) (j ∷ old) had k h = elim (Contains-cases j old k h) [
    | inl e ↦ (n, Contains-head n out, subst (HasKey g n) e had.0)
    | inr later ↦
        let rest = old_number (removed g n) out old had.1 k later in
        (rest.0, Contains-tail n out rest.0 rest.1, (key_stood g (n ∷ []) rest.0 k rest.2).0)
  ]

  module _ (eq : K → K → Bool) where
    abbrev AreDistinct : Graph K → Type 0
    AreDistinct g = (m n : ℕ) (j k : K) → HasKey g m j → HasKey g n k → eq j k ≡ true → m ≡ n

    old_pairs : (g : Graph K) (out : List ℕ) (old : List K) → HaveKeys g out old → AreDistinct g → AllPairs (λ j k. eq j k ≡ false) old
    old_pairs g [] [] had distinct = λ i j d before below. absurd (omega arith)
    old_pairs g [] (j ∷ old) had distinct = absurd had
    old_pairs g (n ∷ out) [] had distinct = absurd had
    old_pairs g (n ∷ out) (j ∷ old) had distinct =
        AllPairs-cons (λ j k. eq j k ≡ false) j old
        (All-from_contains (λ k. eq j k ≡ false) old (λ k h.
        let at = old_number (removed g n) out old had.1 k h in
        let was = key_stood g (n ∷ []) at.0 k at.2 in
        elim (cases_Bool (eq j k)) [
          | inl one ↦ absurd (was.1 (subst (Contains (n ∷ [])) (distinct n at.0 j k had.0 was.0 one) (Contains-head n [])))
          | inr other ↦ other
        ]))
        (old_pairs (removed g n) out old had.1 (λ a b i k ha hb. distinct a b i k (key_stood g (n ∷ []) a i ha).0 (key_stood g (n ∷ []) b k hb).0))

    module _ (g : Graph K) (out : List ℕ) (old new : List K) (links added taken : List (ℕ × ℕ)) (whole : IsWhole eq g) (had : HaveKeys g out old) (are : AreLinks g links)
        (fresh : AreNewLinks g out new added) (room : HasRoomFor g out new added) (took : IsPermutation (filter (touches out) links) taken) (some_room : 0 < g.spare_links) where
      abbrev less : Graph K
      less = removed_all g out

      abbrev more : Graph K
      more = inserted_all less new

      abbrev after : Graph K
      after = changed g out new added

      abbrev given : List ℕ
      given = numbers_given less new

      abbrev without : Graph K
      without = removed_all after (reverse given)

      less_orderly : IsOrderly (book less)
      less_orderly = orderly eq less (left_whole eq g out old whole had)

      to_after : (n : ℕ) (k : K) → HasKey more n k → HasKey after n k
      to_after n k has = subst (λ (ks : List (Option K)). slice_get ks n ≡ Some (Some k)) (sym (same_keys more added)) has

      from_after : (n : ℕ) (k : K) → HasKey after n k → HasKey more n k
      from_after n k has = subst (λ (ks : List (Option K)). slice_get ks n ≡ Some (Some k)) (same_keys more added) has

      back_nodes : AreNodes after (reverse given)
      back_nodes n h =
          let at = key_given less new n (of_reverse given n h) in
          (at.0, to_after n at.0 ((keys_after less new less_orderly n at.0).1 (inr at.1)))

      back_once : AllPairs (λ m n. m ≢ n) (reverse given)
      back_once i j d before below e = pairs-reverse (λ m n. m ≢ n) given (given_once less new less_orderly) i j d before below (sym e)

      had_again : (keys : List K) × HaveKeys after (reverse given) keys
      had_again = had_in_turn after (reverse given) back_nodes back_once

      without_orderly : IsOrderly (book without)
      without_orderly = let again = had_again in orderly_left after (reverse given) again.0 again.1 (orderly_linked more added (orderly_more less new less_orderly))

      without_key : (n : ℕ) (k : K) → HasKey without n k → HasKey g n k × (Contains out n → ⊥)
      without_key n k has =
          let was = key_stood after (reverse given) n k has in
          elim ((keys_after less new less_orderly n k).0 (from_after n k was.0)) [
            | inl here ↦ key_stood g out n k here
            | inr came ↦ absurd (was.1 (in_reverse given n (given_number given new n k came)))
          ]

      new_again : AreNewKeys eq without (reverse old)
      new_again = new_in_turn eq without (reverse old) without_orderly
          (λ n j k has h.
          let was = without_key n j has in
          let at = old_number g out old had k (of_reverse old k h) in
          elim (cases_Bool (eq k j)) [
            | inl one ↦ absurd (was.1 (subst (Contains out) (whole.distinct at.0 n k j at.2 was.0 one) at.1))
            | inr other ↦ other
          ])
          (pairs-reverse (λ j k. eq j k ≡ false) old (old_pairs g out old had whole.distinct))

      again : (numbers_given without (reverse old) ≡ reverse out) × IsAsBefore g (undone g out old new added taken) links
      again = as_before eq g out old new links added taken whole had are fresh room took

      node_again : (n : ℕ) → IsNode g n → IsNode (inserted_all without (reverse old)) n
      node_again n (k, has) = (
        k,
        subst (λ (ks : List (Option K)). slice_get ks n ≡ Some (Some k)) (same_keys (inserted_all without (reverse old)) taken) (key_of_number (undone g out old new added taken) n k (again.1.keys n ∙ ap flat has)),
      )

      has_node : (n : ℕ) → ((list_at g.rests n ≡ [] → ⊥) ⊎ (list_at g.dependents n ≡ [] → ⊥)) → IsNode g n
      has_node n some = go (key_at g n) refl
        where
          go : (o : Option K) → key_at g n ≡ o → IsNode g n
          go None e = let none = no_links eq g whole n e in elim some [ inl rests ↦ absurd (rests none.0) | inr dependents ↦ absurd (dependents none.1) ]
          go (Some k) e = (k, key_of_number g n k e)

      ends : (l : ℕ × ℕ) → Contains links l → IsNode g l.0 × IsNode g l.1
      ends l h =
          let rest : Contains (list_at g.rests l.0) l.1 = subst (λ (ns : List ℕ). Contains ns l.1) (sym (are.rests_are l.0)) (in_rests links l.0 l.1 h) in (
            has_node l.0 (inl (λ none. no_times l.1 (list_at g.rests l.0) (ap (times l.1) none) rest)),
            has_node l.1 (inr (λ none. no_times l.1 (list_at g.rests l.0) (whole.mirrored l.0 l.1 ∙ ap (times l.0) none) rest)),
          )

      links_again : AreNewLinks after (reverse given) (reverse old) taken
      links_again =
          let back = inserted_all without (reverse old) in
          All-permutation (λ l. (touches (numbers_given without (reverse old)) l ≡ true) × IsNode back l.0 × IsNode back l.1) (filter (touches out) links) taken took
          (All-from_contains (λ l. (touches (numbers_given without (reverse old)) l ≡ true) × IsNode back l.0 × IsNode back l.1) (filter (touches out) links) (λ l h.
          let passes = filter_passes_one (touches out) links l h in
          let both = ends l passes.0 in
          (ap (λ (ns : List ℕ). touches ns l) again.0 ∙ touches-reverse out l ∙ passes.1, node_again l.0 both.0, node_again l.1 both.1)))

      room_again : HasRoomFor after (reverse given) (reverse old) taken
      room_again =
          let less_keys = keys_left g out in
          let more_keys = keys_in less new in
          let linked = links_in more added in
          let after_keys = linked.1 in
          let without_keys = keys_left after (reverse given) in
          let given_len = length-given less new in
          let given_back = length-reverse given in
          let old_len = length-old g out old had in
          let old_back = length-reverse old in
          let fit = room.keys_fit in
          let last = links_in (inserted_all without (reverse old)) taken in
          let last_links = last.0 in
          let same_room = links_room without (reverse old) in
          let as_it_was = again.1.spare_links in
          record { keys_fit = omega arith; links_fit = omega arith }

      pub can_be_undone : CanChange eq (changed g out new added) (reverse (numbers_given (removed_all g out) new)) (reverse old) taken
      can_be_undone = record { had = had_again; new = new_again; linked = links_again; room = room_again }
