-- What inserting many keys adds.
use Rattle.std.proofs.Common.{◌≡◌, ◌≢◌, ◌⊎◌, ℕ, suc, ◌+◌, Bool, false, List, [], ◌∷◌, ◌++◌, length, slice_get, Option, Some, None, sym, ◌∙◌, ap, refl, inl, inr, subst, arith}
use Rattle.std.specs.Prelude.{◌↔◌}
use Rattle.std.specs.List.{AllPairs, Contains, zip}
use Rattle.std.proofs.lemmas.Bool.{cases_eq, cases_lt}
use Rattle.std.proofs.lemmas.List.{get_or_past, length-append, length-set}
use Rattle.std.proofs.lemmas.Option.{slice_get-get_or}
use Rattle.finite_chains.proofs.Members.{Contains-cases, Contains-head, Contains-nil, Contains-tail}
use Rattle.item_index.specs.Graphs.{Graph, HasKey, IsWhole, first_free, inserted, inserted_at, next_number}
use Rattle.item_index.specs.Shelves.{list_at}
use Rattle.item_index.specs.Undo.{flat, inserted_all, key_at, number_in_turn, numbers_given}
use Rattle.item_index.proofs.NodeLemmas.{not_found}
use Rattle.item_index.proofs.Places.{list_at-push_nil}
use Rattle.item_index.proofs.Turns.{AreVacant, Book, IsOrderly, IsOrderly-put, IsOrderly-whole, at_number, in_turn, keys-put_other, keys-put_same, put, turns_are_vacant, turns_of}
use Rattle.graph_steps.specs.Steps.{AreNewKeys, HasLists}

next-turn : (free : List ℕ) (fresh : ℕ) → first_free free fresh ≡ number_in_turn free fresh 0
next-turn [] fresh = omega arith
next-turn (n ∷ free) fresh = refl

module _ {K : Type 0} where
  -- the key of a number, read either way
  pub has_key : (o : Option (Option K)) (k : K) → flat o ≡ Some k → o ≡ Some (Some k)
  has_key None k e = cc
  has_key (Some o) k e = ap (λ (p : Option K). Some p) e

  abbrev pub book : Graph K → Book K
  book g = (g.keys, g.free)

  book-inserted_at : (g : Graph K) (k : K) (free : List ℕ) → g.free ≡ free → book (inserted_at g k free) ≡ put (g.keys, free) k
  book-inserted_at g k [] e = ap (λ (free : List ℕ). (g.keys ++ Some k ∷ [], free)) e
  book-inserted_at g k (n ∷ free) e = refl

  book-inserted : (g : Graph K) (k : K) → book (inserted g k) ≡ put (book g) k
  book-inserted g k = book-inserted_at g k g.free refl

  pub IsOrderly-inserted : (g : Graph K) (k : K) → IsOrderly (book g) → IsOrderly (book (inserted g k))
  IsOrderly-inserted g k orderly = subst (λ (b : Book K). IsOrderly b) (sym (book-inserted g k)) (IsOrderly-put (book g) k orderly)

  next : (g : Graph K) → next_number g ≡ in_turn (book g) 0
  next g = next-turn g.free (length g.keys)

  numbers-turns : (g : Graph K) (keys : List K) → numbers_given g keys ≡ turns_of (book g) keys
  numbers-turns g [] = refl
  numbers-turns g (k ∷ keys) =
      ap (λ (n : ℕ). n ∷ numbers_given (inserted g k) keys) (next g)
      ∙ ap (λ (ns : List ℕ). in_turn (book g) 0 ∷ ns) (numbers-turns (inserted g k) keys ∙ ap (λ (b : Book K). turns_of b keys) (book-inserted g k))

  pub key_here : (g : Graph K) (k : K) → IsOrderly (book g) → key_at (inserted g k) (next_number g) ≡ Some k
  key_here g k orderly = ap (λ (b : Book K). at_number b (next_number g)) (book-inserted g k) ∙ ap (at_number (put (book g) k)) (next g) ∙ keys-put_same (book g) k orderly

  key_else : (g : Graph K) (k : K) (n : ℕ) → n ≢ next_number g → key_at (inserted g k) n ≡ key_at g n
  key_else g k n ne = ap (λ (b : Book K). at_number b n) (book-inserted g k) ∙ keys-put_other (book g) k n (λ e. ne (e ∙ sym (next g)))

  none_before : (g : Graph K) → IsOrderly (book g) → key_at g (next_number g) ≡ None
  none_before g orderly = ap (key_at g) (next g) ∙ orderly.vacant 0

  keeps_key : (g : Graph K) (k : K) → IsOrderly (book g) → (n : ℕ) (j : K) → HasKey g n j → HasKey (inserted g k) n j
  keeps_key g k orderly n j has =
      let other : n ≢ next_number g = λ e. let none = none_before g orderly in let some : key_at g (next_number g) ≡ Some j = ap (key_at g) (sym e) ∙ ap flat has in cc in
      has_key (slice_get (inserted g k).keys n) j (key_else g k n other ∙ ap flat has)

  which_key : (g : Graph K) (k : K) → IsOrderly (book g) → (n : ℕ) (j : K) → HasKey (inserted g k) n j → HasKey g n j ⊎ ((n ≡ next_number g) × (j ≡ k))
  which_key g k orderly n j has = elim (cases_eq n (next_number g)) [
    | inl e ↦ inr (e, (let here = key_here g k orderly in let is : key_at (inserted g k) (next_number g) ≡ Some j = ap (key_at (inserted g k)) (sym e) ∙ ap flat has in let same : j ≡ k = cc in same))
    | inr ne ↦ inl (has_key (slice_get g.keys n) j (sym (key_else g k n ne) ∙ ap flat has))
  ]

  abbrev IsGiven : Graph K → List K → ℕ → K → Type 0
  IsGiven g keys n k = Contains (zip (numbers_given g keys) keys) (n, k)

  kept : (g : Graph K) (keys : List K) → IsOrderly (book g) → (n : ℕ) (k : K) → HasKey g n k → HasKey (inserted_all g keys) n k
  kept g [] orderly n k has = has
  kept g (j ∷ keys) orderly n k has = kept (inserted g j) keys (IsOrderly-inserted g j orderly) n k (keeps_key g j orderly n k has)

  came : (g : Graph K) (keys : List K) → IsOrderly (book g) → (n : ℕ) (k : K) → IsGiven g keys n k → HasKey (inserted_all g keys) n k
  came g [] orderly n k given = absurd (Contains-nil (n, k) given)
  came g (j ∷ keys) orderly n k given =
      elim (Contains-cases (next_number g, j) (zip (numbers_given (inserted g j) keys) keys) (n, k) given) [
        | inl e ↦
            let number : next_number g ≡ n = ap (λ (p : ℕ × K). p.0) e in
            let key : j ≡ k = ap (λ (p : ℕ × K). p.1) e in
            let here : HasKey (inserted g j) (next_number g) j = has_key (slice_get (inserted g j).keys (next_number g)) j (key_here g j orderly) in
            kept (inserted g j) keys (IsOrderly-inserted g j orderly) n k (subst (λ (m : ℕ). HasKey (inserted g j) m k) number (subst (λ (l : K). HasKey (inserted g j) (next_number g) l) key here))
        | inr later ↦ came (inserted g j) keys (IsOrderly-inserted g j orderly) n k later
      ]

  either : (g : Graph K) (keys : List K) → IsOrderly (book g) → (n : ℕ) (k : K) → HasKey (inserted_all g keys) n k → HasKey g n k ⊎ IsGiven g keys n k
  either g [] orderly n k has = inl has
  either g (j ∷ keys) orderly n k has =
      elim (either (inserted g j) keys (IsOrderly-inserted g j orderly) n k has) [
        | inl before ↦ (elim (which_key g j orderly n k before) [
          | inl old ↦ inl old
          | inr same ↦ inr (subst (λ (p : ℕ × K). Contains (zip (numbers_given g (j ∷ keys)) (j ∷ keys)) p) (λ i. (sym same.0 i, sym same.1 i)) (Contains-head (next_number g, j) (zip (numbers_given (inserted g j) keys) keys)))
        ])
        | inr later ↦ inr (Contains-tail (next_number g, j) (zip (numbers_given (inserted g j) keys) keys) (n, k) later)
      ]

  pub keys_after : (g : Graph K) (keys : List K) → IsOrderly (book g) → (n : ℕ) (k : K) → HasKey (inserted_all g keys) n k ↔ (HasKey g n k ⊎ Contains (zip (numbers_given g keys) keys) (n, k))
  keys_after g keys orderly n k = (either g keys orderly n k, λ h. elim h [ inl has ↦ kept g keys orderly n k has | inr given ↦ came g keys orderly n k given ])

  -- keys that differ from those that are there, and from one another, are new in turn
  pub new_in_turn : (eq : K → K → Bool) (g : Graph K) (keys : List K) → IsOrderly (book g) → ((n : ℕ) (j k : K) → HasKey g n j → Contains keys k → eq k j ≡ false) → AllPairs (λ j k. eq k j ≡ false) keys → AreNewKeys eq g keys
  new_in_turn eq g [] orderly apart pairs = tt
  new_in_turn eq g (k ∷ keys) orderly apart pairs = (
    not_found eq g.keys k (λ n j has. apart n j k has (Contains-head k keys)),
    new_in_turn eq (inserted g k) keys (IsOrderly-inserted g k orderly)
        (λ n j l has h. elim (which_key g k orderly n j has) [
          | inl old ↦ apart n j l old (Contains-tail k keys l h)
          | inr same ↦
              let other : eq l k ≡ false = subst (λ (m : K). eq m k ≡ false) h.2 (pairs 0 (suc h.0) l (omega arith) (omega (arith, h.1))) in
              subst (λ (m : K). eq l m ≡ false) (sym same.1) other
        ])
        (λ i j d before below. pairs (suc i) (suc j) d (omega arith) (omega arith)),
  )

  -- a number that had no key, of those in turn
  vacant : (b : Book K) (numbers : List ℕ) → AreVacant b numbers → (n : ℕ) → Contains numbers n → at_number b n ≡ None
  vacant b [] are n h = absurd (Contains-nil n h)
  vacant b (m ∷ numbers) are n h = elim (Contains-cases m numbers n h) [ inl e ↦ ap (at_number b) (sym e) ∙ are.0 | inr later ↦ vacant b numbers are.1 n later ]

  pub was_vacant : (g : Graph K) (keys : List K) → IsOrderly (book g) → (n : ℕ) → Contains (numbers_given g keys) n → key_at g n ≡ None
  was_vacant g keys orderly n h = vacant (book g) (turns_of (book g) keys) (turns_are_vacant (book g) keys orderly) n (subst (λ (ns : List ℕ). Contains ns n) (numbers-turns g keys) h)

  module _ (eq : K → K → Bool) where
    pub orderly : (g : Graph K) → IsWhole eq g → IsOrderly (book g)
    orderly g whole = IsOrderly-whole g.keys g.free whole.free_once

    -- a number without a key has no links
    pub no_links : (g : Graph K) → IsWhole eq g → (n : ℕ) → key_at g n ≡ None → (list_at g.rests n ≡ []) × (list_at g.dependents n ≡ [])
    no_links g whole n none = elim (cases_lt n (length g.keys)) [
      | inl lt ↦ whole.unlinked n (go (slice_get g.keys n) (λ past. let some = slice_get-get_or g.keys n None lt in cc) none)
      | inr ge ↦ let rests_len = whole.rests_len in let dependents_len = whole.dependents_len in (get_or_past g.rests n [] (omega arith), get_or_past g.dependents n [] (omega arith))
    ]
      where
        go : (o : Option (Option K)) → (o ≡ None → ⊥) → flat o ≡ None → o ≡ Some None
        go None some e = absurd (some refl)
        go (Some o) some e = ap (λ (p : Option K). Some p) e

    pub was_unlinked : (g : Graph K) (keys : List K) → IsWhole eq g → (n : ℕ) → Contains (numbers_given g keys) n → (key_at g n ≡ None) × (list_at g.rests n ≡ []) × (list_at g.dependents n ≡ [])
    was_unlinked g keys whole n h =
        let none = was_vacant g keys (orderly g whole) n h in
        let links = no_links g whole n none in
        (none, links.0, links.1)

  -- ---- lists

  rests-inserted_at : (g : Graph K) (k : K) (free : List ℕ) (n : ℕ) → list_at (inserted_at g k free).rests n ≡ list_at g.rests n
  rests-inserted_at g k [] n = list_at-push_nil g.rests n
  rests-inserted_at g k (m ∷ free) n = refl

  dependents-inserted_at : (g : Graph K) (k : K) (free : List ℕ) (n : ℕ) → list_at (inserted_at g k free).dependents n ≡ list_at g.dependents n
  dependents-inserted_at g k [] n = list_at-push_nil g.dependents n
  dependents-inserted_at g k (m ∷ free) n = refl

  pub same_rests : (g : Graph K) (keys : List K) (n : ℕ) → list_at (inserted_all g keys).rests n ≡ list_at g.rests n
  same_rests g [] n = refl
  same_rests g (k ∷ keys) n = same_rests (inserted g k) keys n ∙ rests-inserted_at g k g.free n

  pub same_dependents : (g : Graph K) (keys : List K) (n : ℕ) → list_at (inserted_all g keys).dependents n ≡ list_at g.dependents n
  same_dependents g [] n = refl
  same_dependents g (k ∷ keys) n = same_dependents (inserted g k) keys n ∙ dependents-inserted_at g k g.free n

  lists-inserted_at : (g : Graph K) (k : K) (free : List ℕ) → HasLists g → HasLists (inserted_at g k free)
  lists-inserted_at g k [] has = record {
    rests_len = length-append g.rests ([] ∷ []) ∙ ap (λ (n : ℕ). n + 1) has.rests_len ∙ sym (length-append g.keys (Some k ∷ []));
    dependents_len = length-append g.dependents ([] ∷ []) ∙ ap (λ (n : ℕ). n + 1) has.dependents_len ∙ sym (length-append g.keys (Some k ∷ []));
  }
  lists-inserted_at g k (m ∷ free) has = record { rests_len = has.rests_len ∙ sym (length-set g.keys m (Some k)); dependents_len = has.dependents_len ∙ sym (length-set g.keys m (Some k)) }

  pub same_lists : (g : Graph K) (keys : List K) → HasLists g → HasLists (inserted_all g keys)
  same_lists g [] has = has
  same_lists g (k ∷ keys) has = same_lists (inserted g k) keys (lists-inserted_at g k g.free has)
