-- How numbers stay filed by their keys.
use Rattle.std.proofs.Common.{◌≡◌, ℕ, ◌+◌, ◌<◌, ◌%◌, ◌≢◌, Bool, true, false, cond, List, [], ◌∷◌, ◌++◌, length, get_or, slice_get, replicate, take, Option, Some, None, sym, ◌∙◌, ap, refl, inl, inr, subst, arith, eq-eqb}
use Rattle.std.specs.List.{All, remove, slice_set}
use Rattle.std.proofs.lemmas.List.{get_or-replicate, get_or-set_other, get_or-set_same, get_or_past, get_or_read, length-replicate, length-set, length-take-le, take_more}
use Rattle.std.proofs.lemmas.List.Elements.{All-from_get_or}
use Rattle.std.proofs.lemmas.Option.{slice_get-get_or, slice_get_past, slice_get_within}
use Rattle.std.proofs.lemmas.Bool.{cases_Bool, cases_eq, cases_lt, ne_eqb}
use Rattle.item_index.specs.Filing.{AreFiled, goes_to}
use Rattle.item_index.specs.Shelves.{list_at, times}
use Rattle.item_index.proofs.Mirrors.{list_there}
use Rattle.item_index.proofs.Places.{slice_get-push_last, slice_get-push_other}
use Rattle.item_index.proofs.Times.{hit, hit-other, hit-same, place_of, times-push, times-remove, times-there}

module _ {K : Type 0} (hash : K → ℕ) where
  -- what is filed has a key
  filed_some : (count b : ℕ) (o : Option (Option K)) (t : ℕ) → t ≡ cond (goes_to hash count b o) 1 0 → 0 < t → (k : K) × (o ≡ Some (Some k)) × (hash k % count ≡ b)
  filed_some count b None t e some = absurd (omega arith)
  filed_some count b (Some None) t e some = absurd (omega arith)
  filed_some count b (Some (Some k)) t e some = elim (cases_eq (hash k % count) b) [
    | inl same ↦ (k, refl, same)
    | inr ne ↦ let z : t ≡ 0 = e ∙ ap (λ (x : Bool). cond x 1 0) (ne_eqb (hash k % count) b ne) in absurd (omega arith)
  ]

  goes_there : (count : ℕ) (k : K) → goes_to hash count (hash k % count) (Some (Some k)) ≡ true
  goes_there count k = eq-eqb (hash k % count) (hash k % count) refl

  goes_elsewhere : (count b : ℕ) (k : K) → (b ≡ hash k % count → ⊥) → goes_to hash count b (Some (Some k)) ≡ false
  goes_elsewhere count b k ne = ne_eqb (hash k % count) b (λ e. ne (sym e))

  module _ (keys : List (Option K)) (lists : List (List ℕ)) (filed : AreFiled hash keys lists) where
    -- each number in a file is one of the keys'
    pub filed_within : (b : ℕ) → All (λ n. n < length keys) (list_at lists b)
    filed_within b = All-from_get_or (λ n. n < length keys) (list_at lists b) 0 (λ i h.
        let n = get_or (list_at lists b) i 0 in
        let some = times-there n i (list_at lists b) (slice_get-get_or (list_at lists b) i 0 h) in
        let f = filed_some (length lists) b (slice_get keys n) (times n (list_at lists b)) (filed b n) some in
        slice_get_within keys n (Some f.0) f.1)

    -- a number with a key is in its file
    pub filed_there : (n : ℕ) (k : K) → slice_get keys n ≡ Some (Some k) → times n (list_at lists (hash k % length lists)) ≡ 1
    filed_there n k is = filed (hash k % length lists) n ∙ ap (λ (o : Option (Option K)). cond (goes_to hash (length lists) (hash k % length lists) o) 1 0) is
        ∙ ap (λ (b : Bool). cond b 1 0) (goes_there (length lists) k)

    -- one number more, at a place that had no key
    pub AreFiled-added : (now : List (Option K)) (at : ℕ) (k : K) (file : ℕ) → file ≡ hash k % length lists → file < length lists → slice_get now at ≡ Some (Some k)
        → ((n : ℕ) → n ≢ at → slice_get now n ≡ slice_get keys n) → ((b : ℕ) → goes_to hash (length lists) b (slice_get keys at) ≡ false)
        → AreFiled hash now (slice_set lists file (list_at lists file ++ at ∷ []))
    AreFiled-added now at k file file_is there here else none b n =
        let count_is = length-set lists file (list_at lists file ++ at ∷ []) in
        rw count_is (elim (cases_eq b file) [
          | inl eb ↦
              let shown : list_at (slice_set lists file (list_at lists file ++ at ∷ [])) b ≡ list_at lists file ++ at ∷ [] = rw eb (get_or-set_same lists file (list_at lists file ++ at ∷ []) [] there) in
              ap (times n) shown ∙ times-push n at (list_at lists file) ∙ elim (cases_eq n at) [
                | inl en ↦
                    let was : times at (list_at lists file) ≡ 0 = filed file at ∙ ap (λ (x : Bool). cond x 1 0) (none file) in
                    let one = hit-same at in
                    let go : goes_to hash (length lists) b (slice_get now at) ≡ true = ap (goes_to hash (length lists) b) here ∙ rw (eb, file_is) (goes_there (length lists) k) in
                    rw en ((let s : times at (list_at lists file) + hit at at ≡ 1 = omega arith in s) ∙ sym (ap (λ (x : Bool). cond x 1 0) go))
                | inr nn ↦
                    let zero_more = hit-other n at (λ e. nn (sym e)) in
                    (let s : times n (list_at lists file) + hit n at ≡ times n (list_at lists file) = omega arith in s)
                    ∙ rw eb (filed file n ∙ ap (λ (o : Option (Option K)). cond (goes_to hash (length lists) file o) 1 0) (sym (else n nn)))
              ]
          | inr nb ↦ ap (times n) (get_or-set_other lists file b (list_at lists file ++ at ∷ []) [] nb) ∙ filed b n ∙ elim (cases_eq n at) [
            | inl en ↦
                let go : goes_to hash (length lists) b (slice_get now at) ≡ false = ap (goes_to hash (length lists) b) here ∙ goes_elsewhere (length lists) b k (λ e. nb (e ∙ sym file_is)) in
                rw en (ap (λ (x : Bool). cond x 1 0) (none b) ∙ sym (ap (λ (x : Bool). cond x 1 0) go))
            | inr nn ↦ ap (λ (o : Option (Option K)). cond (goes_to hash (length lists) b o) 1 0) (sym (else n nn))
          ]
        ])

    -- one number less
    pub AreFiled-taken : (now : List (Option K)) (at : ℕ) (k : K) (file j : ℕ) → file ≡ hash k % length lists → slice_get (list_at lists file) j ≡ Some at → slice_get keys at ≡ Some (Some k)
        → slice_get now at ≡ Some None → ((n : ℕ) → n ≢ at → slice_get now n ≡ slice_get keys n) → AreFiled hash now (slice_set lists file (remove (list_at lists file) j))
    AreFiled-taken now at k file j file_is stands was gone else b n =
        let count_is = length-set lists file (remove (list_at lists file) j) in
        let there = list_there lists file at (times-there at j (list_at lists file) stands) in
        rw count_is (elim (cases_eq b file) [
          | inl eb ↦
              let shown : list_at (slice_set lists file (remove (list_at lists file) j)) b ≡ remove (list_at lists file) j = rw eb (get_or-set_same lists file (remove (list_at lists file) j) [] there) in
              let t = times-remove n at j (list_at lists file) stands in
              ap (times n) shown ∙ elim (cases_eq n at) [
                | inl en ↦
                    let t = times-remove at at j (list_at lists file) stands in
                    let one = hit-same at in
                    let once : times at (list_at lists file) ≡ 1 = rw file_is (filed_there at k was) in
                    rw (en, gone) (let s : times at (remove (list_at lists file) j) ≡ 0 = omega arith in s)
                | inr nn ↦
                    let none = hit-other n at (λ e. nn (sym e)) in
                    (let s : times n (remove (list_at lists file) j) ≡ times n (list_at lists file) = omega arith in s)
                    ∙ rw eb (filed file n ∙ ap (λ (o : Option (Option K)). cond (goes_to hash (length lists) file o) 1 0) (sym (else n nn)))
              ]
          | inr nb ↦ ap (times n) (get_or-set_other lists file b (remove (list_at lists file) j) [] nb) ∙ filed b n ∙ elim (cases_eq n at) [
            | inl en ↦
                let go : goes_to hash (length lists) b (slice_get keys at) ≡ false = ap (goes_to hash (length lists) b) was ∙ goes_elsewhere (length lists) b k (λ e. nb (e ∙ sym file_is)) in
                rw (en, gone) (ap (λ (x : Bool). cond x 1 0) go)
            | inr nn ↦ ap (λ (o : Option (Option K)). cond (goes_to hash (length lists) b o) 1 0) (sym (else n nn))
          ]
        ])

    -- a key that differs from those of its file differs from all
    pub not_in_file : (eq : K → K → Bool) (k : K) → ((j : K) → eq k j ≡ true → hash k ≡ hash j)
        → ((i : ℕ) (j : K) → i < length (list_at lists (hash k % length lists)) → slice_get keys (get_or (list_at lists (hash k % length lists)) i 0) ≡ Some (Some j) → eq k j ≡ false)
        → (n : ℕ) (j : K) → slice_get keys n ≡ Some (Some j) → eq k j ≡ false
    not_in_file eq k alike none n j is = elim (cases_Bool (eq k j)) [
      | inl same ↦
          let one = rw (← (alike j same)) at (filed_there n j is) in
          let place = place_of n (list_at lists (hash k % length lists)) (omega arith) in
          none place.0 j place.1 (ap (slice_get keys) place.2 ∙ is)
      | inr other ↦ other
    ]

module _ {K : Type 0} (hash : K → ℕ) (keys : List (Option K)) (lists : List (List ℕ)) (i : ℕ) (o : Option K) (within : i < length keys) (is : o ≡ get_or keys i o) (filed : AreFiled hash (take i keys) lists) where
  taken_length : length (take i keys) ≡ i
  taken_length = length-take-le i keys (omega arith)

  taken_next : take (i + 1) keys ≡ take i keys ++ o ∷ []
  taken_next = take_more keys i None within ∙ ap (λ (x : Option K). take i keys ++ x ∷ []) (sym (get_or_read keys i o within is None))

  next_here : slice_get (take (i + 1) keys) i ≡ Some o
  next_here = ap (λ (ks : List (Option K)). slice_get ks i) taken_next ∙ subst (λ (n : ℕ). slice_get (take i keys ++ o ∷ []) n ≡ Some o) taken_length (slice_get-push_last (take i keys) o)

  next_else : (n : ℕ) → n ≢ i → slice_get (take (i + 1) keys) n ≡ slice_get (take i keys) n
  next_else n ne = ap (λ (ks : List (Option K)). slice_get ks n) taken_next ∙ slice_get-push_other (take i keys) o n (λ e. ne (e ∙ taken_length))

  nothing_yet : slice_get (take i keys) i ≡ None
  nothing_yet = slice_get_past (take i keys) i (let e = taken_length in omega arith)

  -- the next number is filed
  pub AreFiled-next_some : (k : K) (file : ℕ) → o ≡ Some k → file ≡ hash k % length lists → file < length lists → AreFiled hash (take (i + 1) keys) (slice_set lists file (list_at lists file ++ i ∷ []))
  AreFiled-next_some k file o_is file_is there =
      AreFiled-added hash (take i keys) lists filed (take (i + 1) keys) i k file file_is there (next_here ∙ ap (λ (x : Option K). Some x) o_is) next_else
      (λ b. ap (goes_to hash (length lists) b) nothing_yet)

  -- the next number has no key
  pub AreFiled-next_none : o ≡ None → AreFiled hash (take (i + 1) keys) lists
  AreFiled-next_none o_is b n = filed b n ∙ elim (cases_eq n i) [
    | inl e ↦
        let old : goes_to hash (length lists) b (slice_get (take i keys) n) ≡ false = rw e (ap (goes_to hash (length lists) b) nothing_yet) in
        let new : goes_to hash (length lists) b (slice_get (take (i + 1) keys) n) ≡ false = rw e (ap (goes_to hash (length lists) b) (next_here ∙ ap (λ (x : Option K). Some x) o_is)) in
        ap (λ (x : Bool). cond x 1 0) (old ∙ sym new)
    | inr ne ↦ ap (λ (x : Option (Option K)). cond (goes_to hash (length lists) b x) 1 0) (sym (next_else n ne))
  ]

pub nothing_filed : {K : Type 0} (hash : K → ℕ) (count : ℕ) → AreFiled hash [] (replicate count [])
nothing_filed hash count b n = ap (times n) (elim (cases_lt b count) [
  | inl lt ↦ get_or-replicate count b [] [] lt
  | inr ge ↦ get_or_past (replicate count []) b [] (rw (length-replicate count (let e : List ℕ = [] in e)) ge)
])
