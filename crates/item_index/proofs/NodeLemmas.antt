-- Which number has a key.
use Rattle.std.proofs.Common.{◌≡◌, ℕ, ◌<◌, Bool, true, false, nat_lt, List, length, get_or, slice_get, Option, Some, None, sym, ◌∙◌, ap, refl, inl, inr, arith}
use Rattle.std.specs.List.{position, position_or_len}
use Rattle.std.specs.Cmp.{IsEquivalence}
use Rattle.std.specs.Option.{IfNone, IfSome}
use Rattle.std.proofs.lemmas.List.Sums.{position_or_len_is, fails_before_first}
use Rattle.std.proofs.lemmas.Option.{get_or_from_slice_get, slice_get-get_or, slice_get_within}
use Rattle.std.proofs.lemmas.Bool.{cases_lt, cases_Bool, cond-true, cond-false, lt-ltb, le-ltb}
use Rattle.item_index.specs.Graphs.{holds}

module _ {K : Type 0} (eq : K → K → Bool) (keys : List (Option K)) (k : K) where
  position_at : (n : ℕ) → position_or_len (holds eq k) keys ≡ n → n < length keys → position (holds eq k) keys ≡ Some n
  position_at n is within = rw is (cond-true (nat_lt n (length keys)) (Some n) None (lt-ltb n (length keys) within))

  -- a place of the keys, with what stands there
  fails_at : (n : ℕ) (o : Option K) → ((j : K) → o ≡ Some j → eq k j ≡ false) → holds eq k o ≡ false
  fails_at n None fails = refl
  fails_at n (Some j) fails = fails j refl

  -- where the key has no number, it differs from each key
  pub absent_from : position (holds eq k) keys ≡ None → (n : ℕ) (j : K) → slice_get keys n ≡ Some (Some j) → eq k j ≡ false
  absent_from none n j is =
      let within = slice_get_within keys n (Some j) is in
      elim (cases_lt (position_or_len (holds eq k) keys) (length keys)) [
        | inl lt ↦ let some = position_at (position_or_len (holds eq k) keys) refl lt in cc
        | inr ge ↦
            let fails = fails_before_first (holds eq k) keys n None (omega arith) in
            let here : get_or keys n None ≡ Some j = get_or_from_slice_get keys n (Some j) None is in
            sym (ap (holds eq k) here) ∙ fails
      ]

  -- the number whose key equals it
  pub found_at : IsEquivalence eq → ((m n : ℕ) (j l : K) → slice_get keys m ≡ Some (Some j) → slice_get keys n ≡ Some (Some l) → eq j l ≡ true → m ≡ n)
      → (n : ℕ) (j : K) → slice_get keys n ≡ Some (Some j) → eq k j ≡ true → position (holds eq k) keys ≡ Some n
  found_at laws distinct n j is same =
      let within = slice_get_within keys n (Some j) is in
      position_at n (position_or_len_is (holds eq k) keys n None (omega arith)
      (λ m lt. fails_at m (get_or keys m None) (λ l at. elim (cases_Bool (eq k l)) [
        | inl same_too ↦
            let m_is : slice_get keys m ≡ Some (Some l) = slice_get-get_or keys m None (omega arith) ∙ ap (λ (o : Option K). Some o) at in
            let both : eq j l ≡ true = sym (laws.congr k j l same) ∙ same_too in
            let e : n ≡ m = distinct n m j l is m_is both in
            absurd (omega arith)
        | inr other ↦ other
      ]))
      (λ _. let here : get_or keys n None ≡ Some j = get_or_from_slice_get keys n (Some j) None is in ap (holds eq k) here ∙ same)) within

  pub not_found : ((n : ℕ) (j : K) → slice_get keys n ≡ Some (Some j) → eq k j ≡ false) → position (holds eq k) keys ≡ None
  not_found absent =
      let past : position_or_len (holds eq k) keys ≡ length keys = position_or_len_is (holds eq k) keys (length keys) None (omega arith)
      (λ m lt. fails_at m (get_or keys m None) (λ l at. absent m l (slice_get-get_or keys m None lt ∙ ap (λ (o : Option K). Some o) at)))
      (λ bad. absurd (omega arith)) in
      rw past (cond-false (nat_lt (length keys) (length keys)) (Some (length keys)) None (le-ltb (length keys) (length keys) (omega arith)))

  -- what a search answers that looked at every number that it had to
  pub found_or_not : (P : Type 0) → (P → (n : ℕ) (j : K) → slice_get keys n ≡ Some (Some j) → eq k j ≡ false)
      → IsEquivalence eq → ((m n : ℕ) (j l : K) → slice_get keys m ≡ Some (Some j) → slice_get keys n ≡ Some (Some l) → eq j l ≡ true → m ≡ n)
      → (r : Option ℕ) → IfSome r (λ n. (j : K) × (slice_get keys n ≡ Some (Some j)) × (eq k j ≡ true)) → IfNone r P → r ≡ position (holds eq k) keys
  found_or_not P absent laws distinct (Some n) some none = sym (found_at laws distinct n some.0 some.1 some.2)
  found_or_not P absent laws distinct None some none = sym (not_found (absent none))
