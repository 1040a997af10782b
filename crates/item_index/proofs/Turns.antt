-- Numbers in turn: what keys and free numbers are after removes and inserts, and that they come back.
use Rattle.std.proofs.Common.{◌≡◌, ℕ, zero, suc, ◌+◌, ◌<◌, ◌≤◌, ◌≢◌, Bool, true, false, cond, List, [], ◌∷◌, ◌++◌, length, reverse, get_or, slice_get, Option, Some, None, sym, ◌∙◌, ap, refl, inl, inr, subst, arith}
use Rattle.std.specs.List.{slice_set}
use Rattle.std.proofs.lemmas.List.{length-set, length-append, reverse-append}
use Rattle.std.proofs.lemmas.Option.{slice_get-get_or, slice_get_past, slice_get_within}
use Rattle.std.proofs.lemmas.Bool.{cases_eq, cases_lt}
use Rattle.item_index.specs.Graphs.{is_free}
use Rattle.item_index.specs.Shelves.{times}
use Rattle.item_index.specs.Undo.{flat, number_in_turn}
use Rattle.item_index.proofs.GraphLemmas.{free_has_none}
use Rattle.item_index.proofs.Places.{slice_get-push_last, slice_get-push_other, slice_get-set_other, slice_get-set_same}
use Rattle.item_index.proofs.Times.{hit, hit-same, times-cons, times-there}

-- the keys by number, and the free numbers
abbrev pub Book : Type 0 → Type 0
Book K = List (Option K) × List ℕ

reverse-cons : {X : Type 0} (x : X) (xs : List X) → reverse (x ∷ xs) ≡ reverse xs ++ x ∷ []
reverse-cons x xs = reverse-append (x ∷ []) xs

module _ {K : Type 0} where
  abbrev pub put : Book K → K → Book K
  put (keys, []) k = (keys ++ Some k ∷ [], [])
  put (keys, n ∷ free) k = (slice_set keys n (Some k), free)

  abbrev pub strike : Book K → ℕ → Book K
  strike b n = (slice_set b.0 n None, n ∷ b.1)

  abbrev pub at_number : Book K → ℕ → Option K
  at_number b n = flat (slice_get b.0 n)

  abbrev pub in_turn : Book K → ℕ → ℕ
  in_turn b i = number_in_turn b.1 (length b.0) i

  -- each number that comes in turn has no key, none comes twice, and the free ones are numbers
  pub record IsOrderly (b : Book K) : Type 0 where
    pub vacant : (i : ℕ) → at_number b (in_turn b i) ≡ None
    pub once : (i j : ℕ) → in_turn b i ≡ in_turn b j → i ≡ j
    pub within : (i : ℕ) → i < length b.1 → in_turn b i < length b.0

  -- two books that nobody can tell apart
  pub record AreAlike (b c : Book K) : Type 0 where
    pub keys : (n : ℕ) → at_number b n ≡ at_number c n
    pub turns : (i : ℕ) → in_turn b i ≡ in_turn c i

  pub AreAlike-refl : (b : Book K) → AreAlike b b
  AreAlike-refl b = record { keys = λ n. refl; turns = λ i. refl }

  pub AreAlike-trans : (b c d : Book K) → AreAlike b c → AreAlike c d → AreAlike b d
  AreAlike-trans b c d x y = record { keys = λ n. x.keys n ∙ y.keys n; turns = λ i. x.turns i ∙ y.turns i }

  -- after a key is put in
  pub turns-put : (b : Book K) (k : K) (i : ℕ) → in_turn (put b k) i ≡ in_turn b (suc i)
  turns-put (keys, []) k i = let e = length-append keys (Some k ∷ []) in omega arith
  turns-put (keys, n ∷ free) k i = ap (λ (fresh : ℕ). number_in_turn free fresh i) (length-set keys n (Some k))

  put_length : (b : Book K) (k : K) → length b.0 ≤ length (put b k).0
  put_length (keys, []) k = let e = length-append keys (Some k ∷ []) in omega arith
  put_length (keys, n ∷ free) k = let e = length-set keys n (Some k) in omega arith

  put_here : (b : Book K) (k : K) → IsOrderly b → slice_get (put b k).0 (in_turn b 0) ≡ Some (Some k)
  put_here (keys, []) k o = subst (λ (n : ℕ). slice_get (keys ++ Some k ∷ []) n ≡ Some (Some k)) (let e : length keys ≡ length keys + 0 = omega arith in e) (slice_get-push_last keys (Some k))
  put_here (keys, n ∷ free) k o = slice_get-set_same keys n (Some k) (o.within 0 (omega arith))

  put_else : (b : Book K) (k : K) (n : ℕ) → n ≢ in_turn b 0 → slice_get (put b k).0 n ≡ slice_get b.0 n
  put_else (keys, []) k n ne = slice_get-push_other keys (Some k) n (λ e. ne (omega arith))
  put_else (keys, m ∷ free) k n ne = slice_get-set_other keys m n (Some k) ne

  pub keys-put_same : (b : Book K) (k : K) → IsOrderly b → at_number (put b k) (in_turn b 0) ≡ Some k
  keys-put_same b k o = ap flat (put_here b k o)

  pub keys-put_other : (b : Book K) (k : K) (n : ℕ) → n ≢ in_turn b 0 → at_number (put b k) n ≡ at_number b n
  keys-put_other b k n ne = ap flat (put_else b k n ne)

  put_free : (b : Book K) (k : K) (i : ℕ) → i < length (put b k).1 → suc i < length b.1
  put_free (keys, []) k i h = absurd (omega arith)
  put_free (keys, n ∷ free) k i h = omega arith

  pub IsOrderly-put : (b : Book K) (k : K) → IsOrderly b → IsOrderly (put b k)
  IsOrderly-put b k o = record {
    vacant = λ i. ap (at_number (put b k)) (turns-put b k i) ∙ keys-put_other b k (in_turn b (suc i)) (λ e. let f = o.once (suc i) 0 e in absurd (omega arith)) ∙ o.vacant (suc i);
    once = λ i j e. let f = o.once (suc i) (suc j) (sym (turns-put b k i) ∙ e ∙ turns-put b k j) in omega arith;
    within = λ i h. let w = o.within (suc i) (put_free b k i h) in let t = turns-put b k i in let l = put_length b k in omega arith;
  }

  -- after a key is struck out
  pub keys-strike_same : (b : Book K) (n : ℕ) → at_number (strike b n) n ≡ None
  keys-strike_same b n = elim (cases_lt n (length b.0)) [
    | inl lt ↦ ap flat (slice_get-set_same b.0 n None lt)
    | inr ge ↦ ap flat (slice_get_past (slice_set b.0 n None) n (let e = length-set b.0 n None in omega arith))
  ]

  pub keys-strike_other : (b : Book K) (n m : ℕ) → m ≢ n → at_number (strike b n) m ≡ at_number b m
  keys-strike_other b n m ne = ap flat (slice_get-set_other b.0 n m None ne)

  pub turns-strike : (b : Book K) (n i : ℕ) → in_turn (strike b n) (suc i) ≡ in_turn b i
  turns-strike b n i = ap (λ (fresh : ℕ). number_in_turn b.1 fresh i) (length-set b.0 n None)

  pub AreAlike-strike : (b c : Book K) (n : ℕ) → AreAlike b c → AreAlike (strike b n) (strike c n)
  AreAlike-strike b c n a = record {
    keys = λ m. elim (cases_eq m n) [
      | inl e ↦ rw e (keys-strike_same b n ∙ sym (keys-strike_same c n))
      | inr ne ↦ keys-strike_other b n m ne ∙ a.keys m ∙ sym (keys-strike_other c n m ne)
    ];
    turns = strike_turns b c n a;
  }
    where
      strike_turns : (b c : Book K) (n : ℕ) → AreAlike b c → (i : ℕ) → in_turn (strike b n) i ≡ in_turn (strike c n) i
      strike_turns b c n a zero = refl
      strike_turns b c n a (suc i) = turns-strike b n i ∙ a.turns i ∙ sym (turns-strike c n i)

  pub AreAlike-put : (b c : Book K) (k : K) → IsOrderly b → IsOrderly c → AreAlike b c → AreAlike (put b k) (put c k)
  AreAlike-put b c k o p a = record {
    keys = λ m. elim (cases_eq m (in_turn b 0)) [
      | inl e ↦ ap (at_number (put b k)) e ∙ keys-put_same b k o ∙ sym (ap (at_number (put c k)) (e ∙ a.turns 0) ∙ keys-put_same c k p)
      | inr ne ↦ keys-put_other b k m ne ∙ a.keys m ∙ sym (keys-put_other c k m (λ e. ne (e ∙ sym (a.turns 0))))
    ];
    turns = λ i. turns-put b k i ∙ a.turns (suc i) ∙ sym (turns-put c k i);
  }

  -- a key that was put in is struck out again
  pub strike-put : (b : Book K) (k : K) → IsOrderly b → AreAlike (strike (put b k) (in_turn b 0)) b
  strike-put b k o = record {
    keys = λ m. elim (cases_eq m (in_turn b 0)) [
      | inl e ↦ rw e (keys-strike_same (put b k) (in_turn b 0) ∙ sym (o.vacant 0))
      | inr ne ↦ keys-strike_other (put b k) (in_turn b 0) m ne ∙ keys-put_other b k m ne
    ];
    turns = struck_turns b k;
  }
    where
      struck_turns : (b : Book K) (k : K) (i : ℕ) → in_turn (strike (put b k) (in_turn b 0)) i ≡ in_turn b i
      struck_turns b k zero = refl
      struck_turns b k (suc i) = turns-strike (put b k) (in_turn b 0) i ∙ turns-put b k i

  -- a key that was struck out is put in again
  pub put-strike : (b : Book K) (n : ℕ) (k : K) → at_number b n ≡ Some k → AreAlike (put (strike b n) k) b
  put-strike b n k is = record {
    keys = λ m. elim (cases_eq m n) [
      | inl e ↦ rw e (ap flat (slice_get-set_same (slice_set b.0 n None) n (Some k) (rw (length-set b.0 n None) (key_within b n k is))) ∙ sym is)
      | inr ne ↦ ap flat (slice_get-set_other (slice_set b.0 n None) n m (Some k) ne) ∙ keys-strike_other b n m ne
    ];
    turns = λ i. ap (λ (fresh : ℕ). number_in_turn b.1 fresh i) (length-set (slice_set b.0 n None) n (Some k) ∙ length-set b.0 n None);
  }
    where
      key_within : (b : Book K) (n : ℕ) (k : K) → at_number b n ≡ Some k → n < length b.0
      key_within b n k is = elim (cases_lt n (length b.0)) [
        | inl lt ↦ lt
        | inr ge ↦ let past : at_number b n ≡ None = ap flat (slice_get_past b.0 n ge) in cc
      ]

  -- many in turn
  abbrev pub put_all : Book K → List K → Book K
  put_all b [] = b
  put_all b (k ∷ keys) = put_all (put b k) keys

  abbrev pub strike_all : Book K → List ℕ → Book K
  strike_all b [] = b
  strike_all b (n ∷ numbers) = strike_all (strike b n) numbers

  abbrev pub turns_of : Book K → List K → List ℕ
  turns_of b [] = []
  turns_of b (k ∷ keys) = in_turn b 0 ∷ turns_of (put b k) keys

  abbrev pub HadKeys : Book K → List ℕ → List K → Type 0
  HadKeys b [] [] = Unit {0}
  HadKeys b [] (k ∷ keys) = ⊥
  HadKeys b (n ∷ numbers) [] = ⊥
  HadKeys b (n ∷ numbers) (k ∷ keys) = (at_number b n ≡ Some k) × HadKeys (strike b n) numbers keys

  strike_all-push : (b : Book K) (numbers : List ℕ) (n : ℕ) → strike_all b (numbers ++ n ∷ []) ≡ strike (strike_all b numbers) n
  strike_all-push b [] n = refl
  strike_all-push b (m ∷ numbers) n = strike_all-push (strike b m) numbers n

  put_all-push : (b : Book K) (keys : List K) (k : K) → put_all b (keys ++ k ∷ []) ≡ put (put_all b keys) k
  put_all-push b [] k = refl
  put_all-push b (j ∷ keys) k = put_all-push (put b j) keys k

  turns_of-push : (b : Book K) (keys : List K) (k : K) → turns_of b (keys ++ k ∷ []) ≡ turns_of b keys ++ in_turn (put_all b keys) 0 ∷ []
  turns_of-push b [] k = refl
  turns_of-push b (j ∷ keys) k = ap (λ (ns : List ℕ). in_turn b 0 ∷ ns) (turns_of-push (put b j) keys k)

  key_within : (b : Book K) (n : ℕ) (k : K) → at_number b n ≡ Some k → n < length b.0
  key_within b n k is = elim (cases_lt n (length b.0)) [
    | inl lt ↦ lt
    | inr ge ↦ let past : at_number b n ≡ None = ap flat (slice_get_past b.0 n ge) in cc
  ]

  pub IsOrderly-strike : (b : Book K) (n : ℕ) (k : K) → at_number b n ≡ Some k → IsOrderly b → IsOrderly (strike b n)
  IsOrderly-strike b n k is o = record { vacant = vacant; once = once; within = within }
    where
      other : (i : ℕ) → in_turn b i ≢ n
      other i e = let a = o.vacant i in let h : at_number b n ≡ None = ap (at_number b) (sym e) ∙ a in cc

      vacant : (i : ℕ) → at_number (strike b n) (in_turn (strike b n) i) ≡ None
      vacant zero = keys-strike_same b n
      vacant (suc i) = ap (at_number (strike b n)) (turns-strike b n i) ∙ keys-strike_other b n (in_turn b i) (other i) ∙ o.vacant i

      once : (i j : ℕ) → in_turn (strike b n) i ≡ in_turn (strike b n) j → i ≡ j
      once zero zero e = refl
      once zero (suc j) e = absurd (other j (sym (e ∙ turns-strike b n j)))
      once (suc i) zero e = absurd (other i (sym (turns-strike b n i) ∙ e))
      once (suc i) (suc j) e = ap (λ (m : ℕ). suc m) (o.once i j (sym (turns-strike b n i) ∙ e ∙ turns-strike b n j))

      within : (i : ℕ) → i < length (strike b n).1 → in_turn (strike b n) i < length (strike b n).0
      within zero h = rw (length-set b.0 n None) (key_within b n k is)
      within (suc i) h = rw (turns-strike b n i, length-set b.0 n None) (o.within i (omega arith))

  pub IsOrderly-strike_all : (b : Book K) (numbers : List ℕ) (keys : List K) → HadKeys b numbers keys → IsOrderly b → IsOrderly (strike_all b numbers)
  IsOrderly-strike_all b [] [] had o = o
  IsOrderly-strike_all b [] (k ∷ keys) had o = absurd had
  IsOrderly-strike_all b (n ∷ numbers) [] had o = absurd had
  IsOrderly-strike_all b (n ∷ numbers) (k ∷ keys) had o = IsOrderly-strike_all (strike b n) numbers keys had.1 (IsOrderly-strike b n k had.0 o)

  pub IsOrderly-put_all : (b : Book K) (keys : List K) → IsOrderly b → IsOrderly (put_all b keys)
  IsOrderly-put_all b [] o = o
  IsOrderly-put_all b (k ∷ keys) o = IsOrderly-put_all (put b k) keys (IsOrderly-put b k o)

  pub AreAlike-put_all : (b c : Book K) (keys : List K) → IsOrderly b → IsOrderly c → AreAlike b c → AreAlike (put_all b keys) (put_all c keys)
  AreAlike-put_all b c [] o p a = a
  AreAlike-put_all b c (k ∷ keys) o p a = AreAlike-put_all (put b k) (put c k) keys (IsOrderly-put b k o) (IsOrderly-put c k p) (AreAlike-put b c k o p a)

  pub turns_of-alike : (b c : Book K) (keys : List K) → IsOrderly b → IsOrderly c → AreAlike b c → turns_of b keys ≡ turns_of c keys
  turns_of-alike b c [] o p a = refl
  turns_of-alike b c (k ∷ keys) o p a =
      ap (λ (n : ℕ). n ∷ turns_of (put b k) keys) (a.turns 0) ∙ ap (λ (ns : List ℕ). in_turn c 0 ∷ ns) (turns_of-alike (put b k) (put c k) keys (IsOrderly-put b k o) (IsOrderly-put c k p) (AreAlike-put b c k o p a))

  -- what was put in is struck out, last first
  pub strike_all-put_all : (b : Book K) (keys : List K) → IsOrderly b → AreAlike (strike_all (put_all b keys) (reverse (turns_of b keys))) b × IsOrderly (strike_all (put_all b keys) (reverse (turns_of b keys)))
  strike_all-put_all b [] o = (AreAlike-refl b, o)
  strike_all-put_all b (k ∷ keys) o =
      let next = put b k in
      let before = strike_all (put_all next keys) (reverse (turns_of next keys)) in
      let rest = strike_all-put_all next keys (IsOrderly-put b k o) in
      let is : strike_all (put_all next keys) (reverse (in_turn b 0 ∷ turns_of next keys)) ≡ strike before (in_turn b 0)
      = ap (strike_all (put_all next keys)) (reverse-cons (in_turn b 0) (turns_of next keys)) ∙ strike_all-push (put_all next keys) (reverse (turns_of next keys)) (in_turn b 0) in
      let has : at_number before (in_turn b 0) ≡ Some k = rest.0.keys (in_turn b 0) ∙ keys-put_same b k o in
      rw is (
        AreAlike-trans (strike before (in_turn b 0)) (strike next (in_turn b 0)) b (AreAlike-strike before next (in_turn b 0) rest.0) (strike-put b k o),
        IsOrderly-strike before (in_turn b 0) k has rest.1,
      )

  -- what was struck out is put in, last first, and has its numbers again
  pub put_all-strike_all : (b : Book K) (numbers : List ℕ) (keys : List K) → HadKeys b numbers keys → IsOrderly b
      → AreAlike (put_all (strike_all b numbers) (reverse keys)) b × (turns_of (strike_all b numbers) (reverse keys) ≡ reverse numbers)
  put_all-strike_all b [] [] had o = (AreAlike-refl b, refl)
  put_all-strike_all b [] (k ∷ keys) had o = absurd had
  put_all-strike_all b (n ∷ numbers) [] had o = absurd had
  put_all-strike_all b (n ∷ numbers) (k ∷ keys) had o =
      let less = strike b n in
      let least = strike_all less numbers in
      let before = put_all least (reverse keys) in
      let less_orderly = IsOrderly-strike b n k had.0 o in
      let rest = put_all-strike_all less numbers keys had.1 less_orderly in
      let before_orderly = IsOrderly-put_all least (reverse keys) (IsOrderly-strike_all less numbers keys had.1 less_orderly) in
      let is : put_all least (reverse (k ∷ keys)) ≡ put before k = ap (put_all least) (reverse-cons k keys) ∙ put_all-push least (reverse keys) k in
      let turns : turns_of least (reverse (k ∷ keys)) ≡ reverse (n ∷ numbers)
      = ap (turns_of least) (reverse-cons k keys) ∙ turns_of-push least (reverse keys) k ∙ ap (λ (ns : List ℕ). ns ++ in_turn before 0 ∷ []) rest.1
      ∙ ap (λ (m : ℕ). reverse numbers ++ m ∷ []) (rest.0.turns 0) ∙ sym (reverse-cons n numbers) in
      (rw is (AreAlike-trans (put before k) (put less k) b (AreAlike-put before less k before_orderly less_orderly rest.0) (put-strike b n k had.0)), turns)

  -- the numbers given had no keys
  abbrev pub AreVacant : Book K → List ℕ → Type 0
  AreVacant b [] = Unit {0}
  AreVacant b (n ∷ numbers) = (at_number b n ≡ None) × AreVacant b numbers

  AreVacant-before : (b : Book K) (k : K) (numbers : List ℕ) → IsOrderly b → AreVacant (put b k) numbers → AreVacant b numbers
  AreVacant-before b k [] o v = tt
  AreVacant-before b k (n ∷ numbers) o v =
      let ne : n ≢ in_turn b 0 = λ e. let h = keys-put_same b k o in let f : at_number (put b k) (in_turn b 0) ≡ None = ap (at_number (put b k)) (sym e) ∙ v.0 in cc in
      (sym (keys-put_other b k n ne) ∙ v.0, AreVacant-before b k numbers o v.1)

  pub turns_are_vacant : (b : Book K) (keys : List K) → IsOrderly b → AreVacant b (turns_of b keys)
  turns_are_vacant b [] o = tt
  turns_are_vacant b (k ∷ keys) o = (o.vacant 0, AreVacant-before b k (turns_of (put b k) keys) o (turns_are_vacant (put b k) keys (IsOrderly-put b k o)))

-- the turns of an index
in_turn-free : (free : List ℕ) (fresh i : ℕ) → i < length free → number_in_turn free fresh i ≡ get_or free i 0
in_turn-free [] fresh i h = absurd (omega arith)
in_turn-free (n ∷ free) fresh zero h = refl
in_turn-free (n ∷ free) fresh (suc i) h = in_turn-free free fresh i (omega arith)

in_turn-fresh : (free : List ℕ) (fresh i : ℕ) → length free ≤ i → number_in_turn free fresh i + length free ≡ fresh + i
in_turn-fresh [] fresh i h = omega arith
in_turn-fresh (n ∷ free) fresh zero h = absurd (omega arith)
in_turn-fresh (n ∷ free) fresh (suc i) h = let e = in_turn-fresh free fresh i (omega arith) in omega arith

-- a number that stands at most once in a list has one place there
one_place : (xs : List ℕ) (x i j : ℕ) → times x xs ≤ 1 → i < length xs → j < length xs → get_or xs i 0 ≡ x → get_or xs j 0 ≡ x → i ≡ j
one_place [] x i j few hi hj ei ej = absurd (omega arith)
one_place (y ∷ ys) x zero zero few hi hj ei ej = refl
one_place (y ∷ ys) x zero (suc j) few hi hj ei ej =
    let t = times-cons x y ys in
    let h : hit x y ≡ 1 = ap (hit x) ei ∙ hit-same x in
    let more = times-there x j ys (slice_get-get_or ys j 0 (omega arith) ∙ ap (λ (z : ℕ). Some z) ej) in
    absurd (omega arith)
one_place (y ∷ ys) x (suc i) zero few hi hj ei ej =
    let t = times-cons x y ys in
    let h : hit x y ≡ 1 = ap (hit x) ej ∙ hit-same x in
    let more = times-there x i ys (slice_get-get_or ys i 0 (omega arith) ∙ ap (λ (z : ℕ). Some z) ei) in
    absurd (omega arith)
one_place (y ∷ ys) x (suc i) (suc j) few hi hj ei ej = let t = times-cons x y ys in let e = one_place ys x i j (omega arith) (omega arith) (omega arith) ei ej in omega arith

module _ {K : Type 0} (keys : List (Option K)) (free : List ℕ) (once : (n : ℕ) → times n free ≡ cond (is_free (slice_get keys n)) 1 0) where
  few : (n : ℕ) → times n free ≤ 1
  few n = go (is_free (slice_get keys n)) (once n)
    where
      go : (b : Bool) → times n free ≡ cond b 1 0 → times n free ≤ 1
      go true e = omega arith
      go false e = omega arith

  listed : (i : ℕ) → i < length free → slice_get keys (get_or free i 0) ≡ Some None
  listed i h = free_has_none keys free (get_or free i 0) (once (get_or free i 0)) (times-there (get_or free i 0) i free (slice_get-get_or free i 0 h))

  below_keys : (i : ℕ) → i < length free → number_in_turn free (length keys) i < length keys
  below_keys i h = rw (in_turn-free free (length keys) i h) (slice_get_within keys (get_or free i 0) None (listed i h))

  pub IsOrderly-whole : IsOrderly (keys, free)
  IsOrderly-whole = record {
    vacant = λ i. elim (cases_lt i (length free)) [
      | inl lt ↦ rw (in_turn-free free (length keys) i lt) (ap flat (listed i lt))
      | inr ge ↦ ap flat (slice_get_past keys (number_in_turn free (length keys) i) (let e = in_turn-fresh free (length keys) i ge in omega arith))
    ];
    once = λ i j e. elim (cases_lt i (length free)) [
      | inl li ↦ elim (cases_lt j (length free)) [
        | inl lj ↦ one_place free (number_in_turn free (length keys) i) i j (few (number_in_turn free (length keys) i)) li lj (sym (in_turn-free free (length keys) i li)) (sym (in_turn-free free (length keys) j lj) ∙ sym e)
        | inr gj ↦ let a = below_keys i li in let b = in_turn-fresh free (length keys) j gj in absurd (omega arith)
      ]
      | inr gi ↦ elim (cases_lt j (length free)) [
        | inl lj ↦ let a = below_keys j lj in let b = in_turn-fresh free (length keys) i gi in absurd (omega arith)
        | inr gj ↦ let a = in_turn-fresh free (length keys) i gi in let b = in_turn-fresh free (length keys) j gj in omega arith
      ]
    ];
    within = below_keys;
  }
