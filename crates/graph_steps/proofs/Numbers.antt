-- Numbers among others, numbers with the keys that they were given, and links among others.
use Rattle.std.proofs.Common.{◌≡◌, ◌≢◌, ℕ, zero, suc, ◌+◌, ◌<◌, ◌≤◌, Bool, true, false, not, cond, nat_eq, List, [], ◌∷◌, ◌++◌, slice_get, Option, Some, None, sym, ◌∙◌, ap, refl, inl, inr, subst, arith}
use Rattle.std.specs.List.{AllPairs, Contains, filter, list_any, zip}
use Rattle.std.specs.Cmp.{nat_eq_equiv}
use Rattle.std.proofs.lemmas.Bool.{cases_Bool, cases_eq, eqb-true}
use Rattle.std.proofs.lemmas.List.Elements.{Contains-get_or}
use Rattle.std.proofs.lemmas.Map.Views.{Contains-from_any, list_any-from_Contains}
use Rattle.std.proofs.lemmas.Option.{slice_get-get_or}
use Rattle.finite_chains.proofs.Members.{Contains-cases, Contains-filter, Contains-head, Contains-nil, Contains-tail}
use Rattle.item_index.specs.Graphs.{Graph, HasKey, inserted, next_number, rests_of}
use Rattle.item_index.specs.Shelves.{times}
use Rattle.item_index.specs.Undo.{flat, key_at, numbers_given, removed_all}
use Rattle.item_index.proofs.GraphLemmas.{rests_of-cons_other, rests_of-cons_same}
use Rattle.item_index.proofs.Times.{hit, hit-other, hit-same, place_of, times-cons, times-there}
use Rattle.graph_steps.specs.Steps.{left_of}
use Rattle.graph_steps.proofs.Removing.{left_keys}

-- ---- among others

pub among : (n : ℕ) (numbers : List ℕ) → Contains numbers n → list_any (nat_eq n) numbers ≡ true
among n numbers h = list_any-from_Contains nat_eq_equiv n numbers h

pub not_among : (n : ℕ) (numbers : List ℕ) → (Contains numbers n → ⊥) → list_any (nat_eq n) numbers ≡ false
not_among n numbers none = elim (cases_Bool (list_any (nat_eq n) numbers)) [
  | inl there ↦ absurd (none (Contains-from_any (λ x y same. eqb-true x y same) n numbers there))
  | inr e ↦ e
]

-- ---- how often

pub some_times : (n : ℕ) (numbers : List ℕ) → Contains numbers n → 0 < times n numbers
some_times n numbers h = times-there n h.0 numbers (slice_get-get_or numbers h.0 n h.1 ∙ ap (λ (m : ℕ). Some m) h.2)

pub no_times : (n : ℕ) (numbers : List ℕ) → times n numbers ≡ 0 → Contains numbers n → ⊥
no_times n numbers none h = let some = some_times n numbers h in omega arith

pub contained : (n : ℕ) (numbers : List ℕ) → 0 < times n numbers → Contains numbers n
contained n numbers some = let at = place_of n numbers some in subst (Contains numbers) at.2 (Contains-get_or numbers at.0 0 at.1)

pub never : (n : ℕ) (numbers : List ℕ) → (Contains numbers n → ⊥) → times n numbers ≡ 0
never n numbers none = go (times n numbers) (λ some. none (contained n numbers some))
  where
    go : (i : ℕ) → (0 < i → ⊥) → i ≡ 0
    go zero none_more = refl
    go (suc i) none_more = absurd (none_more (omega arith))

pub times-append : (n : ℕ) (xs ys : List ℕ) → times n (xs ++ ys) ≡ times n xs + times n ys
times-append n [] ys = omega arith
times-append n (x ∷ xs) ys = let all = times-cons n x (xs ++ ys) in let first = times-cons n x xs in let rest = times-append n xs ys in omega arith

times-filter : (n : ℕ) (p : ℕ → Bool) (xs : List ℕ) → times n (filter p xs) ≤ times n xs
times-filter n p [] = omega arith
times-filter n p (x ∷ xs) = go (p x) refl (times-filter n p xs)
  where
    go : (b : Bool) → p x ≡ b → times n (filter p xs) ≤ times n xs → times n (filter p (x ∷ xs)) ≤ times n (x ∷ xs)
    go true e rest = rw e (let kept = times-cons n x (filter p xs) in let all = times-cons n x xs in omega arith)
    go false e rest = rw e (let all = times-cons n x xs in omega arith)

-- ---- what is left

pub left_fewer : (out : List ℕ) (m n : ℕ) (numbers : List ℕ) → times n (left_of out m numbers) ≤ times n numbers
left_fewer out m n numbers = go (list_any (nat_eq m) out) refl
  where
    go : (b : Bool) → list_any (nat_eq m) out ≡ b → times n (left_of out m numbers) ≤ times n numbers
    go true e = rw e (omega arith)
    go false e = rw e (times-filter n (λ k. not (list_any (nat_eq k) out)) numbers)

pub left_was : (out : List ℕ) (m n : ℕ) (numbers : List ℕ) → Contains (left_of out m numbers) n → Contains numbers n
left_was out m n numbers h = contained n numbers (let some = some_times n (left_of out m numbers) h in let few = left_fewer out m n numbers in omega arith)

pub left_stays : (out : List ℕ) (m n : ℕ) (numbers : List ℕ) → (Contains out m → ⊥) → (Contains out n → ⊥) → Contains numbers n → Contains (left_of out m numbers) n
left_stays out m n numbers m_stays n_stays h =
    let m_is = not_among m out m_stays in
    let n_is = not_among n out n_stays in
    rw m_is (Contains-filter (λ k. not (list_any (nat_eq k) out)) numbers n h (ap not n_is))

-- ---- keys and the numbers that they were given

module _ {K : Type 0} where
  pub one_key : (g : Graph K) (n : ℕ) (j k : K) → HasKey g n j → HasKey g n k → j ≡ k
  one_key g n j k a b = cc

  pub key_of_number : (g : Graph K) (n : ℕ) (k : K) → key_at g n ≡ Some k → HasKey g n k
  key_of_number g n k e = go (slice_get g.keys n) e
    where
      go : (o : Option (Option K)) → flat o ≡ Some k → o ≡ Some (Some k)
      go None e = cc
      go (Some o) e = ap (λ (p : Option K). Some p) e

  -- keys that stay as numbers are removed
  pub key_stays : (g : Graph K) (out : List ℕ) (n : ℕ) (k : K) → HasKey g n k → (Contains out n → ⊥) → HasKey (removed_all g out) n k
  key_stays g out n k has in_place = key_of_number (removed_all g out) n k (left_keys g out n ∙ ap (λ (b : Bool). cond b None (key_at g n)) (not_among n out in_place) ∙ ap flat has)

  pub key_stood : (g : Graph K) (out : List ℕ) (n : ℕ) (k : K) → HasKey (removed_all g out) n k → HasKey g n k × (Contains out n → ⊥)
  key_stood g out n k has =
      let in_place : Contains out n → ⊥ = λ gone.
      let none : key_at (removed_all g out) n ≡ None = left_keys g out n ∙ ap (λ (b : Bool). cond b None (key_at g n)) (among n out gone) in
      let some : key_at (removed_all g out) n ≡ Some k = ap flat has in
      cc in
      (key_of_number g n k (sym (left_keys g out n ∙ ap (λ (b : Bool). cond b None (key_at g n)) (not_among n out in_place)) ∙ ap flat has), in_place)

  pub given_number : (numbers : List ℕ) (keys : List K) (n : ℕ) (k : K) → Contains (zip numbers keys) (n, k) → Contains numbers n
  given_number [] keys n k h = absurd (Contains-nil (n, k) h)
  given_number (m ∷ numbers) [] n k h = absurd (Contains-nil (n, k) h)
  given_number (m ∷ numbers) (j ∷ keys) n k h = elim (Contains-cases (m, j) (zip numbers keys) (n, k) h) [
    | inl e ↦ subst (Contains (m ∷ numbers)) (ap (λ (p : ℕ × K). p.0) e) (Contains-head m numbers)
    | inr later ↦ Contains-tail m numbers n (given_number numbers keys n k later)
  ]

  pub given_key : (numbers : List ℕ) (keys : List K) (n : ℕ) (k : K) → Contains (zip numbers keys) (n, k) → Contains keys k
  given_key [] keys n k h = absurd (Contains-nil (n, k) h)
  given_key (m ∷ numbers) [] n k h = absurd (Contains-nil (n, k) h)
  given_key (m ∷ numbers) (j ∷ keys) n k h = elim (Contains-cases (m, j) (zip numbers keys) (n, k) h) [
    | inl e ↦ subst (Contains (j ∷ keys)) (ap (λ (p : ℕ × K). p.1) e) (Contains-head j keys)
    | inr later ↦ Contains-tail j keys k (given_key numbers keys n k later)
  ]

  pub key_given : (g : Graph K) (keys : List K) (n : ℕ) → Contains (numbers_given g keys) n → (k : K) × Contains (zip (numbers_given g keys) keys) (n, k)
  key_given g [] n h = absurd (Contains-nil n h)
  key_given g (j ∷ keys) n h = elim (Contains-cases (next_number g) (numbers_given (inserted g j) keys) n h) [
    | inl e ↦ (j, subst (λ (m : ℕ). Contains (zip (numbers_given g (j ∷ keys)) (j ∷ keys)) (m, j)) e (Contains-head (next_number g, j) (zip (numbers_given (inserted g j) keys) keys)))
    | inr later ↦
        let rest = key_given (inserted g j) keys n later in
        (rest.0, Contains-tail (next_number g, j) (zip (numbers_given (inserted g j) keys) keys) (n, rest.0) rest.1)
  ]

  pub number_given : (g : Graph K) (keys : List K) (k : K) → Contains keys k → (n : ℕ) × Contains (zip (numbers_given g keys) keys) (n, k)
  number_given g [] k h = absurd (Contains-nil k h)
  number_given g (j ∷ keys) k h = elim (Contains-cases j keys k h) [
    | inl e ↦ (next_number g, subst (λ (l : K). Contains (zip (numbers_given g (j ∷ keys)) (j ∷ keys)) (next_number g, l)) e (Contains-head (next_number g, j) (zip (numbers_given (inserted g j) keys) keys)))
    | inr later ↦
        let rest = number_given (inserted g j) keys k later in
        (rest.0, Contains-tail (next_number g, j) (zip (numbers_given (inserted g j) keys) keys) (rest.0, k) rest.1)
  ]

-- ---- links among others

pub is_link : (links : List (ℕ × ℕ)) (m n : ℕ) → Contains (rests_of links m) n → Contains links (m, n)
is_link [] m n h = absurd (Contains-nil n h)
is_link ((a, b) ∷ links) m n h = elim (cases_eq a m) [
  | inl e ↦
      elim (Contains-cases b (rests_of links m) n (subst (λ (ns : List ℕ). Contains ns n) (rests_of-cons_same m a b links e) h)) [
        | inl f ↦ subst (Contains ((a, b) ∷ links)) (λ i. (e i, f i)) (Contains-head (a, b) links)
        | inr later ↦ Contains-tail (a, b) links (m, n) (is_link links m n later)
      ]
  | inr ne ↦ Contains-tail (a, b) links (m, n) (is_link links m n (subst (λ (ns : List ℕ). Contains ns n) (rests_of-cons_other m a b links ne) h))
]

pub in_rests : (links : List (ℕ × ℕ)) (m n : ℕ) → Contains links (m, n) → Contains (rests_of links m) n
in_rests [] m n h = absurd (Contains-nil (m, n) h)
in_rests ((a, b) ∷ links) m n h = elim (cases_eq a m) [
  | inl e ↦
      subst (λ (ns : List ℕ). Contains ns n) (sym (rests_of-cons_same m a b links e))
      (elim (Contains-cases (a, b) links (m, n) h) [
        | inl f ↦ subst (Contains (b ∷ rests_of links m)) (ap (λ (p : ℕ × ℕ). p.1) f) (Contains-head b (rests_of links m))
        | inr later ↦ Contains-tail b (rests_of links m) n (in_rests links m n later)
      ])
  | inr ne ↦
      subst (λ (ns : List ℕ). Contains ns n) (sym (rests_of-cons_other m a b links ne))
      (elim (Contains-cases (a, b) links (m, n) h) [
        | inl f ↦ absurd (ne (ap (λ (p : ℕ × ℕ). p.0) f))
        | inr later ↦ in_rests links m n later
      ])
]

-- the head of a list whose items differ isn't there again
head_once : {X : Type 0} (x : X) (xs : List X) → AllPairs (λ a b. a ≢ b) (x ∷ xs) → Contains xs x → ⊥
head_once x xs once h = once 0 (suc h.0) x (omega arith) (omega (arith, h.1)) (sym h.2)

tail_once : {X : Type 0} (x : X) (xs : List X) → AllPairs (λ a b. a ≢ b) (x ∷ xs) → AllPairs (λ a b. a ≢ b) xs
tail_once x xs once i j d before below = once (suc i) (suc j) d (omega arith) (omega arith)

pub rests_once : (links : List (ℕ × ℕ)) → AllPairs (λ a b. a ≢ b) links → (m n : ℕ) → times n (rests_of links m) ≤ 1
rests_once [] once m n = omega arith
rests_once ((a, b) ∷ links) once m n =
    let rest = rests_once links (tail_once (a, b) links once) m n in
    elim (cases_eq a m) [
      | inl e ↦
          let same = ap (times n) (rests_of-cons_same m a b links e) in
          let all = times-cons n b (rests_of links m) in
          elim (cases_eq b n) [
            | inl f ↦
                let one : hit n b ≡ 1 = rw f (hit-same n) in
                let none : times n (rests_of links m) ≡ 0 = never n (rests_of links m) (λ h. head_once (a, b) links once (subst (Contains links) (λ i. (sym e i, sym f i)) (is_link links m n h))) in
                omega arith
            | inr nf ↦ let zero_hit = hit-other n b nf in omega arith
          ]
      | inr ne ↦ let same = ap (times n) (rests_of-cons_other m a b links ne) in omega arith
    ]
