-- What removing many numbers leaves.
use Rattle.std.proofs.Common.{◌≡◌, ◌≢◌, ℕ, suc, Bool, true, false, not, cond, nat_eq, List, [], ◌∷◌, None, sym, ◌∙◌, ap, refl, inl, inr, arith, eq-eqb}
use Rattle.std.specs.List.{AllPairs, filter, list_any}
use Rattle.std.proofs.lemmas.Bool.{cases_eq, ne_eqb}
use Rattle.std.proofs.lemmas.List.{length-set}
use Rattle.finite_chains.proofs.Members.{Contains-head, Contains-tail}
use Rattle.item_index.specs.Graphs.{Graph, IsWhole, cut_off, removed}
use Rattle.item_index.specs.Shelves.{list_at, without}
use Rattle.item_index.specs.Undo.{HaveKeys, key_at, removed_all}
use Rattle.item_index.proofs.GraphLemmas.{AreWhole-removed}
use Rattle.item_index.proofs.Places.{length-cut_off, list_at-cut_off_other, list_at-cut_off_same, slice_get-set_other}
use Rattle.item_index.proofs.Turns.{keys-strike_other, keys-strike_same}
use Rattle.graph_steps.specs.Steps.{AreNodes, HasLists, left_of}

same_either_way : {X : Type 0} (b : Bool) (x : X) → cond b x x ≡ x
same_either_way true x = refl
same_either_way false x = refl

-- what is left without one number, and then without others
filter-without : (m : ℕ) (out xs : List ℕ) → filter (λ k. not (list_any (nat_eq k) out)) (without m xs) ≡ filter (λ k. not (list_any (nat_eq k) (m ∷ out))) xs
filter-without m out [] = refl
filter-without m out (x ∷ xs) = go (nat_eq x m) (list_any (nat_eq x) out) refl refl (filter-without m out xs)
  where
    go : (a b : Bool) → nat_eq x m ≡ a → list_any (nat_eq x) out ≡ b → filter (λ k. not (list_any (nat_eq k) out)) (without m xs) ≡ filter (λ k. not (list_any (nat_eq k) (m ∷ out))) xs
        → filter (λ k. not (list_any (nat_eq k) out)) (without m (x ∷ xs)) ≡ filter (λ k. not (list_any (nat_eq k) (m ∷ out))) (x ∷ xs)
    go true b e f rest = rw e rest
    go false true e f rest = rw (e, f) rest
    go false false e f rest = rw (e, f) (ap (λ (r : List ℕ). x ∷ r) rest)

abbrev cut_all : List ℕ → List (List ℕ) → List (List ℕ)
cut_all [] lists = lists
cut_all (m ∷ out) lists = cut_all out (cut_off m lists)

list_at-cut_all : (out : List ℕ) (lists : List (List ℕ)) (n : ℕ) → list_at (cut_all out lists) n ≡ left_of out n (list_at lists n)
list_at-cut_all [] lists n = sym (keeps_all (list_at lists n))
  where
    keeps_all : (xs : List ℕ) → filter (λ k. true) xs ≡ xs
    keeps_all [] = refl
    keeps_all (x ∷ xs) = ap (λ (r : List ℕ). x ∷ r) (keeps_all xs)
list_at-cut_all (m ∷ out) lists n = list_at-cut_all out (cut_off m lists) n ∙ elim (cases_eq n m) [
  | inl e ↦
      let none : list_at (cut_off m lists) n ≡ [] = rw e (list_at-cut_off_same m lists) in
      let here : nat_eq n m ≡ true = eq-eqb n m e in
      rw (none, here) (same_either_way (list_any (nat_eq n) out) [])
  | inr ne ↦
      let less : list_at (cut_off m lists) n ≡ without m (list_at lists n) = list_at-cut_off_other m n lists ne in
      let else : nat_eq n m ≡ false = ne_eqb n m ne in
      rw (less, else) (ap (λ (r : List ℕ). cond (list_any (nat_eq n) out) [] r) (filter-without m out (list_at lists n)))
]

module _ {K : Type 0} where
  rests-removed_all : (g : Graph K) (out : List ℕ) → (removed_all g out).rests ≡ cut_all out g.rests
  rests-removed_all g [] = refl
  rests-removed_all g (m ∷ out) = rests-removed_all (removed g m) out

  dependents-removed_all : (g : Graph K) (out : List ℕ) → (removed_all g out).dependents ≡ cut_all out g.dependents
  dependents-removed_all g [] = refl
  dependents-removed_all g (m ∷ out) = dependents-removed_all (removed g m) out

  pub left_rests : (g : Graph K) (out : List ℕ) (n : ℕ) → list_at (removed_all g out).rests n ≡ left_of out n (list_at g.rests n)
  left_rests g out n = ap (λ (lists : List (List ℕ)). list_at lists n) (rests-removed_all g out) ∙ list_at-cut_all out g.rests n

  pub left_dependents : (g : Graph K) (out : List ℕ) (n : ℕ) → list_at (removed_all g out).dependents n ≡ left_of out n (list_at g.dependents n)
  left_dependents g out n = ap (λ (lists : List (List ℕ)). list_at lists n) (dependents-removed_all g out) ∙ list_at-cut_all out g.dependents n

  pub left_keys : (g : Graph K) (out : List ℕ) (n : ℕ) → key_at (removed_all g out) n ≡ cond (list_any (nat_eq n) out) None (key_at g n)
  left_keys g [] n = refl
  left_keys g (m ∷ out) n = left_keys (removed g m) out n ∙ elim (cases_eq n m) [
    | inl e ↦
        let none : key_at (removed g m) n ≡ None = rw e (keys-strike_same (g.keys, g.free) m) in
        let here : nat_eq n m ≡ true = eq-eqb n m e in
        rw (none, here) (same_either_way (list_any (nat_eq n) out) None)
    | inr ne ↦
        let same : key_at (removed g m) n ≡ key_at g n = keys-strike_other (g.keys, g.free) m n ne in
        let else : nat_eq n m ≡ false = ne_eqb n m ne in
        rw (same, else) refl
  ]

  pub left_lists : (g : Graph K) (out : List ℕ) → HasLists g → HasLists (removed_all g out)
  left_lists g [] has = has
  left_lists g (m ∷ out) has = left_lists (removed g m) out (record {
    rests_len = length-cut_off m g.rests ∙ has.rests_len ∙ sym (length-set g.keys m None);
    dependents_len = length-cut_off m g.dependents ∙ has.dependents_len ∙ sym (length-set g.keys m None);
  })

  -- ---- nodes in turn

  pub had_in_turn : (g : Graph K) (out : List ℕ) → AreNodes g out → AllPairs (λ m n. m ≢ n) out → (old : List K) × HaveKeys g out old
  had_in_turn g [] nodes once = ([], tt)
  had_in_turn g (m ∷ out) nodes once =
      let here = nodes m (Contains-head m out) in
      let rest = had_in_turn (removed g m) out
      (λ n h.
      let there = nodes n (Contains-tail m out n h) in
      let other : n ≢ m = λ e. once 0 (suc h.0) n (omega arith) (omega (arith, h.1)) (sym e ∙ sym h.2) in
      (there.0, slice_get-set_other g.keys m n None other ∙ there.1))
      (λ i j d before below. once (suc i) (suc j) d (omega arith) (omega arith)) in
      (here.0 ∷ rest.0, (here.1, rest.1))

  module _ (eq : K → K → Bool) where
    pub left_whole : (g : Graph K) (out : List ℕ) (old : List K) → IsWhole eq g → HaveKeys g out old → IsWhole eq (removed_all g out)
    left_whole g [] [] whole had = whole
    left_whole g [] (k ∷ old) whole had = absurd had
    left_whole g (m ∷ out) [] whole had = absurd had
    left_whole g (m ∷ out) (k ∷ old) whole had = left_whole (removed g m) out old (AreWhole-removed eq g.keys g.free g.rests g.dependents m k had.0 whole) had.1
