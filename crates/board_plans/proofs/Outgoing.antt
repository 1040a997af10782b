-- What goes out: first what is no topic, then the topics that are spent by that.
use Rattle.std.proofs.Common.{◌≡◌, ◌&&◌, ◌+◌, ◌≤◌, ℕ, Bool, true, false, cond, nat_eq, List, [], ◌∷◌, filter, length, reverse, inl, inr, refl, sym, ◌∙◌, ap, subst, arith}
use Rattle.std.specs.List.{Contains, count_by, list_all, sum_by}
use Rattle.std.proofs.lemmas.Bool.{cases_Bool}
use Rattle.std.proofs.lemmas.List.{reverse-append, reverse-reverse}
use Rattle.std.proofs.lemmas.List.Sorted.{Contains-permutation, IsPermutation-reverse}
use Rattle.std.proofs.lemmas.List.Sums.{sum_by-cons}
use Rattle.finite_chains.proofs.Members.{Contains-cases, Contains-filter, Contains-nil, filter_passes_one}
use Rattle.item_index.specs.Graphs.{Graph}
use Rattle.item_index.specs.Shelves.{list_at}
use Rattle.graph_steps.specs.Steps.{AreNodes}
use Rattle.cat_items.specs.declared.item.Item.{Item}
use Rattle.indexmap.specs.IndexSet.{insert_all}
use Rattle.board_plans.specs.Leaving.{AreOutgoing, goes, is_item_at, is_spent, is_topic_at, look_ups}
use Rattle.board_plans.specs.Spent.{has_no_other, is_among, links_cost}
use Rattle.board_plans.proofs.Inserted.{inserted_apart, inserted_of, is_there, of_inserted, told_there}
use Rattle.board_plans.proofs.Members.{Apart, apart_append, apart_of_pairs, pairs_of_apart}

-- ---- tests

pub first_of : (a b : Bool) → a && b ≡ true → a ≡ true
first_of true b e = refl
first_of false b e = e

pub second_of : (a b : Bool) → a && b ≡ true → b ≡ true
second_of true b e = e
second_of false b e = cc

pub both_of : (a b : Bool) → a ≡ true → b ≡ true → a && b ≡ true
both_of a b one other = ap (λ x. x && b) one ∙ other

pub passes : (p : ℕ → Bool) (xs : List ℕ) → list_all p xs ≡ true → (x : ℕ) → Contains xs x → p x ≡ true
passes p [] all x h = absurd (Contains-nil x h)
passes p (y ∷ xs) all x h =
    elim (Contains-cases y xs x h) [
      | inl e ↦ subst (λ (z : ℕ). p z ≡ true) e (first_of (p y) (list_all p xs) all)
      | inr later ↦ passes p xs (second_of (p y) (list_all p xs) all) x later
    ]

same_test : (a b : Bool) → (a ≡ true → b ≡ true) → (b ≡ true → a ≡ true) → a ≡ b
same_test true b to from = sym (to refl)
same_test false true to from = from refl
same_test false false to from = refl

module _ (p q : ℕ → Bool) (same : (n : ℕ) → p n ≡ q n) where
  pub all_same : (xs : List ℕ) → list_all p xs ≡ list_all q xs
  all_same [] = refl
  all_same (x ∷ xs) = ap (λ b. b && list_all p xs) (same x) ∙ ap (λ b. q x && b) (all_same xs)

  pub count_same : (xs : List ℕ) → count_by p xs ≡ count_by q xs
  count_same [] = refl
  count_same (x ∷ xs) =
      sum_by-cons (λ y. cond (p y) 1 0) x xs ∙ ap (λ b. cond b 1 0 + count_by p xs) (same x) ∙ ap (λ n. cond (q x) 1 0 + n) (count_same xs) ∙ sym (sum_by-cons (λ y. cond (q y) 1 0) x xs)

  module _ {K : Type 0} (g : Graph K) (n : ℕ) where
    pub no_other_same : has_no_other p g n ≡ has_no_other q g n
    no_other_same = ap (λ b. b && list_all p (list_at g.dependents n)) (all_same (list_at g.rests n)) ∙ ap (λ b. list_all q (list_at g.rests n) && b) (all_same (list_at g.dependents n))

    pub cost_same : links_cost p g n ≡ links_cost q g n
    cost_same = let rests = count_same (list_at g.rests n) in let dependents = count_same (list_at g.dependents n) in omega arith

-- ---- what goes out

module _ (g : Graph Item) (touched items topics : List ℕ) (items_are : items ≡ insert_all nat_eq [] (filter (is_item_at g) touched))
    (topics_are : topics ≡ filter (is_topic_at g) touched) where
  item_goes : (n : ℕ) → Contains items n → goes g touched n ≡ true
  item_goes n h =
      elim (inserted_of (filter (is_item_at g) touched) [] n (subst (λ (ns : List ℕ). Contains ns n) items_are h)) [
        | inl none ↦ absurd (Contains-nil n none)
        | inr is ↦ let r = filter_passes_one (is_item_at g) touched n is in both_of (is_among touched n) (is_item_at g n) (told_there n touched r.0) r.1
      ]

  goes_item : (n : ℕ) → goes g touched n ≡ true → Contains items n
  goes_item n e =
      let at = is_there n touched (first_of (is_among touched n) (is_item_at g n) e) in
      let is = second_of (is_among touched n) (is_item_at g n) e in
      subst (λ (ns : List ℕ). Contains ns n) (sym items_are) (of_inserted (filter (is_item_at g) touched) [] n (inr (Contains-filter (is_item_at g) touched n at is)))

  pub among_goes : (n : ℕ) → is_among items n ≡ goes g touched n
  among_goes n = same_test (is_among items n) (goes g touched n) (λ e. item_goes n (is_there n items e)) (λ e. told_there n items (goes_item n e))

  module _ (spent : List ℕ) (spent_are : spent ≡ filter (has_no_other (is_among items) g) topics) where
    topic_spent : (n : ℕ) → Contains spent n → is_spent g touched n ≡ true
    topic_spent n h =
        let r = filter_passes_one (has_no_other (is_among items) g) topics n (subst (λ (ns : List ℕ). Contains ns n) spent_are h) in
        let s = filter_passes_one (is_topic_at g) touched n (subst (λ (ns : List ℕ). Contains ns n) topics_are r.0) in
        both_of (is_among touched n && is_topic_at g n) (has_no_other (goes g touched) g n) (both_of (is_among touched n) (is_topic_at g n) (told_there n touched s.0) s.1)
        (sym (no_other_same (is_among items) (goes g touched) among_goes g n) ∙ r.1)

    spent_topic : (n : ℕ) → is_spent g touched n ≡ true → Contains spent n
    spent_topic n e =
        let first = first_of (is_among touched n && is_topic_at g n) (has_no_other (goes g touched) g n) e in
        let last = second_of (is_among touched n && is_topic_at g n) (has_no_other (goes g touched) g n) e in
        let at = is_there n touched (first_of (is_among touched n) (is_topic_at g n) first) in
        let is = second_of (is_among touched n) (is_topic_at g n) first in
        let topic = subst (λ (ns : List ℕ). Contains ns n) (sym topics_are) (Contains-filter (is_topic_at g) touched n at is) in
        subst (λ (ns : List ℕ). Contains ns n) (sym spent_are)
        (Contains-filter (has_no_other (is_among items) g) topics n topic (no_other_same (is_among items) (goes g touched) among_goes g n ∙ last))

    pub all_go : (out : List ℕ) → out ≡ insert_all nat_eq items spent → AreOutgoing g touched out
    all_go out out_is = record {
      exactly = λ n. (
        λ h. elim (inserted_of spent items n (subst (λ (ns : List ℕ). Contains ns n) out_is h)) [ inl item ↦ inl (item_goes n item) | inr topic ↦ inr (topic_spent n topic) ],
        λ is. subst (λ (ns : List ℕ). Contains ns n) (sym out_is) (of_inserted spent items n (elim is [ inl item ↦ inl (goes_item n item) | inr topic ↦ inr (spent_topic n topic) ])),
      );
      once = pairs_of_apart out (subst Apart (sym out_is) (inserted_apart spent items (subst Apart (sym items_are) (inserted_apart (filter (is_item_at g) touched) [] tt))));
    }

  -- ---- what it costs

  costs : (ns : List ℕ) → length ns + sum_by (links_cost (is_among items) g) (filter (is_topic_at g) ns) ≡ sum_by (look_ups g touched) ns
  costs [] = refl
  costs (n ∷ ns) =
      let rest = costs ns in
      let same = cost_same (is_among items) (goes g touched) among_goes g n in
      let first = sum_by-cons (look_ups g touched) n ns in
      elim (cases_Bool (is_topic_at g n)) [
        | inl topic ↦
            let more = ap (sum_by (links_cost (is_among items) g)) (ap (λ b. cond b (n ∷ filter (is_topic_at g) ns) (filter (is_topic_at g) ns)) topic) ∙ sum_by-cons (links_cost (is_among items) g) n (filter (is_topic_at g) ns) in
            let own = ap (λ b. 1 + cond b (links_cost (goes g touched) g n) 0) topic in
            omega arith
        | inr other ↦
            let more = ap (sum_by (links_cost (is_among items) g)) (ap (λ b. cond b (n ∷ filter (is_topic_at g) ns) (filter (is_topic_at g) ns)) other) in
            let own = ap (λ b. 1 + cond b (links_cost (goes g touched) g n) 0) other in
            omega arith
      ]

  pub all_cost : length touched + sum_by (links_cost (is_among items) g) topics ≡ sum_by (look_ups g touched) touched
  all_cost = ap (λ (ns : List ℕ). length touched + sum_by (links_cost (is_among items) g) ns) topics_are ∙ costs touched

-- ---- in the other order

of_reverse : {X : Type 0} (xs : List X) (z : X) → Contains (reverse xs) z → Contains xs z
of_reverse xs z h = subst (λ ys. Contains ys z) (reverse-reverse xs) (Contains-permutation (reverse xs) (reverse (reverse xs)) z (IsPermutation-reverse (reverse xs)) h)

apart_reverse : {X : Type 0} (xs : List X) → Apart xs → Apart (reverse xs)
apart_reverse [] apart = tt
apart_reverse (x ∷ xs) apart =
    subst Apart (sym (reverse-append (x ∷ []) xs))
    (apart_append (reverse xs) (x ∷ []) (apart_reverse xs apart.1) ((λ h. Contains-nil x h), tt) (λ z there here. elim (Contains-cases x [] z here) [
      | inl e ↦ apart.0 (subst (Contains xs) (sym e) (of_reverse xs z there))
      | inr none ↦ Contains-nil z none
    ]))

pub go_backwards : (g : Graph Item) (touched out : List ℕ) → AreOutgoing g touched out → AreOutgoing g touched (reverse out)
go_backwards g touched out are = record {
  exactly = λ n. (λ h. (are.exactly n).0 (of_reverse out n h), λ is. Contains-permutation out (reverse out) n (IsPermutation-reverse out) ((are.exactly n).1 is));
  once = pairs_of_apart (reverse out) (apart_reverse out (apart_of_pairs out are.once));
}

-- the key of each is the least
pub at_least : (g : Graph Item) (touched : List ℕ) → length touched ≤ sum_by (look_ups g touched) touched
at_least g touched = let all = all_cost g touched (insert_all nat_eq [] (filter (is_item_at g) touched)) (filter (is_topic_at g) touched) refl refl in omega arith

-- each topic is one of these
pub topics_have_keys : (g : Graph Item) (touched topics : List ℕ) → topics ≡ filter (is_topic_at g) touched → AreNodes g touched → AreNodes g topics
topics_have_keys g touched topics are nodes n h = nodes n ((filter_passes_one (is_topic_at g) touched n (subst (λ (ns : List ℕ). Contains ns n) are h)).0)
