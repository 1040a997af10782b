-- What goes out, what comes in, and the links that are wanted make a plan.
use Rattle.std.proofs.Common.{◌≡◌, ◌⊎◌, inl, inr, ◌∙◌, ap, sym, refl, subst, true, ℕ, Bool, List, map, get_or, slice_get, Some}
use Rattle.std.specs.Cmp.{IsEquivalence}
use Rattle.std.specs.Prelude.{◌↔◌}
use Rattle.std.specs.List.{Contains, flat_map, zip}
use Rattle.std.proofs.lemmas.Bool.{cases_Bool}
use Rattle.std.proofs.lemmas.List.Elements.{Contains-append_cases, Contains-append_left}
use Rattle.std.proofs.lemmas.Option.{get_or_from_slice_get, slice_get_within}
use Rattle.item_index.specs.Graphs.{Graph, HasKey}
use Rattle.item_index.specs.Undo.{inserted_all, numbers_given, removed_all}
use Rattle.graph_steps.proofs.Inserting.{keys_after, orderly}
use Rattle.graph_steps.proofs.Numbers.{key_stays, key_stood, one_key}
use Rattle.graph_steps.proofs.Removing.{had_in_turn, left_whole}
use Rattle.graph_changes.specs.declared.ends.End.{End}
use Rattle.graph_changes.specs.declared.ends.End.TheVariants.{Stays, Comes}
use Rattle.graph_changes.specs.Ends.{link_of, links_of, number_of}
use Rattle.cat_items.specs.declared.item.Item.{Item}
use Rattle.cascade_laws.specs.Topics.{Topic, IsOptionTopic, IsUnder, by_option}
use Rattle.board_graph.specs.BoardKeys.{IsKeyOf, topic_key}
use Rattle.board_graph.specs.Boards.{IsLink, IsOwnTopic, adds, depends, stands}
use Rattle.board_steps.specs.Plans.{IsBoardKey, IsMissing, IsOfSuspect, IsOnSuspect, IsPlanOf, IsSuspectLink}
use Rattle.board_steps.proofs.Apart.{alike_back, is_known, no_topic, one_item, same_key}
use Rattle.board_plans.specs.declared.arrivals.Arrival.{Arrival}
use Rattle.board_plans.specs.Arrivals.{links_by}
use Rattle.board_plans.specs.Ends.{AreEnds, IsEnd, IsEndAmong, IsNewKey, IsPlaceOf, IsStaying}
use Rattle.board_plans.specs.Leaving.{AreOutgoing}
use Rattle.board_plans.specs.Planning.{CanPlan}
use Rattle.board_plans.proofs.GoingOut.{clear_number, no_suspect_stays, old_key, only_out, suspects_out}
use Rattle.board_plans.proofs.Members.{Apart, apart_of_pairs, length-given, map_has, of_map, pairs_map, pairs_of_apart, zip_apart, zip_at, zip_key, zip_left, zip_one, zip_right}
use Rattle.board_plans.proofs.Wanted.{IsWantedKey, wanted_key, wanted_link, wanted_once, wants_added, wants_from, wants_to}

module _ (eq : Item → Item → Bool) (laws : IsEquivalence eq) (g : Graph Item) (c new : List Item) (suspect : Item → Bool) (touched : List ℕ) (arrivals : List Arrival)
    (can : CanPlan eq g c new suspect touched arrivals) (out : List ℕ) (outgoing : AreOutgoing g touched out) (keys : List Item) (ends : List (End × End))
    (are : AreEnds eq g out (map (λ a. a.key) arrivals) keys (flat_map links_by arrivals) ends) where
  -- ---- keys

  pub in_first : (k : Item) → IsOfSuspect new suspect k → Contains (map (λ a. a.key) arrivals) k
  in_first k of = let a = can.arrivals_are.all k of in subst (Contains (map (λ b. b.key) arrivals)) a.2 (map_has (λ b. b.key) arrivals a.0 a.1)

  pub of_first : (k : Item) → Contains (map (λ a. a.key) arrivals) k → IsOfSuspect new suspect k
  of_first k h =
      let a = of_map (λ b. b.key) arrivals k h in
      let o = can.arrivals_are.only a.0 a.1 in
      (o.0, subst (IsKeyOf new o.0) a.2 o.2.key, o.1)

  first_stays : (k : Item) → Contains (map (λ a. a.key) arrivals) k → Contains keys k
  first_stays k h = subst (λ (ks : List Item). Contains ks k) (sym are.behind) (Contains-append_left (map (λ a. a.key) arrivals) are.more k h)

  which_wanted : (k : Item) → IsEndAmong (flat_map links_by arrivals) k → IsWantedKey new can.new_keys.0 suspect arrivals can.arrivals_are k
  which_wanted k h = wanted_key new can.new_keys.0 suspect arrivals can.arrivals_are k h

  -- a key that is wanted is one of the new board
  wanted_is_key : (k : Item) → IsWantedKey new can.new_keys.0 suspect arrivals can.arrivals_are k → IsBoardKey new k
  wanted_is_key k is =
      elim is [
        | inl of ↦ inl (of.0, of.1)
        | inr rest ↦ (elim rest [ inl topic ↦ inr (topic.0, topic.1.2.own, topic.2) | inr clear ↦ inl (clear.0, clear.1) ])
      ]

  new_key : (k : Item) → Contains keys k → IsBoardKey new k
  new_key k h =
      elim (Contains-append_cases (map (λ a. a.key) arrivals) are.more k (subst (λ (ks : List Item). Contains ks k) are.behind h)) [
        | inl old ↦ let of = of_first k old in inl (of.0, of.1)
        | inr more ↦ wanted_is_key k (which_wanted k (are.fresh k more).0)
      ]

  gone_before : (k : Item) → IsNewKey eq g out (map (λ a. a.key) arrivals) k → (n : ℕ) → HasKey (removed_all g out) n k → ⊥
  gone_before k fresh n has = let was = key_stood g out n k has in was.1 (fresh.gone n k was.0 (laws.refl k))

  pub only_in : (k : Item) → Contains keys k → IsOfSuspect new suspect k ⊎ IsMissing (removed_all g out) new suspect k
  only_in k h =
      elim (Contains-append_cases (map (λ a. a.key) arrivals) are.more k (subst (λ (ks : List Item). Contains ks k) are.behind h)) [
        | inl old ↦ inl (of_first k old)
        | inr more ↦
            let fresh = are.fresh k more in
            elim (which_wanted k fresh.0) [
              | inl of ↦ inl of
              | inr rest ↦ (elim rest [
                | inl topic ↦ inr (topic.0, topic.1, topic.2, gone_before k fresh.1)
                | inr clear ↦ let at = clear_number eq g c new suspect touched arrivals can out outgoing clear.0 k clear.1 clear.2 in absurd (gone_before k fresh.1 at.0 at.1)
              ])
            ]
      ]

  pub keys_apart : Apart keys
  keys_apart = apart_of_pairs keys (are.once (pairs_of_apart (map (λ a. a.key) arrivals) (pairs_map (λ a. a.key) arrivals can.arrivals_are.once)))

  -- what stays doesn't come in
  not_there : (n : ℕ) (k : Item) → HasKey (removed_all g out) n k → Contains keys k → ⊥
  not_there n k has h =
      elim (only_in k h) [
        | inl of ↦ no_suspect_stays eq g c new suspect touched arrivals can out outgoing n k has of
        | inr missing ↦ missing.3 n has
      ]

  -- ---- ends

  place_has : (k : Item) (place : ℕ) → IsWantedKey new can.new_keys.0 suspect arrivals can.arrivals_are k → IsPlaceOf eq keys k place → slice_get keys place ≡ Some k
  place_has k place is at =
      let within = slice_get_within keys place at.0 at.1 in
      let there : Contains keys at.0 = (place, within, get_or_from_slice_get keys place at.0 at.0 at.1) in
      at.1 ∙ ap (λ (j : Item). Some j) (sym (can.new_keys.1 k at.0 (wanted_is_key k is) (new_key at.0 there) at.2))

  stays_has : (k : Item) (n : ℕ) → IsWantedKey new can.new_keys.0 suspect arrivals can.arrivals_are k → (Contains keys k → ⊥) → IsStaying eq g out k n → HasKey (removed_all g out) n k
  stays_has k n is out_of at =
      let was : IsBoardKey c k = elim is [
        | inl of ↦ absurd (out_of (first_stays k (in_first k of)))
        | inr rest ↦ (elim rest [
          | inl topic ↦ inr (topic.0, topic.1.2.own, topic.2)
          | inr clear ↦ inl (clear.0, same_key new c suspect (alike_back c new suspect can.alike) clear.0 k clear.2 clear.1)
        ])
      ] in
      let one : k ≡ at.0 = can.old_keys.1 k at.0 was (old_key eq g c new suspect touched arrivals can out outgoing n at.0 at.1) at.2 in
      key_stays g out n k (subst (HasKey g n) (sym one) at.1) at.3

  -- ---- numbers

  had_keys : (n : ℕ) → Contains out n → (k : Item) × HasKey g n k
  had_keys n h = let was = only_out eq g c new suspect touched arrivals can out outgoing n h in (was.0, was.1)

  key_after : (n : ℕ) (k : Item) → HasKey (inserted_all (removed_all g out) keys) n k ↔ (HasKey (removed_all g out) n k ⊎ Contains (zip (numbers_given (removed_all g out) keys) keys) (n, k))
  key_after n k = let had = had_in_turn g out had_keys outgoing.once in keys_after (removed_all g out) keys (orderly eq (removed_all g out) (left_whole eq g out had.0 can.whole had.1)) n k

  one_number : (m n : ℕ) (k : Item) → HasKey (inserted_all (removed_all g out) keys) m k → HasKey (inserted_all (removed_all g out) keys) n k → m ≡ n
  one_number m n k at_m at_n =
      let given = numbers_given (removed_all g out) keys in
      elim ((key_after m k).0 at_m) [
        | inl old ↦ (elim ((key_after n k).0 at_n) [
          | inl older ↦ can.whole.distinct m n k k (key_stood g out m k old).0 (key_stood g out n k older).0 (laws.refl k)
          | inr came ↦ absurd (not_there m k old (zip_key given keys n k came))
        ])
        | inr came ↦ (elim ((key_after n k).0 at_n) [
          | inl old ↦ absurd (not_there n k old (zip_key given keys m k came))
          | inr again ↦ zip_one given keys m n k keys_apart came again
        ])
      ]

  end_number : (k : Item) (end : End) → IsWantedKey new can.new_keys.0 suspect arrivals can.arrivals_are k → IsEnd eq g out keys k end
      → HasKey (inserted_all (removed_all g out) keys) (number_of (numbers_given (removed_all g out) keys) end) k
  end_number k (Stays n) is at = (key_after n k).1 (inl (stays_has k n is at.1 at.0))
  end_number k (Comes place) is at =
      let given = numbers_given (removed_all g out) keys in
      (key_after (get_or given place 0) k).1 (inr (zip_at given keys place k (length-given (removed_all g out) keys) (place_has k place is at)))

  -- ---- links

  link_numbers : (l : Item × Item) (e : End × End) → Contains (flat_map links_by arrivals) l → IsEnd eq g out keys l.0 e.0 × IsEnd eq g out keys l.1 e.1
      → HasKey (inserted_all (removed_all g out) keys) (link_of (numbers_given (removed_all g out) keys) e).0 l.0 × HasKey (inserted_all (removed_all g out) keys) (link_of (numbers_given (removed_all g out) keys) e).1 l.1
  link_numbers l e h both = (end_number l.0 e.0 (which_wanted l.0 (l, h, inl refl)) both.0, end_number l.1 e.1 (which_wanted l.1 (l, h, inr refl)) both.1)

  made_from : (m n : ℕ) → Contains (links_of g out keys ends) (m, n) → IsSuspectLink (inserted_all (removed_all g out) keys) new suspect m n
  made_from m n h =
      let after = inserted_all (removed_all g out) keys in
      let e = of_map (link_of (numbers_given (removed_all g out) keys)) ends (m, n) h in
      let l = zip_right (λ l e. IsEnd eq g out keys l.0 e.0 × IsEnd eq g out keys l.1 e.1) (flat_map links_by arrivals) ends are.at e.0 e.1 in
      let has = link_numbers l.0 e.0 l.1 l.2 in
      let is = wanted_link new can.new_keys.0 suspect arrivals can.arrivals_are l.0 l.1 in
      record {
        from = l.0.0;
        to = l.0.1;
        from_is = subst (λ (p : ℕ × ℕ). HasKey after p.0 l.0.0) e.2 has.0;
        to_is = subst (λ (p : ℕ × ℕ). HasKey after p.1 l.0.1) e.2 has.1;
        link = is.0;
        suspected = is.1;
      }

  told : (x k : Item) → IsKeyOf new x k → IsOfSuspect new suspect k → suspect x ≡ true
  told x k is of = subst (λ (y : Item). suspect y ≡ true) (one_item new new can.new_keys.0 can.new_keys.0 of.0 x k of.1 is) of.2

  never_topic : (t : Topic) (k : Item) → IsOwnTopic t → k ≡ topic_key t → IsOfSuspect new suspect k → ⊥
  never_topic t k own e of = no_topic new can.new_keys.0 of.0 k t of.1 own e

  -- what has an option on a suspect is one
  spread : (x y j : Item) (t : Topic) → IsKeyOf new x j → IsOptionTopic x t → IsUnder t y → suspect y ≡ true → suspect x ≡ true
  spread x y j t is option under of =
      elim (cases_Bool (suspect x)) [
        | inl yes_it_is ↦ yes_it_is
        | inr clear ↦ can.spreads y x t of ((can.alike.known_alike x clear).1 (is_known new x j is)) under (by_option option)
      ]

  is_wanted : (j k : Item) → IsLink new j k → IsOfSuspect new suspect j ⊎ IsOfSuspect new suspect k → Contains (flat_map links_by arrivals) (j, k)
  is_wanted j k (depends x t is on own e) suspected =
      let of : suspect x ≡ true = elim suspected [ inl here ↦ told x j is here | inr there ↦ absurd (never_topic t k own e there) ] in
      subst (λ (i : Item). Contains (flat_map links_by arrivals) (j, i)) (sym e) (wants_to new can.new_keys.0 suspect arrivals can.arrivals_are x j is of t on own)
  is_wanted j k (stands y t is under own e) suspected =
      let of : suspect y ≡ true = elim suspected [ inl here ↦ absurd (never_topic t j own e here) | inr there ↦ told y k is there ] in
      subst (λ (i : Item). Contains (flat_map links_by arrivals) (i, k)) (sym e) (wants_from new can.new_keys.0 suspect arrivals can.arrivals_are y k is of t under own)
  is_wanted j k (adds x y t is_x is_y option under) suspected =
      let of : suspect x ≡ true = elim suspected [ inl here ↦ told x j is_x here | inr there ↦ spread x y j t is_x option under (told y k is_y there) ] in
      wants_added new can.new_keys.0 suspect arrivals can.arrivals_are x j is_x of k (y, t, is_y, option, under)

  made_to : (m n : ℕ) → IsSuspectLink (inserted_all (removed_all g out) keys) new suspect m n → Contains (links_of g out keys ends) (m, n)
  made_to m n is =
      let given = numbers_given (removed_all g out) keys in
      let h = is_wanted is.from is.to is.link is.suspected in
      let e = zip_left (λ l e. IsEnd eq g out keys l.0 e.0 × IsEnd eq g out keys l.1 e.1) (flat_map links_by arrivals) ends are.at (is.from, is.to) h in
      let has = link_numbers (is.from, is.to) e.0 h e.2 in
      let from : number_of given e.0.0 ≡ m = one_number (number_of given e.0.0) m is.from has.0 is.from_is in
      let to : number_of given e.0.1 ≡ n = one_number (number_of given e.0.1) n is.to has.1 is.to_is in
      subst (Contains (links_of g out keys ends)) (λ i. (from i, to i)) (map_has (link_of given) ends e.0 e.1)

  links_apart : Apart (links_of g out keys ends)
  links_apart =
      let given = numbers_given (removed_all g out) keys in
      let after = inserted_all (removed_all g out) keys in
      zip_apart (λ l e. IsEnd eq g out keys l.0 e.0 × IsEnd eq g out keys l.1 e.1) (link_of given) (flat_map links_by arrivals) ends are.at
      (λ x w y z at_x at_w of_x of_w e.
      let p = link_numbers x y at_x of_x in
      let q = link_numbers w z at_w of_w in
      let from : x.0 ≡ w.0 = one_key after (link_of given y).0 x.0 w.0 p.0 (subst (λ (r : ℕ × ℕ). HasKey after r.0 w.0) (sym e) q.0) in
      let to : x.1 ≡ w.1 = one_key after (link_of given y).1 x.1 w.1 p.1 (subst (λ (r : ℕ × ℕ). HasKey after r.1 w.1) (sym e) q.1) in
      λ i. (from i, to i)) (wanted_once new can.new_keys.0 suspect arrivals can.arrivals_are)

  -- ---- topics

  end_among : (k : Item) → IsEndAmong (flat_map links_by arrivals) k → (e : End) × IsEnd eq g out keys k e
  end_among k (l, h, at) =
      let r = zip_left (λ l e. IsEnd eq g out keys l.0 e.0 × IsEnd eq g out keys l.1 e.1) (flat_map links_by arrivals) ends are.at l h in
      elim at [ inl e ↦ (r.0.0, subst (λ (j : Item). IsEnd eq g out keys j r.0.0) e r.2.0) | inr e ↦ (r.0.1, subst (λ (j : Item). IsEnd eq g out keys j r.0.1) e r.2.1) ]

  end_there : (k : Item) (end : End) → IsWantedKey new can.new_keys.0 suspect arrivals can.arrivals_are k → IsEnd eq g out keys k end → ((n : ℕ) × HasKey (removed_all g out) n k) ⊎ Contains keys k
  end_there k (Stays n) is at = inl (n, stays_has k n is at.1 at.0)
  end_there k (Comes place) is at = let there = place_has k place is at in inr (place, slice_get_within keys place k there, get_or_from_slice_get keys place k k there)

  topics_in : (t : Topic) → IsOnSuspect new suspect t → ((n : ℕ) × HasKey (removed_all g out) n (topic_key t)) ⊎ Contains keys (topic_key t)
  topics_in t on =
      let h : IsEndAmong (flat_map links_by arrivals) (topic_key t) = elim on.2.by [
        | inl dep ↦ ((on.1, topic_key t), wants_to new can.new_keys.0 suspect arrivals can.arrivals_are on.0 on.1 on.2.key on.3 t dep on.2.own, inr refl)
        | inr under ↦ ((topic_key t, on.1), wants_from new can.new_keys.0 suspect arrivals can.arrivals_are on.0 on.1 on.2.key on.3 t under on.2.own, inl refl)
      ] in
      let e = end_among (topic_key t) h in
      end_there (topic_key t) e.0 (which_wanted (topic_key t) h) e.1

  pub is_plan : IsPlanOf g c new suspect out keys (links_of g out keys ends)
  is_plan = record {
    suspects_out = suspects_out eq g c new suspect touched arrivals can out outgoing;
    only_out = only_out eq g c new suspect touched arrivals can out outgoing;
    out_once = outgoing.once;
    suspects_in = λ k of. first_stays k (in_first k of);
    topics_in = topics_in;
    only_in = only_in;
    keys_once = pairs_of_apart keys keys_apart;
    made = λ m n. (made_from m n, made_to m n);
    made_once = pairs_of_apart (links_of g out keys ends) links_apart;
  }
