-- What a plan makes of a board.
use Rattle.std.proofs.Common.{◌≡◌, ◌⊎◌, ℕ, ◌<◌, ◌≤◌, Bool, true, false, ◌||◌, nat_eq, List, ◌++◌, get_or, slice_get, Option, Some, sym, ◌∙◌, ap, refl, inl, inr, subst, arith}
use Rattle.std.specs.Prelude.{◌↔◌}
use Rattle.std.specs.List.{All, Contains, list_any, zip}
use Rattle.std.proofs.lemmas.Bool.{both_ways, cases_Bool, cases_lt}
use Rattle.std.proofs.lemmas.List.Elements.{Contains-append_cases, Contains-append_left, Contains-append_right, Contains-get_or}
use Rattle.finite_chains.proofs.Members.{All-from_contains}
use Rattle.item_index.specs.Graphs.{Graph, HasKey, IsNode, IsWhole, rests_of}
use Rattle.item_index.specs.Shelves.{list_at, times}
use Rattle.item_index.specs.Undo.{AreNewLinks, HaveKeys, changed, inserted_all, numbers_given, removed_all, touches}
use Rattle.graph_steps.specs.Steps.{AreNewKeys, HasLists, left_of}
use Rattle.graph_steps.proofs.Removing.{had_in_turn, left_lists, left_rests, left_whole}
use Rattle.graph_steps.proofs.Inserting.{keys_after, new_in_turn, orderly, same_lists, same_rests, was_unlinked}
use Rattle.graph_steps.proofs.Linking.{more_rests, same_keys}
use Rattle.cat_items.specs.declared.item.Item.{Item}
use Rattle.cascade_laws.specs.Alike.{AreAlike}
use Rattle.cascade_laws.specs.Topics.{DependsOn, IsUnder, Topic}
use Rattle.board_graph.specs.BoardKeys.{IsKeyOf, topic_key}
use Rattle.board_graph.specs.Boards.{IsBoard, IsLink, IsOwnTopic, adds, depends, stands}
use Rattle.board_graph.proofs.Links.{same_links}
use Rattle.board_steps.specs.Plans.{GoesBy, HasNoHelper, IsBoardKey, IsFullBoard, IsOfSuspect, IsOnSuspect, IsPlanOf, IsSuspectLink, TellsApart}
use Rattle.board_steps.proofs.Apart.{alike_back, is_known, no_topic, one_item, same_key}
use Rattle.graph_steps.proofs.Numbers.{among, given_key, given_number, in_rests, is_link, key_stays, key_stood, left_fewer, left_stays, left_was, never, no_times, number_given, one_key, contained, rests_once, times-append}

-- what goes out can go out in turn
pub had_keys : (c new : List Item) (suspect : Item → Bool) (g : Graph Item) (out : List ℕ) (keys : List Item) (links : List (ℕ × ℕ)) → IsPlanOf g c new suspect out keys links → (old : List Item) × HaveKeys g out old
had_keys c new suspect g out keys links plan = had_in_turn g out (λ n h. let was = plan.only_out n h in (was.0, was.1)) plan.out_once

module _ (c new : List Item) (suspect : Item → Bool) (no_c : HasNoHelper c) (no_new : HasNoHelper new) (alike : AreAlike c new suspect)
    (eq : Item → Item → Bool) (g : Graph Item) (out : List ℕ) (keys : List Item) (links : List (ℕ × ℕ)) (whole : IsWhole eq g) (full : IsFullBoard g c) (plan : IsPlanOf g c new suspect out keys links) where
  board : IsBoard g c
  board = full.board

  less : Graph Item
  less = removed_all g out

  more : Graph Item
  more = inserted_all (removed_all g out) keys

  -- ---- what stays

  stays : (n : ℕ) (k : Item) → HasKey g n k → (Contains out n → ⊥) → HasKey less n k
  unfolding less
  stays n k has in_place = key_stays g out n k has in_place

  stood : (n : ℕ) (k : Item) → HasKey less n k → HasKey g n k × (Contains out n → ⊥)
  unfolding less
  stood n k has = key_stood g out n k has

  -- a node of what is no suspect stays
  clear_stays : (m : ℕ) (x j : Item) → HasKey g m j → IsKeyOf c x j → suspect x ≡ false → Contains out m → ⊥
  clear_stays m x j has is clear gone =
      let was = plan.only_out m gone in
      let same : was.0 ≡ j = one_key g m was.0 j was.1 has in
      elim was.2 [
        | inl of ↦
            let one : of.0 ≡ x = one_item c c no_c no_c of.0 x j (subst (IsKeyOf c of.0) same of.1) is in
            both_ways (suspect x) clear (subst (λ (y : Item). suspect y ≡ true) one of.2)
        | inr spent ↦ no_topic c no_c x j spent.0 is spent.1 (sym same ∙ spent.2)
      ]

  clear_item : (x j : Item) → IsKeyOf c x j → suspect x ≡ false → (m : ℕ) × HasKey less m j
  clear_item x j is clear = let at = board.items x j is in (at.0, stays at.0 j at.1 (clear_stays at.0 x j at.1 is clear))

  -- what stays is of no suspect, before and after
  clear_before : (n : ℕ) (x k : Item) → HasKey less n k → IsKeyOf c x k → suspect x ≡ false
  clear_before n x k has is =
      let was = stood n k has in
      elim (cases_Bool (suspect x)) [ inl one ↦ absurd (was.1 (plan.suspects_out n k was.0 (x, is, one))) | inr clear ↦ clear ]

  clear_after : (n : ℕ) (y k : Item) → HasKey less n k → IsKeyOf new y k → suspect y ≡ false
  clear_after n y k has is =
      elim (board.helpers n k (stood n k has).0) [
        | inl was ↦ subst (λ (x : Item). suspect x ≡ false) (one_item c new no_c no_new was.0 y k was.1 is) (clear_before n was.0 k has was.1)
        | inr topic ↦ absurd (no_topic new no_new y k topic.0 is topic.1 topic.2)
      ]

  -- a topic stays that what is no suspect goes by
  topic_stays : (x j : Item) (t : Topic) → IsKeyOf c x j → suspect x ≡ false → DependsOn c x t ⊎ IsUnder t x → IsOwnTopic t → (n : ℕ) × HasKey less n (topic_key t)
  topic_stays x j t is clear by own =
      let at = board.items x j is in
      let to = full.topics x j t (record { key = is; by = by; own = own }) in
      let linked : Contains (list_at g.rests to.0) at.0 ⊎ Contains (list_at g.rests at.0) to.0 = elim by [
        | inl on ↦ inr ((board.links at.0 to.0 j (topic_key t) at.1 to.1).1 (depends x t is on own refl))
        | inr under ↦ inl ((board.links to.0 at.0 (topic_key t) j to.1 at.1).1 (stands x t is under own refl))
      ] in
      let in_place : Contains out to.0 → ⊥ = λ gone.
      let was = plan.only_out to.0 gone in
      let same : was.0 ≡ topic_key t = one_key g to.0 was.0 (topic_key t) was.1 to.1 in
      elim was.2 [
        | inl of ↦ no_topic c no_c of.0 (topic_key t) t (subst (IsKeyOf c of.0) same of.1) own refl
        | inr spent ↦ clear_stays at.0 x j at.1 is clear (spent.3 at.0 linked)
      ] in
      (to.0, stays to.0 (topic_key t) to.1 in_place)

  -- ---- what comes in

  less_whole : IsWhole eq less
  unfolding less
  less_whole = let had = had_keys c new suspect g out keys links plan in left_whole eq g out had.0 whole had.1

  key_after : (n : ℕ) (k : Item) → HasKey more n k ↔ (HasKey less n k ⊎ Contains (zip (numbers_given less keys) keys) (n, k))
  unfolding less more
  key_after n k = keys_after (removed_all g out) keys (orderly eq (removed_all g out) less_whole) n k

  kept : (n : ℕ) (k : Item) → HasKey less n k → HasKey more n k
  kept n k has = (key_after n k).1 (inl has)

  came : (k : Item) → Contains keys k → (n : ℕ) × HasKey more n k
  came k h = let at = number_given less keys k h in (at.0, (key_after at.0 k).1 (inr at.1))

  is_old : (n : ℕ) (k : Item) → HasKey more n k → (Contains keys k → ⊥) → HasKey less n k
  is_old n k has none = elim ((key_after n k).0 has) [ inl old ↦ old | inr given ↦ absurd (none (given_key (numbers_given less keys) keys n k given)) ]

  clear_not_in : (x j : Item) → IsKeyOf new x j → suspect x ≡ false → Contains keys j → ⊥
  clear_not_in x j is clear h =
      elim (plan.only_in j h) [
        | inl of ↦ both_ways (suspect x) clear (subst (λ (y : Item). suspect y ≡ true) (one_item new new no_new no_new of.0 x j of.1 is) of.2)
        | inr missing ↦ no_topic new no_new x j missing.0 is missing.1.2.own missing.2
      ]

  topic_not_in : (n : ℕ) (t : Topic) → HasKey less n (topic_key t) → IsOwnTopic t → Contains keys (topic_key t) → ⊥
  unfolding less
  topic_not_in n t has own h =
      elim (plan.only_in (topic_key t) h) [
        | inl of ↦ no_topic new no_new of.0 (topic_key t) t of.1 own refl
        | inr missing ↦ missing.3 n has
      ]

  key_of_old : (n : ℕ) (k : Item) → HasKey less n k → IsBoardKey new k
  key_of_old n k has =
      elim (board.helpers n k (stood n k has).0) [
        | inl was ↦ inl (was.0, same_key c new suspect alike was.0 k (clear_before n was.0 k has was.1) was.1)
        | inr topic ↦ inr topic
      ]

  key_of_new : (k : Item) → Contains keys k → IsBoardKey new k
  key_of_new k h =
      elim (plan.only_in k h) [
        | inl of ↦ inl (of.0, of.1)
        | inr missing ↦ inr (missing.0, missing.1.2.own, missing.2)
      ]

  -- a key that comes in is none that stays
  not_there : (n : ℕ) (k : Item) → HasKey less n k → Contains keys k → ⊥
  unfolding less
  not_there n k has h =
      elim (plan.only_in k h) [
        | inl of ↦ both_ways (suspect of.0) (clear_after n of.0 k has of.1) of.2
        | inr missing ↦ missing.3 n has
      ]

  pub new_keys : TellsApart eq new → AreNewKeys eq (removed_all g out) keys
  unfolding less
  new_keys apart = new_in_turn eq (removed_all g out) keys (orderly eq (removed_all g out) less_whole)
      (λ n j k has h. elim (cases_Bool (eq k j)) [
        | inl one ↦ absurd (not_there n k (subst (λ (i : Item). HasKey less n i) (sym (apart k j (key_of_new k h) (key_of_old n j has) one)) has) h)
        | inr other ↦ other
      ])
      (λ i j d before below.
      let first = get_or keys i d in
      let second = get_or keys j d in
      elim (cases_Bool (eq second first)) [
        | inl one ↦ absurd (plan.keys_once i j d before below (sym (apart second first (key_of_new second (Contains-get_or keys j d below)) (key_of_new first (Contains-get_or keys i d (omega arith))) one)))
        | inr other ↦ other
      ])

  -- a link of the new catalogue is of a suspect, or between nodes that stay
  abbrev Suspected : Item → Item → Type 0
  Suspected j k = IsOfSuspect new suspect j ⊎ IsOfSuspect new suspect k

  abbrev AreOld : ℕ → ℕ → Item → Item → Type 0
  AreOld m n j k = HasKey less m j × HasKey less n k

  -- the nodes of what is no suspect, and of a topic that it goes by
  both_old : (m n : ℕ) (x j : Item) (t : Topic) → HasKey more m j → HasKey more n (topic_key t) → IsKeyOf new x j → suspect x ≡ false → DependsOn new x t ⊎ IsUnder t x → IsOwnTopic t → AreOld m n j (topic_key t)
  both_old m n x j t has_m has_n is clear by own =
      let is_c = same_key new c suspect (alike_back c new suspect alike) x j clear is in
      let by_c : DependsOn c x t ⊎ IsUnder t x = elim by [ inl on ↦ inl ((alike.same_topics x clear (is_known c x j is_c) t).1 on) | inr under ↦ inr under ] in
      let to = topic_stays x j t is_c clear by_c own in
      (is_old m j has_m (clear_not_in x j is clear), is_old n (topic_key t) has_n (topic_not_in to.0 t to.1 own))

  which_link : (m n : ℕ) (j k : Item) → HasKey more m j → HasKey more n k → IsLink new j k → Suspected j k ⊎ AreOld m n j k
  which_link m n j k has_m has_n (depends x t is on own e) =
      elim (cases_Bool (suspect x)) [
        | inl one ↦ inl (inl (x, is, one))
        | inr clear ↦
            let both = both_old m n x j t has_m (subst (HasKey more n) e has_n) is clear (inl on) own in
            inr (both.0, subst (HasKey less n) (sym e) both.1)
      ]
  which_link m n j k has_m has_n (stands y t is under own e) =
      elim (cases_Bool (suspect y)) [
        | inl one ↦ inl (inr (y, is, one))
        | inr clear ↦
            let both = both_old n m y k t has_n (subst (HasKey more m) e has_m) is clear (inr under) own in
            inr (subst (HasKey less m) (sym e) both.1, both.0)
      ]
  which_link m n j k has_m has_n (adds x y t is is2 option under) =
      elim (cases_Bool (suspect x)) [
        | inl one ↦ inl (inl (x, is, one))
        | inr clear ↦ (elim (cases_Bool (suspect y)) [
          | inl one ↦ inl (inr (y, is2, one))
          | inr clear2 ↦ inr (is_old m j has_m (clear_not_in x j is clear), is_old n k has_n (clear_not_in y k is2 clear2))
        ])
      ]

  -- between nodes that stay, the links are the same
  old_links : (m n : ℕ) (j k : Item) → HasKey less m j → HasKey less n k → IsLink c j k ↔ IsLink new j k
  old_links m n j k has_m has_n = same_links c new suspect alike j k (λ x. clear_before m x j has_m) (λ x. clear_before n x k has_n) (λ x. clear_after m x j has_m) (λ x. clear_after n x k has_n)

  -- ---- the lists of links

  -- a number that was given has no links yet
  rests_of_given : (m n : ℕ) → Contains (numbers_given less keys) m → Contains (list_at less.rests m) n → ⊥
  rests_of_given m n given h = no_times n (list_at less.rests m) (ap (times n) (was_unlinked eq less keys less_whole m given).1) h

  given_among : (m n : ℕ) → Contains (numbers_given less keys) n → Contains (list_at less.rests m) n → ⊥
  given_among m n given h = no_times n (list_at less.rests m) (less_whole.mirrored m n ∙ ap (times m) (was_unlinked eq less keys less_whole n given).2) h

  -- the ends of a link that was there are nodes that stay
  linked_before : (m n : ℕ) (j k : Item) → HasKey more m j → HasKey more n k → Contains (list_at less.rests m) n → AreOld m n j k
  linked_before m n j k has_m has_n h = (
    elim ((key_after m j).0 has_m) [ inl old ↦ old | inr given ↦ absurd (rests_of_given m n (given_number (numbers_given less keys) keys m j given) h) ],
    elim ((key_after n k).0 has_n) [ inl old ↦ old | inr given ↦ absurd (given_among m n (given_number (numbers_given less keys) keys n k given) h) ],
  )

  made_by : (m n : ℕ) → Contains links (m, n) → IsSuspectLink more new suspect m n
  unfolding more
  made_by m n h = (plan.made m n).0 h

  is_made : (m n : ℕ) → IsSuspectLink more new suspect m n → Contains links (m, n)
  unfolding more
  is_made m n is = (plan.made m n).1 is

  -- one end of a link that is made is new
  one_new : (m n : ℕ) → IsSuspectLink more new suspect m n → Contains (numbers_given less keys) m ⊎ Contains (numbers_given less keys) n
  one_new m n is =
      elim is.suspected [
        | inl of ↦ (elim ((key_after m is.from).0 is.from_is) [
          | inl old ↦ absurd (both_ways (suspect of.0) (clear_after m of.0 is.from old of.1) of.2)
          | inr given ↦ inl (given_number (numbers_given less keys) keys m is.from given)
        ])
        | inr of ↦ (elim ((key_after n is.to).0 is.to_is) [
          | inl old ↦ absurd (both_ways (suspect of.0) (clear_after n of.0 is.to old of.1) of.2)
          | inr given ↦ inr (given_number (numbers_given less keys) keys n is.to given)
        ])
      ]

  not_before : (m n : ℕ) → IsSuspectLink more new suspect m n → Contains (list_at less.rests m) n → ⊥
  not_before m n is h = elim (one_new m n is) [ inl given ↦ rests_of_given m n given h | inr given ↦ given_among m n given h ]

  ends_are_nodes : All (λ l. IsNode more l.0 × IsNode more l.1) links
  ends_are_nodes = All-from_contains (λ l. IsNode more l.0 × IsNode more l.1) links (λ l h. let is = made_by l.0 l.1 h in ((is.from, is.from_is), (is.to, is.to_is)))

  more_lists : HasLists more
  unfolding more
  more_lists = same_lists (removed_all g out) keys (left_lists g out (record { rests_len = whole.rests_len; dependents_len = whole.dependents_len }))

  after : Graph Item
  after = changed g out keys links

  rests_after : (m : ℕ) → list_at after.rests m ≡ list_at less.rests m ++ rests_of links m
  unfolding after more less
  rests_after m = more_rests more links more_lists ends_are_nodes m ∙ ap (λ (ns : List ℕ). ns ++ rests_of links m) (same_rests (removed_all g out) keys m)

  keys_stay : after.keys ≡ more.keys
  unfolding after more
  keys_stay = same_keys (inserted_all (removed_all g out) keys) links

  to_more : (n : ℕ) (k : Item) → HasKey after n k → HasKey more n k
  to_more n k has = subst (λ (ks : List (Option Item)). slice_get ks n ≡ Some (Some k)) keys_stay has

  from_more : (n : ℕ) (k : Item) → HasKey more n k → HasKey after n k
  from_more n k has = subst (λ (ks : List (Option Item)). slice_get ks n ≡ Some (Some k)) (sym keys_stay) has

  rests_less : (m : ℕ) → list_at less.rests m ≡ left_of out m (list_at g.rests m)
  unfolding less
  rests_less m = left_rests g out m

  -- ---- the board of the new catalogue

  links_after : (m n : ℕ) (j k : Item) → HasKey more m j → HasKey more n k → Contains (list_at after.rests m) n ↔ IsLink new j k
  links_after m n j k has_m has_n = (there, back)
    where
      was : HasKey less m j → HasKey less n k → Contains (list_at less.rests m) n → IsLink new j k
      was old_m old_n h = (old_links m n j k old_m old_n).0 ((board.links m n j k (stood m j old_m).0 (stood n k old_n).0).0 (left_was out m n (list_at g.rests m) (subst (λ (ns : List ℕ). Contains ns n) (rests_less m) h)))

      there : Contains (list_at after.rests m) n → IsLink new j k
      there h =
          elim (Contains-append_cases (list_at less.rests m) (rests_of links m) n (subst (λ (ns : List ℕ). Contains ns n) (rests_after m) h)) [
            | inl before ↦ let old = linked_before m n j k has_m has_n before in was old.0 old.1 before
            | inr made ↦
                let is = made_by m n (is_link links m n made) in
                let from : is.from ≡ j = one_key more m is.from j is.from_is has_m in
                let to : is.to ≡ k = one_key more n is.to k is.to_is has_n in
                subst (λ (i : Item). IsLink new i k) from (subst (IsLink new is.from) to is.link)
          ]

      back : IsLink new j k → Contains (list_at after.rests m) n
      back link =
          subst (λ (ns : List ℕ). Contains ns n) (sym (rests_after m))
          (elim (which_link m n j k has_m has_n link) [
            | inl suspected ↦ Contains-append_right (list_at less.rests m) (rests_of links m) n (in_rests links m n (is_made m n (record { from = j; to = k; from_is = has_m; to_is = has_n; link = link; suspected = suspected })))
            | inr old ↦
                let at = stood m j old.0 in
                let to = stood n k old.1 in
                let h = (board.links m n j k at.0 to.0).1 ((old_links m n j k old.0 old.1).1 link) in
                Contains-append_left (list_at less.rests m) (rests_of links m) n (subst (λ (ns : List ℕ). Contains ns n) (sym (rests_less m)) (left_stays out m n (list_at g.rests m) at.1 to.1 h))
          ])

  once_after : (m n : ℕ) → times n (list_at after.rests m) ≤ 1
  once_after m n =
      let sum = ap (times n) (rests_after m) ∙ times-append n (list_at less.rests m) (rests_of links m) in
      let few = rests_once links plan.made_once m n in
      let less_few = left_fewer out m n (list_at g.rests m) in
      let same = ap (times n) (rests_less m) in
      let was = board.once m n in
      elim (cases_lt 0 (times n (rests_of links m))) [
        | inl some ↦
            let none : times n (list_at less.rests m) ≡ 0 = never n (list_at less.rests m) (not_before m n (made_by m n (is_link links m n (some_link some)))) in
            omega arith
        | inr none ↦ omega arith
      ]
    where
      some_link : 0 < times n (rests_of links m) → Contains (rests_of links m) n
      some_link some = contained n (rests_of links m) some

  items_after : (x k : Item) → IsKeyOf new x k → (n : ℕ) × HasKey after n k
  items_after x k is =
      elim (cases_Bool (suspect x)) [
        | inl one ↦ let at = came k (plan.suspects_in k (x, is, one)) in (at.0, from_more at.0 k at.1)
        | inr clear ↦
            let at = clear_item x k (same_key new c suspect (alike_back c new suspect alike) x k clear is) clear in
            (at.0, from_more at.0 k (kept at.0 k at.1))
      ]

  helpers_after : (n : ℕ) (k : Item) → HasKey more n k → IsBoardKey new k
  helpers_after n k has = elim ((key_after n k).0 has) [ inl old ↦ key_of_old n k old | inr given ↦ key_of_new k (given_key (numbers_given less keys) keys n k given) ]

  topic_in : (t : Topic) → IsOnSuspect new suspect t → ((n : ℕ) × HasKey less n (topic_key t)) ⊎ Contains keys (topic_key t)
  unfolding less
  topic_in t on = plan.topics_in t on

  topics_after : (x k : Item) (t : Topic) → GoesBy new x k t → (n : ℕ) × HasKey after n (topic_key t)
  topics_after x k t goes =
      elim (cases_Bool (suspect x)) [
        | inl one ↦ (elim (topic_in t (x, k, goes, one)) [
          | inl old ↦ (old.0, from_more old.0 (topic_key t) (kept old.0 (topic_key t) old.1))
          | inr h ↦ let at = came (topic_key t) h in (at.0, from_more at.0 (topic_key t) at.1)
        ])
        | inr clear ↦
            let is_c = same_key new c suspect (alike_back c new suspect alike) x k clear goes.key in
            let by_c : DependsOn c x t ⊎ IsUnder t x = elim goes.by [ inl on ↦ inl ((alike.same_topics x clear (is_known c x k is_c) t).1 on) | inr under ↦ inr under ] in
            let at = topic_stays x k t is_c clear by_c goes.own in
            (at.0, from_more at.0 (topic_key t) (kept at.0 (topic_key t) at.1))
      ]

  pub new_board : IsFullBoard (changed g out keys links) new
  unfolding after
  new_board = record {
    board = record {
      items = items_after;
      helpers = λ n k has. helpers_after n k (to_more n k has);
      links = λ m n j k has_m has_n. links_after m n j k (to_more m j has_m) (to_more n k has_n);
      once = once_after;
    };
    topics = topics_after;
  }

  pub new_links : AreNewLinks g out keys links
  unfolding less more
  new_links = All-from_contains (λ l. (touches (numbers_given (removed_all g out) keys) l ≡ true) × IsNode (inserted_all (removed_all g out) keys) l.0 × IsNode (inserted_all (removed_all g out) keys) l.1) links (λ l h.
      let is = made_by l.0 l.1 h in
      (touched l (one_new l.0 l.1 is), (is.from, is.from_is), (is.to, is.to_is)))
    where
      touched : (l : ℕ × ℕ) → Contains (numbers_given less keys) l.0 ⊎ Contains (numbers_given less keys) l.1 → touches (numbers_given less keys) l ≡ true
      touched l (inl from) = rw (among l.0 (numbers_given less keys) from) refl
      touched l (inr to) = rw (among l.1 (numbers_given less keys) to) (or_true (list_any (nat_eq l.0) (numbers_given less keys)))
        where
          or_true : (b : Bool) → (b || true) ≡ true
          or_true true = refl
          or_true false = refl
