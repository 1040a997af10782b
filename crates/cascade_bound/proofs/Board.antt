-- What an edit touches on a board, and what that costs.
use Rattle.std.proofs.Common.{◌≡◌, ◌⊎◌, inl, inr, ℕ, ◌+◌, ◌<◌, ◌≤◌, ◌&&◌, Bool, true, false, not, List, [], ◌∷◌, length, refl, sym, ◌∙◌, ap, subst, arith}
use Rattle.std.specs.Prelude.{◌*◌, cond}
use Rattle.std.specs.List.{Contains, filter, flat_map, list_all, sum_by}
use Rattle.std.specs.Option.{option_to_list}
use Rattle.std.proofs.lemmas.Bool.{both_ways, eqb-true}
use Rattle.std.proofs.lemmas.Map.Views.{Contains-from_any}
use Rattle.std.proofs.lemmas.Bool.Decides.{not_from_Decides}
use Rattle.std.proofs.lemmas.List.Sums.{count_by-le-length, length-filter, sum_by-cons}
use Rattle.finite_chains.specs.Chains.{IsWithin}
use Rattle.finite_chains.proofs.Members.{Contains-cases, Contains-head, Contains-nil, Contains-tail, filter_passes_one}
use Rattle.item_index.specs.Graphs.{Graph, HasKey, IsNode, node_of}
use Rattle.item_index.specs.Shelves.{list_at}
use Rattle.link_marks.specs.Reached.{IsReached, first, further, look_ups}
use Rattle.link_marks.proofs.Reaching.{dependents_are_nodes}
use Rattle.cat_items.specs.contracts.item.ItemPartialEq.TheImpl as same
use Rattle.cat_items.specs.declared.edit.Edit.{Edit}
use Rattle.cat_items.specs.declared.item.Item.{Item}
use Rattle.edit_rules.proofs.ItemKeys.{one_granted}
use Rattle.board_graph.specs.BoardKeys.{IsHelper, topic_key}
use Rattle.board_graph.proofs.Keys.{one_topic, topic_is_helper}
use Rattle.board_steps.specs.Plans.{IsSpent}
use Rattle.board_plans.specs.Leaving.{AreOutgoing}
use Rattle.board_plans.specs.Leaving as leaving
use Rattle.board_plans.specs.Spent.{has_no_other, is_among, links_cost}
use Rattle.board_changes.specs.Leaving.{look_ups_with}
use Rattle.graph_steps.proofs.Numbers.{contained, some_times}
use Rattle.edit_suspects.specs.Seeds.{IsAddedKey, IsSeedKey, of_added, of_changed, of_ghost, of_item, of_target, of_topic}
use Rattle.edit_suspects.specs.Helpers.{is_helper}
use Rattle.edit_suspects.proofs.GhostKeys.{ghost_no_topic, helper_is, helper_is_granted}
use Rattle.plain_needs.proofs.FlatMembers.{Contains-flat_map}
use Rattle.look_up_bound.proofs.Counting.{IsOnce, length-at_most, no_longer, no_more, once}
use Rattle.look_up_bound.proofs.Parts.{at_most_two, home_topics, under_home}
use Rattle.cascade_bound.specs.Marked.{AreTouchedOn, GoOut, IsKnownAt, IsTopicAt}
use Rattle.cascade_bound.proofs.Groups.{IsSplit, split}
use Rattle.cascade_bound.proofs.Links.{AreSorted, dependents_of_topics, links_few, marks_few, rests_of_topics, single_once, some_rests, ticks_few, topics_few}
use Rattle.cascade_bound.proofs.TopicKeys.{item_is_none, topic_is}
use Rattle.cascade_bound.proofs.Nodes.{known_or_topic, node_is, not_both, one_at, one_or_none, one_place, same_itself, tops, tops_two, under_topic}

once_filter : {X : Type 0} (p : X → Bool) (xs : List X) → IsOnce xs → IsOnce (filter p xs)
once_filter p [] o = tt
once_filter p (x ∷ xs) o = by (once_filter p xs o.1) (p x)
  where
    by : IsOnce (filter p xs) → (t : Bool) → IsOnce (cond t (x ∷ filter p xs) (filter p xs))
    by rest true = ((λ h. o.0 (filter_passes_one p xs x h).0), rest)
    by rest false = rest

module _ (g : Graph Item) (c : List Item) (edit : Edit) (marks own : List ℕ) (on : AreTouchedOn g c edit marks own) where
  abbrev eq : Item → Item → Bool
  eq = same.ghosts.eq

  pub nodes : (n : ℕ) → Contains marks n → IsNode g n
  nodes n h = node n ((on.touched.reached.exactly n).0 h)
    where
      node : (n : ℕ) → IsReached g.dependents on.touched.from n → IsNode g n
      node n (first there) = let of = ((on.touched.seeds n).0 there).2 in (of.0, of.1)
      node n (further {m} r there) = dependents_are_nodes eq g m n on.whole there

  topic_or_known : (n : ℕ) → Contains marks n → IsKnownAt g c n ⊎ IsTopicAt g n
  topic_or_known n h = known_or_topic eq g c on.no_helper on.whole same_itself on.full n (nodes n h)

  abbrev parts : (known topics : List ℕ) × IsSplit (IsKnownAt g c) (IsTopicAt g) marks known topics
  parts = split (IsKnownAt g c) (IsTopicAt g) marks topic_or_known

  abbrev topics : List ℕ
  topics = parts.1

  -- the numbers of the topics under which an added item stands
  abbrev homes : Item → List ℕ
  homes x = flat_map (λ t. option_to_list (node_of eq g (topic_key t))) (home_topics x)

  abbrev begun : List ℕ
  begun = flat_map homes edit.added

  homes_two : (x : Item) → length (homes x) ≤ 2
  homes_two x = omega (arith, length-at_most (λ t. option_to_list (node_of eq g (topic_key t))) 1 (home_topics x) (λ t. one_or_none eq g c on.no_helper on.whole same_itself on.full (node_of eq g (topic_key t))), at_most_two x)

  begun_few : length begun ≤ 2 * length edit.added
  begun_few = omega (arith, length-at_most homes 2 edit.added homes_two)

  -- a topic with which the edit begins is one under which an added item stands
  begins : (n : ℕ) → IsTopicAt g n → Contains on.touched.from n → Contains begun n
  begins n (s, own_s, at) h =
      let seed = (on.touched.seeds n).0 h in
      let k = seed.0 in
      let same_as : seed.2.0 ≡ topic_key s = one_at g n seed.2.0 (topic_key s) seed.2.1 at in
      let is : k ≡ topic_key s = one_granted k (topic_key s) (helper_is_granted (topic_key s) (topic_is_helper s own_s)) (one_place k (topic_key s) (subst (λ j. eq k j ≡ true) same_as seed.2.2)) in
      by k is seed.1
    where
      old : (k : Item) → k ≡ topic_key s → Contains c k → Contains begun n
      old k is there = absurd (on.no_helper k there (subst IsHelper (sym is) (topic_is_helper s own_s)))

      added : (x k : Item) → k ≡ topic_key s → Contains edit.added x → IsAddedKey x k → Contains begun n
      added x k is there (of_item plain e) = absurd (not_from_Decides (is_helper x) (helper_is x) plain (subst IsHelper (sym is ∙ e) (topic_is_helper s own_s)))
      added x k is there (of_ghost may e) = absurd (ghost_no_topic x s may own_s (sym e ∙ is))
      added x k is there (of_topic t home e) =
          let same_topic : t ≡ s = one_topic t s home.1 own_s (sym e ∙ is) in
          let number : Contains (option_to_list (node_of eq g (topic_key t))) n =
          subst (λ o. Contains (option_to_list o) n) (sym (node_is eq g c on.no_helper on.whole same_itself on.full n (topic_key t) (subst (λ r. HasKey g n (topic_key r)) (sym same_topic) at))) (Contains-head n []) in
          Contains-flat_map homes edit.added x n there (Contains-flat_map (λ r. option_to_list (node_of eq g (topic_key r))) (home_topics x) t n (under_home t x home.0) number)

      by : (k : Item) → k ≡ topic_key s → IsSeedKey edit k → Contains begun n
      by k is (of_target there) = old k is (on.target k there)
      by k is (of_changed there) = old k is (on.changed k there)
      by k is (of_added (x, there, key)) = added x k is there key

  sorts : AreSorted g on.touched.from marks own topics begun (tops eq g c on.no_helper on.whole same_itself on.full)
  sorts = record {
    single = λ m n. on.full.board.once m n;
    sorted = λ n h. elim (parts.2.within n h) [ inl k ↦ inl ((on.known.exactly n).1 (parts.2.left n k)) | inr t ↦ inr t ];
    marked = λ n t. (parts.2.right n t).0;
    apart = λ n o t. not_both eq g c on.no_helper on.whole same_itself on.full n ((on.known.exactly n).0 o).1 (parts.2.right n t).1;
    topics_once = (parts.2.once (once marks on.touched.reached.once)).1;
    begins = λ n t. begins n (parts.2.right n t).1;
    under = λ m n t rest h. let under = under_topic eq g c on.no_helper on.whole same_itself on.full m n (parts.2.right m t).1 (nodes n h) rest in ((on.known.exactly n).1 (h, under.0), under.1);
    two = tops_two eq g c on.no_helper on.whole same_itself on.full;
  }

  abbrev links : ℕ
  links = sum_by (λ n. length (list_at g.rests n)) own

  pub ticks : sum_by (look_ups g.dependents) marks ≤ 2 * length edit.added + links + 5 * length own
  ticks = omega (arith, ticks_few eq g on.whole on.touched.from marks own topics begun (tops eq g c on.no_helper on.whole same_itself on.full) on.touched.reached sorts, begun_few)

  pub few : length marks ≤ 2 * length edit.added + 3 * length own
  few =
      let tops_of = tops eq g c on.no_helper on.whole same_itself on.full in
      omega (arith, marks_few eq g on.whole on.touched.from marks own topics begun tops_of on.touched.reached sorts, topics_few eq g on.whole on.touched.from marks own topics begun tops_of on.touched.reached sorts, begun_few)

  -- ---- what goes out

  each_both : (xs : List ℕ) → sum_by (λ n. 1 + look_ups_with g n) xs ≡ 3 * length xs + (sum_by (λ n. length (list_at g.rests n)) xs + sum_by (λ n. length (list_at g.dependents n)) xs)
  each_both [] = refl
  each_both (x ∷ xs) = omega (arith, each_both xs, sum_by-cons (λ n. 1 + look_ups_with g n) x xs, sum_by-cons (λ n. length (list_at g.rests n)) x xs, sum_by-cons (λ n. length (list_at g.dependents n)) x xs)

  pub goes : (out : List ℕ) → GoOut g c marks out → sum_by (λ n. 1 + look_ups_with g n) out ≤ 6 * length edit.added + 2 * links + 13 * length own
  goes out go =
      let tops_of = tops eq g c on.no_helper on.whole same_itself on.full in
      let apart = split (IsKnownAt g c) (λ n. (k : Item) × HasKey g n k × IsSpent g out n k) out go.only in
      let is = apart.2 in
      let out_once = once out go.once in
      let both = is.once out_once in
      let known_in : IsWithin apart.0 own = λ n h. let p = is.left n h in (on.known.exactly n).1 (go.marked n p.0, p.1) in
      let spent_in : IsWithin apart.1 topics = λ n h. let p = is.right n h in elim (parts.2.within n (go.marked n p.0)) [
        | inr t ↦ t
        | inl k ↦ absurd (not_both eq g c on.no_helper on.whole same_itself on.full n (parts.2.left n k).1 (p.1.2.0, p.1.2.1, subst (HasKey g n) p.1.2.2 p.1.1))
      ] in
      let all : (m n : ℕ) → Contains apart.1 m → Contains (list_at g.rests m) n → Contains marks n = λ m n h rest. let p = is.right m h in go.marked n (p.1.2.3 n (inl rest)) in
      omega (
        arith,
        each_both out,
        is.sums (λ n. length (list_at g.rests n)),
        no_more (λ n. length (list_at g.rests n)) apart.0 own both.0 known_in,
        rests_of_topics eq g on.whole on.touched.from marks own topics begun tops_of on.touched.reached sorts apart.1 both.1 spent_in all,
        no_more (λ n. length (list_at g.dependents n)) out marks out_once go.marked,
        links_few eq g on.whole on.touched.from marks own topics begun tops_of on.touched.reached sorts,
        no_longer out marks out_once go.marked,
        few,
      )

  -- ---- what a plan costs

  first_of : (a d : Bool) → a && d ≡ true → a ≡ true
  first_of true d e = refl
  first_of false d e = e

  second_of : (a d : Bool) → a && d ≡ true → d ≡ true
  second_of true d e = e
  second_of false d e = cc

  passes : (p : ℕ → Bool) (xs : List ℕ) → list_all p xs ≡ true → (x : ℕ) → Contains xs x → p x ≡ true
  passes p [] all x h = absurd (Contains-nil x h)
  passes p (y ∷ xs) all x h = elim (Contains-cases y xs x h) [
    | inl e ↦ subst (λ (z : ℕ). p z ≡ true) e (first_of (p y) (list_all p xs) all)
    | inr later ↦ passes p xs (second_of (p y) (list_all p xs) all) x later
  ]

  among : (n : ℕ) → is_among marks n ≡ true → Contains marks n
  among n told = Contains-from_any (λ x y e. eqb-true x y e) n marks told

  goes_marked : (n : ℕ) → leaving.goes g marks n ≡ true → Contains marks n
  goes_marked n is = among n (first_of (is_among marks n) (leaving.is_item_at g n) is)

  topic_told : (n : ℕ) → IsTopicAt g n → leaving.is_topic_at g n ≡ true
  topic_told n (t, own_t, at) = ap leaving.has_topic at ∙ topic_is t own_t

  topic_no_item : (n : ℕ) → IsTopicAt g n → leaving.is_item_at g n ≡ false
  topic_no_item n (t, own_t, at) = ap leaving.has_item at ∙ ap not (topic_is t own_t)

  known_told : (n : ℕ) → IsKnownAt g c n → leaving.is_topic_at g n ≡ false
  known_told n known = ap leaving.has_topic known.2 ∙ item_is_none c on.no_helper known.0 known.1 known.3

  pub go_out : (out : List ℕ) → AreOutgoing g marks out → GoOut g c marks out
  go_out out outgoing = record { once = outgoing.once; marked = marked; only = only }
    where
      goes_out : (n : ℕ) → leaving.goes g marks n ≡ true → Contains out n
      goes_out n is = (outgoing.exactly n).1 (inl is)

      spent_marked : (n : ℕ) → leaving.is_spent g marks n ≡ true → is_among marks n && leaving.is_topic_at g n ≡ true
      spent_marked n is = first_of (is_among marks n && leaving.is_topic_at g n) (has_no_other (leaving.goes g marks) g n) is

      marked : IsWithin out marks
      marked n h = elim ((outgoing.exactly n).0 h) [ inl is ↦ goes_marked n is | inr spent ↦ among n (first_of (is_among marks n) (leaving.is_topic_at g n) (spent_marked n spent)) ]

      linked : (n : ℕ) → leaving.is_spent g marks n ≡ true → (m : ℕ) → Contains (list_at g.rests n) m ⊎ Contains (list_at g.rests m) n → Contains out m
      linked n spent m link =
          let alone = second_of (is_among marks n && leaving.is_topic_at g n) (has_no_other (leaving.goes g marks) g n) spent in
          let rests = list_all (leaving.goes g marks) (list_at g.rests n) in
          let dependents = list_all (leaving.goes g marks) (list_at g.dependents n) in
          elim link [
            | inl to ↦ goes_out m (passes (leaving.goes g marks) (list_at g.rests n) (first_of rests dependents alone) m to)
            | inr from ↦ goes_out m (passes (leaving.goes g marks) (list_at g.dependents n) (second_of rests dependents alone) m (contained m (list_at g.dependents n) (subst (λ often. 0 < often) (on.whole.mirrored m n) (some_times n (list_at g.rests m) from))))
          ]

      only : (n : ℕ) → Contains out n → IsKnownAt g c n ⊎ ((k : Item) × HasKey g n k × IsSpent g out n k)
      only n h = elim ((outgoing.exactly n).0 h) [
        | inl is ↦ (elim (topic_or_known n (marked n h)) [
          | inl known ↦ inl known
          | inr topic ↦ absurd (both_ways (leaving.is_item_at g n) (topic_no_item n topic) (second_of (is_among marks n) (leaving.is_item_at g n) is))
        ])
        | inr spent ↦ (elim (topic_or_known n (marked n h)) [
          | inl known ↦ absurd (both_ways (leaving.is_topic_at g n) (known_told n known) (second_of (is_among marks n) (leaving.is_topic_at g n) (spent_marked n spent)))
          | inr topic ↦ inr (topic_key topic.0, topic.2, (topic.0, topic.1, refl, linked n spent))
        ])
      ]

  -- the topics are read with those of their links that go
  item_costs : (ns : List ℕ) → ((n : ℕ) → Contains ns n → IsKnownAt g c n) → sum_by (leaving.look_ups g marks) ns ≤ length ns
  item_costs [] each = omega arith
  item_costs (n ∷ ns) each =
      omega (arith, item_costs ns (λ m h. each m (Contains-tail n ns m h)), sum_by-cons (leaving.look_ups g marks) n ns, ap (λ t. 1 + cond t (links_cost (leaving.goes g marks) g n) 0) (known_told n (each n (Contains-head n ns))))

  abbrev going : ℕ → List ℕ
  going n = filter (leaving.goes g marks) (list_at g.rests n)

  topic_costs : (ns : List ℕ) → sum_by (leaving.look_ups g marks) ns ≤ 3 * length ns + sum_by (λ n. length (going n)) ns + sum_by (λ n. length (list_at g.dependents n)) ns
  topic_costs [] = omega arith
  topic_costs (n ∷ ns) =
      omega (
        arith,
        topic_costs ns,
        sum_by-cons (leaving.look_ups g marks) n ns,
        sum_by-cons (λ m. length (going m)) n ns,
        sum_by-cons (λ m. length (list_at g.dependents m)) n ns,
        cost_at_most (leaving.is_topic_at g n) (links_cost (leaving.goes g marks) g n),
        length-filter (leaving.goes g marks) (list_at g.rests n),
        count_by-le-length (leaving.goes g marks) (list_at g.dependents n),
      )
    where
      cost_at_most : (t : Bool) (k : ℕ) → cond t k 0 ≤ k
      cost_at_most true k = omega arith
      cost_at_most false k = omega arith

  pub plan_few : sum_by (leaving.look_ups g marks) marks ≤ 6 * length edit.added + links + 9 * length own
  plan_few =
      let tops_of = tops eq g c on.no_helper on.whole same_itself on.full in
      let both = parts.2.once (once marks on.touched.reached.once) in
      let rests = some_rests eq g on.whole on.touched.from marks own topics begun tops_of on.touched.reached sorts going topics both.1 (λ n h. h) (λ m. once_filter (leaving.goes g marks) (list_at g.rests m) (single_once (list_at g.rests m) (on.full.board.once m)))
      (λ m n h rest. let p = filter_passes_one (leaving.goes g marks) (list_at g.rests m) n rest in (p.0, goes_marked n p.1)) in
      omega (
        arith,
        parts.2.sums (leaving.look_ups g marks),
        item_costs parts.0 (λ n h. (parts.2.left n h).1),
        topic_costs topics,
        rests,
        dependents_of_topics eq g on.whole on.touched.from marks own topics begun tops_of on.touched.reached sorts,
        no_longer parts.0 own both.0 (λ n h. (on.known.exactly n).1 (parts.2.left n h)),
        topics_few eq g on.whole on.touched.from marks own topics begun tops_of on.touched.reached sorts,
        begun_few,
      )
