-- What it takes to look up what an item asks for.
use Rattle.std.proofs.Common.{◌≡◌, ◌⊎◌, inl, inr, ℕ, ◌+◌, ◌≤◌, true, List, [], ◌∷◌, length, get_or, slice_get, Option, Some, None, refl, sym, ap, subst, arith, true≢false}
use Rattle.std.specs.Prelude.{◌≢◌, ◌*◌}
use Rattle.std.specs.List.{AllPairs, Contains, sum_by}
use Rattle.std.proofs.lemmas.List.Quantifiers.{position-Some}
use Rattle.std.proofs.lemmas.List.Sums.{sum_by-cons}
use Rattle.std.proofs.lemmas.Option.{slice_get-get_or}
use Rattle.finite_chains.specs.Chains.{IsWithin}
use Rattle.finite_chains.proofs.Members.{Contains-nil, Contains-head, Contains-tail}
use Rattle.item_index.specs.Graphs.{Graph, HasKey, IsWhole, holds, node_of}
use Rattle.item_index.specs.Shelves.{list_at}
use Rattle.cat_items.specs.contracts.item.ItemPartialEq.TheImpl as same
use Rattle.cat_items.specs.declared.need.Auth.{Auth}
use Rattle.cat_items.specs.declared.need.Auth.TheVariants.{System}
use Rattle.cat_items.specs.declared.need.Need.{Need}
use Rattle.cat_items.specs.declared.item.Right.{Right}
use Rattle.cat_items.specs.declared.item.Item.{Item}
use Rattle.cat_items.specs.declared.item.Item.TheVariants as item
use Rattle.cat_items.specs.Bound.{HasRelevant}
use Rattle.cat_items.specs.Survivors.{IsSystemRight}
use Rattle.cascade_laws.specs.Asks.{Asks}
use Rattle.cascade_laws.specs.Topics.{IsUnder, Topic}
use Rattle.cascade_laws.specs.Topics as on
use Rattle.edit_rules.proofs.ItemKeys.{only_granted}
use Rattle.board_graph.specs.BoardKeys.{IsKeyOf, of_item, of_possible, topic_key}
use Rattle.board_graph.specs.Boards.{IsLink, IsOwnTopic, adds, depends, stands}
use Rattle.board_graph.proofs.Keys.{one_topic, topic_is_helper}
use Rattle.board_steps.specs.Plans.{HasNoHelper, IsFullBoard}
use Rattle.board_steps.proofs.Apart.{no_topic}
use Rattle.asked_parts.specs.Under.{look_ups, node_cost}
use Rattle.edit_suspects.proofs.GhostKeys.{helper_is_granted}
use Rattle.look_up_bound.proofs.Counting.{IsOnce, no_longer}
use Rattle.look_up_bound.proofs.Totals.{items_few}
use Rattle.cascade_bound.proofs.Groups.{chosen, split}
use Rattle.cascade_bound.proofs.Items.{once_pairs, rests_are_nodes}
use Rattle.cascade_bound.proofs.Links.{single_once}
use Rattle.cascade_bound.proofs.Nodes.{one_key, one_place, same_itself}

-- ---- rights under a topic that the system could grant

abbrev possible_under : Need → Auth → List Item
possible_under need g = item.Held (record { need = need; grantor = System; grantee = g }) ∷ item.Grantable (record { need = need; grantor = System; grantee = g }) ∷ []

abbrev possible_of : Topic → List Item
possible_of (on.supply need g) = possible_under need g
possible_of t = []

at_most_two : (t : Topic) → length (possible_of t) ≤ 2
at_most_two (on.supply need g) = omega arith
at_most_two t = omega arith

same_right : (r : Right) (need : Need) (g : Auth) → r.grantor ≡ System → r.need ≡ need → r.grantee ≡ g → record { need = need; grantor = System; grantee = g } ≡ r
same_right r need g a b c = λ i. record { need = sym b i; grantor = sym a i; grantee = sym c i }

is_possible_under : (c : List Item) (t : Topic) (y : Item) → IsOwnTopic t → IsSystemRight c y → IsUnder t y → Contains (possible_of t) y
is_possible_under c (on.supply need g) (item.Held r) own is under =
    let list = possible_under need g in
    subst (Contains list) (ap item.Held (same_right r need g is.0 under.0 under.1)) (Contains-head (item.Held (record { need = need; grantor = System; grantee = g })) (item.Grantable (record { need = need; grantor = System; grantee = g }) ∷ []))
is_possible_under c (on.supply need g) (item.Grantable r) own is under =
    let first = item.Held (record { need = need; grantor = System; grantee = g }) in
    let second = item.Grantable (record { need = need; grantor = System; grantee = g }) in
    subst (Contains (first ∷ second ∷ [])) (ap item.Grantable (same_right r need g is.0 under.0 under.1)) (Contains-tail first (second ∷ []) second (Contains-head second []))
is_possible_under c (on.supply need g) _ own is under = absurd is
is_possible_under c (on.held s) y own is under = absurd own
is_possible_under c (on.role_auth s) y own is under = absurd own
is_possible_under c t (item.Held r) own is under = absurd under
is_possible_under c t (item.Grantable r) own is under = absurd under
is_possible_under c t _ own is under = absurd is

module _ (g : Graph Item) (c : List Item) (no_c : HasNoHelper c) (whole : IsWhole same.ghosts.eq g) (full : IsFullBoard g c) where
  -- the number is of what stands under the topic
  abbrev IsUnderAt : Topic → ℕ → Item → Type 0
  IsUnderAt t n y = (k : Item) × HasKey g n k × IsKeyOf c y k × IsUnder t y

  pub rest_under : (m n : ℕ) (t : Topic) → IsOwnTopic t → HasKey g m (topic_key t) → Contains (list_at g.rests m) n → (y : Item) × IsUnderAt t n y
  rest_under m n t own at rest =
      let node = rests_are_nodes g m n whole rest in
      by node.0 node.1 ((full.board.links m n (topic_key t) node.0 at node.1).0 rest)
    where
      by : (k : Item) → HasKey g n k → IsLink c (topic_key t) k → (y : Item) × IsUnderAt t n y
      by k has (depends x s key on_it own_s e) = absurd (no_topic c no_c x (topic_key t) t key own refl)
      by k has (stands y s key under own_s e) = (y, (k, has, key, subst (λ r. IsUnder r y) (one_topic s t own_s own (sym e)) under))
      by k has (adds x y s from to option under) = absurd (no_topic c no_c x (topic_key t) t from own refl)

  under_once : (t : Topic) (m n : ℕ) (y : Item) → IsUnderAt t m y → IsUnderAt t n y → m ≡ n
  under_once t m n y (j, at, key, u) (k, at2, key2, u2) = whole.distinct m n j k at at2 (subst (λ i. same.ghosts.eq j i ≡ true) (one_key c y j k key key2) (same_itself j))

  -- what stands under the topic of a number
  record HasUnder (m : ℕ) (t : Topic) (ys : List Item) : Type 0 where
    once : IsOnce ys
    each : (y : Item) → Contains ys y → Contains c y × IsUnder t y
    few : length (list_at g.rests m) ≤ length ys + 2

  all_under : (m : ℕ) (t : Topic) → IsOwnTopic t → HasKey g m (topic_key t) → (ys : List Item) × HasUnder m t ys
  all_under m t own at =
      let rests = list_at g.rests m in
      let all = chosen (IsUnderAt t) (under_once t) rests (single_once rests (full.board.once m)) (λ n h. rest_under m n t own at h) in
      let which : (y : Item) → Contains all.0 y → Contains c y ⊎ IsSystemRight c y = λ y h. known (all.1.of y h).2.2 in
      let parts = split (Contains c) (IsSystemRight c) all.0 which in
      let both = parts.2.once all.1.once in
      let short : length parts.1 ≤ length (possible_of t) = no_longer parts.1 (possible_of t) both.1 (λ y h. let p = parts.2.right y h in is_possible_under c t y own p.1 (all.1.of y p.0).2.3) in
      (parts.0, record { once = both.0; each = λ y h. let p = parts.2.left y h in (p.1, (all.1.of y p.0).2.3); few = omega (arith, all.1.size, parts.2.sums (λ y. 1), ones all.0, ones parts.0, ones parts.1, short, at_most_two t) })
    where
      known : {y k : Item} → IsKeyOf c y k → Contains c y ⊎ IsSystemRight c y
      known (of_item h e) = inl h
      known (of_possible h none e) = inr h

      ones : (ys : List Item) → sum_by (λ y. 1) ys ≡ length ys
      ones [] = refl
      ones (y ∷ ys) = omega (arith, ones ys, sum_by-cons (λ y. 1) y ys)

  -- the number of a topic
  topic_at : (t : Topic) → IsOwnTopic t → (m : ℕ) → node_of same.ghosts.eq g (topic_key t) ≡ Some m → HasKey g m (topic_key t)
  topic_at t own m e =
      let found = position-Some (holds same.ghosts.eq (topic_key t)) g.keys m None e in
      by (get_or g.keys m None) (slice_get-get_or g.keys m None found.0) found.1
    where
      by : (o : Option Item) → slice_get g.keys m ≡ Some o → holds same.ghosts.eq (topic_key t) o ≡ true → HasKey g m (topic_key t)
      by None at is = absurd (true≢false (sym is))
      by (Some j) at is = subst (HasKey g m) (sym (only_granted (topic_key t) j (helper_is_granted (topic_key t) (topic_is_helper t own)) (one_place (topic_key t) j is))) at

  -- what stands under a topic, and what it costs
  record HasCost (t : Topic) (ys : List Item) : Type 0 where
    once : IsOnce ys
    each : (y : Item) → Contains ys y → Contains c y × IsUnder t y
    few : look_ups g (topic_key t) ≤ 6 + 2 * length ys

  cost_at : (t : Topic) → IsOwnTopic t → (o : Option ℕ) → node_of same.ghosts.eq g (topic_key t) ≡ o → (ys : List Item) × HasCost t ys
  cost_at t own None e = ([], record { once = tt; each = λ y h. absurd (Contains-nil y h); few = omega (arith, ap (node_cost g) e) })
  cost_at t own (Some m) e =
      let all = all_under m t own (topic_at t own m e) in
      (all.0, record { once = all.1.once; each = all.1.each; few = omega (arith, ap (node_cost g) e, all.1.few) })

  cost_of : (t : Topic) → IsOwnTopic t → (ys : List Item) × HasCost t ys
  cost_of t own = cost_at t own (node_of same.ghosts.eq g (topic_key t)) refl

  own_or_not : (t : Topic) → IsOwnTopic t ⊎ (¬ (IsOwnTopic t))
  own_or_not (on.held r) = inr (λ none. none)
  own_or_not (on.role_auth r) = inr (λ none. none)
  own_or_not t = inl tt

  under_by : (t : Topic) → IsOwnTopic t ⊎ (¬ (IsOwnTopic t)) → List Item
  under_by t (inl own) = (cost_of t own).0
  under_by t (inr other) = []

  under_of : Topic → List Item
  under_of t = under_by t (own_or_not t)

  cost_by : (t : Topic) → IsOwnTopic t → (which : IsOwnTopic t ⊎ (¬ (IsOwnTopic t))) → HasCost t (under_by t which)
  unfolding under_by
  cost_by t own (inl is) = (cost_of t is).1
  cost_by t own (inr other) = absurd (other own)

  cost_under : (t : Topic) → IsOwnTopic t → HasCost t (under_of t)
  unfolding under_of
  cost_under t own = cost_by t own (own_or_not t)

  all_costs : (topics : List Topic) → ((t : Topic) → Contains topics t → IsOwnTopic t) → sum_by (λ t. look_ups g (topic_key t)) topics ≤ 6 * length topics + 2 * sum_by (λ t. length (under_of t)) topics
  all_costs [] own = omega arith
  all_costs (t ∷ topics) own =
      let first = cost_under t (own t (Contains-head t topics)) in
      omega (arith, all_costs topics (λ s h. own s (Contains-tail t topics s h)), first.few, sum_by-cons (λ s. look_ups g (topic_key s)) t topics, sum_by-cons (λ s. length (under_of s)) t topics)

  -- what it takes to look up what an item asks for
  pub asked_few : (u part : List Item) (x : Item) (n : ℕ) (topics : List Topic) → IsWithin c u → IsWithin part u → HasRelevant u x n → AllPairs (λ s t. s ≢ t) topics → ((t : Topic) → Contains topics t → Asks part x t × IsOwnTopic t)
      → sum_by (λ t. look_ups g (topic_key t)) topics ≤ 6 * length topics + 4 * n
  asked_few u part x n topics within part_within relevant differ asks =
      let own : (t : Topic) → Contains topics t → IsOwnTopic t = λ t h. (asks t h).1 in
      let items = items_few u part x n topics under_of part_within relevant differ (λ t h. once_pairs (under_of t) (cost_under t (own t h)).once)
      (λ t y ht hy. let is = (cost_under t (own t ht)).each y hy in ((asks t ht).0, within y is.0, is.1)) in
      omega (arith, all_costs topics own, items)
