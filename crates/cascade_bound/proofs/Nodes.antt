-- Of the numbers of a board those of items and of rights that the system could grant, and those of topics.
use Rattle.std.proofs.Common.{◌≡◌, ◌⊎◌, inl, inr, ℕ, ◌≤◌, Bool, true, List, [], ◌∷◌, length, get_or, Option, Some, None, slice_get, refl, sym, ◌∙◌, ap, subst, arith, true≢false}
use Rattle.std.specs.List.{Contains, flat_map}
use Rattle.std.specs.Cmp.{Equal-is}
use Rattle.std.specs.Option.{option_to_list}
use Rattle.std.specs.Ordering.{ordering_reverse}
use Rattle.std.specs.declared.cmp.Ordering.{Ordering}
use Rattle.std.specs.declared.cmp.Ordering.TheVariants.{Less, Equal, Greater}
use Rattle.std.proofs.lemmas.List.Quantifiers.{position-Some}
use Rattle.std.proofs.lemmas.Option.{slice_get-get_or}
use Rattle.finite_chains.proofs.Members.{Contains-head}
use Rattle.item_index.specs.Graphs.{Graph, HasKey, IsNode, IsWhole, holds, node_of}
use Rattle.item_index.specs.Shelves.{list_at}
use Rattle.item_index.proofs.NodeLemmas.{absent_from}
use Rattle.cat_items.specs.declared.need.Auth.TheVariants.{System}
use Rattle.cat_items.specs.declared.item.Item.{Item}
use Rattle.cat_items.specs.declared.item.Item.TheVariants as item
use Rattle.cat_items.specs.declared.item.Right.{Right}
use Rattle.cat_items.specs.declared.item.RoleGrant.{RoleGrant}
use Rattle.cat_items.specs.Order.{item_cmp}
use Rattle.cat_items.proofs.OrderLemmas.{item_cmp-total, same_order}
use Rattle.cat_items.specs.contracts.item.ItemPartialEq.TheImpl as same
use Rattle.cat_items.specs.contracts.item.ItemOrd.TheImpl as ord
use Rattle.cat_items.specs.contracts.item.ItemOrd.TheImpl.Laws as laws
use Rattle.cat_items.specs.Survivors.{IsSystemRight}
use Rattle.cascade_laws.specs.Topics.{DependsOn, IsOptionTopic, IsUnder, Topic, by_option}
use Rattle.cascade_laws.specs.Topics as on
use Rattle.board_graph.specs.BoardKeys.{IsKeyOf, ghost_key, of_item, of_possible, topic_key}
use Rattle.board_graph.specs.Boards.{IsLink, IsOwnTopic, adds, depends, stands}
use Rattle.board_steps.specs.Plans.{HasNoHelper, IsFullBoard}
use Rattle.board_steps.proofs.Apart.{no_topic, one_item}
use Rattle.plain_needs.proofs.FlatMembers.{Contains-flat_map}
use Rattle.look_up_bound.proofs.Counting.{IsOnce, at_head, at_second, length-at_most}
use Rattle.look_up_bound.proofs.Parts.{at_most_two, home_topics, under_home}
use Rattle.cascade_bound.specs.Marked.{IsKnownAt, IsTopicAt}
use Rattle.cascade_bound.proofs.Groups.{chosen}
use Rattle.cascade_bound.proofs.Links.{single_once}

-- ---- keys

some_is : {X : Type 0} (o : Option (Option X)) (x y : X) → o ≡ Some (Some x) → o ≡ Some (Some y) → x ≡ y
some_is o x y a b = cc

pub one_at : (g : Graph Item) (n : ℕ) (j k : Item) → HasKey g n j → HasKey g n k → j ≡ k
one_at g n j k a b = some_is (slice_get g.keys n) j k a b

pub one_place : (j k : Item) → same.ghosts.eq j k ≡ true → item_cmp j k ≡ Equal
one_place j k e = sym (same_order j k) ∙ (Equal-is (ord.ghosts.cmp j k)).0 (sym (laws.matches_eq-law j k) ∙ e)

neither : (o : Ordering) → o ≡ ordering_reverse o → o ≡ Equal
neither Less e = absurd (let odd : Less ≡ Greater = e in cc)
neither Equal e = refl
neither Greater e = absurd (let odd : Greater ≡ Less = e in cc)

pub same_itself : (k : Item) → same.ghosts.eq k k ≡ true
same_itself k = laws.matches_eq-law k k ∙ (Equal-is (ord.ghosts.cmp k k)).1 (same_order k k ∙ neither (item_cmp k k) (item_cmp-total.antisymm k k))

-- the topics under which an item stands, by its key or its ghost's
abbrev pub key_topics : Item → List Topic
key_topics (item.Held r) = on.supply r.need r.grantee ∷ on.supply r.need r.grantor ∷ []
key_topics (item.Grantable r) = on.supply r.need r.grantee ∷ on.supply r.need r.grantor ∷ []
key_topics x = home_topics x

key_topics_two : (k : Item) → length (key_topics k) ≤ 2
key_topics_two (item.Held r) = omega arith
key_topics_two (item.Grantable r) = omega arith
key_topics_two k = at_most_two k

key_home : (y : Item) (t : Topic) → IsUnder t y → IsOwnTopic t → Contains (key_topics y) t
key_home (item.Held r) t under own = by t under own
  where
    by : (t : Topic) → IsUnder t (item.Held r) → IsOwnTopic t → Contains (key_topics (item.Held r)) t
    by (on.supply need g) is o = let e : on.supply r.need r.grantee ≡ on.supply need g = cc (is.0, is.1) in at_head (on.supply r.need r.grantee) (on.supply need g) (on.supply r.need r.grantor ∷ []) e
    by (on.held s) is o = absurd o
    by _ is o = absurd is
key_home (item.Grantable r) t under own = by t under own
  where
    by : (t : Topic) → IsUnder t (item.Grantable r) → IsOwnTopic t → Contains (key_topics (item.Grantable r)) t
    by (on.supply need g) is o = let e : on.supply r.need r.grantee ≡ on.supply need g = cc (is.0, is.1) in at_head (on.supply r.need r.grantee) (on.supply need g) (on.supply r.need r.grantor ∷ []) e
    by _ is o = absurd is
key_home y t under own = under_home t y under

ghost_home : (c : List Item) (y : Item) (t : Topic) → IsSystemRight c y → IsUnder t y → IsOwnTopic t → Contains (key_topics (ghost_key y)) t
ghost_home c (item.Held r) t is under own = by t under own
  where
    by : (t : Topic) → IsUnder t (item.Held r) → IsOwnTopic t → Contains (key_topics (ghost_key (item.Held r))) t
    by (on.supply need g) is o = let e : on.supply r.need r.grantee ≡ on.supply need g = cc (is.0, is.1) in at_second (on.supply r.need System) (on.supply r.need r.grantee) (on.supply need g) [] e
    by (on.held s) is o = absurd o
    by _ is o = absurd is
ghost_home c (item.Grantable r) t is under own = by t under own
  where
    by : (t : Topic) → IsUnder t (item.Grantable r) → IsOwnTopic t → Contains (key_topics (ghost_key (item.Grantable r))) t
    by (on.supply need g) is o = let e : on.supply r.need r.grantee ≡ on.supply need g = cc (is.0, is.1) in at_second (on.supply r.need System) (on.supply r.need r.grantee) (on.supply need g) [] e
    by _ is o = absurd is
ghost_home c _ t is under own = absurd is

pub in_key_topics : (c : List Item) (y k : Item) (t : Topic) → IsKeyOf c y k → IsUnder t y → IsOwnTopic t → Contains (key_topics k) t
in_key_topics c y k t (of_item h e) under own = subst (λ j. Contains (key_topics j) t) (sym e) (key_home y t under own)
in_key_topics c y k t (of_possible h none e) under own = subst (λ j. Contains (key_topics j) t) (sym e) (ghost_home c y t h under own)

-- an option's topic has no key of its own
option_no_own : (x : Item) (t : Topic) → IsOptionTopic x t → IsOwnTopic t → ⊥
option_no_own (item.Grantable r) t e own = subst IsOwnTopic e own
option_no_own (item.RoleAdmin g) t e own = subst IsOwnTopic e own
option_no_own _ t e own = e

-- one item stands under it
option_one : (x : Item) (t : Topic) (y z : Item) → IsOptionTopic x t → IsUnder t y → IsUnder t z → y ≡ z
option_one (item.Grantable r) t y z e a b = held r y (subst (λ s. IsUnder s y) e a) ∙ sym (held r z (subst (λ s. IsUnder s z) e b))
  where
    held : (r : Right) (y : Item) → IsUnder (on.held r) y → y ≡ item.Held r
    held r (item.Held s) is = ap item.Held is
    held r _ is = absurd is
option_one (item.RoleAdmin g) t y z e a b = granted g y (subst (λ s. IsUnder s y) e a) ∙ sym (granted g z (subst (λ s. IsUnder s z) e b))
  where
    granted : (g : RoleGrant) (y : Item) → IsUnder (on.role_auth g) y → y ≡ item.RoleAuth g
    granted g (item.RoleAuth s) is = ap item.RoleAuth is
    granted g _ is = absurd is
option_one _ t y z e a b = absurd e

-- an item has one key
pub one_key : (c : List Item) (y j k : Item) → IsKeyOf c y j → IsKeyOf c y k → j ≡ k
one_key c y j k (of_item h e) (of_item h2 e2) = e ∙ sym e2
one_key c y j k (of_item h e) (of_possible h2 none e2) = absurd (none h)
one_key c y j k (of_possible h none e) (of_item h2 e2) = absurd (none h2)
one_key c y j k (of_possible h none e) (of_possible h2 none2 e2) = e ∙ sym e2

module _ (eq : Item → Item → Bool) (g : Graph Item) (c : List Item) (no_c : HasNoHelper c) (whole : IsWhole eq g) (itself : (k : Item) → eq k k ≡ true) (full : IsFullBoard g c) where
  pub known_or_topic : (n : ℕ) → IsNode g n → IsKnownAt g c n ⊎ IsTopicAt g n
  known_or_topic n node = elim (full.board.helpers n node.0 node.1) [
    | inl known ↦ inl (known.0, node.0, node.1, known.1)
    | inr topic ↦ inr (topic.0, topic.1, subst (HasKey g n) topic.2 node.1)
  ]

  pub not_both : (n : ℕ) → IsKnownAt g c n → IsTopicAt g n → ⊥
  not_both n known topic = no_topic c no_c known.0 known.1 topic.0 known.3 topic.1 (one_at g n known.1 (topic_key topic.0) known.2 topic.2)

  -- the number of a key is found
  pub node_is : (n : ℕ) (k : Item) → HasKey g n k → node_of eq g k ≡ Some n
  node_is n k has = by (node_of eq g k) refl
    where
      at_key : (o : Option Item) (d : Option Item) (m : ℕ) → slice_get g.keys m ≡ Some o → holds eq k o ≡ true → m ≡ n
      at_key None d m at e = absurd (true≢false (sym e))
      at_key (Some j) d m at e = sym (whole.distinct n m k j has at e)

      by : (o : Option ℕ) → node_of eq g k ≡ o → node_of eq g k ≡ Some n
      by None none = absurd (true≢false (sym (itself k) ∙ absent_from eq g.keys k none n k has))
      by (Some m) e =
          let found = position-Some (holds eq k) g.keys m None e in
          e ∙ ap Some (at_key (get_or g.keys m None) None m (slice_get-get_or g.keys m None found.0) found.1)

  -- the numbers of the topics under which the item of a number stands
  abbrev pub tops_by : Option (Option Item) → List ℕ
  tops_by (Some (Some k)) = flat_map (λ t. option_to_list (node_of eq g (topic_key t))) (key_topics k)
  tops_by o = []

  abbrev pub tops : ℕ → List ℕ
  tops n = tops_by (slice_get g.keys n)

  pub one_or_none : (o : Option ℕ) → length (option_to_list o) ≤ 1
  one_or_none None = omega arith
  one_or_none (Some n) = omega arith

  two_by : (o : Option (Option Item)) → length (tops_by o) ≤ 2
  two_by (Some (Some k)) = omega (arith, length-at_most (λ t. option_to_list (node_of eq g (topic_key t))) 1 (key_topics k) (λ t. one_or_none (node_of eq g (topic_key t))), key_topics_two k)
  two_by (Some None) = omega arith
  two_by None = omega arith

  pub tops_two : (n : ℕ) → length (tops n) ≤ 2
  tops_two n = two_by (slice_get g.keys n)

  pub in_tops : (n m : ℕ) (k : Item) (t : Topic) → HasKey g n k → Contains (key_topics k) t → HasKey g m (topic_key t) → Contains (tops n) m
  in_tops n m k t has there at =
      subst (λ o. Contains (tops_by o) m) (sym has) (Contains-flat_map (λ s. option_to_list (node_of eq g (topic_key s))) (key_topics k) t m there (subst (λ o. Contains (option_to_list o) m) (sym (node_is m (topic_key t) at)) (Contains-head m [])))

  -- what a topic rests on is no topic, and stands under it
  pub under_topic : (m n : ℕ) → IsTopicAt g m → IsNode g n → Contains (list_at g.rests m) n → IsKnownAt g c n × Contains (tops n) m
  under_topic m n (t, own, at) (k, has) rest = by ((full.board.links m n (topic_key t) k at has).0 rest)
    where
      by : IsLink c (topic_key t) k → IsKnownAt g c n × Contains (tops n) m
      by (depends x s key on own_s e) = absurd (no_topic c no_c x (topic_key t) t key own refl)
      by (stands y s key under own_s e) = ((y, k, has, key), in_tops n m k s has (in_key_topics c y k s key under own_s) (subst (HasKey g m) e at))
      by (adds x y s from to option under) = absurd (no_topic c no_c x (topic_key t) t from own refl)

  -- ---- what an item rests on

  -- the item depends on the topic by way of this number
  abbrev IsBy : Item → ℕ → Topic → Type 0
  IsBy x m t = DependsOn c x t × ((IsOwnTopic t × HasKey g m (topic_key t)) ⊎ ((y k : Item) × IsOptionTopic x t × IsUnder t y × IsKeyOf c y k × HasKey g m k))

  by_one : (x : Item) (m n : ℕ) (t : Topic) → IsBy x m t → IsBy x n t → m ≡ n
  by_one x m n t (on_t, a) (on_t2, b) = elim a [
    | inl own ↦ (elim b [
      | inl own2 ↦ whole.distinct m n (topic_key t) (topic_key t) own.1 own2.1 (itself (topic_key t))
      | inr option ↦ absurd (option_no_own x t option.2 own.0)
    ])
    | inr option ↦ (elim b [
      | inl own2 ↦ absurd (option_no_own x t option.2 own2.0)
      | inr option2 ↦
          let same : option.0 ≡ option2.0 = option_one x t option.0 option2.0 option.2 option.3 option2.3 in
          let keys : option.1 ≡ option2.1 = one_key c option2.0 option.1 option2.1 (subst (λ y. IsKeyOf c y option.1) same option.4) option2.4 in
          whole.distinct m n option.1 option2.1 option.5 option2.5 (subst (λ k. eq option.1 k ≡ true) keys (itself option.1))
    ])
  ]

  rest_by : (n : ℕ) (x k : Item) → HasKey g n k → IsKeyOf c x k → (m : ℕ) → Contains (list_at g.rests n) m → IsNode g m → (t : Topic) × IsBy x m t
  rest_by n x k has key m rest (j, at) = by ((full.board.links n m k j has at).0 rest)
    where
      by : IsLink c k j → (t : Topic) × IsBy x m t
      by (depends z t from on own e) = (t, (subst (λ w. DependsOn c w t) (one_item c c no_c no_c z x k from key) on, inl (own, subst (HasKey g m) e at)))
      by (stands y t to under own e) = absurd (no_topic c no_c x k t key own e)
      by (adds z y t from to option under) =
          let same : z ≡ x = one_item c c no_c no_c z x k from key in
          let is : IsOptionTopic x t = subst (λ w. IsOptionTopic w t) same option in
          (t, (by_option is, inr (y, j, is, under, to, at)))

  -- the links of an item are the topics that it depends on
  pub rests_are_topics : (n : ℕ) (x k : Item) → HasKey g n k → IsKeyOf c x k → ((m : ℕ) → Contains (list_at g.rests n) m → IsNode g m)
      → (topics : List Topic) × (length topics ≡ length (list_at g.rests n)) × IsOnce topics × ((t : Topic) → Contains topics t → DependsOn c x t)
  rests_are_topics n x k has key nodes =
      let rests = list_at g.rests n in
      let all = chosen (IsBy x) (by_one x) rests (single_once rests (full.board.once n)) (λ m h. rest_by n x k has key m h (nodes m h)) in
      (all.0, all.1.size, all.1.once, λ t h. (all.1.of t h).2.0)
