-- What a closed part is by the catalogue of the board, how a part begins, and how far it can grow.
use Rattle.std.proofs.Common.{◌≡◌, ◌⊎◌, ◌↔◌, inl, inr, ℕ, zero, suc, ◌+◌, ◌≤◌, List, [], ◌∷◌, ◌++◌, length, Option, Some, None, slice_get, refl, sym, ◌∙◌, subst, arith}
use Rattle.std.specs.List.{Contains, sum_by}
use Rattle.std.proofs.lemmas.List.{length-append}
use Rattle.std.proofs.lemmas.List.Elements.{Contains-append_left, Contains-append_right}
use Rattle.std.proofs.lemmas.Option.{slice_get_within}
use Rattle.finite_chains.specs.Chains.{IsWithin}
use Rattle.finite_chains.proofs.Members.{Contains-head, Contains-nil, Contains-tail}
use Rattle.item_index.specs.Graphs.{Graph, HasKey}
use Rattle.cat_items.specs.declared.item.Item.{Item}
use Rattle.cat_items.specs.Catalogues.{IsInOrder}
use Rattle.cascade_laws.specs.Asks.{by_option}
use Rattle.cascade_laws.specs.Topics.{Topic, IsUnder}
use Rattle.board_graph.specs.BoardKeys.{IsHelper, IsKeyOf, of_item, of_possible, topic_key}
use Rattle.board_graph.specs.Boards.{IsLink, IsOwnTopic, adds, depends, stands}
use Rattle.board_graph.proofs.Keys.{ghost_is_helper, one_topic, topic_is_helper}
use Rattle.board_steps.specs.Plans.{HasNoHelper, IsFullBoard}
use Rattle.board_steps.proofs.Apart.{no_topic}
use Rattle.board_steps.proofs.Holding.{holds}
use Rattle.asked_parts.specs.Parts.{HasAsked, IsKept, IsPartOf}
use Rattle.asked_parts.specs.Rounds.{IsAddedToBySome, IsClosed, IsLeast, IsUnderWay}
use Rattle.asked_parts.specs.Under.{IsUnderKey, IsUnmarked, IsUnmarkedAt, look_ups}
use Rattle.asked_parts.proofs.AskLaws.{asked_by_more, option_under, own_or_option, under_option}
use Rattle.asked_parts.proofs.GrowthLaws.{no_longer, no_more, once}

module _ (g : Graph Item) (c : List Item) (no_c : HasNoHelper c) (full : IsFullBoard g c) (marks : List ℕ) where
  -- ---- items of the board

  kept_unmarked : (y : Item) → IsUnmarked g marks y → IsKept g c marks y
  kept_unmarked y is = ((holds g c no_c full.board y).1 ((is.0, is.1.0), is.1.2), (is.0, is.1.0, is.1.1))

  unmarked_kept : (y : Item) → IsKept g c marks y → IsUnmarked g marks y
  unmarked_kept y is = (is.1.0, (is.1.1, is.1.2, no_c y is.0))

  -- ---- topics

  -- what stands under a topic is what its node rests on
  under_key : (t : Topic) (y : Item) → IsOwnTopic t → IsUnder t y → IsKept g c marks y → IsUnderKey g marks (topic_key t) y
  under_key t y own under is =
      let key : IsKeyOf c y y = of_item is.0 refl in
      let node : (n : ℕ) × HasKey g n (topic_key t) = full.topics y y t (record { key = key; by = inr under; own = own }) in
      (node.0, node.1, (is.1.0, (full.board.links node.0 is.1.0 (topic_key t) y node.1 is.1.1).1 (stands y t key under own refl), (is.1.1, is.1.2, no_c y is.0)))

  key_under : (t : Topic) (k y : Item) → IsOwnTopic t → k ≡ topic_key t → (¬ (IsHelper y)) → IsLink c k y → IsUnder t y
  key_under t k y own e other (depends x s key on own_s e2) = absurd (other (subst IsHelper (sym e2) (topic_is_helper s own_s)))
  key_under t k y own e other (stands z s key under own_s e2) = by key (subst (λ r. IsUnder r z) (one_topic s t own_s own (sym e2 ∙ e)) under)
    where
      by : IsKeyOf c z y → IsUnder t z → IsUnder t y
      by (of_item h same) is = subst (IsUnder t) (sym same) is
      by (of_possible h none same) is = absurd (other (subst IsHelper (sym same) (ghost_is_helper c z h)))
  key_under t k y own e other (adds x z s from to option under) = absurd (no_topic c no_c x k t from own e)

  -- ---- parts

  -- what is closed by the board is a part by the catalogue
  pub part_closed : (suspects part : List Item) → IsInOrder part → ((x : Item) → Contains part x → Contains suspects x ⊎ IsUnmarked g marks x) → IsClosed g marks suspects part → IsPartOf g c marks suspects part
  part_closed suspects part order from closed = record {
    order = order;
    has_suspects = closed.begun.has_suspects;
    from = λ x h. elim (from x h) [ inl suspect ↦ inl suspect | inr unmarked ↦ inr (kept_unmarked x unmarked) ];
    asked = λ x y t h is asks under. elim (own_or_option part x t asks) [
      | inl own ↦ closed.asked (topic_key t) y (x, h, (t, (asks, own), refl)) (under_key t y own under is)
      | inr option ↦ closed.begun.options x y h (under_option x t y option under, unmarked_kept y is)
    ];
  }

  -- and the other way round
  pub closed_part : (suspects part : List Item) → IsPartOf g c marks suspects part → IsClosed g marks suspects part
  closed_part suspects part is = record {
    begun = record {
      has_suspects = is.has_suspects;
      options = λ x y h added. let t = option_under x y added.0 in is.asked x y t.0 h (kept_unmarked y added.1) (by_option t.1) t.2;
    };
    asked = λ k y h under.
        let t : Topic = h.2.0 in
        let m : ℕ = under.0 in
        let n : ℕ = under.2.0 in
        let at : IsUnmarkedAt g marks n y = under.2.2 in
        is.asked h.0 y t h.1 (kept_unmarked y (n, at)) h.2.1.0 (key_under t k y h.2.1.1 h.2.2 at.2 ((full.board.links m n k y under.1 at.0).0 under.2.1));
  }

-- ---- the beginning

module _ (g : Graph Item) (marks : List ℕ) (suspects part : List Item) (are : (y : Item) → Contains part y ↔ (Contains suspects y ⊎ IsAddedToBySome g marks suspects y)) where
  pub way_begun : IsInOrder part → IsInOrder [] → IsUnderWay g marks suspects part []
  way_begun order none = record {
    order = order;
    asked_order = none;
    begun = record { has_suspects = λ x h. (are x).1 (inl h); options = λ x y h is. (are y).1 (inr (x, h, is)) };
    from = λ x h. elim ((are x).0 h) [ inl suspect ↦ inl suspect | inr added ↦ inr added.2.1 ];
    asked_for = λ k h. absurd (Contains-nil k h);
    found = λ k y h under. absurd (Contains-nil k h);
  }

  pub least_begun : IsLeast g marks suspects part
  least_begun p closed y h = elim ((are y).0 h) [ inl suspect ↦ closed.begun.has_suspects y suspect | inr added ↦ closed.begun.options added.0 y added.1 added.2 ]

-- ---- how far it can grow

-- the keys that there are
abbrev pub known : List (Option Item) → List Item
known [] = []
known (None ∷ keys) = known keys
known (Some k ∷ keys) = k ∷ known keys

is_known : (keys : List (Option Item)) (n : ℕ) (k : Item) → slice_get keys n ≡ Some (Some k) → Contains (known keys) k
is_known [] n k e = absurd (omega (arith, slice_get_within [] n (Some k) e))
is_known (None ∷ keys) zero k e = absurd (let odd : Some None ≡ Some (Some k) = e in cc)
is_known (None ∷ keys) (suc n) k e = is_known keys n k e
is_known (Some j ∷ keys) zero k e = let same : j ≡ k = cc in subst (Contains (j ∷ known keys)) same (Contains-head j (known keys))
is_known (Some j ∷ keys) (suc n) k e = Contains-tail j (known keys) k (is_known keys n k e)

-- how many items a part may have
abbrev pub room : Graph Item → List Item → ℕ
room g suspects = length suspects + length (known g.keys)

pub within_room : (g : Graph Item) (marks : List ℕ) (suspects part asked : List Item) → IsUnderWay g marks suspects part asked → length part ≤ room g suspects
within_room g marks suspects part asked way =
    let all : IsWithin part (suspects ++ known g.keys) = λ y h. elim (way.from y h) [
      | inl suspect ↦ Contains-append_left suspects (known g.keys) y suspect
      | inr unmarked ↦ Contains-append_right suspects (known g.keys) y (is_known g.keys unmarked.0 y unmarked.1.0)
    ] in
    omega (arith, no_longer part (suspects ++ known g.keys) (once part way.order) all, length-append suspects (known g.keys))

-- ---- what it costs

-- what was asked for over a part is asked for over each that is closed
pub asked_cost : (g : Graph Item) (marks : List ℕ) (suspects part asked p keys : List Item) → IsUnderWay g marks suspects part asked → IsLeast g marks suspects part → IsClosed g marks suspects p → HasAsked p suspects keys → sum_by (look_ups g) asked ≤ sum_by (look_ups g) keys
asked_cost g marks suspects part asked p keys way least closed has =
    no_more (look_ups g) asked keys (once asked way.asked_order) (λ k h. has k (asked_by_more part p (least p closed) suspects k (way.asked_for k h)))
