-- What is touched on a board is what an edit touches in the graph of the catalogue.
use Rattle.std.proofs.Common.{◌≡◌, ◌⊎◌, inl, inr, ℕ, true, List, sym, ◌∙◌, refl, subst}
use Rattle.std.specs.List.{Contains}
use Rattle.std.specs.Cmp.{Equal-is}
use Rattle.std.specs.Ordering.{is_eq}
use Rattle.std.specs.declared.cmp.Ordering.TheVariants.{Equal}
use Rattle.std.proofs.lemmas.Bool.{cases_Bool}
use Rattle.std.proofs.lemmas.Bool.Decides.{not_from_Decides}
use Rattle.finite_chains.specs.Chains.{IsWithin}
use Rattle.item_index.specs.Graphs.{Graph, HasKey}
use Rattle.item_index.specs.Shelves.{list_at}
use Rattle.link_marks.specs.Reached.{IsReached, first, further}
use Rattle.cat_items.specs.contracts.item.ItemPartialEq.TheImpl as same
use Rattle.cat_items.specs.declared.edit.Edit.{Edit}
use Rattle.cat_items.specs.declared.item.Item.{Item}
use Rattle.cat_items.specs.Fit.{IsFit}
use Rattle.cat_items.specs.Good.{IsGood}
use Rattle.cat_items.specs.Order.{item_cmp}
use Rattle.cat_items.specs.Reach.{Has}
use Rattle.cat_items.proofs.KeyLemmas.{same_key}
use Rattle.support_laws.proofs.Decisions.{Decided, decided_has}
use Rattle.cascade_laws.specs.Topics.{DependsOn, IsOptionTopic, IsUnder, Topic, by_option}
use Rattle.edit_rules.specs.Chosen.{IsRightOrRoleGrant}
use Rattle.edit_rules.proofs.ItemKeys.{one_granted, only_granted}
use Rattle.edit_laws.proofs.EditedLists.{one_by_key}
use Rattle.board_graph.specs.BoardKeys.{IsHelper, IsKeyOf, of_item, of_possible, topic_key}
use Rattle.board_graph.specs.Boards.{IsLink, IsOwnTopic, adds, depends, stands}
use Rattle.board_graph.proofs.Keys.{ghost_is_helper, one_topic, topic_is_helper}
use Rattle.board_steps.proofs.Apart.{is_known, no_topic, one_item}
use Rattle.edit_suspects.specs.Helpers.{is_helper}
use Rattle.edit_suspects.specs.Seeds.{IsAddedKey, IsSeedKey}
use Rattle.edit_suspects.specs.Seeds as seeds
use Rattle.edit_suspects.proofs.GhostKeys.{ghost_helps, ghost_is_granted, ghost_no_topic, helper_is, helper_is_granted, one_ghost, possible_is_ghost}
use Rattle.look_up_bound.specs.Touched.{IsTouched, of_added, of_changed, of_target, spread}
use Rattle.cascade_bound.specs.Marked.{AreTouchedOn}
use Rattle.cascade_bound.proofs.Board.{nodes}
use Rattle.cascade_bound.proofs.Links.{back}
use Rattle.cascade_bound.proofs.Nodes.{one_at, one_place}

-- whether an item of the list is among some of them can be told
pub among_or_not : (c some : List Item) → ((x y : Item) → Contains c x → Contains c y → item_cmp x y ≡ Equal → x ≡ y) → IsWithin some c → (y : Item) → Contains c y → Contains some y ⊎ (¬ (Contains some y))
among_or_not c some one within y h =
    let key : Decided (Has some (λ z. item_cmp z y ≡ Equal)) = decided_has (λ z. item_cmp z y ≡ Equal) (λ z. (is_eq (item_cmp z y), Equal-is (item_cmp z y))) some in
    elim (cases_Bool key.0) [
      | inl e ↦ (let there = key.1.0 e in inl (subst (Contains some) (one there.0 y (within there.0 there.1) h there.2) there.1))
      | inr e ↦ inr (λ there. not_from_Decides key.0 key.1 e (y, there, same_key y))
    ]

module _ (g : Graph Item) (c edited : List Item) (edit : Edit) (marks own : List ℕ) (on : AreTouchedOn g c edit marks own) (good : IsGood c) (fit : IsFit c edit edited) where
  one_of_c : (x y : Item) → Contains c x → Contains c y → item_cmp x y ≡ Equal → x ≡ y
  one_of_c = one_by_key c good.survivors.order

  pub tells_target : (y : Item) → Contains c y → Contains edit.target y ⊎ (¬ (Contains edit.target y))
  tells_target = among_or_not c edit.target one_of_c fit.target

  pub tells_changed : (y : Item) → Contains c y → Contains edit.changed y ⊎ (¬ (Contains edit.changed y))
  tells_changed = among_or_not c edit.changed one_of_c fit.changed

  abbrev Touches : Item → Type 0
  Touches x = IsTouched c edit edited x

  -- what the number is of is touched, or something that stands under its topic
  record IsTouchedAt (n : ℕ) : Type 0 where
    known : (x k : Item) → HasKey g n k → IsKeyOf c x k → Touches x
    topic : (t : Topic) → IsOwnTopic t → HasKey g n (topic_key t) → (y : Item) × Touches y × IsUnder t y

  -- ---- what the edit begins with

  -- an old item with the place of an added one
  old_place : (x y : Item) → Contains edit.added x → Contains c y → item_cmp x y ≡ Equal → Touches y
  old_place x y added h e =
      elim (tells_target y h) [
        | inl gone ↦ of_target y gone
        | inr stays ↦ (elim (tells_changed y h) [
          | inl other ↦ of_changed y other
          | inr left ↦
              let here = (fit.is_edited.members y).1 (inl (h, stays, left)) in
              let there = (fit.is_edited.members x).1 (inr added) in
              subst Touches (one_by_key edited fit.is_edited.order x y there here e) (of_added x added)
        ])
      ]

  seed_known : (n : ℕ) (x k s : Item) → IsKeyOf c x k → item_cmp s k ≡ Equal → IsSeedKey edit s → Touches x
  seed_known n x k s key e seed = by seed
    where
      old : Contains c s → s ≡ x
      old h = by_key key
        where
          by_key : IsKeyOf c x k → s ≡ x
          by_key (of_item hx ex) = one_of_c s x h hx (subst (λ j. item_cmp s j ≡ Equal) ex e)
          by_key (of_possible hx none ex) = absurd (on.no_helper s h (subst IsHelper (sym (one_granted s k (helper_is_granted k (subst IsHelper (sym ex) (ghost_is_helper c x hx))) e ∙ ex)) (ghost_is_helper c x hx)))

      added : (z : Item) → Contains edit.added z → IsAddedKey z s → Touches x
      added z h (seeds.of_item plain is) = by_key key
        where
          by_key : IsKeyOf c x k → Touches x
          by_key (of_item hx ex) = old_place z x h hx (subst (λ j. item_cmp z j ≡ Equal) ex (subst (λ j. item_cmp j k ≡ Equal) is e))
          by_key (of_possible hx none ex) =
              let helper = subst IsHelper (sym ex) (ghost_is_helper c x hx) in
              absurd (not_from_Decides (is_helper z) (helper_is z) plain (subst IsHelper (sym (sym is ∙ one_granted s k (helper_is_granted k helper) e)) helper))
      added z h (seeds.of_ghost may is) = by_key key
        where
          ghost : s ≡ k
          ghost = only_granted s k (subst IsRightOrRoleGrant (sym is) (ghost_is_granted z may)) e

          by_key : IsKeyOf c x k → Touches x
          by_key (of_item hx ex) = absurd (on.no_helper x hx (subst IsHelper (sym is ∙ ghost ∙ ex) (ghost_helps z may)))
          by_key (of_possible hx none ex) = subst Touches (one_ghost z x may (possible_is_ghost c x hx) (sym is ∙ ghost ∙ ex)) (of_added z h)
      added z h (seeds.of_topic t home is) = absurd (no_topic c on.no_helper x k t key home.1 (sym (only_granted s k (subst IsRightOrRoleGrant (sym is) (helper_is_granted (topic_key t) (topic_is_helper t home.1))) e) ∙ is))

      by : IsSeedKey edit s → Touches x
      by (seeds.of_target h) = subst Touches (old (fit.target s h)) (of_target s h)
      by (seeds.of_changed h) = subst Touches (old (fit.changed s h)) (of_changed s h)
      by (seeds.of_added (z, h, is)) = added z h is

  seed_topic : (t : Topic) (s : Item) → IsOwnTopic t → s ≡ topic_key t → IsSeedKey edit s → (y : Item) × Touches y × IsUnder t y
  seed_topic t s own_t is seed = by seed
    where
      old : Contains c s → ⊥
      old h = on.no_helper s h (subst IsHelper (sym is) (topic_is_helper t own_t))

      added : (z : Item) → Contains edit.added z → IsAddedKey z s → (y : Item) × Touches y × IsUnder t y
      added z h (seeds.of_item plain e) = absurd (not_from_Decides (is_helper z) (helper_is z) plain (subst IsHelper (sym is ∙ e) (topic_is_helper t own_t)))
      added z h (seeds.of_ghost may e) = absurd (ghost_no_topic z t may own_t (sym e ∙ is))
      added z h (seeds.of_topic r home e) = (z, of_added z h, subst (λ q. IsUnder q z) (one_topic r t home.1 own_t (sym e ∙ is)) home.0)

      by : IsSeedKey edit s → (y : Item) × Touches y × IsUnder t y
      by (seeds.of_target h) = absurd (old (fit.target s h))
      by (seeds.of_changed h) = absurd (old (fit.changed s h))
      by (seeds.of_added (z, h, e)) = added z h e

  of_seed : (n : ℕ) → Contains on.touched.from n → IsTouchedAt n
  of_seed n h =
      let seed = (on.touched.seeds n).0 h in
      let place : (k : Item) → HasKey g n k → item_cmp seed.0 k ≡ Equal = λ k has. one_place seed.0 k (subst (λ j. same.ghosts.eq seed.0 j ≡ true) (one_at g n seed.2.0 k seed.2.1 has) seed.2.2) in
      record {
        known = λ x k has key. seed_known n x k seed.0 key (place k has) seed.1;
        topic = λ t own_t has. seed_topic t seed.0 own_t (one_granted seed.0 (topic_key t) (helper_is_granted (topic_key t) (topic_is_helper t own_t)) (place (topic_key t) has)) seed.1;
      }

  -- ---- what rests on it

  of_rest : (m n : ℕ) → Contains marks m → Contains marks n → Contains (list_at g.dependents m) n → IsTouchedAt m → IsTouchedAt n
  of_rest m n marked marked_n link at =
      let rest = back same.ghosts.eq g on.whole m n link in
      let node = nodes g c edit marks own on m marked in
      record {
        known = λ x k has key. known x k has key ((on.full.board.links n m k node.0 has node.1).0 rest) node.1;
        topic = λ t own_t has. topic t own_t ((on.full.board.links n m (topic_key t) node.0 has node.1).0 rest) node.1;
      }
    where
      known : (x k : Item) {j : Item} → HasKey g n k → IsKeyOf c x k → IsLink c k j → HasKey g m j → Touches x
      known x k has key (depends z t from depends_on own_t e) has_j =
          let same_one : z ≡ x = one_item c c on.no_helper on.no_helper z x k from key in
          let under = at.topic t own_t (subst (HasKey g m) e has_j) in
          spread under.0 x t under.1 (is_known c x k key) under.2 (subst (λ w. DependsOn c w t) same_one depends_on)
      known x k has key (stands y t to under own_t e) has_j = absurd (no_topic c on.no_helper x k t key own_t e)
      known x k {j} has key (adds z y t from to option under) has_j =
          let same_one : z ≡ x = one_item c c on.no_helper on.no_helper z x k from key in
          spread y x t (at.known y j has_j to) (is_known c x k key) under (by_option (subst (λ w. IsOptionTopic w t) same_one option))

      topic : (t : Topic) {j : Item} → IsOwnTopic t → IsLink c (topic_key t) j → HasKey g m j → (y : Item) × Touches y × IsUnder t y
      topic t own_t (depends z s from depends_on own_s e) has_j = absurd (no_topic c on.no_helper z (topic_key t) t from own_t refl)
      topic t {j} own_t (stands y s to under own_s e) has_j = (y, at.known y j has_j to, subst (λ r. IsUnder r y) (one_topic s t own_s own_t (sym e)) under)
      topic t own_t (adds z y s from to option under) has_j = absurd (no_topic c on.no_helper z (topic_key t) t from own_t refl)

  reached_at : (n : ℕ) → IsReached g.dependents on.touched.from n → IsTouchedAt n
  reached_at n (first h) = of_seed n h
  reached_at n (further {m} way h) =
      let marked = (on.touched.reached.exactly m).1 way in
      of_rest m n marked ((on.touched.reached.exactly n).1 (further way h)) h (reached_at m way)

  pub known_touched : (n : ℕ) (x k : Item) → Contains marks n → HasKey g n k → IsKeyOf c x k → IsTouched c edit edited x
  known_touched n x k h has key = (reached_at n ((on.touched.reached.exactly n).0 h)).known x k has key
