-- What is known of an edit on a board: its suspects.
use Rattle.std.proofs.Common.{◌≡◌, ◌↔◌, inl, inr, ℕ, Bool, true, false, not, ◌&&◌, List, sym, ap, subst, ◌∙◌}
use Rattle.std.specs.List.{Contains, filter}
use Rattle.std.specs.Ordering.{is_eq}
use Rattle.std.specs.Cmp.{Equal-is}
use Rattle.std.proofs.lemmas.Bool.{and_from, and_parts, both_ways, false_from_ne_true, not-true}
use Rattle.std.proofs.lemmas.Bool.Decides.{Decides-not}
use Rattle.finite_chains.proofs.Members.{Contains-filter, filter_passes_one}
use Rattle.item_index.specs.Graphs.{Graph, HasKey, IsNode, IsWhole}
use Rattle.link_marks.specs.Reached.{IsReached, first, further}
use Rattle.link_marks.proofs.Reaching.{dependents_are_nodes}
use Rattle.graph_steps.specs.Steps.{AreNodes}
use Rattle.cat_items.specs.declared.edit.Edit.{Edit}
use Rattle.cat_items.specs.declared.item.Item.{Item}
use Rattle.cat_items.specs.contracts.item.ItemPartialEq.TheImpl as same
use Rattle.cat_items.specs.contracts.item.ItemOrd.TheImpl.Laws as laws
use Rattle.cat_items.specs.Order.{item_cmp}
use Rattle.cat_items.specs.Survivors.{IsSystemRight}
use Rattle.cat_items.proofs.KeyLemmas.{same_key}
use Rattle.cat_items.proofs.OrderLemmas.{same_order}
use Rattle.support_laws.proofs.Decisions.{system_right}
use Rattle.cascade_laws.specs.Spreading.{IsSpread}
use Rattle.edit_laws.proofs.EditedLists.{one_by_key}
use Rattle.board_graph.specs.BoardKeys.{IsHelper, IsKeyOf, of_item, of_possible}
use Rattle.board_graph.proofs.Keys.{topic_is_helper}
use Rattle.edit_suspects.specs.Seeds.{AreTouched, HaveSpread}
use Rattle.edit_suspects.specs.Suspects.{AreFresh, is_among, is_suspect}
use Rattle.edit_suspects.proofs.Alikes.{right_among}
use Rattle.edit_suspects.proofs.Finding.{spread_of}
use Rattle.edit_suspects.proofs.GhostKeys.{ghost_helps, possible_is_ghost, possible_is_granted}
use Rattle.edit_suspects.proofs.Spreads.{makes_a_spread, marked_alike}
use Rattle.asked_parts.specs.Parts.{IsKept}
use Rattle.asked_parts.specs.Under.{AreApart, IsUnmarked}
use Rattle.part_rescue.specs.Rescued.{AreTold}
use Rattle.part_rescue.proofs.Told.{board_tells}
use Rattle.board_plans.specs.Planning as planning
use Rattle.revoke_cascade.specs.Prepared.{AreKnown, IsEditOn}

same_itself : (k : Item) → same.ghosts.eq k k ≡ true
same_itself k = laws.matches_eq-law k k ∙ ap is_eq (same_order k k) ∙ (Equal-is (item_cmp k k)).1 (same_key k)

-- ---- numbers

pub touched_are_nodes : (g : Graph Item) (edit : Edit) (marks : List ℕ) → IsWhole same.ghosts.eq g → AreTouched same.ghosts.eq g edit marks → AreNodes g marks
touched_are_nodes g edit marks whole touched n h = node n ((touched.reached.exactly n).0 h)
  where
    node : (n : ℕ) → IsReached g.dependents touched.from n → IsNode g n
    node n (first there) = let of = ((touched.seeds n).0 there).2 in (of.0, of.1)
    node n (further {m} r there) = dependents_are_nodes same.ghosts.eq g m n whole there

-- ---- fresh rights

module _ (g : Graph Item) (c edited f : List Item) (edit : Edit) (on : IsEditOn g c edited f edit) where
  fresh_test : Item → Bool
  fresh_test x = (system_right edited x).0 && not (is_among x on.good.all)

  pub fresh_rights : (fresh : List Item) × AreFresh c edited fresh
  unfolding fresh_test
  fresh_rights = (filter fresh_test f, λ x. (to x, from x))
    where
      to : (x : Item) → Contains (filter fresh_test f) x → IsSystemRight edited x × (¬ (Contains c x)) × (¬ (IsSystemRight c x))
      to x h =
          let parts = and_parts (system_right edited x).0 (not (is_among x on.good.all)) (filter_passes_one fresh_test f x h).1 in
          let is = (system_right edited x).1.0 parts.0 in
          let test = right_among on.good.all x (possible_is_granted edited x is) in
          let none : (¬ (Contains on.good.all x)) = (λ there. both_ways (is_among x on.good.all) (not-true (is_among x on.good.all) parts.1) (test.1 there)) in
          (is, (λ there. none ((on.good.with_system.members x).1 (inl there))), (λ was. none ((on.good.with_system.members x).1 (inr was))))

      from : (x : Item) → IsSystemRight edited x × (¬ (Contains c x)) × (¬ (IsSystemRight c x)) → Contains (filter fresh_test f) x
      from x is =
          let test = right_among on.good.all x (possible_is_granted edited x is.0) in
          let none : (¬ (Contains on.good.all x)) = (λ there. elim ((on.good.with_system.members x).0 there) [ inl old ↦ is.1 old | inr was ↦ is.2 was ]) in
          Contains-filter fresh_test f x ((on.with_system.members x).1 (inr is.0))
          (and_from (system_right edited x).0 (not (is_among x on.good.all)) ((system_right edited x).1.1 is.0) ((Decides-not (is_among x on.good.all) test).1 none))

-- ---- suspects

module _ (g : Graph Item) (c edited f : List Item) (edit : Edit) (marks : List ℕ) (fresh suspects : List Item) (known : AreKnown g c edited f edit marks fresh suspects) where
  abbrev suspect : Item → Bool
  suspect = is_suspect g marks edit.added fresh

  spread : HaveSpread g edit marks
  spread = spread_of g edit marks known.touched

  pub is_spread : IsSpread c known.on.good.all edit f suspect
  is_spread = makes_a_spread same.ghosts.eq g c edited edit marks fresh known.on.good known.on.whole known.on.full known.on.fit spread known.are_fresh f known.on.with_system

  pub is_marked : (x k : Item) (n : ℕ) → IsKeyOf c x k → HasKey g n k → (suspect x ≡ true) ↔ Contains marks n
  is_marked x k n is has = marked_alike same.ghosts.eq g c edited edit marks fresh known.on.good known.on.whole known.on.full known.on.fit spread known.are_fresh same_itself x k n is has

  pub told : AreTold g c marks f suspect suspects
  told = record { listed = known.listed.members; others = board_tells g c marks suspect known.on.full is_marked }

  -- what is no suspect stays
  no_target : (x : Item) → suspect x ≡ false → ¬ (Contains edit.target x)
  no_target x clear h = both_ways (suspect x) clear (is_spread.target x h)

  no_changed : (x : Item) → suspect x ≡ false → ¬ (Contains edit.changed x)
  no_changed x clear h = both_ways (suspect x) clear (is_spread.changed x h)

  pub left_in : (x : Item) → Contains c x → (¬ (Contains edit.target x)) → (¬ (Contains edit.changed x)) → Contains f x
  left_in x h target changed = (known.on.with_system.members x).1 (inl ((known.on.fit.is_edited.members x).1 (inl (h, target, changed))))

  pub stays : (x : Item) → Contains c x → suspect x ≡ false → Contains f x
  stays x h clear = left_in x h (no_target x clear) (no_changed x clear)

  -- an old item is no suspect where the edit leaves it, and it isn't listed
  pub is_clear : (x : Item) → Contains c x → (suspect x ≡ false) ↔ ((¬ (Contains edit.target x)) × (¬ (Contains edit.changed x)) × (¬ (Contains suspects x)))
  is_clear x h = (
    λ clear. (no_target x clear, no_changed x clear, (λ was. both_ways (suspect x) clear ((known.listed.members x).0 was).1)),
    λ left. false_from_ne_true (suspect x) (λ was. left.2 ((known.listed.members x).1 (left_in x h left.0 left.1, was))),
  )

  -- an unmarked number with an item's key is of that item
  item_there : (y : Item) → IsUnmarked g marks y → Contains c y
  item_there y un = elim (known.on.full.board.helpers un.0 y un.1.0) [
    | inl of ↦ by of.0 of.1
    | inr topic ↦ absurd (un.1.2 (subst IsHelper (sym topic.2) (topic_is_helper topic.0 topic.1)))
  ]
    where
      by : (z : Item) → IsKeyOf c z y → Contains c y
      by z (of_item h e) = subst (Contains c) (sym e) h
      by z (of_possible possible none e) = absurd (un.1.2 (subst IsHelper (sym e) (ghost_helps z (possible_is_ghost c z possible))))

  pub are_apart : AreApart g marks suspects
  are_apart x y h un e =
      let kept : IsKept g c marks y = (item_there y un, (un.0, un.1.0, un.1.1)) in
      let old = (told.others y).0 kept in
      one_by_key f known.on.with_system.order x y ((known.listed.members x).0 h).0 (stays y old.0 old.1) e

  -- the numbers of all suspects are touched, and else those of topics
  pub touched_are : planning.AreTouched g c suspect marks
  touched_are = record {
    all = λ n k has of. (is_marked of.0 k n of.1 has).0 of.2;
    only = λ n h.
        let node = touched_are_nodes g edit marks known.on.whole known.touched n h in (
          node.0,
          node.1,
          elim (known.on.full.board.helpers n node.0 node.1) [
            | inl of ↦ inl (of.0, of.1, (is_marked of.0 node.0 n of.1 node.1).1 h)
            | inr topic ↦ inr topic
          ],
        );
  }
