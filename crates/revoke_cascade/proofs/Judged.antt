-- What is found of an edit's part stands in the new catalogue, and makes a plan for its board.
use Rattle.std.proofs.Common.{◌≡◌, ◌⊎◌, inl, inr, ℕ, Bool, true, false, not, ◌||◌, List, refl, subst}
use Rattle.std.specs.Prelude.{Decides}
use Rattle.std.specs.List.{Contains, filter}
use Rattle.std.specs.Ordering.{is_eq}
use Rattle.std.specs.Cmp.{Equal-is}
use Rattle.std.specs.declared.cmp.Ordering.TheVariants.{Equal}
use Rattle.std.proofs.lemmas.Bool.{not-true, not_from_false}
use Rattle.std.proofs.lemmas.Bool.Decides.{Decides-or}
use Rattle.finite_chains.specs.Chains.{IsWithin}
use Rattle.finite_chains.proofs.Members.{Contains-filter, filter_passes_one}
use Rattle.finite_chains.proofs.StrictOrders.{IsRising-filter}
use Rattle.item_index.specs.Graphs.{Graph}
use Rattle.cat_items.specs.declared.edit.Edit.{Edit}
use Rattle.cat_items.specs.declared.item.Item.{Item}
use Rattle.cat_items.specs.contracts.item.ItemPartialEq.TheImpl as same
use Rattle.cat_items.specs.Catalogues.{IsInOrder}
use Rattle.cat_items.specs.Edits.{IsNew}
use Rattle.cat_items.specs.Order.{item_cmp}
use Rattle.cat_items.specs.Reach.{Has}
use Rattle.cat_items.specs.Survivors.{AreSurvivors, IsWithSystem}
use Rattle.cat_items.proofs.CatalogueLemmas.{rising, in_order}
use Rattle.cat_items.proofs.KeyLemmas.{same_key}
use Rattle.support_laws.proofs.Decisions.{Decided, decided_has}
use Rattle.support_laws.proofs.Settled.{one_edited, one_new, one_with_system}
use Rattle.role_graph.specs.Marked.{marked}
use Rattle.role_graph.proofs.MarkedLemmas.{place_of_marked}
use Rattle.cascade_laws.specs.Found.{IsFound}
use Rattle.cascade_laws.specs.Spreading.{IsSpread}
use Rattle.cascade_laws.proofs.Outcome.{alike_after}
use Rattle.edit_laws.proofs.EditedLists.{one_by_key}
use Rattle.board_steps.proofs.Edited.{good_apart, new_apart}
use Rattle.board_steps.specs.Plans.{IsPlanOf}
use Rattle.keys_apart.proofs.OneKey.{told_apart}
use Rattle.graph_changes.specs.Ends.{links_of}
use Rattle.edit_suspects.specs.Suspects.{is_suspect}
use Rattle.part_rescue.specs.Rescued.{AreTold, IsStanding}
use Rattle.part_rescue.proofs.Found.{has_asked, is_found, is_new}
use Rattle.board_plans.specs.declared.arrivals.Arrival.{Arrival}
use Rattle.board_plans.specs.declared.plan.Plan.{Plan}
use Rattle.board_plans.specs.Planning.{AreArrivals, CanPlan}
use Rattle.board_changes.specs.Readiness.{IsPlanned}
use Rattle.edit_arrivals.specs.Suspects.{IsFoundBy}
use Rattle.revoke_cascade.specs.Prepared.{AreJudged, IsFoundOf, Tells}
use Rattle.revoke_cascade.proofs.Known as known

pub is_planned : (g : Graph Item) (c new : List Item) (suspect : Item → Bool) (marks : List ℕ) (arrivals : List Arrival) (plan : Plan) → CanPlan same.ghosts.eq g c new suspect marks arrivals
    → IsPlanOf g c new suspect plan.out.items plan.keys.items (links_of g plan.out.items plan.keys.items plan.links.items) → IsPlanned same.ghosts.eq g c new suspect plan
is_planned g c new suspect marks arrivals plan can is = record { full = can.full; old_keys = can.old_keys.0; new_keys = can.new_keys; alike = can.alike; plan_is = is }

module _ (g : Graph Item) (c edited f : List Item) (edit : Edit) (marks : List ℕ) (fresh suspects part : List Item) (rescue : List Bool) (judged : AreJudged g c edited f edit marks fresh suspects part rescue) where
  abbrev suspect : Item → Bool
  suspect = is_suspect g marks edit.added fresh

  abbrev found : List Item
  found = marked part rescue

  abbrev others : List Item
  others = filter (λ x. not (suspect x)) c

  told : AreTold g c marks f suspect suspects
  told = known.told g c edited f edit marks fresh suspects judged.known

  stays : (x : Item) → Contains c x → suspect x ≡ false → Contains f x
  stays = known.stays g c edited f edit marks fresh suspects judged.known

  is_spread : IsSpread c judged.known.on.good.all edit f suspect
  is_spread = known.is_spread g c edited f edit marks fresh suspects judged.known

  -- ---- what was found, and what is no suspect, as a list in order

  -- an item of the list has the key
  key_in : (items : List Item) (x : Item) → Decided (Has items (λ y. item_cmp y x ≡ Equal))
  key_in items x = decided_has (λ y. item_cmp y x ≡ Equal) (λ y. (is_eq (item_cmp y x), Equal-is (item_cmp y x))) items

  stands : Item → Bool
  stands x = (key_in found x).0 || (key_in others x).0

  stands_is : (x : Item) → Decides (stands x) (Has found (λ y. item_cmp y x ≡ Equal) ⊎ Has others (λ y. item_cmp y x ≡ Equal))
  unfolding stands
  stands_is x = Decides-or (key_in found x).0 (key_in others x).0 (key_in found x).1 (key_in others x).1

  part_in : (x : Item) → Contains part x → Contains f x
  part_in x h = elim (judged.part_is.from x h) [
    | inl was ↦ ((judged.known.listed.members x).0 was).0
    | inr kept ↦ (let old = (told.others x).0 kept in stays x old.0 old.1)
  ]

  found_in : (x : Item) → Contains found x → Contains f x
  found_in x h = let p = place_of_marked part rescue x h in part_in x (p.0, p.1.low, p.1.is)

  of_other : (x : Item) → Contains others x → Contains c x × (suspect x ≡ false)
  of_other x h = let p = filter_passes_one (λ y. not (suspect y)) c x h in (p.0, not-true (suspect x) p.1)

  to_other : (x : Item) → Contains c x → suspect x ≡ false → Contains others x
  to_other x h e = Contains-filter (λ y. not (suspect y)) c x h (not_from_false (suspect x) e)

  standing : List Item
  standing = filter stands f

  order : IsInOrder standing
  unfolding standing
  order = in_order standing (IsRising-filter item_cmp stands f (rising f judged.known.on.with_system.order))

  is_standing : IsStanding c suspect part rescue standing
  unfolding standing
  is_standing x = (to, from)
    where
      this : (y : Item) → Contains f x → Contains f y → item_cmp y x ≡ Equal → y ≡ x
      this y h hy e = one_by_key f judged.known.on.with_system.order y x hy h e

      to : Contains standing x → Contains found x ⊎ (Contains c x × (suspect x ≡ false))
      to h =
          let p = filter_passes_one stands f x h in
          elim ((stands_is x).0 p.1) [
            | inl there ↦ inl (subst (Contains found) (this there.0 p.0 (found_in there.0 there.1) there.2) there.1)
            | inr there ↦
                let old = of_other there.0 there.1 in
                inr (of_other x (subst (Contains others) (this there.0 p.0 (stays there.0 old.0 old.1) there.2) there.1))
          ]

      from : Contains found x ⊎ (Contains c x × (suspect x ≡ false)) → Contains standing x
      from (inl h) = Contains-filter stands f x (found_in x h) ((stands_is x).1 (inl (x, h, same_key x)))
      from (inr old) = Contains-filter stands f x (stays x old.0 old.1) ((stands_is x).1 (inr (x, to_other x old.0 old.1, same_key x)))

  -- ---- the new catalogue

  pub makes_new : (new : List Item) × IsNew c edit new
  makes_new = (standing, is_new c edited f edit suspect judged.known.on.good judged.known.on.fit judged.known.on.with_system is_spread g marks suspects part standing rescue told judged.part_is judged.rescued is_standing order)

  module _ (new : List Item) (is : IsNew c edit new) where
    this_one : standing ≡ new
    this_one = one_new c edit standing new (is_new c edited f edit suspect judged.known.on.good judged.known.on.fit judged.known.on.with_system is_spread g marks suspects part standing rescue told judged.part_is judged.rescued is_standing order) is

    pub found_by : IsFoundBy c judged.known.on.good.all edited f edit suspect part found new
    found_by = record {
      fit = judged.known.on.fit;
      with_system = judged.known.on.with_system;
      spread = is_spread;
      is_found = subst (IsFound c f suspect part found) this_one
          (is_found c edited f edit suspect judged.known.on.good judged.known.on.fit judged.known.on.with_system is_spread g marks suspects part standing rescue told judged.part_is judged.rescued is_standing);
      whole = has_asked c f suspect g marks suspects part told judged.part_is;
    }

    pub found_of : IsFoundOf c edit suspects found new
    found_of x = (
      λ h. elim ((found_by.is_found.members x).0 h) [
        | inl was ↦ inl was
        | inr old ↦ (let left = (known.is_clear g c edited f edit marks fresh suspects judged.known x old.0).0 old.1 in inr (old.0, left.0, left.1, left.2))
      ],
      λ h. elim h [
        | inl was ↦ (found_by.is_found.members x).1 (inl was)
        | inr old ↦ (found_by.is_found.members x).1 (inr (old.0, (known.is_clear g c edited f edit marks fresh suspects judged.known x old.0).1 (old.1, old.2, old.3)))
      ],
    )

    pub survive : AreSurvivors f new
    survive =
        let lists = one_edited c edit is.edited edited is.is_edited judged.known.on.fit.is_edited in
        let all = one_with_system edited is.all f (subst (λ l. IsWithSystem l is.all) lists is.with_system) judged.known.on.with_system in
        subst (λ l. AreSurvivors l new) all is.survivors

    pub can_plan : (arrivals : List Arrival) → AreArrivals new suspect arrivals → CanPlan same.ghosts.eq g c new suspect marks arrivals
    can_plan arrivals are = record {
      whole = judged.known.on.whole;
      full = judged.known.on.full;
      old_keys = (good_apart c judged.known.on.good, told_apart c judged.known.on.good.survivors.order);
      new_keys = (new_apart c new edit is, told_apart new is.survivors.order);
      alike = alike_after c edited f new edit suspect judged.known.on.good judged.known.on.fit judged.known.on.with_system is_spread survive;
      spreads = is_spread.close;
      touched_are = known.touched_are g c edited f edit marks fresh suspects judged.known;
      arrivals_are = are;
    }

    -- what the edit leaves is a suspect, or stands
    left : (x : Item) → Contains c x → (¬ (Contains edit.target x)) → (¬ (Contains edit.changed x)) → Contains suspects x ⊎ Contains new x
    left x h target changed = by (suspect x) refl
      where
        by : (b : Bool) → suspect x ≡ b → Contains suspects x ⊎ Contains new x
        by true e = inl ((judged.known.listed.members x).1 (known.left_in g c edited f edit marks fresh suspects judged.known x h target changed, e))
        by false e = inr ((found_by.is_found.members x).1 (inr (h, e)))

    only : (x : Item) → Contains found x → Contains suspects x ⊎ Contains c x
    only x h =
        let p = place_of_marked part rescue x h in
        elim (judged.part_is.from x (p.0, p.1.low, p.1.is)) [
          | inl was ↦ inl was
          | inr kept ↦ inr ((told.others x).0 kept).0
        ]

    added : IsWithin edit.added suspects
    added x h = (judged.known.listed.members x).1 ((judged.known.on.with_system.members x).1 (inl ((judged.known.on.fit.is_edited.members x).1 (inr h))), is_spread.added x h)

    pub tells : Tells c edit suspects found new
    tells = record { has = found_of; left = left; only = only; added = added }
