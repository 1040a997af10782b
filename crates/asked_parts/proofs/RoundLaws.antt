-- A round: what is asked for, and wasn't yet, is looked up and put in.
use Rattle.std.proofs.Common.{◌≡◌, ◌⊎◌, ◌↔◌, inl, inr, ℕ, ◌+◌, ◌≤◌, List, [], ◌∷◌, ◌++◌, refl, sym, ◌∙◌, ap, subst, arith}
use Rattle.std.specs.List.{Contains, sum_by}
use Rattle.std.specs.declared.cmp.Ordering.{Ordering}
use Rattle.std.specs.declared.cmp.Ordering.TheVariants.{Less, Equal, Greater}
use Rattle.std.proofs.lemmas.List.Elements.{Contains-append_cases}
use Rattle.std.proofs.lemmas.List.Sums.{sum_by-append}
use Rattle.finite_chains.specs.Chains.{IsWithin}
use Rattle.finite_chains.proofs.Members.{Contains-cases, Contains-head, Contains-nil, Contains-tail}
use Rattle.item_index.specs.Graphs.{Graph}
use Rattle.cat_items.specs.declared.item.Item.{Item}
use Rattle.cat_items.specs.Batch.{HaveNoKeyInCommon, IsJoined, IsWithout}
use Rattle.cat_items.specs.Catalogues.{IsInOrder}
use Rattle.cat_items.specs.Order.{item_cmp}
use Rattle.edit_rules.specs.Chosen.{IsRightOrRoleGrant}
use Rattle.edit_rules.proofs.ItemKeys.{one_granted}
use Rattle.board_graph.specs.BoardKeys.{IsHelper}
use Rattle.board_graph.proofs.Keys.{topic_is_helper}
use Rattle.topic_keys.specs.Lists.{Gets}
use Rattle.asked_parts.specs.Parts.{HasAsked, IsAskedAnew, IsAskedBy}
use Rattle.asked_parts.specs.Rounds.{IsBegun, IsClosed, IsLeast, IsUnderWay, TellsTo}
use Rattle.asked_parts.specs.Under.{AreApart, IsUnderAny, IsUnderKey, IsUnmarked, look_ups}
use Rattle.asked_parts.proofs.AskLaws.{asked_by_more, asked_by_told}
use Rattle.asked_parts.proofs.GrowthLaws.{IsOnce, no_more, once, once_append}
use Rattle.asked_parts.proofs.UnderLaws.{flipped, helper_is_granted, itself}

-- ---- keys

pub asked_is_helper : (part suspects : List Item) (k : Item) → IsAskedBy part suspects k → IsHelper k
asked_is_helper part suspects k h = subst IsHelper (sym h.2.2) (topic_is_helper h.2.0 h.2.1.1)

pub asked_is_granted : (part suspects : List Item) (k : Item) → IsAskedBy part suspects k → IsRightOrRoleGrant k
asked_is_granted part suspects k h = helper_is_granted k (asked_is_helper part suspects k h)

-- whether a right or a role grant is in a list can be told
pub there_or_not : (items : List Item) (k : Item) → IsRightOrRoleGrant k → Contains items k ⊎ (Contains items k → ⊥)
there_or_not [] k granted = inr (Contains-nil k)
there_or_not (x ∷ items) k granted = by (there_or_not items k granted) (item_cmp x k) refl
  where
    other : Contains items k ⊎ (Contains items k → ⊥) → (item_cmp x k ≡ Equal → ⊥) → Contains (x ∷ items) k ⊎ (Contains (x ∷ items) k → ⊥)
    other rest differs = elim rest [
      | inl there ↦ inl (Contains-tail x items k there)
      | inr not ↦ inr (λ h. elim (Contains-cases x items k h) [ inl e ↦ differs (subst (λ z. item_cmp z k ≡ Equal) (sym e) (itself k)) | inr later ↦ not later ])
    ]

    by : Contains items k ⊎ (Contains items k → ⊥) → (o : Ordering) → item_cmp x k ≡ o → Contains (x ∷ items) k ⊎ (Contains (x ∷ items) k → ⊥)
    by rest Equal e = inl (subst (Contains (x ∷ items)) (one_granted x k granted e) (Contains-head x items))
    by rest Less e = other rest (λ same. let odd : Less ≡ Equal = sym e ∙ same in cc)
    by rest Greater e = other rest (λ same. let odd : Greater ≡ Equal = sym e ∙ same in cc)

-- all keys that are asked for over the part, and those of them that weren't asked for yet
module _ (part suspects asked all fresh : List Item) (all_are : (k : Item) → Contains all k ↔ IsAskedBy part suspects k) (fresh_are : IsWithout all asked fresh) where
  pub asked_anew : (k : Item) → Contains fresh k → IsAskedAnew part suspects asked k
  asked_anew k h = ((all_are k).0 ((fresh_are k).0 h).0, ((fresh_are k).0 h).1)

  pub asked_or_fresh : (k : Item) → IsAskedBy part suspects k → Contains asked k ⊎ Contains fresh k
  asked_or_fresh k h = elim (there_or_not asked k (asked_is_granted part suspects k h)) [ inl old ↦ inl old | inr not ↦ inr ((fresh_are k).1 ((all_are k).1 h, not)) ]

-- keys that are asked for over the part, and weren't asked for yet
module _ (g : Graph Item) (marks : List ℕ) (suspects part asked : List Item) (way : IsUnderWay g marks suspects part asked) where
  module _ (fresh : List Item) (fresh_are : (k : Item) → Contains fresh k → IsAskedAnew part suspects asked k) where
    fresh_asked : (k : Item) → Contains fresh k → IsAskedBy part suspects k
    fresh_asked k h = (fresh_are k h).0

    pub fresh_is_helper : (k : Item) → Contains fresh k → IsHelper k
    fresh_is_helper k h = asked_is_helper part suspects k (fresh_asked k h)

    pub fresh_apart : HaveNoKeyInCommon asked fresh
    fresh_apart x y h new e = (fresh_are y new).1 (subst (Contains asked) (one_granted x y (asked_is_granted part suspects y (fresh_asked y new)) e) h)

    -- ---- what it costs

    module _ (fresh_order : IsInOrder fresh) where
      -- what was asked for and what is asked for now sum up to no more than a list that has both
      sums_within : (keys : List Item) → IsWithin asked keys → IsWithin fresh keys → sum_by (look_ups g) asked + sum_by (look_ups g) fresh ≤ sum_by (look_ups g) keys
      sums_within keys old new =
          let both : IsOnce (asked ++ fresh) = once_append asked fresh (once asked way.asked_order) (once fresh fresh_order) (λ k h f. (fresh_are k f).1 h) in
          let within : IsWithin (asked ++ fresh) keys = λ k h. elim (Contains-append_cases asked fresh k h) [ inl o ↦ old k o | inr n ↦ new k n ] in
          omega (arith, no_more (look_ups g) (asked ++ fresh) keys both within, sum_by-append (look_ups g) asked fresh)

      cost_within : (p keys : List Item) → IsLeast g marks suspects part → IsClosed g marks suspects p → HasAsked p suspects keys → sum_by (look_ups g) asked + sum_by (look_ups g) fresh ≤ sum_by (look_ups g) keys
      cost_within p keys least closed has =
          sums_within keys (λ k h. has k (asked_by_more part p (least p closed) suspects k (way.asked_for k h))) (λ k h. has k (asked_by_more part p (least p closed) suspects k (fresh_asked k h)))

      -- where it took no more steps than to look up these keys
      module _ (looked : List Item) (steps_old steps_new : ℕ) (are : looked ≡ fresh) (ticks : steps_new ≤ steps_old + sum_by (look_ups g) looked) where
        pub spent_within : (keys : List Item) → IsWithin asked keys → IsWithin fresh keys → steps_new + sum_by (look_ups g) asked ≤ steps_old + sum_by (look_ups g) keys
        spent_within keys old new = omega (arith, ticks, ap (sum_by (look_ups g)) are, sums_within keys old new)

        pub few_within : (p keys : List Item) → IsLeast g marks suspects part → IsClosed g marks suspects p → HasAsked p suspects keys → steps_new + sum_by (look_ups g) asked ≤ steps_old + sum_by (look_ups g) keys
        few_within p keys least closed has = omega (arith, ticks, ap (sum_by (look_ups g)) are, cost_within p keys least closed has)

    -- ---- what is found

    module _ (found : List Item) (found_are : (y : Item) → Contains found y ↔ IsUnderAny g marks fresh y) where
      found_unmarked : (y : Item) → Contains found y → IsUnmarked g marks y
      found_unmarked y h = let under = (found_are y).0 h in (under.2.2.0, under.2.2.2)

      -- an item of the part with the place of one that was found is that one
      pub found_apart : AreApart g marks suspects → AreApart g marks found → (x y : Item) → Contains part x → Contains found y → item_cmp x y ≡ Equal → x ≡ y
      found_apart suspects_apart apart x y h f e = elim (way.from x h) [
        | inl suspect ↦ suspects_apart x y suspect (found_unmarked y f) e
        | inr unmarked ↦ sym (apart y x f unmarked (flipped x y e))
      ]

      module _ (part_new asked_new : List Item) (gets : Gets (Contains found) part part_new) (joined : IsJoined asked fresh asked_new) where
        part_within : IsWithin part part_new
        part_within y h = (gets y).1 (inl h)

        begun_new : IsBegun g marks suspects part_new
        begun_new = record { has_suspects = λ x h. part_within x (way.begun.has_suspects x h); options = λ x y h is. part_within y (way.begun.options x y h is) }

        found_new : (k y : Item) → Contains asked_new k → IsUnderKey g marks k y → Contains part_new y
        found_new k y h under = elim ((joined k).0 h) [
          | inl old ↦ part_within y (way.found k y old under)
          | inr new ↦ (gets y).1 (inr ((found_are y).1 (k, new, under)))
        ]

        pub way_new : IsInOrder part_new → IsInOrder asked_new → IsUnderWay g marks suspects part_new asked_new
        way_new order asked_order = record {
          order = order;
          asked_order = asked_order;
          begun = begun_new;
          from = λ x h. elim ((gets x).0 h) [ inl old ↦ way.from x old | inr f ↦ inr (found_unmarked x f) ];
          asked_for = λ k h. elim ((joined k).0 h) [ inl old ↦ asked_by_more part part_new part_within suspects k (way.asked_for k old) | inr new ↦ asked_by_more part part_new part_within suspects k (fresh_asked k new) ];
          found = found_new;
        }

        -- where these are all, and others ask by nothing that was found and is new, the part has all
        pub closed_new : ((k : Item) → IsAskedBy part suspects k → Contains asked k ⊎ Contains fresh k) → ((x y : Item) → Contains suspects x → Contains found y → TellsTo part_new x y → Contains part y) → IsClosed g marks suspects part_new
        closed_new all none = record { begun = begun_new; asked = λ k y h under. found_new k y (known k (asked_by_told part_new part suspects back k h)) under }
          where
            back : (x y : Item) → Contains suspects x → Contains part_new y → TellsTo part_new x y → Contains part y
            back x y here h tells = elim ((gets y).0 h) [ inl old ↦ old | inr f ↦ none x y here f tells ]

            known : (k : Item) → IsAskedBy part suspects k → Contains asked_new k
            known k h = (joined k).1 (all k h)

        pub least_new : IsLeast g marks suspects part → IsLeast g marks suspects part_new
        least_new least p closed y h = elim ((gets y).0 h) [
          | inl old ↦ least p closed y old
          | inr f ↦
              let under = (found_are y).0 f in
              closed.asked under.0 y (asked_by_more part p (least p closed) suspects under.0 (fresh_asked under.0 under.1)) under.2
        ]
