-- The plan, from what each step of it found.
use Rattle.std.proofs.Common.{◌≡◌, inl, sym, ◌∙◌, subst, Bool, ℕ, List, [], map}
use Rattle.std.specs.Cmp.{IsEquivalence}
use Rattle.std.specs.List.{Contains, flat_map, fold}
use Rattle.finite_chains.proofs.Members.{Contains-nil}
use Rattle.item_index.specs.Graphs.{Graph}
use Rattle.graph_changes.specs.declared.ends.End.{End}
use Rattle.graph_changes.specs.Ends.{links_of}
use Rattle.cat_items.specs.declared.item.Item.{Item}
use Rattle.board_graph.specs.BoardKeys.{IsKeyOf}
use Rattle.board_steps.specs.Plans.{IsBoardKey, IsPlanOf}
use Rattle.indexmap.specs.IndexSet.{insert_key}
use Rattle.board_plans.specs.declared.arrivals.Arrival.{Arrival}
use Rattle.board_plans.specs.Arrivals.{links_by}
use Rattle.board_plans.specs.Ends.{AreEnds}
use Rattle.board_plans.specs.Leaving.{AreOutgoing}
use Rattle.board_plans.specs.Planning.{CanPlan}
use Rattle.board_plans.proofs.FirstKeys.{all_join}
use Rattle.board_plans.proofs.Members.{of_map, pairs_map}
use Rattle.board_plans.proofs.Planned.{is_plan}

module _ (eq : Item → Item → Bool) (laws : IsEquivalence eq) (g : Graph Item) (c new : List Item) (suspect : Item → Bool) (touched : List ℕ) (arrivals : List Arrival) (can : CanPlan eq g c new suspect touched arrivals) where
  arrival_key : (k : Item) → Contains (map (λ a. a.key) arrivals) k → IsBoardKey new k
  arrival_key k h = let a = of_map (λ b. b.key) arrivals k h in let o = can.arrivals_are.only a.0 a.1 in inl (o.0, subst (IsKeyOf new o.0) a.2 o.2.key)

  first_keys : fold (insert_key eq) [] (map (λ a. a.key) arrivals) ≡ map (λ a. a.key) arrivals
  first_keys =
      all_join eq (map (λ a. a.key) arrivals) [] (pairs_map (λ a. a.key) arrivals can.arrivals_are.once) (λ k h none. Contains-nil k none)
      (λ k j h there same. can.new_keys.1 k j (arrival_key k h) (arrival_key j there) same)

  pub plan_from : (out : List ℕ) → AreOutgoing g touched out → (first : List Item) → first ≡ fold (insert_key eq) [] (map (λ a. a.key) arrivals)
      → (keys : List Item) (ends : List (End × End)) → AreEnds eq g out first keys (flat_map links_by arrivals) ends → (out_list : List ℕ) → out_list ≡ out → (key_list : List Item) → key_list ≡ keys
      → IsPlanOf g c new suspect out_list key_list (links_of g out_list key_list ends)
  plan_from out outgoing first first_is keys ends are out_list same_out key_list same_keys =
      let from_first = subst (λ (ks : List Item). AreEnds eq g out ks keys (flat_map links_by arrivals) ends) (first_is ∙ first_keys) are in
      let plan = is_plan eq laws g c new suspect touched arrivals can out outgoing keys ends from_first in
      subst (λ (ns : List ℕ). IsPlanOf g c new suspect ns key_list (links_of g ns key_list ends)) (sym same_out)
      (subst (λ (ks : List Item). IsPlanOf g c new suspect out ks (links_of g out ks ends)) (sym same_keys) plan)
