-- What was read off a board, and what room was made in it, make a plan ready.
use Rattle.std.proofs.Common.{◌≡◌, ◌∙◌, ◌≤◌, ◌+◌, ℕ, Bool, List, [], ◌∷◌, length, map, max, reverse, ap, sym, subst, arith}
use Rattle.std.specs.Prelude.{vec_capacity}
use Rattle.std.specs.List.{All, AllZip, flat_map, sum_by}
use Rattle.std.specs.List.Sorted.{IsPermutation}
use Rattle.std.proofs.lemmas.Grind.{not_there}
use Rattle.std.proofs.Math.Nat.{le-max_right}
use Rattle.std.proofs.lemmas.List.{length-map}
use Rattle.std.proofs.lemmas.List.Sums.{sum_by-cons}
use Rattle.item_index.specs.Graphs.{Graph, HasKey, IsWhole, with_spare}
use Rattle.item_index.specs.Undo.{numbers_given, removed_all}
use Rattle.graph_steps.specs.Steps.{AreNodes}
use Rattle.cat_items.specs.declared.item.Item.{Item}
use Rattle.graph_changes.specs.Ends.{ArePlaced, link_of, links_of}
use Rattle.board_plans.specs.declared.plan.Plan.{Plan}
use Rattle.board_steps.specs.Plans.{IsPlanOf}
use Rattle.board_steps.proofs.Room.{same_board, same_plan}
use Rattle.board_changes.specs.declared.readiness.Ready.{Ready}
use Rattle.board_changes.specs.Leaving.{links_with, look_ups_with}
use Rattle.board_changes.specs.Readiness.{IsPlanned, IsReady}
use Rattle.board_changes.proofs.Backward.{Plans}
use Rattle.board_changes.proofs.Going.{Differ, all_taken, had_in_turn}
use Rattle.board_changes.proofs.Settling.{keys_left, links_left, same_given, sure_node}

one_each : (f : ℕ → ℕ) (ns : List ℕ) → sum_by (λ n. 1 + f n) ns ≡ length ns + sum_by f ns
one_each f [] = omega arith
one_each f (n ∷ ns) =
    let rest = one_each f ns in
    let with_one = sum_by-cons (λ m. 1 + f m) n ns in
    let without = sum_by-cons f n ns in
    omega arith

-- what was looked up in a board with other room
pub looked_up : (g now : Graph Item) (keys links : ℕ) (ns : List ℕ) → now ≡ with_spare g keys links → length ns + sum_by (look_ups_with now) ns ≡ sum_by (λ n. 1 + look_ups_with g n) ns
looked_up g now keys links ns is = ap (λ (h : Graph Item). length ns + sum_by (look_ups_with h) ns) is ∙ sym (one_each (look_ups_with g) ns)

module _ (eq : Item → Item → Bool) where
  pub out_nodes : (g : Graph Item) (plan : Plan) → ∥ Plans eq g plan ∥₁ → AreNodes g plan.out.items
  out_nodes g plan planned n h = sure_node g n (λ no. not_there planned (λ p. let at = p.3.plan_is.only_out n h in no (at.0, at.1)))

  pub out_once : (g : Graph Item) (plan : Plan) → ∥ Plans eq g plan ∥₁ → Differ plan.out.items
  out_once g plan planned i j d before below e = not_there planned (λ p. p.3.plan_is.out_once i j d before below e)

  pub planned_still : (g : Graph Item) (keys links : ℕ) (c new : List Item) (suspect : Item → Bool) (plan : Plan) → IsPlanned eq g c new suspect plan → IsPlanned eq (with_spare g keys links) c new suspect plan
  planned_still g keys links c new suspect plan p = record {
    full = same_board g c keys links p.full;
    old_keys = p.old_keys;
    new_keys = p.new_keys;
    alike = p.alike;
    plan_is = subst (λ (ns : List ℕ). IsPlanOf (with_spare g keys links) c new suspect plan.out.items plan.keys.items (map (link_of ns) plan.links.items)) (sym (same_given g keys links plan.out.items plan.keys.items))
        (same_plan g c new suspect plan.out.items plan.keys.items (links_of g plan.out.items plan.keys.items plan.links.items) keys links p.plan_is);
  }

  pub made_ready : (g now : Graph Item) (ready : Ready) (some : ℕ) → IsWhole eq g → Differ ready.plan.out.items → now ≡ with_spare g (max g.spare_keys (length ready.plan.keys.items)) (max g.spare_links some)
      → 1 ≤ some → length ready.plan.links.items ≤ some → All (ArePlaced (length ready.plan.keys.items)) ready.plan.links.items
      → (old : List Item) × AllZip (HasKey now) ready.plan.out.items old × (ready.back.keys.items ≡ reverse old)
      → ready.back.links.items ≡ flat_map (links_with now ready.plan.out.items) ready.plan.out.items → length ready.plan.keys.items ≤ vec_capacity ready.back.out → IsReady eq now ready
  made_ready g now ready some whole once is one enough placed old taken given_room =
      let out = ready.plan.out.items in
      let keys_now = ap (λ (h : Graph Item). h.spare_keys) is in
      let links_now = ap (λ (h : Graph Item). h.spare_links) is in
      let keys_then = keys_left now out in
      let links_then = links_left now out in
      let keys_fit = le-max_right g.spare_keys (length ready.plan.keys.items) in
      let links_fit = le-max_right g.spare_links some in
      let count = length-map ready.plan.links.items (link_of (numbers_given (removed_all now out) ready.plan.keys.items)) in
      record {
        whole = subst (IsWhole eq) (sym is) whole;
        placed = placed;
        had = (old.0, had_in_turn now out old.0 once old.1, old.2);
        taken = λ links are. subst (IsPermutation _) (sym taken) (all_taken out now links are once);
        room = record { keys_fit = omega arith; links_fit = omega arith };
        some_room = omega arith;
        given_room = given_room;
      }
