-- A plan that is ready can be carried out, and what was carried out can be taken back.
use Rattle.std.proofs.Common.{◌≡◌, ◌∙◌, ◌<◌, ℕ, Bool, List, reverse, ap, sym, subst}
use Rattle.std.specs.List.{filter}
use Rattle.std.specs.List.Sorted.{IsPermutation}
use Rattle.std.proofs.lemmas.Grind.{not_there}
use Rattle.item_index.specs.Graphs.{AreLinks, Graph, IsWhole}
use Rattle.item_index.specs.Undo.{AreNewLinks, HasRoomFor, HaveKeys, IsAsBefore, changed, numbers_given, removed_all, touches, undone}
use Rattle.item_index.proofs.Undoing.{as_before}
use Rattle.cat_items.specs.declared.item.Item.{Item}
use Rattle.graph_changes.specs.Changes.{CanChange}
use Rattle.graph_changes.specs.Ends.{links_of}
use Rattle.board_plans.specs.declared.plan.Plan.{Plan}
use Rattle.board_steps.specs.Plans.{IsFullBoard}
use Rattle.board_steps.proofs.Planned.{had_keys, new_board, new_keys, new_links}
use Rattle.board_changes.specs.declared.readiness.Ran.{Ran}
use Rattle.board_changes.specs.Readiness.{IsPlanned, TakesBack}
use Rattle.board_changes.proofs.Settling.{sure_change}

module _ (eq : Item → Item → Bool) where
  -- ---- carried out

  abbrev pub links_by : Graph Item → Plan → List (ℕ × ℕ)
  links_by g plan = links_of g plan.out.items plan.keys.items plan.links.items

  abbrev pub Plans : Graph Item → Plan → Type 0
  Plans g plan = (c : List Item) × (new : List Item) × (suspect : Item → Bool) × IsPlanned eq g c new suspect plan

  abbrev pub CanRun : Graph Item → Plan → Type 0
  CanRun g plan = CanChange eq g plan.out.items plan.keys.items (links_by g plan)

  planned_can : (g : Graph Item) (plan : Plan) → IsWhole eq g → HasRoomFor g plan.out.items plan.keys.items (links_by g plan) → Plans g plan → CanRun g plan
  planned_can g plan whole room (c, new, suspect, p) = record {
    had = had_keys c new suspect g plan.out.items plan.keys.items (links_by g plan) p.plan_is;
    new = new_keys c new suspect p.old_keys p.new_keys.0 p.alike eq g plan.out.items plan.keys.items (links_by g plan) whole p.full p.plan_is p.new_keys.1;
    linked = new_links c new suspect p.old_keys p.new_keys.0 p.alike eq g plan.out.items plan.keys.items (links_by g plan) whole p.full p.plan_is;
    room = room;
  }

  pub can_run : (g : Graph Item) (plan : Plan) → IsWhole eq g → HasRoomFor g plan.out.items plan.keys.items (links_by g plan) → ∥ Plans g plan ∥₁ → CanRun g plan
  can_run g plan whole room planned =
      sure_change eq g plan.out.items plan.keys.items (links_by g plan) (λ no. not_there planned (λ p. no (planned_can g plan whole room p)))

  pub makes_new : (g : Graph Item) (plan : Plan) → IsWhole eq g → (c new : List Item) (suspect : Item → Bool) → IsPlanned eq g c new suspect plan
      → IsFullBoard (changed g plan.out.items plan.keys.items (links_by g plan)) new
  makes_new g plan whole c new suspect p = new_board c new suspect p.old_keys p.new_keys.0 p.alike eq g plan.out.items plan.keys.items (links_by g plan) whole p.full p.plan_is

  -- ---- taken back

  -- the law that a change can be undone
  abbrev pub CanUndo : Type 0
  CanUndo = (g : Graph Item) (out : List ℕ) (old new : List Item) (links added taken : List (ℕ × ℕ)) → IsWhole eq g → HaveKeys g out old → AreLinks g links
      → AreNewLinks g out new added → HasRoomFor g out new added → IsPermutation (filter (touches out) links) taken → 0 < g.spare_links
      → CanChange eq (changed g out new added) (reverse (numbers_given (removed_all g out) new)) (reverse old) taken

  module _ (before after : Graph Item) (ran : Ran) (t : TakesBack eq before after ran) where
    abbrev left : Graph Item
    left = changed before t.out t.keys t.added

    abbrev given : List ℕ
    given = reverse (numbers_given (removed_all before t.out) t.keys)

    abbrev back : Graph Item
    back = changed after ran.out.items ran.keys.items ran.links.items

    pub undone_is : back ≡ undone before t.out t.old t.keys t.added ran.links.items
    undone_is =
        ap (λ (g : Graph Item). changed g ran.out.items ran.keys.items ran.links.items) t.made
        ∙ ap (λ (ns : List ℕ). changed left ns ran.keys.items ran.links.items) t.given
        ∙ ap (λ (ks : List Item). changed left given ks ran.links.items) t.keys_are

    pub again : (links : List (ℕ × ℕ)) → AreLinks before links → IsAsBefore before back links
    again links are =
        subst (λ (g : Graph Item). IsAsBefore before g links) (sym undone_is)
        (as_before eq before t.out t.old t.keys links t.added ran.links.items t.whole t.had are t.new_links t.room (t.taken links are)).1

    can_with : CanUndo → (links : List (ℕ × ℕ)) → AreLinks before links → CanChange eq after ran.out.items ran.keys.items ran.links.items
    can_with law links are =
        let can : CanChange eq left given (reverse t.old) ran.links.items
        = law before t.out t.old t.keys links t.added ran.links.items t.whole t.had are t.new_links t.room (t.taken links are) t.some_room in
        subst (λ (g : Graph Item). CanChange eq g ran.out.items ran.keys.items ran.links.items) (sym t.made)
        (subst (λ (ns : List ℕ). CanChange eq left ns ran.keys.items ran.links.items) (sym t.given)
        (subst (λ (ks : List Item). CanChange eq left given ks ran.links.items) (sym t.keys_are) can))

    pub can_take_back : CanUndo → CanChange eq after ran.out.items ran.keys.items ran.links.items
    can_take_back law = sure_change eq after ran.out.items ran.keys.items ran.links.items (λ no. not_there t.whole.links (λ p. no (can_with law p.0 p.1)))
