-- The items of a board are exactly those of its catalogue.
use Rattle.std.proofs.Common.{inl, inr, sym, subst, List}
use Rattle.std.specs.List.{Contains}
use Rattle.item_index.specs.Graphs.{Graph}
use Rattle.cat_items.specs.declared.item.Item.{Item}
use Rattle.board_graph.specs.BoardKeys.{IsHelper, IsKeyOf, of_item, of_possible}
use Rattle.board_graph.specs.Boards.{Holds, IsBoard}
use Rattle.board_graph.proofs.Keys.{ghost_is_helper, topic_is_helper}
use Rattle.board_steps.specs.Plans.{HasNoHelper}

-- a key that is no helper's is of the item itself
own_key : (c : List Item) (x y : Item) → (¬ (IsHelper x)) → IsKeyOf c y x → Contains c x
own_key c x y other (of_item h e) = subst (Contains c) (sym e) h
own_key c x y other (of_possible h none e) = absurd (other (subst IsHelper (sym e) (ghost_is_helper c y h)))

pub holds : (g : Graph Item) (c : List Item) → HasNoHelper c → IsBoard g c → Holds g c
holds g c no_c board x = (
  λ h. (board.items x x (of_item h (λ i. x)), no_c x h),
  λ h. elim (board.helpers h.0.0 x h.0.1) [
    | inl of ↦ own_key c x of.0 h.1 of.1
    | inr topic ↦ absurd (h.1 (subst IsHelper (sym topic.2) (topic_is_helper topic.0 topic.1)))
  ],
)
