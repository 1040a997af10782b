-- What was carried out can still be taken back where the board is as that left it.
use Rattle.std.proofs.Common.{◌≡◌, ◌∙◌, ℕ, Bool, List, ap, sym, subst, arith}
use Rattle.std.specs.List.{Contains}
use Rattle.std.proofs.lemmas.Grind.{not_there}
use Rattle.item_index.specs.Graphs.{AreLinks, Graph, IsWhole}
use Rattle.item_index.specs.Shelves.{times}
use Rattle.item_index.specs.Undo.{changed, key_at, number_at}
use Rattle.item_index.proofs.Undoing.{undone_alike}
use Rattle.graph_steps.proofs.Inserting.{orderly}
use Rattle.graph_steps.proofs.Numbers.{contained, some_times}
use Rattle.cat_items.specs.declared.item.Item.{Item}
use Rattle.graph_changes.specs.Changes.{CanChange}
use Rattle.board_steps.specs.Plans.{IsFullBoard}
use Rattle.board_changes.specs.declared.readiness.Ran.{Ran}
use Rattle.board_changes.specs.Left.{IsAsLeft}
use Rattle.board_changes.specs.Readiness.{StillTakesBack, TakesBack}
use Rattle.board_changes.proofs.Backward.{CanUndo, again, can_take_back, undone_is}
use Rattle.board_changes.proofs.Following.{Follows, IsSteady, can_still, follows_changed, had_still, has_still, left_alone, left_as_before, left_still, steady_whole}
use Rattle.board_changes.proofs.Settling.{sure_change, sure_eq, sure_le}

-- ---- a board that is as it was left

same_members : (xs ys : List ℕ) (n : ℕ) → times n ys ≡ times n xs → Contains xs n → Contains ys n
same_members xs ys n same h = let some = some_times n xs h in contained n ys (omega arith)

pub full_left : (g now : Graph Item) (c : List Item) → IsAsLeft g now → IsFullBoard g c → IsFullBoard now c
full_left g now c left full = record {
  board = record {
    items = λ x k of. let at = full.board.items x k of in (at.0, has_still g now left at.0 k at.1);
    helpers = λ n k has. full.board.helpers n k (had_still g now left n k has);
    links = λ m n j k has_j has_k.
        let both = full.board.links m n j k (had_still g now left m j has_j) (had_still g now left n k has_k) in
        (λ h. both.0 (same_members _ _ n (sym (left.rests m n)) h), λ l. same_members _ _ n (left.rests m n) (both.1 l));
    once = λ m n. let was = full.board.once m n in let same = left.rests m n in omega arith;
  };
  topics = λ x k t goes. let at = full.topics x k t goes in (at.0, has_still g now left at.0 _ at.1);
}

module _ (eq : Item → Item → Bool) where
  module _ (before after now : Graph Item) (ran : Ran) (t : TakesBack eq before after ran) (whole : IsWhole eq now) (left : IsAsLeft after now) where
    abbrev back : Graph Item
    back = changed after ran.out.items ran.keys.items ran.links.items

    abbrev back_now : Graph Item
    back_now = changed now ran.out.items ran.keys.items ran.links.items

    follows : Follows after now
    follows =
        let same : Follows before before = record { steady = steady_whole eq before t.whole; steady_now = steady_whole eq before t.whole; as_left = left_alone before } in
        record {
          steady = subst IsSteady (sym t.made) (follows_changed before before t.out t.old t.keys t.added t.had t.new_links same).steady;
          steady_now = steady_whole eq now whole;
          as_left = left;
        }

    by : (links : List (ℕ × ℕ)) → AreLinks before links → IsAsLeft before back
    by links are = left_as_before before back links are (again eq before after ran t links are)

    was : IsAsLeft before back
    was =
        let alike = undone_alike before t.out t.old t.keys t.added ran.links.items (orderly eq before t.whole) t.had in
        let is = undone_is eq before after ran t in
        record {
          keys = λ n. ap (λ (g : Graph Item). key_at g n) is ∙ alike.keys n;
          numbers = λ i. ap (λ (g : Graph Item). number_at g i) is ∙ alike.turns i;
          rests = λ n m. sure_eq _ _ (λ no. not_there t.whole.links (λ p. no ((by p.0 p.1).rests n m)));
          dependents = λ n m. sure_eq _ _ (λ no. not_there t.whole.links (λ p. no ((by p.0 p.1).dependents n m)));
          spare_keys = sure_le _ _ (λ no. not_there t.whole.links (λ p. no (by p.0 p.1).spare_keys));
          spare_links = sure_le _ _ (λ no. not_there t.whole.links (λ p. no (by p.0 p.1).spare_links));
        }

    can_now : CanUndo eq → CanChange eq now ran.out.items ran.keys.items ran.links.items
    can_now law = can_still eq after now ran.out.items ran.keys.items ran.links.items follows (can_take_back eq before after ran t law)

    pub back_left : CanUndo eq → IsAsLeft before back_now
    back_left law =
        let can = can_take_back eq before after ran t law in
        left_still before back back_now was (follows_changed after now ran.out.items can.had.0 ran.keys.items ran.links.items can.had.1 can.linked follows).as_left

  pub can_be_taken_back : (now : Graph Item) (ran : Ran) → CanUndo eq → IsWhole eq now → ∥ ((before : Graph Item) × StillTakesBack eq before now ran) ∥₁ → CanChange eq now ran.out.items ran.keys.items ran.links.items
  can_be_taken_back now ran law whole takes =
      sure_change eq now ran.out.items ran.keys.items ran.links.items (λ no. not_there takes (λ p. no (can_now p.0 p.1.0 now ran p.1.1 whole p.1.2 law)))
