-- What a board tells of items that are no suspects.
use Rattle.std.proofs.Common.{◌≡◌, ◌↔◌, ℕ, Bool, true, false, List, refl, inl, inr}
use Rattle.std.specs.List.{Contains}
use Rattle.std.proofs.lemmas.Bool.{both_ways, cases_Bool}
use Rattle.item_index.specs.Graphs.{Graph, HasKey}
use Rattle.cat_items.specs.declared.item.Item.{Item}
use Rattle.board_graph.specs.BoardKeys.{IsKeyOf, of_item}
use Rattle.board_steps.specs.Plans.{IsFullBoard}
use Rattle.asked_parts.specs.Parts.{IsKept}

pub board_tells : (g : Graph Item) (c : List Item) (touched : List ℕ) (suspect : Item → Bool) → IsFullBoard g c → ((x k : Item) (n : ℕ) → IsKeyOf c x k → HasKey g n k → (suspect x ≡ true) ↔ Contains touched n)
    → (y : Item) → IsKept g c touched y ↔ (Contains c y × (suspect y ≡ false))
board_tells g c touched suspect full is_marked y = (
  λ kept.
      let clear : suspect y ≡ false =
      elim (cases_Bool (suspect y)) [
        | inl was ↦ absurd (kept.1.2 ((is_marked y y kept.1.0 (of_item kept.0 refl) kept.1.1).0 was))
        | inr other ↦ other
      ] in
      (kept.0, clear),
  λ old.
      let key : IsKeyOf c y y = of_item old.0 refl in
      let at = full.board.items y y key in
      (old.0, (at.0, at.1, λ h. both_ways (suspect y) old.1 ((is_marked y y at.0 key at.1).1 h))),
)
