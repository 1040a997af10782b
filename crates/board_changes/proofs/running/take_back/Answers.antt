use Rattle.std.proofs.Common.{◌∙◌, ℕ, List, ap, sym, subst}
use Rattle.item_index.specs.Undo.{IsAsBefore, changed}
use Rattle.cat_items.specs.contracts.item.ItemPartialEq.TheImpl as same
use Rattle.graph_changes.specs.Changes.{CanChange}
use Rattle.board_steps.specs.Plans.{IsFullBoard}
use Rattle.board_changes.specs.Left.{IsAsLeft}
use Rattle.board_changes.proofs.Backward.{again}
use Rattle.board_changes.proofs.Still.{back_left, can_be_taken_back, full_left}
use Rattle.board_changes.proofs.running.take_back.Goals as goal

pub change-requires : goal.change-requires
change-requires c =
    let ran = c.args.ran in
    let now = c.args.board.now in
    subst (λ (ns : List ℕ). CanChange same.ghosts.eq now ns ran.keys.items c.as_slice-2.result.now) (sym c.as_slice.ensures.value)
    (subst (λ (ls : List (ℕ × ℕ)). CanChange same.ghosts.eq now ran.out.items ran.keys.items ls) (sym c.as_slice-2.ensures.value)
    (can_be_taken_back same.ghosts.eq now ran c.a_change_can_be_undone.ensures c.keeps_whole.ensures c.requires))

pub returns-clause-left : goal.returns-clause-left
returns-clause-left c =
    let ran = c.args.ran in
    let now = c.args.board.now in
    let is = c.change.ensures ∙ ap (λ (ns : List ℕ). changed now ns ran.keys.items c.as_slice-2.result.now) c.as_slice.ensures.value
    ∙ ap (λ (ls : List (ℕ × ℕ)). changed now ran.out.items ran.keys.items ls) c.as_slice-2.ensures.value in
    λ before still. subst (λ g. IsAsLeft before g) (sym is) (back_left same.ghosts.eq before still.0 now ran still.1 c.keeps_whole.ensures still.2 c.a_change_can_be_undone.ensures)

pub returns-clause-before : goal.returns-clause-before
returns-clause-before c =
    let ran = c.args.ran in
    let is = c.change.ensures ∙ ap (λ (ns : List ℕ). changed c.args.board.now ns ran.keys.items c.as_slice-2.result.now) c.as_slice.ensures.value
    ∙ ap (λ (ls : List (ℕ × ℕ)). changed c.args.board.now ran.out.items ran.keys.items ls) c.as_slice-2.ensures.value in
    λ before takes links are. subst (λ g. IsAsBefore before g links) (sym is) (again same.ghosts.eq before c.args.board.now ran takes links are)

pub returns-clause-board : goal.returns-clause-board
returns-clause-board c =
    let ran = c.args.ran in
    let now = c.args.board.now in
    let is = c.change.ensures ∙ ap (λ (ns : List ℕ). changed now ns ran.keys.items c.as_slice-2.result.now) c.as_slice.ensures.value
    ∙ ap (λ (ls : List (ℕ × ℕ)). changed now ran.out.items ran.keys.items ls) c.as_slice-2.ensures.value in
    λ before still held full. subst (λ g. IsFullBoard g held) (sym is)
    (full_left before (changed now ran.out.items ran.keys.items ran.links.items) held (back_left same.ghosts.eq before still.0 now ran still.1 c.keeps_whole.ensures still.2 c.a_change_can_be_undone.ensures) full)
