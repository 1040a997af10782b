use Rattle.std.proofs.Common.{◌∙◌, ℕ, List, reverse, ap, sym, subst}
use Rattle.item_index.specs.Undo.{changed, numbers_given, removed_all}
use Rattle.cat_items.specs.contracts.item.ItemPartialEq.TheImpl as same
use Rattle.graph_changes.specs.declared.ends.End.{End}
use Rattle.graph_changes.specs.Changes.{CanChange}
use Rattle.graph_changes.specs.Ends.{links_of}
use Rattle.board_steps.specs.Plans.{IsFullBoard}
use Rattle.board_changes.proofs.Backward.{can_run, links_by, makes_new}
use Rattle.board_changes.proofs.running.run.Goals as goal

pub change_by_ends-requires-clause-change : goal.change_by_ends-requires-clause-change
change_by_ends-requires-clause-change c =
    let g = c.args.board.now in
    let plan = c.args.ready.plan in
    let ready = c.requires.ready in
    subst (λ (ns : List ℕ). CanChange same.ghosts.eq g ns plan.keys.items (links_of g ns plan.keys.items c.as_slice-2.result.now)) (sym c.as_slice.ensures.value)
    (subst (λ (ls : List (End × End)). CanChange same.ghosts.eq g plan.out.items plan.keys.items (links_of g plan.out.items plan.keys.items ls)) (sym c.as_slice-2.ensures.value)
    (can_run same.ghosts.eq g plan ready.whole ready.room c.requires.planned))

pub returns-clause-new : goal.returns-clause-new
returns-clause-new c =
    let g = c.args.board.now in
    let plan = c.args.ready.plan in
    let is = c.change_by_ends.ensures.index ∙ ap (λ (ns : List ℕ). changed g ns plan.keys.items (links_of g ns plan.keys.items c.as_slice-2.result.now)) c.as_slice.ensures.value
    ∙ ap (λ (ls : List (End × End)). changed g plan.out.items plan.keys.items (links_of g plan.out.items plan.keys.items ls)) c.as_slice-2.ensures.value in
    λ old new suspect planned. subst (λ h. IsFullBoard h new) (sym is) (makes_new same.ghosts.eq g plan c.requires.ready.whole old new suspect planned)

pub returns-clause-back : goal.returns-clause-back
returns-clause-back c =
    let g = c.args.board.now in
    let plan = c.args.ready.plan in
    let ready = c.requires.ready in
    let is = c.change_by_ends.ensures.index ∙ ap (λ (ns : List ℕ). changed g ns plan.keys.items (links_of g ns plan.keys.items c.as_slice-2.result.now)) c.as_slice.ensures.value
    ∙ ap (λ (ls : List (End × End)). changed g plan.out.items plan.keys.items (links_of g plan.out.items plan.keys.items ls)) c.as_slice-2.ensures.value in
    let can = can_run same.ghosts.eq g plan ready.whole ready.room c.requires.planned in
    record {
      out = plan.out.items;
      old = ready.had.0;
      keys = plan.keys.items;
      added = links_by same.ghosts.eq g plan;
      whole = ready.whole;
      made = is;
      had = ready.had.1;
      new_links = can.linked;
      room = ready.room;
      some_room = ready.some_room;
      given = c.reverse.ensures.items ∙ ap reverse (c.change_by_ends.ensures.numbers ∙ ap (λ (ns : List ℕ). numbers_given (removed_all g ns) plan.keys.items) c.as_slice.ensures.value);
      keys_are = ready.had.2;
      taken = ready.taken;
    }
