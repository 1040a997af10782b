use Rattle.std.proofs.Common.{inr}
use Rattle.added_parts.proofs.Missing.{nothing_missing}
use Rattle.revoke_cascade.proofs.Known.{touched_are_nodes}
use Rattle.revoke_cascade.proofs.judging.suspected.Goals as goal

pub suspects_of-requires-clause-nodes : goal.suspects_of-requires-clause-nodes
suspects_of-requires-clause-nodes g c = touched_are_nodes c.args.board.now c.args.edit.now c.args.marks.now.keys c.requires.fits.1.whole c.requires.touched

pub suspects_by_all-requires-clause-nodes : goal.suspects_by_all-requires-clause-nodes
suspects_by_all-requires-clause-nodes g c = touched_are_nodes c.args.board.now c.args.edit.now c.args.marks.now.keys c.requires.fits.1.whole c.requires.touched

pub returns-then-branch-clause-ticks : goal.returns-then-branch-clause-ticks
returns-then-branch-clause-ticks g c =
    let old = c.args.c.now.items in
    let edit = c.args.edit.now in
    inr (
      λ edited u spoken. nothing_missing old edited u edit spoken (c.in_ok-all_stand.ensures.0 c.if-branch.true),
      λ all part keys rights no_helper full has is asked of. c.suspects_of.ensures.ticks old all part keys rights no_helper full has is asked of,
    )
