use Rattle.edit_parts.proofs.WholeLaws.{left_untouched, without_as}
use Rattle.edit_parts.proofs.whole.untouched.Goals as goal

pub returns-clause-members : goal.returns-clause-members
returns-clause-members c =
    let old = c.args.c.now.items in
    let edit = c.args.edit.now in
    let touched = c.args.touched.now.items in
    let standing = c.in_ok-standing.standing.items in
    let left = c.in_ok-left.left.items in
    let kept = c.in_ok-kept.kept.items in
    left_untouched old edit touched standing left kept (without_as c.items.result.now old c.as_slice.result.now edit.target standing c.items.ensures.items c.as_slice.ensures c.in_ok-standing.ensures.members)
    (without_as c.items-2.result.now standing c.as_slice-2.result.now edit.changed left c.items-2.ensures.items c.as_slice-2.ensures c.in_ok-left.ensures.members)
    (without_as c.items-3.result.now left c.items-4.result.now touched kept c.items-3.ensures.items c.items-4.ensures.items c.in_ok-kept.ensures.members)
