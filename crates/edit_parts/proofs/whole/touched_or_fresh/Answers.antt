use Rattle.edit_parts.proofs.WholeLaws.{all_touched_or_fresh, without_as}
use Rattle.edit_parts.proofs.whole.touched_or_fresh.Goals as goal

pub returns-clause-members : goal.returns-clause-members
returns-clause-members c =
    let old = c.args.c.now.items in
    let rights = c.args.rights.now.items in
    let part = c.args.part.now.items in
    let before = c.in_ok-before.before.items in
    let after = c.in_ok-after.after.items in
    let known = c.in_ok-known.known.items in
    let standing = c.in_ok-standing.standing.items in
    let unknown = c.in_ok-unknown.unknown.items in
    let further = c.in_ok-further.further.items in
    all_touched_or_fresh old rights part before after known standing unknown further c.in_ok-before.ensures.members c.in_ok-after.ensures.members
    (without_as c.as_slice.result.now before c.items.result.now rights known c.as_slice.ensures.value c.items.ensures.items c.in_ok-known.ensures.members)
    (without_as c.items-2.result.now old c.items-3.result.now rights standing c.items-2.ensures.items c.items-3.ensures.items c.in_ok-standing.ensures.members)
    (without_as c.as_slice-2.result.now after c.items-4.result.now known unknown c.as_slice-2.ensures.value c.items-4.ensures.items c.in_ok-unknown.ensures.members)
    (without_as c.items-5.result.now unknown c.items-6.result.now standing further c.items-5.ensures.items c.items-6.ensures.items c.in_ok-further.ensures.members)
