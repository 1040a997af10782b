use Rattle.std.proofs.Common.{refl}
use Rattle.edit_parts.proofs.LeftLaws.{left_of}
use Rattle.edit_parts.proofs.WholeLaws.{without_as}
use Rattle.edit_parts.proofs.suspects.ask_for_rights.Goals as goal

pub returns-clause-part : goal.returns-clause-part
returns-clause-part g c =
    let rights = c.args.rights.now.items in
    let suspects = c.args.suspects.now.items in
    let gone = c.in_ok-gone.gone.items in
    let gone_are = without_as c.items.result.now rights c.items-2.result.now suspects gone c.items.ensures.items c.items-2.ensures.items c.in_ok-gone.ensures.members in
    let left_are = without_as c.items-3.result.now c.in_ok-part.part.items c.items-4.result.now gone c.in_ok-left.left.items c.items-3.ensures.items c.items-4.ensures.items c.in_ok-left.ensures.members in
    λ cat no full.
    let both = c.in_ok-part.ensures.part cat no full in
    (both.0, c.in_ok-part.part.items, both.1, both.2, (c.in_ok-left.ensures.order, left_of suspects rights both.0 gone gone c.in_ok-part.part.items c.in_ok-left.left.items refl both.1 gone_are left_are))
