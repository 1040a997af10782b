use Rattle.std.proofs.Common.{List, sym, subst}
use Rattle.std.specs.List.{Contains}
use Rattle.cat_items.specs.declared.item.Item.{Item}
use Rattle.new_catalogues.proofs.Joins.{on_both, same_joined, one_right, with_rights}
use Rattle.new_catalogues.proofs.edits.join_system_rights.Goals as goal

pub join-requires-clause-keys : goal.join-requires-clause-keys
join-requires-clause-keys c = λ x y hx hy e.
    one_right c.args.c.now.items x y ((c.in_ok-rights.ensures.members y).0 (subst (λ (l : List Item). Contains l y) c.as_slice.ensures.value hy)) e

pub returns : goal.returns
returns c =
    let old = c.args.c.now.items in
    let rights = c.in_ok-rights.rights.items in
    let new = c.join.new.c.items in
    on_both c.join.result (λ order is. with_rights old rights new c.in_ok-rights.ensures.members order (same_joined old c.as_slice.result.now rights new c.as_slice.ensures.value is)) c.join.ensures.order c.join.ensures.members
