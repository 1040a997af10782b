use Rattle.tree_needs.proofs.NeedMembers.{members_one}
use Rattle.tree_needs.proofs.NeedOrder.{found_need, order_insert, members_insert, members_stay}
use Rattle.tree_needs.proofs.needs.put_need.Goals as goal

pub returns-in_ok-insert-clause-order : goal.returns-in_ok-insert-clause-order
returns-in_ok-insert-clause-order c =
    rw c.in_ok-insert.ensures.items (order_insert c.args.needs.now.items c.args.need c.in-Err.at c.requires (rw c.as_slice.ensures.value at c.in-Err.ensures.bound) (rw c.as_slice.ensures.value at c.in-Err.ensures.position))

pub returns-in_ok-insert-clause-members : goal.returns-in_ok-insert-clause-members
returns-in_ok-insert-clause-members c = rw c.in_ok-insert.ensures.items (members_one c.args.needs.now.items _ c.args.need (members_insert c.args.needs.now.items c.args.need c.in-Err.at))

pub returns-in_default-clause-members : goal.returns-in_default-clause-members
returns-in_default-clause-members c =
    members_one c.args.needs.now.items c.args.needs.now.items c.args.need (members_stay c.args.needs.now.items c.args.need (found_need c.args.needs.now.items c.args.need c.in_default.field-0 (rw c.as_slice.ensures.value at c.in_default.ensures.bound) (rw c.as_slice.ensures.value at c.in_default.ensures.position)))
