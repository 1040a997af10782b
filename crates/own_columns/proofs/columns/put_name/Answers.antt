use Rattle.role_graph.proofs.NameLemmas.{found_name, order_insert, members_insert, members_stay}
use Rattle.own_columns.proofs.columns.put_name.Goals as goal

pub returns-in_ok-insert-clause-order : goal.returns-in_ok-insert-clause-order
returns-in_ok-insert-clause-order c =
    rw (c.in_ok-insert.ensures.items, c.in_ok-copy.ensures) (order_insert c.args.names.now.items c.args.name.now c.in-Err.at c.requires (rw c.as_slice.ensures.value at c.in-Err.ensures.bound) (rw c.as_slice.ensures.value at c.in-Err.ensures.position))

pub returns-in_ok-insert-clause-members : goal.returns-in_ok-insert-clause-members
returns-in_ok-insert-clause-members c = rw (c.in_ok-insert.ensures.items, c.in_ok-copy.ensures) (members_insert c.args.names.now.items c.args.name.now c.in-Err.at)

pub returns-in_default-clause-members : goal.returns-in_default-clause-members
returns-in_default-clause-members c =
    members_stay c.args.names.now.items c.args.name.now (found_name c.args.names.now.items c.args.name.now c.in_default.field-0 (rw c.as_slice.ensures.value at c.in_default.ensures.bound) (rw c.as_slice.ensures.value at c.in_default.ensures.position))
