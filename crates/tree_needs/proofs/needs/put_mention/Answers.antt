use Rattle.std.proofs.Common.{[], ◌∷◌, OnOk, subst}
use Rattle.tree_needs.specs.Ordered.{Gains}
use Rattle.tree_needs.proofs.needs.put_mention.Goals as goal

pub returns-in_ok-column_need-in-Column-clause-members : goal.returns-in_ok-column_need-in-Column-clause-members
returns-in_ok-column_need-in-Column-clause-members c =
    rw (← c.mention.view_is, c.in-Column.is) (subst (λ n. OnOk c.put_need.result (Gains c.args.needs.now.items c.put_need.new.needs.items (n ∷ []))) c.in_ok-column_need-in-Column.ensures c.put_need.ensures.members)

pub returns-in_ok-object_need-in-Table-clause-members : goal.returns-in_ok-object_need-in-Table-clause-members
returns-in_ok-object_need-in-Table-clause-members c =
    rw (← c.mention.view_is, c.in-Table.is) (subst (λ n. OnOk c.put_need-in-Table.result (Gains c.args.needs.now.items c.put_need-in-Table.new.needs.items (n ∷ []))) c.in_ok-object_need-in-Table.ensures c.put_need-in-Table.ensures.members)

pub returns-in_ok-object_need-in-Routine-clause-members : goal.returns-in_ok-object_need-in-Routine-clause-members
returns-in_ok-object_need-in-Routine-clause-members c =
    rw (← c.mention.view_is, c.in-Routine.is) (subst (λ n. OnOk c.put_need-in-Routine.result (Gains c.args.needs.now.items c.put_need-in-Routine.new.needs.items (n ∷ []))) c.in_ok-object_need-in-Routine.ensures c.put_need-in-Routine.ensures.members)
