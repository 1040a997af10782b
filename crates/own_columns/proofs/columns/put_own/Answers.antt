use Rattle.own_columns.proofs.columns.put_own.Goals as goal

pub returns-in-Own-clause-members : goal.returns-in-Own-clause-members
returns-in-Own-clause-members c = rw c.in-Own.is c.put_column.ensures.members
