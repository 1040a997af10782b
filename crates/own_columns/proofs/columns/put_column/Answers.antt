use Rattle.std.proofs.Common.{refl}
use Rattle.own_columns.proofs.OwnNames.{own_gains}
use Rattle.own_columns.proofs.columns.put_column.Goals as goal

pub returns-clause-members : goal.returns-clause-members
returns-clause-members c = own_gains c.args.table.now c.args.of.now c.args.name.now _ _ (c.if-not-same.ensures.0 refl) c.in_ok-put_name.ensures.members
