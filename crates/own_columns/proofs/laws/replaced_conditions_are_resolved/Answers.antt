use Rattle.own_columns.proofs.Replaced.{resolved_with_column}
use Rattle.own_columns.proofs.laws.replaced_conditions_are_resolved.Goals as goal

pub returns : goal.returns
returns c = resolved_with_column
