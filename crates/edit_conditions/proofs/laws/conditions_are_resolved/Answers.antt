use Rattle.edit_conditions.proofs.Found.{condition_resolved}
use Rattle.edit_conditions.proofs.laws.conditions_are_resolved.Goals as goal

pub returns : goal.returns
returns c = condition_resolved
