use Rattle.definition_schema.proofs.AllHold.{all_hold}
use Rattle.definition_schema.proofs.laws.all_constraints_hold.Goals as goal

pub returns : goal.returns
returns f = all_hold
