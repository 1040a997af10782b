use Rattle.look_up_bound.proofs.RightsOn.{paid_for}
use Rattle.look_up_bound.proofs.laws.rights_that_are_paid_for_are_few.Goals as goal

pub returns : goal.returns
returns c = paid_for
