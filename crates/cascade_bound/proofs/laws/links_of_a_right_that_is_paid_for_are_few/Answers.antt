use Rattle.cascade_bound.proofs.Items.{links_paid}
use Rattle.cascade_bound.proofs.laws.links_of_a_right_that_is_paid_for_are_few.Goals as goal

pub returns : goal.returns
returns c = links_paid
