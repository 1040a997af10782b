use Rattle.look_up_bound.proofs.Totals.{within_bound}
use Rattle.look_up_bound.proofs.laws.look_ups_are_within_the_bound.Goals as goal

pub returns : goal.returns
returns c = within_bound
