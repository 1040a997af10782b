use Rattle.look_up_bound.proofs.Totals.{all_within_bound}
use Rattle.look_up_bound.proofs.laws.look_ups_with_rights_are_within_the_bound.Goals as goal

pub returns : goal.returns
returns c = all_within_bound
