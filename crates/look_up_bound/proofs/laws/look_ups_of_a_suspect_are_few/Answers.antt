use Rattle.look_up_bound.proofs.Squares.{one_within}
use Rattle.look_up_bound.proofs.laws.look_ups_of_a_suspect_are_few.Goals as goal

pub returns : goal.returns
returns c = one_within
