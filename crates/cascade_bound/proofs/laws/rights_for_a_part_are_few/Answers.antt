use Rattle.cascade_bound.proofs.Possible.{rights_few}
use Rattle.cascade_bound.proofs.laws.rights_for_a_part_are_few.Goals as goal

pub returns : goal.returns
returns c = λ part rights order. rights_few part order rights
