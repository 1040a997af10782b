use Rattle.cascade_bound.proofs.Suspects.{rights_within}
use Rattle.cascade_bound.proofs.laws.rights_for_a_part_are_within_the_bound.Goals as goal

pub returns : goal.returns
returns c = λ old edited edit most good fit b part rights lacks differ are. rights_within old edited edit good fit most b part lacks rights differ are
