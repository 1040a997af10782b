use Rattle.cascade_bound.proofs.SystemAsking.{system_asks_few}
use Rattle.cascade_bound.proofs.laws.topics_that_a_right_by_the_system_asks_for_are_few.Goals as goal

pub returns : goal.returns
returns c = system_asks_few
