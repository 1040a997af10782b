use Rattle.look_up_bound.proofs.Few.{asked_few}
use Rattle.look_up_bound.proofs.laws.topics_asked_for_are_few.Goals as goal

pub returns : goal.returns
returns c = asked_few
