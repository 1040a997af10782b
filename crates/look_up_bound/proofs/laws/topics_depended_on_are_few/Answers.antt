use Rattle.look_up_bound.proofs.Few.{depended_few}
use Rattle.look_up_bound.proofs.laws.topics_depended_on_are_few.Goals as goal

pub returns : goal.returns
returns c = depended_few
