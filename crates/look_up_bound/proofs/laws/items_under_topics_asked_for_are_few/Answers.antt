use Rattle.look_up_bound.proofs.Totals.{items_few}
use Rattle.look_up_bound.proofs.laws.items_under_topics_asked_for_are_few.Goals as goal

pub returns : goal.returns
returns c = items_few
