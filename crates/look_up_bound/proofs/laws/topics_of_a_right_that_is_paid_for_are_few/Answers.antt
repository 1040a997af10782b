use Rattle.look_up_bound.proofs.RightTopics.{topics_of_right}
use Rattle.look_up_bound.proofs.laws.topics_of_a_right_that_is_paid_for_are_few.Goals as goal

pub returns : goal.returns
returns c = λ old u shape. topics_of_right old u shape.names
