use Rattle.look_up_bound.proofs.ManyNeeds.{system_topics_few}
use Rattle.look_up_bound.proofs.OneKey.{one_view}
use Rattle.look_up_bound.proofs.laws.topics_of_a_right_by_the_system_are_few.Goals as goal

pub returns : goal.returns
returns c = λ u l order. system_topics_few l u (one_view l order)
