use Rattle.cascade_bound.proofs.Asking.{old_asks_few}
use Rattle.cascade_bound.proofs.laws.topics_that_an_old_item_asks_for_are_few.Goals as goal

pub returns : goal.returns
returns c = λ old u part good within part_within x h plain other relevant has topics. old_asks_few old u part good within part_within x h plain other relevant has topics
