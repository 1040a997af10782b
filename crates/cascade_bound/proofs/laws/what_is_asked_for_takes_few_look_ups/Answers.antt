use Rattle.cascade_bound.proofs.Asked.{asked_few}
use Rattle.cascade_bound.proofs.laws.what_is_asked_for_takes_few_look_ups.Goals as goal

pub returns : goal.returns
returns c = λ g old u part no_helper whole full within part_within x relevant topics. asked_few g old no_helper whole full u part x relevant topics within part_within
