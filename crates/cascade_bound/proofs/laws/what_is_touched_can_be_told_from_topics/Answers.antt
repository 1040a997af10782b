use Rattle.cascade_bound.proofs.Owning.{touched_on}
use Rattle.cascade_bound.proofs.laws.what_is_touched_can_be_told_from_topics.Goals as goal

pub returns : goal.returns
returns c = λ g old edit marks whole full no_helper target changed touched. touched_on g edit whole old no_helper full marks touched target changed
