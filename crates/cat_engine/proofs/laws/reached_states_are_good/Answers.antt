use Rattle.cat_engine.proofs.GoodStates.{reached_good}
use Rattle.cat_engine.proofs.laws.reached_states_are_good.Goals as goal

pub returns : goal.returns
returns c = reached_good
