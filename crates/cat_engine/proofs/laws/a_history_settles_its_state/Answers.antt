use Rattle.cat_engine.proofs.Settled.{after_settled}
use Rattle.cat_engine.proofs.laws.a_history_settles_its_state.Goals as goal

pub returns : goal.returns
returns c = after_settled
