use Rattle.cat_engine.proofs.Settled.{step_settled}
use Rattle.cat_engine.proofs.laws.a_step_is_settled.Goals as goal

pub returns : goal.returns
returns c = step_settled
