use Rattle.cat_engine.proofs.Settled.{reply_settled}
use Rattle.cat_engine.proofs.laws.a_history_settles_its_replies.Goals as goal

pub returns : goal.returns
returns c = reply_settled
