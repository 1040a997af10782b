use Rattle.cat_engine.proofs.GoodStates.{reached_connected}
use Rattle.cat_engine.proofs.laws.connected_users_stand.Goals as goal

pub returns : goal.returns
returns c = reached_connected
