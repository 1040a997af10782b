use Rattle.cat_engine.proofs.Connections.{reached_proper}
use Rattle.cat_engine.proofs.laws.connections_have_their_own_names.Goals as goal

pub returns : goal.returns
returns c = reached_proper
