use Rattle.graph_steps.proofs.Inserting.{new_in_turn, orderly}
use Rattle.graph_steps.proofs.laws.keys_can_be_inserted_in_turn.Goals as goal

pub returns : goal.returns
returns g c = λ graph keys whole. new_in_turn g.K.PartialEq.eq graph keys (orderly g.K.PartialEq.eq graph whole)
