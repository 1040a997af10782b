use Rattle.graph_steps.proofs.Removing.{had_in_turn, left_whole}
use Rattle.graph_steps.proofs.laws.nodes_can_be_removed_in_turn.Goals as goal

pub returns-clause-keys : goal.returns-clause-keys
returns-clause-keys g c = had_in_turn

pub returns-clause-whole : goal.returns-clause-whole
returns-clause-whole g c = left_whole g.K.PartialEq.eq
