use Rattle.revoke_cascade.proofs.Known.{touched_are_nodes}
use Rattle.revoke_cascade.proofs.laws.touched_numbers_are_nodes.Goals as goal

pub returns : goal.returns
returns c = touched_are_nodes
