use Rattle.graph_changes.proofs.Undone.{can_be_undone}
use Rattle.graph_changes.proofs.laws.a_change_can_be_undone.Goals as goal

pub returns : goal.returns
returns g c = can_be_undone g.K.PartialEq.eq
