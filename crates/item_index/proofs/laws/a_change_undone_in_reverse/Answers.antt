use Rattle.item_index.proofs.Undoing.{as_before}
use Rattle.item_index.proofs.laws.a_change_undone_in_reverse.Goals as goal

pub returns : goal.returns
returns g c = as_before g.K.PartialEq.eq
