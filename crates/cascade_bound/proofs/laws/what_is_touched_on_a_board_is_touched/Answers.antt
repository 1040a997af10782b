use Rattle.cascade_bound.proofs.Reached.{known_touched}
use Rattle.cascade_bound.proofs.laws.what_is_touched_on_a_board_is_touched.Goals as goal

pub returns : goal.returns
returns c = known_touched
