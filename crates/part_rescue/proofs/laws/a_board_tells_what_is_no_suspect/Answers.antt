use Rattle.part_rescue.proofs.Told.{board_tells}
use Rattle.part_rescue.proofs.laws.a_board_tells_what_is_no_suspect.Goals as goal

pub returns : goal.returns
returns c = board_tells
