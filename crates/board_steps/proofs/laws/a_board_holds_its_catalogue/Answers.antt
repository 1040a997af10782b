use Rattle.board_steps.proofs.Holding.{holds}
use Rattle.board_steps.proofs.laws.a_board_holds_its_catalogue.Goals as goal

pub returns : goal.returns
returns c = holds
