use Rattle.board_steps.proofs.Edited.{edited_board}
use Rattle.board_steps.proofs.Planned.{new_board}
use Rattle.board_steps.proofs.laws.a_plan_makes_the_new_board.Goals as goal

pub returns-clause-edited : goal.returns-clause-edited
returns-clause-edited c = edited_board

pub returns-clause-alike : goal.returns-clause-alike
returns-clause-alike c = new_board
