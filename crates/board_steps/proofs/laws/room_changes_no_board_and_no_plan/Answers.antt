use Rattle.board_steps.proofs.Room.{same_board, same_plan}
use Rattle.board_steps.proofs.laws.room_changes_no_board_and_no_plan.Goals as goal

pub returns-clause-board : goal.returns-clause-board
returns-clause-board c = same_board

pub returns-clause-plan : goal.returns-clause-plan
returns-clause-plan c = same_plan
