use Rattle.board_steps.proofs.TakenBack.{taken_back}
use Rattle.board_steps.proofs.laws.a_plan_taken_back_leaves_the_old_board.Goals as goal

pub returns : goal.returns
returns c = taken_back
