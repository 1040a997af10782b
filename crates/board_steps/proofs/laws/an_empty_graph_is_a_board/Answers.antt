use Rattle.board_steps.proofs.Room.{empty_board}
use Rattle.board_steps.proofs.laws.an_empty_graph_is_a_board.Goals as goal

pub returns : goal.returns
returns c = empty_board
