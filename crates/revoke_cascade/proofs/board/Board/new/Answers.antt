use Rattle.revoke_cascade.proofs.Boarding.{board_holds}
use Rattle.revoke_cascade.proofs.board.Board.new.Goals as goal

pub invariant_of-result : goal.invariant_of-result
invariant_of-result c = (c.args.c.now.items, c.in_ok-fill.ensures)

pub returns : goal.returns
returns c = board_holds _ c.args.c.now.items c.in_ok-fill.ensures
