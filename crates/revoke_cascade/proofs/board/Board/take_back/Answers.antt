use Rattle.revoke_cascade.proofs.Boarding.{board_holds}
use Rattle.revoke_cascade.proofs.board.Board.take_back.Goals as goal

pub invariant_of-self : goal.invariant_of-self
invariant_of-self c =
    let is = c.requires in
    let still = is.2 in
    let old = still.1.old in
    (is.1, record { order = old.order; no_helper = old.no_helper; full = c.take_back.ensures.board is.0 (rw c.self.view_is (still.0, still.1.back, still.2)) is.1 old.full })

pub returns-clause-held : goal.returns-clause-held
returns-clause-held c = λ before old still.
    board_holds _ old (record { order = still.1.old.order; no_helper = still.1.old.no_helper; full = c.take_back.ensures.board before (rw c.self.view_is (still.0, still.1.back, still.2)) old still.1.old.full })

pub returns-clause-left : goal.returns-clause-left
returns-clause-left c = λ before old still. c.take_back.ensures.left before (rw c.self.view_is (still.0, still.1.back, still.2))
