use Rattle.revoke_cascade.proofs.Boarding.{board_holds, run_board}
use Rattle.revoke_cascade.proofs.cascade.Cascade.run.Goals as goal

pub returns-clause-held : goal.returns-clause-held
returns-clause-held c = λ old new edit good held cascade.
    board_holds c.run-back.new.self new (run_board c.run-back.new.self old new edit cascade.made (c.run-back.ensures.board old new cascade.planned.0 cascade.planned.1))
