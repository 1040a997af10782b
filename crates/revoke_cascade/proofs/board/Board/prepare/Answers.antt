use Rattle.std.proofs.Common.{sym, subst}
use Rattle.revoke_cascade.specs.Boards.{IsBoardOf}
use Rattle.revoke_cascade.proofs.Boarding.{fits_on, if_ok, roomy}
use Rattle.revoke_cascade.proofs.board.Board.prepare.Goals as goal

pub prepare_on-requires : goal.prepare_on-requires
prepare_on-requires g c =
    let is = c.requires in
    (is.0, fits_on c.self.inside.index c.self.invariant.0 c.args.c.now.items is.0 c.args.edit.now c.keeps_whole.ensures c.self.invariant.1 is.1 (rw c.self.view_is is.2) is.3)

pub invariant_of-self : goal.invariant_of-self
invariant_of-self g c = (c.self.invariant.0, subst (λ h. IsBoardOf h c.self.invariant.0) (sym c.prepare_on.ensures.board) (roomy c.self.inside.index c.self.invariant.0 _ _ c.self.invariant.1))

pub returns-clause-outcome : goal.returns-clause-outcome
returns-clause-outcome g c =
    if_ok c.prepare_on.result (λ prepared was. λ edited good held fit. was edited
    (fits_on c.self.inside.index c.self.invariant.0 c.args.c.now.items edited c.args.edit.now c.keeps_whole.ensures c.self.invariant.1 good (rw c.self.view_is held) fit)) c.prepare_on.ensures.outcome

pub returns-clause-few : goal.returns-clause-few
returns-clause-few g c = λ edited bound good held fit b.
    c.prepare_on.ensures.few edited bound (fits_on c.self.inside.index c.self.invariant.0 c.args.c.now.items edited c.args.edit.now c.keeps_whole.ensures c.self.invariant.1 good (rw c.self.view_is held) fit) b
