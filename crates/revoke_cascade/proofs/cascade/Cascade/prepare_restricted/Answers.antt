use Rattle.std.proofs.Common.{sym, subst}
use Rattle.board_graph.specs.Boards.{Holds}
use Rattle.revoke_cascade.proofs.cascade.Cascade.prepare_restricted.Goals as goal

pub prepare-requires : goal.prepare-requires
prepare-requires g c = (c.requires.fit.0, c.requires.good, c.requires.held, c.requires.fit.1)

pub returns-in_err-effects-clause-held : goal.returns-in_err-effects-clause-held
returns-in_err-effects-clause-held g c = subst (λ h. Holds h c.args.c.now.items) (sym c.prepare.ensures.board) c.requires.held

pub returns-in_err-effects-clause-few : goal.returns-in_err-effects-clause-few
returns-in_err-effects-clause-few g c = λ edited bound b fit. c.prepare.ensures.few edited bound c.requires.good c.requires.held fit b

pub returns-in_default-clause-tried : goal.returns-in_default-clause-tried
returns-in_default-clause-tried g c =
    let to = c.in_ok-effects.ensures.outcome c.requires.fit.0 c.requires.good c.requires.held c.requires.fit.1 in
    let left = rw c.in_default.is at to.1.left in
    (to.0, (left.0, to.1.made, to.1.does, left.1))

pub returns-in_default-clause-held : goal.returns-in_default-clause-held
returns-in_default-clause-held g c = subst (λ h. Holds h c.args.c.now.items) (sym c.prepare.ensures.board) c.requires.held

pub returns-in_default-clause-few : goal.returns-in_default-clause-few
returns-in_default-clause-few g c = λ edited bound b fit. c.prepare.ensures.few edited bound c.requires.good c.requires.held fit b

pub returns-clause-tried : goal.returns-clause-tried
returns-clause-tried g c =
    let to = c.in_ok-effects.ensures.outcome c.requires.fit.0 c.requires.good c.requires.held c.requires.fit.1 in
    let ready = rw c.in-Some.is at c.in_ok-effects.ensures.ready in
    let planned = rw c.in-Some.is at to.1.planned in
    let left = rw c.in-Some.is at to.1.left in
    (to.0, (record { made = to.1.made; effects = to.1.does; ready = ready; planned = planned }, left))

pub returns-clause-held : goal.returns-clause-held
returns-clause-held g c = subst (λ h. Holds h c.args.c.now.items) (sym c.prepare.ensures.board) c.requires.held

pub returns-clause-few : goal.returns-clause-few
returns-clause-few g c = λ edited bound b fit. c.prepare.ensures.few edited bound c.requires.good c.requires.held fit b
