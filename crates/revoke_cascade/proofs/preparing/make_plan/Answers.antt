use Rattle.revoke_cascade.proofs.Known.{touched_are_nodes}
use Rattle.revoke_cascade.proofs.Making.{made_on, outcome_lent, told}
use Rattle.revoke_cascade.proofs.Spending.{judging_few, planning_few, reached_few, reading_few}
use Rattle.revoke_cascade.proofs.preparing.make_plan.Goals as goal

pub plan_of-requires : goal.plan_of-requires
plan_of-requires g c = touched_are_nodes c.args.board.now c.args.edit.now c.in_ok-marks.marks.keys c.requires.1.whole c.in_ok-marks.ensures.touched

pub effects_of-requires-clause-target : goal.effects_of-requires-clause-target
effects_of-requires-clause-target g c = c.requires.1.fit.target_order

pub effects_of-requires-clause-changed : goal.effects_of-requires-clause-changed
effects_of-requires-clause-changed g c = c.requires.1.fit.changed_order

pub effects_of-requires-clause-added : goal.effects_of-requires-clause-added
effects_of-requires-clause-added g c = c.requires.1.fit.added_order

pub returns-then-is_left-clause-outcome : goal.returns-then-is_left-clause-outcome
returns-then-is_left-clause-outcome g c = λ edited fits.
    let old = c.args.c.now.items in
    let to = told c.args.board.now c.args.edit.now c.in_ok-marks.marks.keys c.in_ok-suspects.field-0.suspects.items c.in_ok-suspects.field-0.found.items c.in_ok-suspects.ensures.judged old edited fits in
    let does = c.in_ok-effects.ensures to.0 to.2 in
    let by = made_on c.args.board.now old edited to.0 c.args.edit.now c.in_ok-effects.effects fits to.1 does in
    (to.0, record { made = to.1; does = does; left = c.is_left.ensures.left old edited to.0 by c.if-is_left.true; planned = tt })

pub returns-clause-outcome : goal.returns-clause-outcome
returns-clause-outcome g c = λ edited fits.
    let old = c.args.c.now.items in
    let to =
    outcome_lent c.args.board.now c.args.edit.now c.in_ok-marks.marks.keys c.in_ok-suspects.field-0.suspects.items c.in_ok-suspects.field-0.found.items c.as_slice.result.now c.in_ok-arriving.arriving.items c.in_ok-plan.plan
    c.as_slice.ensures.value c.in_ok-suspects.ensures.judged c.in_ok-arriving.ensures.standing c.in_ok-plan.ensures.plan old edited fits in
    let does = c.in_ok-effects.ensures to.0 to.1.tells in
    let by = made_on c.args.board.now old edited to.0 c.args.edit.now c.in_ok-effects.effects fits to.1.made does in
    (to.0, record { made = to.1.made; does = does; left = c.is_left.ensures.made old edited to.0 by (c.if-is_left.false); planned = to.1.planned })

pub returns-in_err-marks-clause-few : goal.returns-in_err-marks-clause-few
returns-in_err-marks-clause-few g c = reached_few c.args.board.now c.args.c.now.items c.args.edit.now _ _ c.touched.ensures.ticks

pub returns-in_err-suspects-clause-few : goal.returns-in_err-suspects-clause-few
returns-in_err-suspects-clause-few g c = judging_few c.args.board.now c.args.c.now.items c.args.edit.now _ c.in_ok-marks.marks.keys c.in_ok-marks.ensures.touched _ c.touched.ensures.ticks _ c.judge.ensures.ticks

pub returns-in_err-effects-clause-few : goal.returns-in_err-effects-clause-few
returns-in_err-effects-clause-few g c = judging_few c.args.board.now c.args.c.now.items c.args.edit.now _ c.in_ok-marks.marks.keys c.in_ok-marks.ensures.touched _ c.touched.ensures.ticks _ c.judge.ensures.ticks

pub returns-then-is_left-clause-few : goal.returns-then-is_left-clause-few
returns-then-is_left-clause-few g c = judging_few c.args.board.now c.args.c.now.items c.args.edit.now _ c.in_ok-marks.marks.keys c.in_ok-marks.ensures.touched _ c.touched.ensures.ticks _ c.judge.ensures.ticks

pub returns-in_err-arriving-clause-few : goal.returns-in_err-arriving-clause-few
returns-in_err-arriving-clause-few g c = judging_few c.args.board.now c.args.c.now.items c.args.edit.now _ c.in_ok-marks.marks.keys c.in_ok-marks.ensures.touched _ c.touched.ensures.ticks _ c.judge.ensures.ticks

pub returns-in_err-plan-clause-few : goal.returns-in_err-plan-clause-few
returns-in_err-plan-clause-few g c =
    planning_few c.args.board.now c.args.c.now.items c.args.edit.now _ c.in_ok-marks.marks.keys c.in_ok-marks.ensures.touched _ c.touched.ensures.ticks _ c.judge.ensures.ticks c.in_ok-suspects.field-0.suspects.items c.in_ok-suspects.field-0.found.items
    c.in_ok-suspects.ensures.judged c.as_slice.result.now c.in_ok-arriving.arriving.items c.as_slice.ensures.value c.in_ok-arriving.ensures.standing _ c.plan_of.ensures.few

pub returns-clause-few : goal.returns-clause-few
returns-clause-few g c =
    planning_few c.args.board.now c.args.c.now.items c.args.edit.now _ c.in_ok-marks.marks.keys c.in_ok-marks.ensures.touched _ c.touched.ensures.ticks _ c.judge.ensures.ticks c.in_ok-suspects.field-0.suspects.items c.in_ok-suspects.field-0.found.items
    c.in_ok-suspects.ensures.judged c.as_slice.result.now c.in_ok-arriving.arriving.items c.as_slice.ensures.value c.in_ok-arriving.ensures.standing _ c.plan_of.ensures.few

pub returns-clause-spent : goal.returns-clause-spent
returns-clause-spent g c =
    reading_few c.args.board.now c.args.c.now.items c.args.edit.now _ c.in_ok-marks.marks.keys c.in_ok-marks.ensures.touched _ c.touched.ensures.ticks _ c.judge.ensures.ticks c.in_ok-suspects.field-0.suspects.items c.in_ok-suspects.field-0.found.items
    c.in_ok-suspects.ensures.judged c.as_slice.result.now c.in_ok-arriving.arriving.items c.as_slice.ensures.value c.in_ok-arriving.ensures.standing _ c.plan_of.ensures.few c.in_ok-plan.plan.out.items c.in_ok-plan.ensures.out
