use Rattle.cascade_bound.proofs.Board.{few, goes, plan_few, ticks}
use Rattle.cascade_bound.proofs.laws.what_is_touched_takes_few_look_ups.Goals as goal

pub returns-clause-ticks : goal.returns-clause-ticks
returns-clause-ticks c = ticks

pub returns-clause-marks : goal.returns-clause-marks
returns-clause-marks c = few

pub returns-clause-out : goal.returns-clause-out
returns-clause-out c = λ g old edit marks own out on. goes g old edit marks own on out

pub returns-clause-plan : goal.returns-clause-plan
returns-clause-plan c = plan_few
