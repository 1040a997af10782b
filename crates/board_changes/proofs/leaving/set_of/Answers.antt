use Rattle.std.proofs.Common.{◌∙◌}
use Rattle.std.proofs.lemmas.List.{take_all}
use Rattle.board_changes.proofs.Going.{set_more}
use Rattle.board_changes.proofs.leaving.set_of.Goals as goal

pub loop-number-preserved : goal.loop-number-preserved
loop-number-preserved c = set_more c.args.numbers.now c.loop-number.set.keys _ c.loop-number.number-index 0 c.requires c.loop-number-test.true c.loop-number.invariant c.in_ok-insert.ensures.keys

pub returns : goal.returns
returns c = c.loop-number.invariant ∙ take_all c.loop-number.number-index c.args.numbers.now c.loop-number-test.false
