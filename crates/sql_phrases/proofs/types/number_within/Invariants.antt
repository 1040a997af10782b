use Rattle.std.proofs.Common.{◌≡◌, length}
use Rattle.sql_phrases.specs.TypeParsers.{within_from}
use Rattle.sql_phrases.proofs.types.number_within.Given as goal

abbrev pub invariant-loop-left : goal.invariant-loop-left
invariant-loop-left l = within_from l.low l.high 0 l.text ≡ within_from l.low l.high l.number l.left

abbrev pub decreases-loop-left : goal.decreases-loop-left
decreases-loop-left l = length l.left
