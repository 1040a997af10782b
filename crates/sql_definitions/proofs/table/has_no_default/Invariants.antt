use Rattle.std.proofs.Common.{◌≡◌, length}
use Rattle.sql_definitions.specs.TableRules.{has_no_default}
use Rattle.sql_definitions.proofs.table.has_no_default.Given as goal

abbrev pub invariant-loop-left : goal.invariant-loop-left
invariant-loop-left l = has_no_default l.options ≡ has_no_default l.left

abbrev pub decreases-loop-left : goal.decreases-loop-left
decreases-loop-left l = length l.left
