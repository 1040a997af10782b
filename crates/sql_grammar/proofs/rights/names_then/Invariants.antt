use Rattle.std.proofs.Common.{◌≡◌, length}
use Rattle.sql_grammar.specs.RightsParsers.{names_then}
use Rattle.sql_grammar.proofs.rights.names_then.Given as goal

abbrev pub invariant-loop-left : goal.invariant-loop-left
invariant-loop-left l = names_then l.by l.words ≡ names_then l.by l.left

abbrev pub decreases-loop-left : goal.decreases-loop-left
decreases-loop-left l = length l.left
