use Rattle.std.proofs.Common.{ℕ, ◌<◌}
use Rattle.table_types.specs.Types.{DifferAt}
use Rattle.table_types.proofs.classes.are_of_two_classes_at.Given as goal

abbrev pub invariant-loop-at : goal.invariant-loop-at
invariant-loop-at l = record { none : (k : ℕ) → k < l.at → DifferAt l.own l.others l.columns l.names k → ⊥ }
