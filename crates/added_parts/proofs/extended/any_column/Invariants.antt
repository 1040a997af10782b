use Rattle.std.proofs.Common.{None}
use Rattle.role_graph.specs.Loops.{IsColumnNamed}
use Rattle.role_graph.proofs.LoopLemmas.{NoneFrom}
use Rattle.added_parts.proofs.extended.any_column.Given as goal

abbrev pub invariant-loop-at : goal.invariant-loop-at
invariant-loop-at l = record { none : NoneFrom l.c.items None (IsColumnNamed l.name) l.initial.at l.at }
