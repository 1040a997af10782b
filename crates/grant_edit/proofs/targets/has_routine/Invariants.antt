use Rattle.std.proofs.Common.{None}
use Rattle.role_graph.proofs.LoopLemmas.{NoneFrom}
use Rattle.grant_edit.specs.Targets.{IsRoutineOfKind}
use Rattle.grant_edit.proofs.targets.has_routine.Given as goal

abbrev pub invariant-loop-at : goal.invariant-loop-at
invariant-loop-at l = record { none : NoneFrom l.c.items None (IsRoutineOfKind l.kind l.object) l.initial.at l.at }
