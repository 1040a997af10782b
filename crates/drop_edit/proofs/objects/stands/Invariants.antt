use Rattle.std.proofs.Common.{None}
use Rattle.role_graph.proofs.LoopLemmas.{NoneFrom}
use Rattle.drop_edit.specs.DroppedObjects.{IsNamedBy}
use Rattle.drop_edit.proofs.objects.stands.Given as goal

abbrev pub invariant-loop-at : goal.invariant-loop-at
invariant-loop-at l = record { none : NoneFrom l.c.items None (IsNamedBy l.kind l.object) l.initial.at l.at }
