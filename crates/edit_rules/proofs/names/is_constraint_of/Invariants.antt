use Rattle.std.proofs.Common.{None}
use Rattle.role_graph.proofs.LoopLemmas.{NoneFrom}
use Rattle.edit_rules.specs.Names.{IsConstraint}
use Rattle.edit_rules.proofs.names.is_constraint_of.Given as goal

abbrev pub invariant-loop-at : goal.invariant-loop-at
invariant-loop-at l = record { none : NoneFrom l.c.items None (IsConstraint l.name) l.initial.at l.at }
