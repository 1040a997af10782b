use Rattle.std.proofs.Common.{None}
use Rattle.cat_items.specs.Rights.{path_of, IsColumn}
use Rattle.role_graph.proofs.LoopLemmas.{NoneFrom}
use Rattle.table_changes.proofs.defaults.find_column.Given as goal

abbrev pub invariant-loop-at : goal.invariant-loop-at
invariant-loop-at l = record { none : NoneFrom l.c.items None (IsColumn (path_of l.table) l.name) l.initial.at l.at }
