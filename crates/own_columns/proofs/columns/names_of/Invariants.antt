use Rattle.std.proofs.Common.{drop}
use Rattle.role_graph.specs.Roles.{AreInOrder}
use Rattle.own_columns.proofs.OwnNames.{Leads}
use Rattle.own_columns.proofs.columns.names_of.Given as goal

abbrev pub invariant-loop-reference : goal.invariant-loop-reference
invariant-loop-reference l = record {
  order : AreInOrder l.names.items;
  members : Leads l.table l.names.items (drop l.reference-index l.all) l.all;
}
