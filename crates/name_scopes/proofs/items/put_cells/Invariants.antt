use Rattle.std.proofs.Common.{◌≡◌, ◌++◌, drop}
use Rattle.name_scopes.specs.Single as spec
use Rattle.name_scopes.proofs.items.put_cells.Given as goal

abbrev pub invariant-loop-column : goal.invariant-loop-column
invariant-loop-column l = l.initial.out ++ spec.cells l.at l.known l.columns ≡ l.out ++ spec.cells l.at l.known (drop l.column-index l.columns)
