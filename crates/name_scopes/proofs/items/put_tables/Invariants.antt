use Rattle.std.proofs.Common.{◌≡◌, ◌++◌, drop}
use Rattle.name_scopes.specs.Single as spec
use Rattle.name_scopes.proofs.items.put_tables.Given as goal

abbrev pub invariant-loop-at : goal.invariant-loop-at
invariant-loop-at g l = l.initial.out ++ spec.all_cells (g.D.Dictionary.known l.dictionary) 0 l.tabs ≡ l.out ++ spec.all_cells (g.D.Dictionary.known l.dictionary) l.at (drop l.at l.tabs)
