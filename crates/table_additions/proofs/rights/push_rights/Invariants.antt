use Rattle.std.proofs.Common.{◌≡◌, ◌++◌, drop}
use Rattle.std.specs.Prelude.{flat_map}
use Rattle.table_additions.specs.Lists.{right_on_column}
use Rattle.table_additions.proofs.rights.push_rights.Given as goal

abbrev pub invariant-loop-x : goal.invariant-loop-x
invariant-loop-x l = l.initial.all ++ flat_map (right_on_column l.name) l.items ≡ l.all ++ flat_map (right_on_column l.name) (drop l.x-index l.items)
