use Rattle.std.proofs.Common.{◌≡◌, ◌++◌, drop}
use Rattle.std.specs.Prelude.{flat_map}
use Rattle.table_additions.specs.Lists.{with_not_null}
use Rattle.table_additions.proofs.added.push_back.Given as goal

abbrev pub invariant-loop-x : goal.invariant-loop-x
invariant-loop-x l = record { put : l.initial.all ++ flat_map with_not_null l.columns ≡ l.all ++ flat_map with_not_null (drop l.x-index l.columns) }
