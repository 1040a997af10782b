use Rattle.std.proofs.Common.{◌≡◌, drop}
use Rattle.std.specs.Prelude.{flat_map}
use Rattle.table_work.specs.Columns as spec
use Rattle.table_work.proofs.described.sort_among.Given as goal

abbrev pub invariant-loop-x : goal.invariant-loop-x
invariant-loop-x l = spec.first_sort (flat_map (spec.sort_here l.domain) l.items) ≡ spec.first_sort (flat_map (spec.sort_here l.domain) (drop l.x-index l.items))
