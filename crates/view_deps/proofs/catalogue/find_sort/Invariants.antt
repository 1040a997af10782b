use Rattle.std.proofs.Common.{◌≡◌, drop}
use Rattle.std.specs.Prelude.{flat_map}
use Rattle.name_scopes.specs.Known as known
use Rattle.view_deps.specs.Described as spec
use Rattle.view_deps.proofs.catalogue.find_sort.Given as goal

abbrev pub invariant-loop-item : goal.invariant-loop-item
invariant-loop-item l = known.column_in l.name (flat_map (spec.columns_in l.table) l.items) ≡ known.column_in l.name (flat_map (spec.columns_in l.table) (drop l.item-index l.items))
