use Rattle.std.proofs.Common.{◌≡◌, ◌++◌, drop}
use Rattle.std.specs.Prelude.{flat_map}
use Rattle.view_deps.specs.Views as spec
use Rattle.view_deps.proofs.resolve.put_names.Given as goal

abbrev pub invariant-loop-item : goal.invariant-loop-item
invariant-loop-item l = l.initial.out ++ flat_map spec.names_in l.items ≡ l.out ++ flat_map spec.names_in (drop l.item-index l.items)
