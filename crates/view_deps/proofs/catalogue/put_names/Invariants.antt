use Rattle.std.proofs.Common.{◌≡◌, ◌++◌, drop, map}
use Rattle.std.specs.Prelude.{flat_map}
use Rattle.sql_names.specs.declared.sort.Param.{Param}
use Rattle.view_deps.specs.Described as spec
use Rattle.view_deps.proofs.catalogue.put_names.Given as goal

abbrev pub invariant-loop-item : goal.invariant-loop-item
invariant-loop-item l = l.initial.out ++ map (λ (p : Param). p.name) (flat_map (spec.columns_in l.table) l.items) ≡ l.out ++ map (λ (p : Param). p.name) (flat_map (spec.columns_in l.table) (drop l.item-index l.items))
