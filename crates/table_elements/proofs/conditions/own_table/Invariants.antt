use Rattle.std.proofs.Common.{◌≡◌, map, take}
use Rattle.sql_names.specs.declared.sort.Param.{Param}
use Rattle.table_elements.proofs.conditions.own_table.Given as goal

abbrev pub invariant-loop-column : goal.invariant-loop-column
invariant-loop-column l = record {
  names : l.names ≡ map (λ (x : Param). x.name) (take l.column-index l.w.columns);
  sorts : l.sorts ≡ map (λ (x : Param). x.sort) (take l.column-index l.w.columns);
}
