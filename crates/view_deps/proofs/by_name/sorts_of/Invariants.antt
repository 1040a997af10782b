use Rattle.std.proofs.Common.{◌≡◌, take}
use Rattle.std.specs.Prelude.{flat_map}
use Rattle.sql_names.specs.NameBytes.{NameBytes}
use Rattle.name_scopes.specs.Known.{column_in}
use Rattle.view_deps.specs.ByName.{sort_at}
use Rattle.view_deps.specs.Described.{columns_in}
use Rattle.view_deps.proofs.by_name.sorts_of.Given as goal

abbrev pub invariant-loop-item : goal.invariant-loop-item
invariant-loop-item l = (name : NameBytes) → sort_at l.sorts name ≡ column_in name (flat_map (columns_in l.table) (take l.item-index l.item-items))
