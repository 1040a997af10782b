use Rattle.std.proofs.Common.{◌≡◌, ◌++◌, map, take}
use Rattle.cat_items.specs.Needs.{column_need}
use Rattle.grant_edit.proofs.named.push_columns.Given as goal

abbrev pub invariant-loop-name : goal.invariant-loop-name
invariant-loop-name l = l.needs.items ≡ l.initial.needs.items ++ map (column_need l.action l.object) (take l.name-index l.names)
