use Rattle.std.proofs.Common.{◌≡◌, ◌++◌, drop, map}
use Rattle.cat_items.specs.Needs as spec
use Rattle.body_needs.proofs.bodies.put_columns.Given as goal

abbrev pub invariant-loop-name : goal.invariant-loop-name
invariant-loop-name l = l.initial.needs ++ map (spec.column_need l.action l.table) l.names ≡ l.needs ++ map (spec.column_need l.action l.table) (drop l.name-index l.names)
