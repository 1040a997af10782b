use Rattle.std.proofs.Common.{◌≡◌, ◌++◌, drop, map}
use Rattle.sql_tree.specs.declared.body.Assignment.{Assignment}
use Rattle.body_needs.proofs.bodies.set_columns.Given as goal

abbrev pub invariant-loop-one : goal.invariant-loop-one
invariant-loop-one l = map (λ (a : Assignment). a.column) l.all ≡ l.names ++ map (λ (a : Assignment). a.column) (drop l.one-index l.all)
