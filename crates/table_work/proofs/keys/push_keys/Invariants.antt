use Rattle.std.proofs.Common.{◌≡◌, ◌++◌, drop}
use Rattle.std.specs.Prelude.{flat_map}
use Rattle.table_work.specs.Seen as spec
use Rattle.table_work.proofs.keys.push_keys.Given as goal

abbrev pub invariant-loop-x : goal.invariant-loop-x
invariant-loop-x l = l.initial.out ++ flat_map (spec.key_here l.table) l.items ≡ l.out ++ flat_map (spec.key_here l.table) (drop l.x-index l.items)
