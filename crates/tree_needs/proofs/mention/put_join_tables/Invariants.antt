use Rattle.std.proofs.Common.{◌≡◌, ◌++◌, drop, map}
use Rattle.tree_needs.specs.Mentioned as spec
use Rattle.tree_needs.proofs.mention.put_join_tables.Given as goal

abbrev pub invariant-loop-one : goal.invariant-loop-one
invariant-loop-one l = l.initial.out ++ map (λ j. j.0) (map spec.join_mentions l.all) ≡ l.out ++ map (λ j. j.0) (map spec.join_mentions (drop l.one-index l.all))
