use Rattle.std.proofs.Common.{◌≡◌, ◌++◌, drop, map}
use Rattle.std.specs.Prelude.{flat_map}
use Rattle.tree_needs.specs.Mentioned as spec
use Rattle.tree_needs.proofs.mention.tables_of.Given as goal

abbrev pub invariant-loop-one : goal.invariant-loop-one
invariant-loop-one l = flat_map (λ c. c.0) (map spec.chain_mentions l.from) ≡ l.out ++ flat_map (λ c. c.0) (map spec.chain_mentions (drop l.one-index l.from))
