use Rattle.std.proofs.Common.{ℕ, ◌<◌}
use Rattle.table_names.specs.Named.{IsFree, IsFreeBeside, system_name}
use Rattle.table_names.proofs.named.free_name.Given as goal

abbrev pub invariant-loop-number : goal.invariant-loop-number
invariant-loop-number l = record { taken : (other : ℕ) → 0 < other → other < l.number → IsFreeBeside (IsFree l.c.items l.schema l.given) l.named (system_name other) → ⊥ }
