use Rattle.std.proofs.Common.{ℕ, ◌<◌}
use Rattle.table_names.specs.Named.{system_name}
use Rattle.domain_drop.specs.CheckCopies.{IsFreeName}
use Rattle.domain_drop.proofs.names.free_name.Given as goal

abbrev pub invariant-loop-number : goal.invariant-loop-number
invariant-loop-number l = record { taken : (other : ℕ) → 0 < other → other < l.number → IsFreeName l.c.items l.copies l.schema (system_name other) → ⊥ }
