use Rattle.std.proofs.Common.{ℕ, ◌<◌, get_or}
use Rattle.cat_items.specs.declared.item.Check.{Check}
use Rattle.domain_drop.specs.CheckCopies.{IsCalled}
use Rattle.domain_drop.proofs.names.is_called.Given as goal

abbrev pub invariant-loop-copy : goal.invariant-loop-copy
invariant-loop-copy l = record { none : (k : ℕ) (d : Check) → k < l.copy-index → IsCalled l.name (get_or l.copies k d) → ⊥ }
