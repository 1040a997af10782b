use Rattle.role_graph.proofs.AllLemmas.{AllBelow}
use Rattle.grant_edit.specs.Revokes.{Covers}
use Rattle.grant_edit.proofs.revokes.is_revoked.Given as goal

abbrev pub invariant-loop-other : goal.invariant-loop-other
invariant-loop-other l = AllBelow (λ n. ¬ (Covers n l.need)) l.named.items l.other-index
