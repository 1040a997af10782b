use Rattle.std.proofs.Common.{◌≡◌}
use Rattle.role_graph.proofs.AllLemmas.{AllBelow}
use Rattle.grant_edit.specs.Named.{grantee_auth}
use Rattle.grant_edit.proofs.revokes.is_among.Given as goal

abbrev pub invariant-loop-grantee : goal.invariant-loop-grantee
invariant-loop-grantee l = AllBelow (λ g. ¬ (grantee_auth g ≡ l.auth)) l.grantees l.grantee-index
