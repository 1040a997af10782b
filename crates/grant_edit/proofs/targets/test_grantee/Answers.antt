use Rattle.std.proofs.Common.{[], ◌∷◌, sym, subst}
use Rattle.sql_tree.specs.declared.rights.Grantee.{Grantee}
use Rattle.edit_rules.specs.First.{HasPassed}
use Rattle.grant_edit.specs.Targets.{unknown_grantee}
use Rattle.grant_edit.proofs.targets.test_grantee.Goals as goal

pub returns-in-Named : goal.returns-in-Named
returns-in-Named c = subst (λ (g : Grantee). HasPassed (unknown_grantee c.args.c.now.items g ∷ []) c.test_authorization.result) (sym c.in-Named.is) c.test_authorization.ensures
