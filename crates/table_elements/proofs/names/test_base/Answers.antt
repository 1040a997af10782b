use Rattle.std.proofs.Common.{[], ◌∷◌, subst, sym}
use Rattle.sql_names.specs.declared.object.Object.{Object}
use Rattle.sql_tree.specs.declared.table.ColumnType.{ColumnType}
use Rattle.edit_rules.specs.First.{HasPassed}
use Rattle.table_elements.specs.Names.{unknown_domain, unknown_in_base}
use Rattle.table_elements.proofs.names.test_base.Goals as goal

pub returns-in_ok-domain-in-Domain : goal.returns-in_ok-domain-in-Domain
returns-in_ok-domain-in-Domain c =
    subst (λ (base : ColumnType). HasPassed (unknown_in_base c.args.c.now.items c.args.who.now base) c.test_domain.result) (sym c.in-Domain.is)
    (subst (λ (o : Object). HasPassed (unknown_domain c.args.c.now.items o ∷ []) c.test_domain.result) c.in_ok-domain-in-Domain.ensures c.test_domain.ensures)
