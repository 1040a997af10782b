use Rattle.std.proofs.Common.{◌≡◌, ap, subst, sym, ◌∙◌}
use Rattle.std.specs.Prelude.{flat_map}
use Rattle.sql_names.specs.declared.object.Object.{Object}
use Rattle.sql_tree.specs.declared.table.ColumnType.{ColumnType}
use Rattle.table_work.specs.Columns.{first_sort, sort_here, sort_of}
use Rattle.table_work.proofs.described.sort_of.Goals as goal

pub returns-in_ok-domain-in-Domain : goal.returns-in_ok-domain-in-Domain
returns-in_ok-domain-in-Domain c =
    subst (λ (base : ColumnType). c.sort_among.result ≡ sort_of c.args.c.now.items c.args.who.now base) (sym c.in-Domain.is)
    (c.sort_among.ensures ∙ ap first_sort (sym c.descriptors.ensures) ∙ ap (λ (o : Object). first_sort (flat_map (sort_here o) c.args.c.now.items)) c.in_ok-domain-in-Domain.ensures)
