use Rattle.std.proofs.Common.{◌≡◌, ◌∙◌, ◌++◌, sym, ap, codes}
use Rattle.sql_spelling.specs.Texts.{T, table_text}
use Rattle.sql_text.specs.Printing.{join_text}
use Rattle.sql_tree.specs.declared.expr.Join.{Join}
use Rattle.sql_tree.specs.declared.expr.Join.TheVariants as joins
use Rattle.sql_names.specs.declared.column.TableReference.{TableReference}
use Rattle.sql_text.proofs.Appends.{on_ok, after_two}
use Rattle.sql_text.proofs.Equations.{text_Cross}
use Rattle.sql_text.proofs.exprs.+print.Goals as goal

crossed : (out pushed new : T) (j : Join) (t : TableReference) → j ≡ joins.Cross t → pushed ≡ out ++ codes " CROSS JOIN " → new ≡ pushed ++ table_text t → new ≡ out ++ join_text j
crossed out pushed new j t is word table =
    after_two out (codes " CROSS JOIN ") (table_text t) pushed new word table ∙ (ap (λ s. out ++ s) (sym (text_Cross t)) ∙ ap (λ x. out ++ join_text x) (sym is))

pub put_join-returns-in_ok-push_all-in-Cross : goal.put_join-returns-in_ok-push_all-in-Cross
put_join-returns-in_ok-push_all-in-Cross t c =
    on_ok c.put_table-in-Cross.result
    (λ table. crossed c.args.out.now _ _ c.args.join.now c.in-Cross.table c.in-Cross.is c.in_ok-push_all-in-Cross.ensures.ok table)
    c.put_table-in-Cross.ensures
