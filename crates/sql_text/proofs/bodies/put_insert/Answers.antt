use Rattle.std.specs.Prelude.{codes}
use Rattle.sql_text.proofs.Appends.{on_ok, after_four}
use Rattle.sql_text.proofs.bodies.put_insert.Goals as goal

pub returns : goal.returns
returns c =
    on_ok c.put_source.result
    (λ source. after_four c.args.out.now (codes "INSERT INTO ") _ _ _ _ _ _ _ c.in_ok-push_all.ensures.ok c.in_ok-put_object_name.ensures c.in_ok-put_columns.ensures source)
    c.put_source.ensures
