use Rattle.std.specs.Prelude.{codes}
use Rattle.sql_text.proofs.Appends.{on_ok, after_three}
use Rattle.sql_text.proofs.bodies.put_delete.Goals as goal

pub returns : goal.returns
returns c =
    on_ok c.put_where.result
    (λ filter. after_three c.args.out.now (codes "DELETE FROM ") _ _ _ _ _ c.in_ok-push_all.ensures.ok c.in_ok-put_object_name.ensures filter)
    c.put_where.ensures
