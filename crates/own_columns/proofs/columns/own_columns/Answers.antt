use Rattle.std.proofs.Common.{◌++◌, ◌∙◌, ap}
use Rattle.cat_items.specs.Pieces.{expr_pieces}
use Rattle.own_columns.specs.References.{references_in}
use Rattle.own_columns.proofs.OwnNames.{own_names}
use Rattle.own_columns.proofs.columns.own_columns.Goals as goal

pub returns : goal.returns
returns c =
    own_names c.args.table.now c.args.condition.now c.in_ok-names.names _ (c.as_slice.ensures ∙ (c.in_ok-put_expr.ensures ∙ ap (λ a. a ++ references_in (expr_pieces c.args.condition.now)) c.new-all.ensures)) c.in_ok-names.ensures
