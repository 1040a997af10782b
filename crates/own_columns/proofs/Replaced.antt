-- A resolved condition of a domain is resolved as one of a column.
use Rattle.sql_names.specs.NameBytes.{NameBytes}
use Rattle.sql_names.specs.declared.object.Object.{Object}
use Rattle.sql_names.specs.declared.column.Reference.TheVariants as references
use Rattle.sql_tree.specs.declared.expr.Expr.{Expr}
use Rattle.cat_items.specs.Pieces.{AreResolved, IsResolved, expr_pieces}
use Rattle.value_columns.specs.Replaced.{with_column}
use Rattle.resolved_trees.proofs.Everies.{every_from, every_to}
use Rattle.own_columns.proofs.Kept.{expr_kept}

pub resolved_with_column : (table : Object) (column : NameBytes) (condition : Expr) → AreResolved (expr_pieces condition) → AreResolved (expr_pieces (with_column table column condition))
resolved_with_column table column condition resolved =
    every_to IsResolved (expr_pieces (with_column table column condition)) (expr_kept (references.Own table column) tt condition (every_from IsResolved (expr_pieces condition) resolved))
