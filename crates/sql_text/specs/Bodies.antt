-- How bodies of routines are printed. Whose rights they run with isn't.
use Rattle.std.specs.Prelude.{List, [], ◌∷◌, ◌++◌, Option, codes, map, flat_map, option_map}
use Rattle.sql_spelling.specs.Texts.{T, name_text, object_name_text}
use Rattle.sql_text.specs.Printing.{separated, optional_text, call_text, expr_text, query_text}
use Rattle.sql_tree.specs.declared.body.Body.{Body}
use Rattle.sql_tree.specs.declared.body.Body.TheVariants as bodies
use Rattle.sql_tree.specs.declared.body.Act.{Act}
use Rattle.sql_tree.specs.declared.body.Act.TheVariants as acts
use Rattle.sql_tree.specs.declared.body.InsertSource.{InsertSource}
use Rattle.sql_tree.specs.declared.body.InsertSource.TheVariants as sources
use Rattle.sql_tree.specs.declared.body.Assignment.{Assignment}
use Rattle.sql_tree.specs.declared.body.AssignedValue.{AssignedValue}
use Rattle.sql_tree.specs.declared.body.AssignedValue.TheVariants as values
use Rattle.sql_tree.specs.declared.expr.Expr.{Expr}
use Rattle.sql_names.specs.declared.column.ObjectName.{ObjectName}

abbrev pub value_text : AssignedValue → T
value_text values.Null = codes "NULL"
value_text values.Default = codes "DEFAULT"
value_text (values.Expr expr) = expr_text expr

abbrev pub assignment_text : Assignment → T
assignment_text a = name_text a.column ++ codes " = " ++ value_text a.value

-- " (c, d)", where a list is written
unfoldable pub columns_text : List T → T
columns_text [] = []
columns_text (name ∷ names) = codes " (" ++ separated (codes ", ") (map name_text (name ∷ names)) ++ codes ")"

unfoldable pub source_text : InsertSource → T
source_text (sources.Values all) = codes " VALUES (" ++ separated (codes ", ") (map value_text all) ++ codes ")"
source_text (sources.Query query) = codes " " ++ query_text query

unfoldable pub where_text : Option Expr → T
where_text filter = optional_text (codes " WHERE ") (option_map expr_text filter)

abbrev pub insert_text : ObjectName → List T → InsertSource → T
insert_text table columns source = codes "INSERT INTO " ++ object_name_text table ++ columns_text columns ++ source_text source

abbrev pub update_text : ObjectName → List Assignment → Option Expr → T
update_text table assignments filter =
    codes "UPDATE " ++ object_name_text table ++ codes " SET " ++ separated (codes ", ") (map assignment_text assignments) ++ where_text filter

abbrev pub delete_text : ObjectName → Option Expr → T
delete_text table filter = codes "DELETE FROM " ++ object_name_text table ++ where_text filter

unfoldable pub act_text : Act → T
act_text (acts.Insert table columns source) = insert_text table columns source
act_text (acts.Update table assignments filter) = update_text table assignments filter
act_text (acts.Delete table filter) = delete_text table filter
act_text (acts.Call routine arguments) = codes "CALL " ++ call_text (object_name_text routine) (map expr_text arguments)

unfoldable pub body_text : Body → T
body_text (bodies.Return security expr) = codes "RETURN " ++ expr_text expr
body_text (bodies.Atomic security all) = codes "BEGIN ATOMIC" ++ flat_map (λ act. codes " " ++ act_text act ++ codes ";") all ++ codes " END"
