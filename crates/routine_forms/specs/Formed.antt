-- Bodies as they are written: texts, numbers and types are of their form, and lists that have a member have one. An INSERT may have no column list.
use Rattle.std.specs.Prelude.{◌<◌, List, All, length}
use Rattle.sql_tree.specs.declared.body.Body.{Body}
use Rattle.sql_tree.specs.declared.body.Body.TheVariants as bodies
use Rattle.sql_tree.specs.declared.body.Act.{Act}
use Rattle.sql_tree.specs.declared.body.Act.TheVariants as acts
use Rattle.cat_items.specs.Pieces.{AreFormed, act_pieces, expr_pieces, source_pieces}

abbrev pub IsFormedAct : Act → Type 0
IsFormedAct (acts.Insert table columns source) = AreFormed (source_pieces source)
IsFormedAct act = AreFormed (act_pieces act)

abbrev pub IsFormedBody : Body → Type 0
IsFormedBody (bodies.Return security expr) = AreFormed (expr_pieces expr)
IsFormedBody (bodies.Atomic security all) = (0 < length all) × All IsFormedAct all
