-- What the queries, conditions and bodies of items need (access rules, SQL:2003 part 2).
use Rattle.std.specs.Prelude.{◌≡◌, ◌≢◌, ◌↔◌, List, [], ◌∷◌, ◌++◌, Option, Some, None, map, flat_map}
use Rattle.std.specs.List.{Contains, AllPairs}
use Rattle.std.specs.declared.cmp.Ordering.TheVariants.{Less}
use Rattle.sql_names.specs.NameBytes.{NameBytes}
use Rattle.sql_names.specs.declared.object.Object.{Object}
use Rattle.sql_names.specs.declared.column.ObjectName.{ObjectName}
use Rattle.sql_names.specs.declared.column.ObjectName.TheVariants.{Qualified}
use Rattle.sql_tree.specs.declared.rights.Action.{Action}
use Rattle.sql_tree.specs.declared.rights.Action.TheVariants.{Select, Insert, Update, Delete, References, Execute}
use Rattle.sql_tree.specs.declared.expr.Expr.{Expr}
use Rattle.sql_tree.specs.declared.expr.Query.{Query}
use Rattle.sql_tree.specs.declared.body.Body.{Body}
use Rattle.sql_tree.specs.declared.body.Body.TheVariants as bodies
use Rattle.sql_tree.specs.declared.body.Act.{Act}
use Rattle.sql_tree.specs.declared.body.Act.TheVariants as acts
use Rattle.sql_tree.specs.declared.body.InsertSource.{InsertSource}
use Rattle.sql_tree.specs.declared.body.InsertSource.TheVariants as sources
use Rattle.sql_tree.specs.declared.body.Assignment.{Assignment}
use Rattle.sql_tree.specs.declared.body.AssignedValue.{AssignedValue}
use Rattle.sql_tree.specs.declared.body.AssignedValue.TheVariants as values
use Rattle.cat_items.specs.declared.need.Need.{Need}
use Rattle.cat_items.specs.Order.{need_cmp}
use Rattle.cat_items.specs.Rights.{path_of}
use Rattle.cat_items.specs.Mentions.{Mention, Mentions, of_cell, of_column, of_table, of_routine, expr_mentions, query_mentions}

abbrev pub object_need : Action → Object → Need
object_need action o = record { action = action; on = path_of o; column = None }

abbrev pub column_need : Action → Object → NameBytes → Need
column_need action o name = record { action = action; on = path_of o; column = Some name }

-- what a mention needs where it reads by this action; a column of a FROM that isn't there needs nothing
abbrev pub mention_needs : Action → Mention → List Need
mention_needs reading (of_cell up at name) = []
mention_needs reading (of_column table name) = column_need reading table name ∷ []
mention_needs reading (of_table table) = object_need reading table ∷ []
mention_needs reading (of_routine routine) = object_need Execute routine ∷ []

abbrev pub needs_of_mentions : Action → Mentions → List Need
needs_of_mentions reading mentions = flat_map (mention_needs reading) mentions

abbrev pub needs_on : Action → ObjectName → List Need
needs_on action (Qualified o) = object_need action o ∷ []
needs_on action name = []

abbrev pub needs_on_columns : Action → ObjectName → List NameBytes → List Need
needs_on_columns action (Qualified o) names = map (column_need action o) names
needs_on_columns action name names = []

-- what expressions read
abbrev pub expr_needs : Expr → List Need
expr_needs expr = needs_of_mentions Select (expr_mentions expr)

abbrev pub optional_needs : Option Expr → List Need
optional_needs None = []
optional_needs (Some expr) = expr_needs expr

abbrev pub value_needs : AssignedValue → List Need
value_needs (values.Expr expr) = expr_needs expr
value_needs value = []

abbrev pub source_needs : InsertSource → List Need
source_needs (sources.Values all) = flat_map value_needs all
source_needs (sources.Query query) = needs_of_mentions Select (query_mentions query)

abbrev pub act_needs : Act → List Need
act_needs (acts.Insert table columns source) = needs_on_columns Insert table columns ++ source_needs source
act_needs (acts.Update table assignments filter) = needs_on_columns Update table (map (λ (a : Assignment). a.column) assignments) ++ flat_map (λ (a : Assignment). value_needs a.value) assignments ++ optional_needs filter
act_needs (acts.Delete table filter) = needs_on Delete table ++ optional_needs filter
act_needs (acts.Call routine arguments) = needs_on Execute routine ++ flat_map expr_needs arguments

abbrev pub body_needs : Body → List Need
body_needs (bodies.Return security expr) = expr_needs expr
body_needs (bodies.Atomic security all) = flat_map act_needs all

-- the sorted list of these needs, each once
pub record AreNeeds (needs : List Need) (occurs : Need → Type 0) : Type 0 where
  pub order : AllPairs (λ a b. need_cmp a b ≡ Less) needs
  pub members : (need : Need) → Contains needs need ↔ occurs need

abbrev pub NeededByQuery : Query → Need → Type 0
NeededByQuery query need = Contains (needs_of_mentions Select (query_mentions query)) need

-- a condition of a constraint needs REFERENCES where a query needs SELECT
abbrev pub NeededByCondition : Expr → Need → Type 0
NeededByCondition condition need = Contains (needs_of_mentions References (expr_mentions condition)) need

-- a call of the routine itself isn't a need
abbrev pub NeededByBody : Object → Body → Need → Type 0
NeededByBody itself body need = Contains (body_needs body) need × (need ≢ object_need Execute itself)
