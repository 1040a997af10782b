-- No query, condition or body needs ADMIN.
use Rattle.std.proofs.Common.{◌≡◌, ◌⊎◌, inl, inr, List, [], ◌∷◌, Option, Some, None, subst}
use Rattle.std.specs.Prelude.{◌≢◌, ◌++◌, ℕ, All, map, flat_map}
use Rattle.std.specs.List.{Contains}
use Rattle.std.proofs.lemmas.List.Elements.{All-contains, All-append, All-map}
use Rattle.finite_chains.proofs.Members.{Contains-nil, Contains-cases, All-from_contains}
use Rattle.sql_names.specs.declared.object.Object.{Object}
use Rattle.sql_names.specs.declared.column.ObjectName.{ObjectName}
use Rattle.sql_names.specs.declared.column.ObjectName.TheVariants.{Unqualified, Qualified}
use Rattle.sql_tree.specs.declared.rights.Action.{Action}
use Rattle.sql_tree.specs.declared.rights.Action.TheVariants as action
use Rattle.sql_tree.specs.declared.expr.Expr.{Expr}
use Rattle.sql_tree.specs.declared.expr.Query.{Query}
use Rattle.sql_tree.specs.declared.body.Body.{Body}
use Rattle.sql_tree.specs.declared.body.Body.TheVariants as bodies
use Rattle.sql_tree.specs.declared.body.Act.{Act}
use Rattle.sql_tree.specs.declared.body.Act.TheVariants as acts
use Rattle.sql_tree.specs.declared.body.InsertSource.{InsertSource}
use Rattle.sql_tree.specs.declared.body.InsertSource.TheVariants as sources
use Rattle.sql_tree.specs.declared.body.Assignment.{Assignment}
use Rattle.sql_tree.specs.declared.body.AssignedValue.{AssignedValue}
use Rattle.sql_tree.specs.declared.body.AssignedValue.TheVariants as values
use Rattle.cat_items.specs.declared.need.Need.{Need}
use Rattle.cat_items.specs.Mentions.{Mention, Mentions, of_cell, of_column, of_table, of_routine, expr_mentions, query_mentions}
use Rattle.cat_items.specs.Needs.{AreNeeds, NeededByQuery, NeededByCondition, NeededByBody, mention_needs, needs_of_mentions, needs_on, needs_on_columns, column_need, expr_needs, optional_needs, value_needs, source_needs, act_needs, body_needs, object_need}

-- it isn't ADMIN on a role
abbrev pub IsOrdinary : Need → Type 0
IsOrdinary need = need.action ≢ action.Admin

pub only : (P : Need → Type 0) (n : Need) → P n → (need : Need) → Contains (n ∷ []) need → P need
only P n p need is = by (Contains-cases n [] need is)
  where
    by : (n ≡ need) ⊎ Contains [] need → P need
    by (inl e) = subst P e p
    by (inr h) = absurd (Contains-nil need h)

none : All IsOrdinary []
none = All-from_contains IsOrdinary [] (λ need is. absurd (Contains-nil need is))

one : (n : Need) → IsOrdinary n → All IsOrdinary (n ∷ [])
one n ordinary = All-from_contains IsOrdinary (n ∷ []) (only IsOrdinary n ordinary)

all_flat : {X : Type 0} (f : X → List Need) → ((x : X) → All IsOrdinary (f x)) → (xs : List X) → All IsOrdinary (flat_map f xs)
all_flat f each [] = none
all_flat f each (x ∷ xs) = All-append IsOrdinary (f x) (flat_map f xs) (each x) (all_flat f each xs)

mention_ordinary : (reading : Action) → (reading ≢ action.Admin) → (m : Mention) → All IsOrdinary (mention_needs reading m)
mention_ordinary reading other (of_cell up at name) = none
mention_ordinary reading other (of_column table name) = one (column_need reading table name) other
mention_ordinary reading other (of_table table) = one (object_need reading table) other
mention_ordinary reading other (of_routine routine) = one (object_need action.Execute routine) (λ e. cc)

mentions_ordinary : (reading : Action) → (reading ≢ action.Admin) → (mentions : Mentions) → All IsOrdinary (needs_of_mentions reading mentions)
mentions_ordinary reading other mentions = all_flat (mention_needs reading) (mention_ordinary reading other) mentions

expr_ordinary : (expr : Expr) → All IsOrdinary (expr_needs expr)
expr_ordinary expr = mentions_ordinary action.Select (λ e. cc) (expr_mentions expr)

optional_ordinary : (expr : Option Expr) → All IsOrdinary (optional_needs expr)
optional_ordinary None = none
optional_ordinary (Some expr) = expr_ordinary expr

value_ordinary : (value : AssignedValue) → All IsOrdinary (value_needs value)
value_ordinary (values.Expr expr) = expr_ordinary expr
value_ordinary _ = none

source_ordinary : (source : InsertSource) → All IsOrdinary (source_needs source)
source_ordinary (sources.Values all) = all_flat value_needs value_ordinary all
source_ordinary (sources.Query query) = mentions_ordinary action.Select (λ e. cc) (query_mentions query)

on_ordinary : (by : Action) → (by ≢ action.Admin) → (name : ObjectName) → All IsOrdinary (needs_on by name)
on_ordinary by other (Qualified o) = one (object_need by o) other
on_ordinary by other (Unqualified name) = none

on_columns_ordinary : (by : Action) → (by ≢ action.Admin) → (name : ObjectName) (columns : List (List ℕ)) → All IsOrdinary (needs_on_columns by name columns)
on_columns_ordinary by other (Qualified o) columns = All-map IsOrdinary (column_need by o) columns (All-from_contains (λ name. IsOrdinary (column_need by o name)) columns (λ name is. other))
on_columns_ordinary by other (Unqualified name) columns = none

act_ordinary : (act : Act) → All IsOrdinary (act_needs act)
act_ordinary (acts.Insert table columns source) = All-append IsOrdinary (needs_on_columns action.Insert table columns) (source_needs source) (on_columns_ordinary action.Insert (λ e. cc) table columns) (source_ordinary source)
act_ordinary (acts.Update table assignments filter) =
    let columns = map (λ (a : Assignment). a.column) assignments in
    let assigned = λ (a : Assignment). value_needs a.value in
    All-append IsOrdinary (needs_on_columns action.Update table columns ++ flat_map assigned assignments) (optional_needs filter)
    (All-append IsOrdinary (needs_on_columns action.Update table columns) (flat_map assigned assignments) (on_columns_ordinary action.Update (λ e. cc) table columns) (all_flat assigned (λ a. value_ordinary a.value) assignments))
    (optional_ordinary filter)
act_ordinary (acts.Delete table filter) = All-append IsOrdinary (needs_on action.Delete table) (optional_needs filter) (on_ordinary action.Delete (λ e. cc) table) (optional_ordinary filter)
act_ordinary (acts.Call routine arguments) = All-append IsOrdinary (needs_on action.Execute routine) (flat_map expr_needs arguments) (on_ordinary action.Execute (λ e. cc) routine) (all_flat expr_needs expr_ordinary arguments)

body_ordinary : (body : Body) → All IsOrdinary (body_needs body)
body_ordinary (bodies.Return security expr) = expr_ordinary expr
body_ordinary (bodies.Atomic security all) = all_flat act_needs act_ordinary all

pub ordinary_of_query : (needs : List Need) (query : Query) → AreNeeds needs (NeededByQuery query) → (need : Need) → Contains needs need → IsOrdinary need
ordinary_of_query needs query are need is = All-contains IsOrdinary (needs_of_mentions action.Select (query_mentions query)) need (mentions_ordinary action.Select (λ e. cc) (query_mentions query)) ((are.members need).0 is)

pub ordinary_of_condition : (needs : List Need) (condition : Expr) → AreNeeds needs (NeededByCondition condition) → (need : Need) → Contains needs need → IsOrdinary need
ordinary_of_condition needs condition are need is =
    All-contains IsOrdinary (needs_of_mentions action.References (expr_mentions condition)) need (mentions_ordinary action.References (λ e. cc) (expr_mentions condition)) ((are.members need).0 is)

pub ordinary_of_body : (needs : List Need) (itself : Object) (body : Body) → AreNeeds needs (NeededByBody itself body) → (need : Need) → Contains needs need → IsOrdinary need
ordinary_of_body needs itself body are need is = All-contains IsOrdinary (body_needs body) need (body_ordinary body) (((are.members need).0 is).0)
