-- CREATE VIEW: its refusals in their order, and what it adds (view definition, SQL:2003 part 2, 11.22).
use Rattle.std.specs.Prelude.{◌≡◌, ◌≢◌, ◌<◌, ◌+◌, ℕ, false, List, [], ◌∷◌, None, Some, Ok, Err, length, slice_get}
use Rattle.sql_names.specs.NameBytes.{NameBytes}
use Rattle.sql_names.specs.declared.object.Object.{Object}
use Rattle.sql_names.specs.declared.sort.SqlType.{SqlType}
use Rattle.sql_tree.specs.declared.expr.Query.{Query}
use Rattle.sql_tree.specs.declared.statement.CreateView.{CreateView}
use Rattle.name_scopes.specs.Outcomes.{Outcome}
use Rattle.query_types.specs.declared.whole.TypedQuery.{TypedQuery}
use Rattle.query_types.specs.Whole.{resolved_query}
use Rattle.cat_items.specs.declared.edit.Edit.{Edit}
use Rattle.cat_items.specs.declared.edit.Refusal.{Refusal}
use Rattle.cat_items.specs.declared.edit.Refusal.TheVariants.{CatalogFull, TypeMismatch}
use Rattle.cat_items.specs.declared.edit.Who.{Who}
use Rattle.cat_items.specs.declared.item.Column.{Column}
use Rattle.cat_items.specs.declared.item.View.{View}
use Rattle.cat_items.specs.declared.item.Item.{Item}
use Rattle.cat_items.specs.declared.item.Item.TheVariants as item
use Rattle.cat_items.specs.declared.need.Need.{Need}
use Rattle.cat_items.specs.Needs.{NeededByQuery}
use Rattle.cat_items.specs.Shape.{HasDerivedFields}
use Rattle.view_deps.specs.Described.{known_of}
use Rattle.view_deps.specs.Views.{column_names, query_scope}
use Rattle.edit_rules.specs.Names.{object_in, table_exists, unknown_schema}
use Rattle.statement_steps.specs.Repeated.{repeated_name}
use Rattle.statement_steps.specs.Resolving.{unresolved_name}
use Rattle.statement_steps.specs.Steps.{MakesEdit, Nothing, Steps, refusals_of, where_it_is}

-- the query by the catalogue: names without a schema are in the session's, also where the view is made in another
abbrev pub query_of : List Item → Who → Query → Outcome TypedQuery
query_of c who query = resolved_query (known_of c) (query_scope who.schema) query

-- the names of the columns: those of the view's list, else those of the query
abbrev pub names_from : List NameBytes → List NameBytes → List NameBytes
names_from [] own = own
names_from (name ∷ names) own = name ∷ names

abbrev pub names_of : List NameBytes → TypedQuery → List NameBytes
names_of names typed = names_from names (column_names typed.query)

-- more columns than there are places
abbrev pub too_many_places : List NameBytes → Refusal → Type 0
too_many_places names = where_it_is (4294967295 < length names) (CatalogFull 4294967295)

-- there are as many columns as names; no name comes twice; and there are places for all
abbrev pub column_refusals : List NameBytes → List SqlType → List (Refusal → Type 0)
column_refusals names sorts = where_it_is (length names ≢ length sorts) TypeMismatch ∷ repeated_name names ∷ too_many_places names ∷ []

-- where all names of the query stand: there is no type, or the columns don't fit
abbrev pub query_refusals : List NameBytes → Outcome TypedQuery → List (Refusal → Type 0)
query_refusals names (Ok typed) = column_refusals (names_of names typed) typed.sorts
query_refusals names (Err error) = where_it_is (Unit {0}) TypeMismatch ∷ []

abbrev pub NeededBy : Outcome TypedQuery → Need → Type 0
NeededBy (Ok typed) need = NeededByQuery typed.query need
NeededBy (Err error) need = ⊥

-- the view, with what follows from its query
pub record IsViewOf (view : Object) (query : Query) (v : View) : Type 0 where
  pub named : v.view ≡ view
  pub query_is : v.query ≡ query
  pub derived : HasDerivedFields (item.View v)

abbrev pub column_of : Object → NameBytes → SqlType → ℕ → Column
column_of view name sort place = record { table = view; place = place; name = name; sort = sort; domain = None; default = None; not_null = false }

-- one of its columns, which have places from 1 in their order
pub record IsColumnMade (view : Object) (names : List NameBytes) (sorts : List SqlType) (x : Column) : Type 0 where
  pub before : ℕ
  pub name : NameBytes
  pub sort : SqlType
  pub name_is : slice_get names before ≡ Some name
  pub sort_is : slice_get sorts before ≡ Some sort
  pub is : x ≡ column_of view name sort (before + 1)

-- the view and its columns
abbrev pub IsPartOfView : Object → List NameBytes → TypedQuery → Item → Type 0
IsPartOfView view names typed (item.View v) = IsViewOf view typed.query v
IsPartOfView view names typed (item.Column x) = IsColumnMade view (names_of names typed) typed.sorts x
IsPartOfView view names typed x = ⊥

abbrev pub IsMade : Object → List NameBytes → Outcome TypedQuery → Item → Type 0
IsMade view names (Ok typed) x = IsPartOfView view names typed x
IsMade view names (Err error) x = ⊥

-- of a view of this name, with this list of names, of which the query comes to this
abbrev pub creating_view : List Item → Object → List NameBytes → Outcome TypedQuery → Steps
creating_view c view names query = record {
  by_tree = repeated_name names ∷ [];
  names = unknown_schema c view.schema ∷ unresolved_name query ∷ [];
  schema = view.schema;
  taken = table_exists c view ∷ [];
  rules = query_refusals names query;
  needs = NeededBy query;
  edit = MakesEdit c Nothing Nothing (IsMade view names query);
}

abbrev pub create_view : List Item → Who → CreateView → Steps
create_view c who s = creating_view c (object_in who.schema s.view) s.columns (query_of c who s.query)

-- its tests in their order
abbrev pub create_view_refusals : List Item → Who → CreateView → List (Refusal → Type 0)
create_view_refusals c who s = refusals_of c who (create_view c who s)

-- its edit
abbrev pub IsViewCreation : List Item → Who → CreateView → Edit → Type 0
IsViewCreation c who s = (create_view c who s).edit
