-- The names of a routine's body, in the order in which they are tried.
use Rattle.std.specs.Prelude.{if◌then◌else◌, List, [], ◌∷◌, ◌++◌, Option, Some, None, Ok, Err, is_some}
use Rattle.std.specs.Option.{option_to_list}
use Rattle.sql_names.specs.NameBytes.{NameBytes, PathNames}
use Rattle.sql_names.specs.declared.object.Object.{Object}
use Rattle.sql_names.specs.declared.column.ObjectName.{ObjectName}
use Rattle.sql_names.specs.declared.column.ObjectName.TheVariants.{Qualified}
use Rattle.sql_names.specs.declared.sort.SqlType.{SqlType}
use Rattle.sql_tree.specs.declared.expr.Expr.{Expr}
use Rattle.sql_tree.specs.declared.body.Body.{Body}
use Rattle.sql_tree.specs.declared.body.Body.TheVariants as bodies
use Rattle.sql_tree.specs.declared.body.Act.{Act}
use Rattle.sql_tree.specs.declared.body.Act.TheVariants as acts
use Rattle.sql_tree.specs.declared.body.InsertSource.{InsertSource}
use Rattle.sql_tree.specs.declared.body.InsertSource.TheVariants as sources
use Rattle.sql_tree.specs.declared.body.Assignment.{Assignment}
use Rattle.sql_tree.specs.declared.body.AssignedValue.{AssignedValue}
use Rattle.sql_tree.specs.declared.body.AssignedValue.TheVariants as values
use Rattle.name_scopes.specs.declared.scope.OwnTable.{OwnTable}
use Rattle.name_scopes.specs.declared.scope.Scope.{Scope}
use Rattle.name_scopes.specs.declared.error.ResolveError.TheVariants.{UnknownName}
use Rattle.name_scopes.specs.Known.{Known, column_names, sort_of}
use Rattle.name_scopes.specs.Outcomes.{Outcome, ◌>>=◌}
use Rattle.name_scopes.specs.Single.{table, procedure}
use Rattle.query_names.specs.Names as names

-- parts in order, behind what was found before them
abbrev pub in_order : {A B : Type 0} → (A → Outcome B) → List B → List A → Outcome (List B)
in_order f before [] = Ok before
in_order f before (x ∷ xs) = do
  y ← f x
  in_order f (before ++ y ∷ []) xs

-- the types of the columns of these names
abbrev pub sorts_of : Known → Object → List NameBytes → List SqlType
sorts_of k o [] = []
sorts_of k o (c ∷ cs) = option_to_list (sort_of k o c) ++ sorts_of k o cs

-- the table of an UPDATE or a DELETE
abbrev pub own_table : Known → Object → OwnTable
own_table k o = record { table = o; names = column_names k o; sorts = sorts_of k o (column_names k o) }

-- what they see behind their FROM clauses: the columns of their table, then the parameters
abbrev pub with_own : Known → Object → Scope → Scope
with_own k o scope = record scope { own = Some (own_table k o) }

-- an expression that stands in no query
abbrev pub argument : Known → Scope → Expr → Outcome Expr
argument k scope e = names.expr k scope e []

abbrev pub value : Known → Scope → AssignedValue → Outcome AssignedValue
value k scope values.Null = Ok values.Null
value k scope values.Default = Ok values.Default
value k scope (values.Expr e) = do
  e' ← argument k scope e
  Ok (values.Expr e')

abbrev pub optional : Known → Scope → Option Expr → Outcome (Option Expr)
optional k scope None = Ok None
optional k scope (Some e) = do
  e' ← argument k scope e
  Ok (Some e')

abbrev pub column_path : Object → NameBytes → PathNames
column_path o c = o.schema ∷ o.name ∷ c ∷ []

-- a column after INSERT INTO or SET
abbrev pub target_column : Known → Object → NameBytes → Outcome NameBytes
target_column k o c = if is_some (sort_of k o c) then Ok c else Err (UnknownName (column_path o c))

-- without a list all columns
abbrev pub insert_columns : Known → Object → List NameBytes → Outcome (List NameBytes)
insert_columns k o [] = Ok (column_names k o)
insert_columns k o (c ∷ cs) = in_order (target_column k o) [] (c ∷ cs)

abbrev pub source : Known → Scope → InsertSource → Outcome InsertSource
source k scope (sources.Values vs) = do
  vs' ← in_order (value k scope) [] vs
  Ok (sources.Values vs')
source k scope (sources.Query q) = do
  q' ← names.query k scope q []
  Ok (sources.Query q')

-- a column, then its value
abbrev pub assignment : Known → Scope → Object → Assignment → Outcome Assignment
assignment k scope o a = do
  c ← target_column k o a.column
  v ← value k scope a.value
  Ok (record { column = c; value = v })

abbrev pub inserted : Known → Scope → List NameBytes → InsertSource → Object → Outcome Act
inserted k scope columns src o = do
  cs ← insert_columns k o columns
  src' ← source k scope src
  Ok (acts.Insert (Qualified o) cs src')

abbrev pub updated : Known → Scope → List Assignment → Option Expr → Object → Outcome Act
updated k scope assignments filter o = do
  as' ← in_order (assignment k (with_own k o scope) o) [] assignments
  filter' ← optional k (with_own k o scope) filter
  Ok (acts.Update (Qualified o) as' filter')

abbrev pub deleted : Known → Scope → Option Expr → Object → Outcome Act
deleted k scope filter o = do
  filter' ← optional k (with_own k o scope) filter
  Ok (acts.Delete (Qualified o) filter')

abbrev pub called : Known → Scope → List Expr → ObjectName → Outcome Act
called k scope es f = do
  es' ← in_order (argument k scope) [] es
  Ok (acts.Call f es')

-- the table or the procedure, then what stands behind it in reading order
abbrev pub act : Known → Scope → Act → Outcome Act
act k scope (acts.Insert t columns src) = table k scope t >>= inserted k scope columns src
act k scope (acts.Update t assignments filter) = table k scope t >>= updated k scope assignments filter
act k scope (acts.Delete t filter) = table k scope t >>= deleted k scope filter
act k scope (acts.Call f es) = procedure k scope f >>= called k scope es

abbrev pub body : Known → Scope → Body → Outcome Body
body k scope (bodies.Return security e) = do
  e' ← argument k scope e
  Ok (bodies.Return security e')
body k scope (bodies.Atomic security as') = do
  acts' ← in_order (act k scope) [] as'
  Ok (bodies.Atomic security acts')
