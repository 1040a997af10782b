-- What names of tables and routines stand for.
use Rattle.std.specs.Prelude.{Bool, true, false, if◌then◌else◌, ◌&&◌, List, [], ◌∷◌, Option, Some, None, option_and_then, map, unwrap_or, is_some, bytes_eq}
use Rattle.sql_names.specs.NameBytes.{NameBytes}
use Rattle.sql_names.specs.declared.object.Object.{Object}
use Rattle.sql_names.specs.declared.column.ObjectName.{ObjectName}
use Rattle.sql_names.specs.declared.column.ObjectName.TheVariants as object_names
use Rattle.sql_names.specs.declared.sort.Param.{Param}
use Rattle.sql_names.specs.declared.sort.SqlType.{SqlType}
use Rattle.name_scopes.specs.declared.scope.Signature.{Signature}
use Rattle.name_scopes.specs.declared.scope.Scope.{Scope}

-- what a catalogue says of names
pub record Known : Type 0 where
  -- the columns of a base table or a view, each with its type, in order
  pub columns : Object → Option (List Param)
  pub is_view : Object → Bool
  pub routine : Object → Option Signature

abbrev pub path_of : Object → List NameBytes
path_of o = o.schema ∷ o.name ∷ []

abbrev pub same_object : Object → Object → Bool
same_object a b = bytes_eq a.schema b.schema && bytes_eq a.name b.name

-- the type of the column of this name
abbrev pub column_in : NameBytes → List Param → Option SqlType
column_in c [] = None
column_in c (x ∷ xs) = if bytes_eq x.name c then Some x.sort else column_in c xs

abbrev pub sort_of : Known → Object → NameBytes → Option SqlType
sort_of k t c = option_and_then (column_in c) (k.columns t)

abbrev pub column_names : Known → Object → List NameBytes
column_names k t = map (λ (x : Param). x.name) (unwrap_or (k.columns t) [])

-- a base table, or a view where views may be named
abbrev pub is_table : Known → Bool → Object → Bool
is_table k true t = is_some (k.columns t)
is_table k false t = if k.is_view t then false else is_some (k.columns t)

-- the routine that is being made hides another one of its name
abbrev pub own_routine : Option Signature → Object → Option Signature → Option Signature
own_routine None o other = other
own_routine (Some itself) o other = if same_object itself.routine o then Some itself else other

abbrev pub routine_of : Known → Scope → Object → Option Signature
routine_of k scope o = own_routine scope.itself o (k.routine o)

-- an object name without a schema is in the current one
abbrev pub full : Scope → ObjectName → Object
full scope (object_names.Unqualified n) = record { schema = scope.schema; name = n }
full scope (object_names.Qualified o) = o
