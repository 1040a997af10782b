-- How names, types, defaults and values are printed.
use Rattle.std.specs.Prelude.{ℕ, Bool, false, ◌&&◌, ◌||◌, not, List, [], ◌∷◌, ◌++◌, Option, Some, None, codes, decimal, if◌then◌else◌, ◌==◌, flat_map}
use Rattle.std.specs.List.{list_all}
use Rattle.std.specs.Char.{is_ascii_uppercase, is_ascii_digit}
use Rattle.sql_spelling.specs.Keywords.{is_reserved_word}
use Rattle.sql_names.specs.declared.object.Object.{Object}
use Rattle.sql_names.specs.declared.column.ObjectName.{ObjectName}
use Rattle.sql_names.specs.declared.column.ObjectName.TheVariants as object_names
use Rattle.sql_names.specs.declared.column.Reference.{Reference}
use Rattle.sql_names.specs.declared.column.Reference.TheVariants as references
use Rattle.sql_names.specs.declared.column.TableReference.{TableReference}
use Rattle.sql_names.specs.declared.sort.SqlType.{SqlType}
use Rattle.sql_names.specs.declared.sort.SqlType.TheVariants as types
use Rattle.sql_names.specs.declared.sort.Special.{Special}
use Rattle.sql_names.specs.declared.sort.Special.TheVariants as specials
use Rattle.sql_names.specs.declared.sort.Default.{Default}
use Rattle.sql_names.specs.declared.sort.Default.TheVariants as defaults

abbrev pub T : Type 0
T = List ℕ

-- between two of the quotes, with each quote inside doubled
unfoldable pub quoted : ℕ → T → T
quoted quote bytes = quote ∷ flat_map (λ byte. if byte == quote then quote ∷ quote ∷ [] else byte ∷ []) bytes ++ quote ∷ []

-- a byte that may follow the first letter of a name without quotes
abbrev pub continues : ℕ → Bool
continues byte = is_ascii_uppercase byte || is_ascii_digit byte || byte == 95

-- whether a name stands without quotes: an upper-case letter, then upper-case letters, digits and _, and no reserved word
unfoldable pub is_bare : T → Bool
is_bare [] = false
is_bare (byte ∷ bytes) = is_ascii_uppercase byte && list_all continues bytes && not (is_reserved_word (byte ∷ bytes))

unfoldable pub name_text : T → T
name_text name = if is_bare name then name else quoted 34 name

unfoldable pub literal_text : T → T
literal_text text = quoted 39 text

-- "schema.name"
abbrev pub object_text : Object → T
object_text o = name_text o.schema ++ codes "." ++ name_text o.name

-- a name without a schema stays as it is written
abbrev pub object_name_text : ObjectName → T
object_name_text (object_names.Unqualified name) = name_text name
object_name_text (object_names.Qualified object) = object_text object

-- a column of a FROM is "q.c", an own column "S.T.c", a parameter its name; the first two are as they are written
abbrev pub reference_text : Reference → T
reference_text (references.Unqualified name) = name_text name
reference_text (references.Qualified qualifier name) = name_text qualifier ++ codes "." ++ name_text name
reference_text (references.Cell up at qualifier name) = name_text qualifier ++ codes "." ++ name_text name
reference_text (references.Own table name) = object_text table ++ codes "." ++ name_text name
reference_text (references.Param name) = name_text name

-- " AS name", where there is one
abbrev pub alias_text : Option T → T
alias_text None = []
alias_text (Some name) = codes " AS " ++ name_text name

-- "S.T AS q"
abbrev pub table_text : TableReference → T
table_text t = object_name_text t.table ++ alias_text t.correlation

abbrev pub length_text : T → ℕ → T
length_text word number = word ++ codes "(" ++ decimal number ++ codes ")"

abbrev pub scale_text : T → ℕ → ℕ → T
scale_text word precision scale = word ++ codes "(" ++ decimal precision ++ codes ", " ++ decimal scale ++ codes ")"

-- a type with all its numbers
abbrev pub type_text : SqlType → T
type_text (types.Character length) = length_text (codes "CHARACTER") length
type_text (types.CharacterVarying length) = length_text (codes "CHARACTER VARYING") length
type_text (types.Numeric precision scale) = scale_text (codes "NUMERIC") precision scale
type_text (types.Decimal precision scale) = scale_text (codes "DECIMAL") precision scale
type_text types.Smallint = codes "SMALLINT"
type_text types.Integer = codes "INTEGER"
type_text types.Bigint = codes "BIGINT"
type_text types.Boolean = codes "BOOLEAN"
type_text types.Date = codes "DATE"
type_text (types.Time precision) = length_text (codes "TIME") precision
type_text (types.Timestamp precision) = length_text (codes "TIMESTAMP") precision

abbrev pub special_text : Special → T
special_text specials.CurrentUser = codes "CURRENT_USER"
special_text specials.CurrentDate = codes "CURRENT_DATE"
special_text specials.CurrentTime = codes "CURRENT_TIME"
special_text specials.CurrentTimestamp = codes "CURRENT_TIMESTAMP"

-- a minus is a word of its own
abbrev pub minus_text : Bool → T
minus_text minus = if minus then codes "- " else []

abbrev pub default_text : Default → T
default_text (defaults.Literal text) = literal_text text
default_text (defaults.Number minus text) = minus_text minus ++ text
default_text defaults.True = codes "TRUE"
default_text defaults.False = codes "FALSE"
default_text defaults.Null = codes "NULL"
default_text (defaults.Special special) = special_text special
