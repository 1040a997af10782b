-- Values and rows of schema tables, and their order.
use Rattle.std.specs.Prelude.{ℕ, Bool, true, false, not, List, [], ◌∷◌, ◌++◌, Option, Some, None, codes, map}
use Rattle.std.specs.declared.cmp.Ordering.{Ordering}
use Rattle.std.specs.Ordering.{nat_cmp}
use Rattle.std.specs.Cmp.Lexicographic.{slice_cmp}
use Rattle.sql_names.specs.declared.object.Object.{Object}
use Rattle.sql_names.specs.declared.sort.Default.{Default}
use Rattle.sql_names.specs.declared.sort.SqlType.{SqlType}
use Rattle.sql_names.specs.declared.sort.SqlType.TheVariants as types
use Rattle.sql_tree.specs.declared.expr.Query.{Query}
use Rattle.sql_tree.specs.declared.body.Body.{Body}
use Rattle.sql_tree.specs.declared.table.Matching.{Matching}
use Rattle.sql_tree.specs.declared.table.Matching.TheVariants as matchings
use Rattle.sql_tree.specs.declared.table.Rule.{Rule}
use Rattle.sql_tree.specs.declared.table.Rule.TheVariants as rules
use Rattle.sql_tree.specs.declared.rights.Action.{Action}
use Rattle.sql_spelling.specs.Texts.{T, default_text}
use Rattle.sql_text.specs.Printing.{query_text}
use Rattle.sql_text.specs.Bodies.{body_text}
use Rattle.cat_items.specs.ItemTexts.{action_text}
use Rattle.cat_items.specs.declared.need.Auth.{Auth}
use Rattle.cat_items.specs.declared.need.Auth.TheVariants as auths
use Rattle.cat_items.specs.declared.row.Cell.{Cell}
use Rattle.cat_items.specs.declared.row.Cell.TheVariants.{Null, Number, Words}

abbrev pub Row : Type 0
Row = List Cell

abbrev pub cell_rank : Cell → ℕ
cell_rank Null = 0
cell_rank (Number n) = 1
cell_rank (Words text) = 2

-- null first, numbers by value, texts by bytes
abbrev pub cell_cmp : Cell → Cell → Ordering
cell_cmp (Number a) (Number b) = nat_cmp a b
cell_cmp (Words a) (Words b) = slice_cmp nat_cmp a b
cell_cmp a b = nat_cmp (cell_rank a) (cell_rank b)

-- from left to right
abbrev pub row_cmp : Row → Row → Ordering
row_cmp = slice_cmp cell_cmp

-- ---- values

abbrev pub object_cells : Object → Row
object_cells o = Words o.schema ∷ Words o.name ∷ []

-- the object, or two nulls
abbrev pub optional_object_cells : Option Object → Row
optional_object_cells None = Null ∷ Null ∷ []
optional_object_cells (Some o) = object_cells o

-- the names of a path
abbrev pub path_cells : List (List ℕ) → Row
path_cells names = map Words names

-- a name, where there is one
abbrev pub optional_name_cells : Option (List ℕ) → Row
optional_name_cells None = []
optional_name_cells (Some name) = Words name ∷ []

abbrev pub auth_cell : Auth → Cell
auth_cell auths.System = Words (codes "_SYSTEM")
auth_cell auths.Public = Words (codes "PUBLIC")
auth_cell (auths.Named name) = Words name

abbrev pub yes_cell : Bool → Cell
yes_cell true = Words (codes "YES")
yes_cell false = Words (codes "NO")

abbrev pub default_cell : Option Default → Cell
default_cell None = Null
default_cell (Some d) = Words (default_text d)

abbrev pub query_cell : Option Query → Cell
query_cell None = Null
query_cell (Some q) = Words (query_text q)

abbrev pub body_cell : Option Body → Cell
body_cell None = Null
body_cell (Some b) = Words (body_text b)

-- the name of a type, without its numbers
abbrev pub type_name : SqlType → T
type_name (types.Character length) = codes "CHARACTER"
type_name (types.CharacterVarying length) = codes "CHARACTER VARYING"
type_name (types.Numeric precision scale) = codes "NUMERIC"
type_name (types.Decimal precision scale) = codes "DECIMAL"
type_name types.Smallint = codes "SMALLINT"
type_name types.Integer = codes "INTEGER"
type_name types.Bigint = codes "BIGINT"
type_name types.Boolean = codes "BOOLEAN"
type_name types.Date = codes "DATE"
type_name (types.Time precision) = codes "TIME"
type_name (types.Timestamp precision) = codes "TIMESTAMP"

abbrev pub number_cell : Option ℕ → Cell
number_cell None = Null
number_cell (Some n) = Number n

-- the greatest length of a text
abbrev pub length_of : SqlType → Option ℕ
length_of (types.Character length) = Some length
length_of (types.CharacterVarying length) = Some length
length_of other = None

-- of an exact number, in decimal digits
abbrev pub precision_of : SqlType → Option ℕ
precision_of (types.Numeric precision scale) = Some precision
precision_of (types.Decimal precision scale) = Some precision
precision_of types.Smallint = Some 5
precision_of types.Integer = Some 10
precision_of types.Bigint = Some 19
precision_of other = None

abbrev pub scale_of : SqlType → Option ℕ
scale_of (types.Numeric precision scale) = Some scale
scale_of (types.Decimal precision scale) = Some scale
scale_of types.Smallint = Some 0
scale_of types.Integer = Some 0
scale_of types.Bigint = Some 0
scale_of other = None

-- digits of the seconds of a time
abbrev pub moment_of : SqlType → Option ℕ
moment_of types.Date = Some 0
moment_of (types.Time precision) = Some precision
moment_of (types.Timestamp precision) = Some precision
moment_of other = None

abbrev pub type_numbers : SqlType → Row
type_numbers sort = number_cell (length_of sort) ∷ number_cell (precision_of sort) ∷ number_cell (scale_of sort) ∷ number_cell (moment_of sort) ∷ []

abbrev pub type_cells : SqlType → Row
type_cells sort = Words (type_name sort) ∷ type_numbers sort

abbrev pub matching_cell : Matching → Cell
matching_cell matchings.Simple = Words (codes "SIMPLE")
matching_cell matchings.Full = Words (codes "FULL")
matching_cell matchings.Partial = Words (codes "PARTIAL")

abbrev pub rule_name : Rule → T
rule_name rules.NoAction = codes "NO ACTION"
rule_name rules.Cascade = codes "CASCADE"
rule_name rules.SetNull = codes "SET NULL"
rule_name rules.SetDefault = codes "SET DEFAULT"
rule_name rules.Restrict = codes "RESTRICT"

abbrev pub rule_cell : Rule → Cell
rule_cell rule = Words (rule_name rule)

abbrev pub action_cell : Action → Cell
action_cell action = Words (action_text action)
