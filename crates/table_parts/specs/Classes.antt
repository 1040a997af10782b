-- Classes of types: values of one class can be compared and assigned.
use Rattle.std.specs.Prelude.{◌≡◌, ◌≢◌, Option, None, Some}
use Rattle.sql_names.specs.declared.sort.SqlType.{SqlType}
use Rattle.sql_names.specs.declared.sort.SqlType.TheVariants as sorts
use Rattle.sql_names.specs.declared.sort.Default.{Default}
use Rattle.sql_names.specs.declared.sort.Default.TheVariants as defaults
use Rattle.sql_names.specs.declared.sort.Special.{Special}
use Rattle.sql_names.specs.declared.sort.Special.TheVariants as specials
use Rattle.table_parts.specs.declared.classes.Class.{Class}
use Rattle.table_parts.specs.declared.classes.Class.TheVariants.{Number, Text, Boolean, Date, Time, Timestamp}

abbrev pub class_of : SqlType → Class
class_of (sorts.Character length) = Text
class_of (sorts.CharacterVarying length) = Text
class_of (sorts.Numeric precision scale) = Number
class_of (sorts.Decimal precision scale) = Number
class_of sorts.Smallint = Number
class_of sorts.Integer = Number
class_of sorts.Bigint = Number
class_of sorts.Boolean = Boolean
class_of sorts.Date = Date
class_of (sorts.Time precision) = Time
class_of (sorts.Timestamp precision) = Timestamp

abbrev pub special_class : Special → Class
special_class specials.CurrentUser = Text
special_class specials.CurrentDate = Date
special_class specials.CurrentTime = Time
special_class specials.CurrentTimestamp = Timestamp

-- the class of a default; NULL has none, and fits each type
abbrev pub default_class : Default → Option Class
default_class (defaults.Literal text) = Some Text
default_class (defaults.Number minus text) = Some Number
default_class defaults.True = Some Boolean
default_class defaults.False = Some Boolean
default_class defaults.Null = None
default_class (defaults.Special special) = Some (special_class special)

abbrev pub class_in : Option Default → Option Class
class_in None = None
class_in (Some default) = default_class default

-- a default of another class than this type
abbrev pub IsMisfit : Option Default → SqlType → Type 0
IsMisfit default sort = (class : Class) × (class_in default ≡ Some class) × (class ≢ class_of sort)
