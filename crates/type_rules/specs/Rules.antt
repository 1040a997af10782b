-- Data types of values and operations (SQL:2003 part 2, 6 and 9.3), and classes of types that can be compared and assigned.
use Rattle.std.specs.Prelude.{ℕ, ◌+◌, ◌-◌, ◌*◌, nat_le, ◌==◌, min, max, Bool, true, false, ◌&&◌, ◌||◌, if◌then◌else◌, List, [], ◌∷◌, ◌++◌, length, Option, Some, None, option_and_then}
use Rattle.sql_names.specs.declared.sort.SqlType.{SqlType}
use Rattle.sql_names.specs.declared.sort.SqlType.TheVariants.{Character, CharacterVarying, Numeric, Decimal, Smallint, Integer, Bigint, Boolean, Date, Time, Timestamp}
use Rattle.sql_names.specs.declared.sort.Special.{Special}
use Rattle.sql_names.specs.declared.sort.Special.TheVariants.{CurrentUser, CurrentDate, CurrentTime, CurrentTimestamp}
use Rattle.sql_tree.specs.declared.expr.Additive.{Additive}
use Rattle.sql_tree.specs.declared.expr.Additive.TheVariants as additives
use Rattle.sql_tree.specs.declared.expr.Aggregate.{Aggregate}
use Rattle.sql_tree.specs.declared.expr.Aggregate.TheVariants as aggregates

-- ---- classes

abbrev pub is_number : SqlType → Bool
is_number Smallint = true
is_number Integer = true
is_number Bigint = true
is_number (Numeric precision scale) = true
is_number (Decimal precision scale) = true
is_number sort = false

abbrev pub is_text : SqlType → Bool
is_text (Character length) = true
is_text (CharacterVarying length) = true
is_text sort = false

abbrev pub is_boolean : SqlType → Bool
is_boolean Boolean = true
is_boolean sort = false

abbrev pub is_date : SqlType → Bool
is_date Date = true
is_date sort = false

abbrev pub is_time : SqlType → Bool
is_time (Time precision) = true
is_time sort = false

abbrev pub is_timestamp : SqlType → Bool
is_timestamp (Timestamp precision) = true
is_timestamp sort = false

-- numbers, texts, booleans, dates, times or timestamps
abbrev pub one_class : SqlType → SqlType → Bool
one_class a b = is_number a && is_number b || is_text a && is_text b || is_boolean a && is_boolean b || is_date a && is_date b || is_time a && is_time b || is_timestamp a && is_timestamp b

abbrev pub all_of_class : SqlType → List SqlType → Bool
all_of_class a [] = true
all_of_class a (b ∷ bs) = one_class a b && all_of_class a bs

abbrev pub all_pairs : List SqlType → List SqlType → Bool
all_pairs (a ∷ as') (b ∷ bs) = one_class a b && all_pairs as' bs
all_pairs as' bs = true

-- as many values as columns or parameters, each of its class
unfoldable pub all_fit : List SqlType → List SqlType → Bool
all_fit wanted sorts = (length wanted == length sorts) && all_pairs wanted sorts

-- ---- numbers and texts

abbrev pub is_integer : SqlType → Bool
is_integer Smallint = true
is_integer Integer = true
is_integer Bigint = true
is_integer sort = false

abbrev pub wider : SqlType → SqlType → SqlType
wider Bigint b = Bigint
wider Integer Bigint = Bigint
wider Integer b = Integer
wider a b = b

abbrev pub scale_of : SqlType → ℕ
scale_of (Numeric precision scale) = scale
scale_of (Decimal precision scale) = scale
scale_of sort = 0

abbrev pub arithmetic : SqlType → SqlType → Option SqlType
arithmetic a b =
    if is_integer a && is_integer b then Some (wider a b)
    else if is_number a && is_number b then Some (Numeric 38 (max (scale_of a) (scale_of b))) else None

abbrev pub length_of : SqlType → ℕ
length_of (Character n) = n
length_of (CharacterVarying n) = n
length_of sort = 0

abbrev pub concatenation : SqlType → SqlType → Option SqlType
concatenation a b = if is_text a && is_text b then Some (CharacterVarying (min 1000000 (length_of a + length_of b))) else None

abbrev pub additive : Additive → SqlType → SqlType → Option SqlType
additive additives.Concatenation a b = concatenation a b
additive by a b = arithmetic a b

abbrev pub negative : Bool → SqlType → Option SqlType
negative false a = Some a
negative true a = if is_number a then Some a else None

-- the bytes behind the point, where there is one
abbrev pub fraction : List ℕ → Option (List ℕ)
fraction [] = None
fraction (byte ∷ bytes) = if byte == 46 then Some bytes else fraction bytes

abbrev pub value_from : ℕ → List ℕ → ℕ
value_from n [] = n
value_from n (byte ∷ bytes) = value_from (n * 10 + (byte - 48)) bytes

-- numbers above BIGINT alike
abbrev pub up_to_bigint : ℕ → ℕ
up_to_bigint n = min 9223372036854775808 n

abbrev pub whole_type : ℕ → SqlType
whole_type n = if nat_le n 2147483647 then Integer else if nat_le n 9223372036854775807 then Bigint else Numeric 38 0

abbrev pub decimal_type : ℕ → Option (List ℕ) → ℕ → SqlType
decimal_type size None value = whole_type value
decimal_type size (Some bytes) value = Numeric (min 38 (size - 1)) (min 38 (length bytes))

unfoldable pub number_type : List ℕ → SqlType
number_type text = decimal_type (length text) (fraction text) (value_from 0 text)

-- CHARACTER of its bytes, at least 1
abbrev pub literal_type : List ℕ → SqlType
literal_type text = Character (min 1000000 (max 1 (length text)))

abbrev pub special_type : Special → SqlType
special_type CurrentUser = CharacterVarying 128
special_type CurrentDate = Date
special_type CurrentTime = Time 0
special_type CurrentTimestamp = Timestamp 6

-- ---- joined types

abbrev pub joined_others : SqlType → SqlType → Option SqlType
joined_others a b = if is_text a && is_text b then Some (CharacterVarying (max (length_of a) (length_of b))) else arithmetic a b

abbrev pub joined : SqlType → SqlType → Option SqlType
joined (Character m) (Character n) = Some (if m == n then Character m else CharacterVarying (max m n))
joined (Numeric p s) (Numeric q t) = Some (if p == q && s == t then Numeric p s else Numeric 38 (max s t))
joined (Decimal p s) (Decimal q t) = Some (if p == q && s == t then Decimal p s else Numeric 38 (max s t))
joined Boolean Boolean = Some Boolean
joined Date Date = Some Date
joined (Time m) (Time n) = Some (Time (max m n))
joined (Timestamp m) (Timestamp n) = Some (Timestamp (max m n))
joined a b = joined_others a b

abbrev pub joined_pairs : List SqlType → List SqlType → List SqlType → Option (List SqlType)
joined_pairs before (a ∷ as') (b ∷ bs) = option_and_then (λ c. joined_pairs (before ++ c ∷ []) as' bs) (joined a b)
joined_pairs before as' bs = Some before

-- of queries with equally many columns
unfoldable pub joined_columns : List SqlType → List SqlType → Option (List SqlType)
joined_columns as' bs = if length as' == length bs then joined_pairs [] as' bs else None

-- ---- CAST and aggregates

abbrev pub cast : SqlType → SqlType → Option SqlType
cast a sort = if one_class a sort || is_text a || is_text sort then Some sort else None

-- SUM and AVG
abbrev pub total : SqlType → Option SqlType
total a = if is_integer a then Some Bigint else if is_number a then Some (Numeric 38 (scale_of a)) else None

abbrev pub aggregate : Aggregate → SqlType → Option SqlType
aggregate aggregates.Count a = Some Bigint
aggregate aggregates.Min a = Some a
aggregate aggregates.Max a = Some a
aggregate by a = total a
