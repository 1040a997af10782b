-- What the rules of types give is a type: the numbers of each are in their ranges.
use Rattle.std.proofs.Common.{◌≡◌, ℕ, ◌+◌, ◌-◌, ◌<◌, ◌≤◌, Bool, true, false, List, [], ◌∷◌, ◌++◌, length, Option, Some, None, refl, ap, subst, inl, inr, length-append, arith}
use Rattle.std.specs.Prelude.{◌==◌, ◌&&◌, if◌then◌else◌, min, max, nat_le, option_and_then}
use Rattle.std.proofs.Math.Nat.{le-max_left, le-min, max-le, min-le_left, min-le_right}
use Rattle.std.proofs.lemmas.Bool.{eqb-true}
use Rattle.std.proofs.lemmas.List.Elements.{All-head}
use Rattle.sql_names.specs.declared.sort.SqlType.{SqlType}
use Rattle.sql_names.specs.declared.sort.SqlType.TheVariants as sorts
use Rattle.sql_names.specs.declared.sort.Special.{Special}
use Rattle.sql_names.specs.declared.sort.Special.TheVariants.{CurrentUser, CurrentDate, CurrentTime, CurrentTimestamp}
use Rattle.sql_tree.specs.declared.expr.Additive.{Additive}
use Rattle.sql_tree.specs.declared.expr.Additive.TheVariants as additives
use Rattle.sql_tree.specs.declared.expr.Aggregate.{Aggregate}
use Rattle.sql_tree.specs.declared.expr.Aggregate.TheVariants as aggregates
use Rattle.type_rules.specs.Rules.{additive, aggregate, arithmetic, cast, concatenation, decimal_type, fraction, is_integer, is_number, is_text, joined, joined_columns, joined_others, joined_pairs, length_of, literal_type, negative, number_type, scale_of, special_type, total, value_from, whole_type, wider}
use Rattle.cat_items.specs.Pieces.{IsDigit, IsLength, IsNumber, IsType}
use Rattle.resolved_trees.proofs.Everies.{Every, every_append}

-- ---- values that are there

-- where there is a value it is so
abbrev pub Holds : {A : Type 0} → (A → Type 0) → Option A → Type 0
Holds P None = Unit {0}
Holds P (Some x) = P x

abbrev pub HasType : Option SqlType → Type 0
HasType o = Holds IsType o

abbrev pub AllHaveTypes : Option (List SqlType) → Type 0
AllHaveTypes o = Holds (Every IsType) o

pub holds_then : {A B : Type 0} (P : A → Type 0) (Q : B → Type 0) (f : A → Option B) (o : Option A) → Holds P o → ((x : A) → P x → Holds Q (f x)) → Holds Q (option_and_then f o)
holds_then P Q f None h step = tt
holds_then P Q f (Some x) h step = step x h

pub type_if : (b : Bool) (x y : SqlType) → IsType x → IsType y → IsType (if b then x else y)
type_if true x y p q = p
type_if false x y p q = q

pub has_type_if : (b : Bool) (x y : Option SqlType) → (b ≡ true → HasType x) → HasType y → HasType (if b then x else y)
has_type_if true x y p q = p refl
has_type_if false x y p q = q

pub some_if : (b : Bool) (x : SqlType) → IsType x → HasType (if b then Some x else None)
some_if b x p = has_type_if b (Some x) None (λ e. p) tt

and_left : (a b : Bool) → (a && b) ≡ true → a ≡ true
and_left true b e = refl
and_left false b e = e

and_right : (a b : Bool) → (a && b) ≡ true → b ≡ true
and_right true b e = e
and_right false b e = absurd (let odd : false ≡ true = e in cc)

-- ---- literals and numbers

pub literal_typed : (text : List ℕ) → IsType (literal_type text)
literal_typed text = (le-min (omega arith) (le-max_left 1 (length text)), min-le_left 1000000 (max 1 (length text)))

pub special_typed : (x : Special) → IsType (special_type x)
special_typed CurrentUser = (omega arith, omega arith)
special_typed CurrentDate = tt
special_typed CurrentTime = omega arith
special_typed CurrentTimestamp = omega arith

-- a number of 38 digits
thirty_eight : (scale : ℕ) → scale ≤ 38 → IsType (sorts.Numeric 38 scale)
thirty_eight scale h = (omega arith, omega arith, h)

whole_typed : (n : ℕ) → IsType (whole_type n)
whole_typed n = type_if (nat_le n 2147483647) sorts.Integer _ tt (type_if (nat_le n 9223372036854775807) sorts.Bigint (sorts.Numeric 38 0) tt (thirty_eight 0 (omega arith)))

-- what stands behind a point is shorter
fraction_shorter : (text bytes : List ℕ) → fraction text ≡ Some bytes → length bytes < length text
fraction_shorter [] bytes e = absurd (let odd : None ≡ Some bytes = e in cc)
fraction_shorter (b ∷ rest) bytes e = by (b == 46) e (fraction_shorter rest bytes)
  where
    by : (x : Bool) → (if x then Some rest else fraction rest) ≡ Some bytes → (fraction rest ≡ Some bytes → length bytes < length rest) → length bytes < length (b ∷ rest)
    by true f later = let same : rest ≡ bytes = (let is : Some rest ≡ Some bytes = f in cc) in subst (λ l. length l < length (b ∷ rest)) same (omega arith)
    by false f later = omega (arith, later f)

-- a point alone is no number
one_byte : (a : ℕ) → IsNumber (a ∷ []) → (a == 46) ≡ true → ⊥
one_byte a (inl whole) e = omega (arith, (All-head IsDigit a [] whole.digits).0, eqb-true a 46 e)
one_byte a (inr parts) e = omega (arith, parts.before, parts.after, ap length parts.parts, length-append parts.whole (46 ∷ parts.fraction))

two_long : (text bytes : List ℕ) → fraction text ≡ Some bytes → IsNumber text → 2 ≤ length text
two_long [] bytes e n = absurd (let odd : None ≡ Some bytes = e in cc)
two_long (a ∷ []) bytes e n = by (a == 46) refl e
  where
    by : (x : Bool) → (a == 46) ≡ x → (if x then Some [] else None) ≡ Some bytes → 2 ≤ length (a ∷ [])
    by true is f = absurd (one_byte a n is)
    by false is f = absurd (let odd : None ≡ Some bytes = f in cc)
two_long (a ∷ b ∷ rest) bytes e n = omega arith

decimal_typed : (text : List ℕ) (value : ℕ) (o : Option (List ℕ)) → fraction text ≡ o → IsNumber text → IsType (decimal_type (length text) o value)
decimal_typed text value None e n = whole_typed value
decimal_typed text value (Some bytes) e n =
    let long = two_long text bytes e n in
    let short = fraction_shorter text bytes e in (
      le-min (omega arith) (omega (arith, long)),
      min-le_left 38 (length text - 1),
      le-min (min-le_left 38 (length bytes)) (omega (arith, min-le_right 38 (length bytes), long, short)),
    )

pub number_typed : (text : List ℕ) → IsNumber text → IsType (number_type text)
unfolding number_type
number_typed text n = decimal_typed text (value_from 0 text) (fraction text) refl n

-- ---- numbers and texts that are put together

wider_typed : (a b : SqlType) → IsType a → IsType b → IsType (wider a b)
wider_typed sorts.Bigint b p q = tt
wider_typed sorts.Integer sorts.Bigint p q = tt
wider_typed sorts.Integer b p q = tt
wider_typed a b p q = q

scale_few : (a : SqlType) → IsType a → scale_of a ≤ 38
scale_few (sorts.Numeric precision scale) h = omega (arith, h.1, h.2)
scale_few (sorts.Decimal precision scale) h = omega (arith, h.1, h.2)
scale_few a h = omega arith

pub arithmetic_typed : (a b : SqlType) → IsType a → IsType b → HasType (arithmetic a b)
arithmetic_typed a b p q =
    has_type_if (is_integer a && is_integer b) (Some (wider a b)) _ (λ e. wider_typed a b p q)
    (some_if (is_number a && is_number b) (sorts.Numeric 38 (max (scale_of a) (scale_of b))) (thirty_eight _ (max-le (scale_few a p) (scale_few b q))))

text_length : (a : SqlType) → is_text a ≡ true → IsType a → IsLength (length_of a)
text_length (sorts.Character n) e h = h
text_length (sorts.CharacterVarying n) e h = h
text_length a e h = absurd (let odd : false ≡ true = e in cc)

concatenation_typed : (a b : SqlType) → IsType a → IsType b → HasType (concatenation a b)
concatenation_typed a b p q =
    has_type_if (is_text a && is_text b) (Some (sorts.CharacterVarying (min 1000000 (length_of a + length_of b)))) None
    (λ e. (le-min (omega arith) (omega (arith, (text_length a (and_left (is_text a) (is_text b) e) p).0)), min-le_left 1000000 (length_of a + length_of b))) tt

pub additive_typed : (by : Additive) (a b : SqlType) → IsType a → IsType b → HasType (additive by a b)
additive_typed additives.Concatenation a b p q = concatenation_typed a b p q
additive_typed by a b p q = arithmetic_typed a b p q

pub negative_typed : (minus : Bool) (a : SqlType) → IsType a → HasType (negative minus a)
negative_typed false a p = p
negative_typed true a p = some_if (is_number a) a p

-- ---- joined types

greater_length : (m n : ℕ) → IsLength m → IsLength n → IsLength (max m n)
greater_length m n p q = (omega (arith, p.0, le-max_left m n), max-le p.1 q.1)

joined_others_typed : (a b : SqlType) → IsType a → IsType b → HasType (joined_others a b)
joined_others_typed a b p q =
    has_type_if (is_text a && is_text b) (Some (sorts.CharacterVarying (max (length_of a) (length_of b)))) (arithmetic a b)
    (λ e. greater_length (length_of a) (length_of b) (text_length a (and_left (is_text a) (is_text b) e) p) (text_length b (and_right (is_text a) (is_text b) e) q)) (arithmetic_typed a b p q)

pub joined_typed : (a b : SqlType) → IsType a → IsType b → HasType (joined a b)
joined_typed (sorts.Character m) (sorts.Character n) p q = type_if (m == n) (sorts.Character m) (sorts.CharacterVarying (max m n)) p (greater_length m n p q)
joined_typed (sorts.Numeric x s) (sorts.Numeric y t) p q =
    type_if ((x == y) && (s == t)) (sorts.Numeric x s) (sorts.Numeric 38 (max s t)) p (thirty_eight (max s t) (max-le (scale_few (sorts.Numeric x s) p) (scale_few (sorts.Numeric y t) q)))
joined_typed (sorts.Decimal x s) (sorts.Decimal y t) p q =
    type_if ((x == y) && (s == t)) (sorts.Decimal x s) (sorts.Numeric 38 (max s t)) p (thirty_eight (max s t) (max-le (scale_few (sorts.Decimal x s) p) (scale_few (sorts.Decimal y t) q)))
joined_typed sorts.Boolean sorts.Boolean p q = tt
joined_typed sorts.Date sorts.Date p q = tt
joined_typed (sorts.Time m) (sorts.Time n) p q = max-le p q
joined_typed (sorts.Timestamp m) (sorts.Timestamp n) p q = max-le p q
joined_typed a b p q = joined_others_typed a b p q

joined_pairs_typed : (before as' bs : List SqlType) → Every IsType before → Every IsType as' → Every IsType bs → AllHaveTypes (joined_pairs before as' bs)
joined_pairs_typed before (a ∷ as') (b ∷ bs) h p q =
    holds_then IsType (Every IsType) (λ c. joined_pairs (before ++ c ∷ []) as' bs) (joined a b) (joined_typed a b p.0 q.0)
    (λ c t. joined_pairs_typed (before ++ c ∷ []) as' bs (every_append IsType before (c ∷ []) h (t, tt)) p.1 q.1)
joined_pairs_typed before as' bs h p q = h

pub joined_columns_typed : (as' bs : List SqlType) → Every IsType as' → Every IsType bs → AllHaveTypes (joined_columns as' bs)
unfolding joined_columns
joined_columns_typed as' bs p q = by (length as' == length bs)
  where
    by : (x : Bool) → AllHaveTypes (if x then joined_pairs [] as' bs else None)
    by true = joined_pairs_typed [] as' bs tt p q
    by false = tt

-- ---- CAST and aggregates

pub cast_typed : (a sort : SqlType) → IsType sort → HasType (cast a sort)
cast_typed a sort h = some_if _ sort h

total_typed : (a : SqlType) → IsType a → HasType (total a)
total_typed a p = has_type_if (is_integer a) (Some sorts.Bigint) _ (λ e. tt) (some_if (is_number a) (sorts.Numeric 38 (scale_of a)) (thirty_eight (scale_of a) (scale_few a p)))

pub aggregate_typed : (by : Aggregate) (a : SqlType) → IsType a → HasType (aggregate by a)
aggregate_typed aggregates.Count a p = tt
aggregate_typed aggregates.Min a p = p
aggregate_typed aggregates.Max a p = p
aggregate_typed by a p = total_typed a p
