-- Types of parts of a tree, where the types of their own parts are known.
use Rattle.std.specs.Prelude.{ℕ, Bool, true, false, ◌&&◌, if◌then◌else◌, List, [], ◌∷◌, ◌++◌, map, Option, Some, None, option_and_then, bytes_eq}
use Rattle.sql_names.specs.declared.column.ObjectName.{ObjectName}
use Rattle.sql_names.specs.declared.column.Reference.{Reference}
use Rattle.sql_names.specs.declared.column.Reference.TheVariants as references
use Rattle.sql_names.specs.declared.column.TableReference.{TableReference}
use Rattle.sql_names.specs.declared.sort.Param.{Param}
use Rattle.sql_names.specs.declared.sort.SqlType.{SqlType}
use Rattle.sql_names.specs.declared.sort.SqlType.TheVariants.{Boolean}
use Rattle.sql_tree.specs.declared.expr.Additive.{Additive}
use Rattle.name_scopes.specs.declared.scope.OwnTable.{OwnTable}
use Rattle.name_scopes.specs.declared.scope.Signature.{Signature}
use Rattle.name_scopes.specs.declared.scope.Scope.{Scope}
use Rattle.name_scopes.specs.declared.frames.Tab.{Tab}
use Rattle.name_scopes.specs.declared.frames.Frame.{Frame}
use Rattle.sql_names.specs.NameBytes.{NameBytes}
use Rattle.name_scopes.specs.Known.{Known, sort_of, column_in, routine_of, full}
use Rattle.name_scopes.specs.Frames.{Frames, tab_at}
use Rattle.name_scopes.specs.Single.{tab}
use Rattle.type_rules.specs.Rules.{is_boolean, is_text, one_class, all_of_class, all_fit, additive, arithmetic, joined, joined_columns, cast}

-- a part whose type is found among these FROM clauses
abbrev pub Typed : Type 0 → Type 0
Typed A = Frames → Option A

-- a test of what stands before it
abbrev pub Tested : Type 0
Tested = Frames → Option SqlType → Option SqlType

-- a part of a FROM: its tables, and whether its ON conditions are boolean
abbrev pub Part : Type 0
Part = List Tab × (Frames → Bool)

-- the types of parts in order, behind those before them
abbrev pub each : Frames → List SqlType → List (Typed SqlType) → Option (List SqlType)
each s before [] = Some before
each s before (r ∷ rs) = option_and_then (λ t. each s (before ++ t ∷ []) rs) (r s)

abbrev pub boolean : Option SqlType → Bool
boolean None = false
boolean (Some sort) = is_boolean sort

-- a condition that is there is boolean
abbrev pub holds : Option (Typed SqlType) → Frames → Bool
holds None s = true
holds (Some r) s = boolean (r s)

abbrev pub all_hold : List Part → Frames → Bool
all_hold [] s = true
all_hold (p ∷ ps) s = p.1 s && all_hold ps s

abbrev pub tables : List Part → List Tab
tables [] = []
tables (p ∷ ps) = p.0 ++ tables ps

abbrev pub frame : List Tab → Frame
frame ts = record { skip = 0; tables = ts }

-- ---- references and calls

abbrev pub own_sort : NameBytes → List NameBytes → List SqlType → Option SqlType
own_sort c (n ∷ ns) (t ∷ ts) = if bytes_eq n c then Some t else own_sort c ns ts
own_sort c ns ts = None

abbrev pub own : NameBytes → Option OwnTable → Option SqlType
own c None = None
own c (Some t) = own_sort c t.names t.sorts

abbrev pub cell : Known → ℕ → ℕ → NameBytes → Typed SqlType
cell k up at c s = option_and_then (λ (t : Tab). sort_of k t.table c) (tab_at s up at)

abbrev pub reference : Known → Scope → Reference → Typed SqlType
reference k scope (references.Cell up at q c) s = cell k up at c s
reference k scope (references.Own table c) s = own c scope.own
reference k scope (references.Param c) s = column_in c scope.params
reference k scope unresolved s = None

abbrev pub routine : Known → Scope → ObjectName → Option Signature
routine k scope name = routine_of k scope (full scope name)

abbrev pub param_sorts : Signature → List SqlType
param_sorts f = map (λ (p : Param). p.sort) f.params

-- a call with arguments of these types
abbrev pub returned : List SqlType → Option SqlType → Option (List SqlType) → Option SqlType
returned params returns None = None
returned params returns (Some ts) = if all_fit params ts then returns else None

abbrev pub called : Option Signature → Option (List SqlType) → Option SqlType
called None ts = None
called (Some f) ts = returned (param_sorts f) f.returns ts

-- the table of a FROM
abbrev pub tab_of : Known → Scope → TableReference → Tab
tab_of k scope t = tab t (full scope t.table)

-- ---- tests

abbrev pub only_if : Bool → Option SqlType
only_if true = Some Boolean
only_if false = None

abbrev pub tested : Option SqlType → Option SqlType
tested None = None
tested (Some a) = Some Boolean

abbrev pub compared : Option SqlType → Option SqlType → Option SqlType
compared (Some a) (Some b) = only_if (one_class a b)
compared a b = None

abbrev pub between : Option SqlType → Option SqlType → Option SqlType → Option SqlType
between (Some a) (Some b) (Some c) = only_if (one_class a b && one_class a c)
between a b c = None

abbrev pub listed : Option SqlType → Option (List SqlType) → Option SqlType
listed (Some a) (Some bs) = only_if (all_of_class a bs)
listed a bs = None

abbrev pub like : Option SqlType → Option SqlType → Option SqlType
like (Some a) (Some b) = only_if (is_text a && is_text b)
like a b = None

abbrev pub all_boolean : List SqlType → Bool
all_boolean [] = true
all_boolean (a ∷ as') = is_boolean a && all_boolean as'

-- one operand is itself; more of them are boolean
abbrev pub logical : Option (List SqlType) → Option SqlType
logical None = None
logical (Some (a ∷ [])) = Some a
logical (Some as') = only_if (all_boolean as')

abbrev pub unless_negated : Bool → Option SqlType → Option SqlType
unless_negated false a = a
unless_negated true a = only_if (boolean a)

abbrev pub with_tail : Option Tested → Frames → Option SqlType → Option SqlType
with_tail None s a = a
with_tail (Some t) s a = t s a

-- ---- CASE, CAST, subqueries

abbrev pub guarded : Option SqlType → Option SqlType → Option SqlType
guarded condition value = if boolean condition then value else None

abbrev pub joined_all : SqlType → List SqlType → Option SqlType
joined_all a [] = Some a
joined_all a (b ∷ bs) = option_and_then (λ c. joined_all c bs) (joined a b)

abbrev pub case_arms : Option (List SqlType) → Option SqlType
case_arms None = None
case_arms (Some []) = None
case_arms (Some (a ∷ as')) = joined_all a as'

abbrev pub with_else : Option SqlType → Option SqlType → Option SqlType
with_else (Some a) (Some b) = joined a b
with_else a b = None

abbrev pub case_type : Option (List SqlType) → Option (Typed SqlType) → Frames → Option SqlType
case_type arms None s = case_arms arms
case_type arms (Some r) s = with_else (case_arms arms) (r s)

abbrev pub cast_type : Option (Typed SqlType) → SqlType → Typed SqlType
cast_type None sort s = Some sort
cast_type (Some r) sort s = option_and_then (λ a. cast a sort) (r s)

abbrev pub there : Option (List SqlType) → Option SqlType
there None = None
there (Some ts) = Some Boolean

abbrev pub single : Option (List SqlType) → Option SqlType
single (Some (t ∷ [])) = Some t
single ts = None

-- ---- sums, products and queries, from left to right

abbrev pub added_to : Additive → Option SqlType → Option SqlType → Option SqlType
added_to by (Some a) (Some b) = additive by a b
added_to by a b = None

abbrev pub sum_of : Frames → Option SqlType → List (Additive × Typed SqlType) → Option SqlType
sum_of s a [] = a
sum_of s a (b ∷ bs) = sum_of s (added_to b.0 a (b.1 s)) bs

abbrev pub multiplied_by : Option SqlType → Option SqlType → Option SqlType
multiplied_by (Some a) (Some b) = arithmetic a b
multiplied_by a b = None

abbrev pub product_of : Frames → Option SqlType → List (Typed SqlType) → Option SqlType
product_of s a [] = a
product_of s a (b ∷ bs) = product_of s (multiplied_by a (b s)) bs

abbrev pub united : Frames → List (Typed (List SqlType)) → List SqlType → Option (List SqlType)
united s [] as' = Some as'
united s (r ∷ rs) as' = option_and_then (λ bs. option_and_then (λ cs. united s rs cs) (joined_columns as' bs)) (r s)

abbrev pub selected_where : Bool → Bool → Option (List SqlType) → Option (List SqlType)
selected_where true true ts = ts
selected_where from filter ts = None
