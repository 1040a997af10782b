-- Plain views: one SELECT on one table or view, each item a column of it, none twice.
use Rattle.std.specs.Prelude.{◌≡◌, ◌≢◌, ◌⊎◌, ◌&&◌, zero, Bool, true, false, List, [], ◌∷◌, Option, Some, None}
use Rattle.std.specs.List.{AllPairs, list_all}
use Rattle.sql_names.specs.NameBytes.{NameBytes}
use Rattle.sql_names.specs.declared.object.Object.{Object}
use Rattle.sql_names.specs.declared.column.ObjectName.{ObjectName}
use Rattle.sql_names.specs.declared.column.ObjectName.TheVariants.{Qualified}
use Rattle.sql_names.specs.declared.column.Reference.{Reference}
use Rattle.sql_names.specs.declared.column.Reference.TheVariants as references
use Rattle.sql_tree.specs.declared.expr.Query.{Query, fold-Query}
use Rattle.sql_tree.specs.declared.expr.Join.TheOpen.{Added-F, Arm-F, Chain-F, Conjunction-F, Expr-F, Factor-F, Further-F, Join-F, Multiplied-F, Negation-F, Operand-F, Predicate-F, Query-F, Select-F, SelectItem-F, SelectList-F, Sum-F, Tail-F, Term-F}

-- the column of the first FROM table that a part is alone, and that it is without aggregates and subqueries
pub record Alone : Type 0 where
  pub column : Option NameBytes
  pub simple : Bool

-- the table or view of a plain SELECT, and its columns item by item
pub record Base : Type 0 where
  pub table : Object
  pub columns : List NameBytes

abbrev pub compound : Bool → Alone
compound simple = record { column = None; simple = simple }

abbrev pub all_simple : List Alone → Bool
all_simple parts = list_all (λ (part : Alone). part.simple) parts

abbrev pub optional_simple : Option Alone → Bool
optional_simple None = true
optional_simple (Some part) = part.simple

-- a list of one part is that part
abbrev pub only : List Alone → Alone
only (part ∷ []) = part
only parts = compound (all_simple parts)

abbrev pub only_first : Alone → List Alone → Alone
only_first part [] = part
only_first part others = compound (part.simple && all_simple others)

abbrev pub only_tested : Alone → Option Alone → Alone
only_tested part None = part
only_tested part (Some tail) = compound (part.simple && tail.simple)

abbrev pub unless : Bool → Alone → Alone
unless false part = part
unless true part = compound part.simple

abbrev pub reference_alone : Reference → Alone
reference_alone (references.Cell zero zero qualifier name) = record { column = Some name; simple = true }
reference_alone reference = compound true

abbrev pub object_of : ObjectName → Option Object
object_of (Qualified o) = Some o
object_of name = None

abbrev pub with_column : NameBytes → Option (List NameBytes) → Option (List NameBytes)
with_column name None = None
with_column name (Some names) = Some (name ∷ names)

-- all of them, where each is there
abbrev pub all_columns : List (Option NameBytes) → Option (List NameBytes)
all_columns [] = Some []
all_columns (None ∷ names) = None
all_columns (Some name ∷ names) = with_column name (all_columns names)

abbrev pub chain_table : ObjectName → List (Unit {0}) → Option Object
chain_table table [] = object_of table
chain_table table joins = None

abbrev pub base_from : List (Option Object) → Option (List NameBytes) → Option Base
base_from (Some table ∷ []) (Some columns) = Some (record { table = table; columns = columns })
base_from tables columns = None

abbrev pub plain_select : Bool → Bool → List Reference → Option Base → Option Base
plain_select false true [] base = base
plain_select distinct simple groups base = None

abbrev pub only_select : Option Base → List (Unit {0}) → Option Base
only_select base [] = base
only_select base others = None

abbrev pub join_base_step : Join-F (Unit {0}) Alone (Option NameBytes) (Option (List NameBytes)) Alone Alone Alone (Option Object) Alone Alone Alone (Unit {0}) Alone Alone Alone (Option Base) (Option Base) Alone Alone → Unit {0}
join_base_step join = tt

abbrev pub operand_base_step : Operand-F (Unit {0}) Alone (Option NameBytes) (Option (List NameBytes)) Alone Alone Alone (Option Object) Alone Alone Alone (Unit {0}) Alone Alone Alone (Option Base) (Option Base) Alone Alone → Alone
operand_base_step (Operand-F.Reference reference) = reference_alone reference
operand_base_step (Operand-F.Call routine arguments) = compound (all_simple arguments)
operand_base_step Operand-F.CountAll = compound false
operand_base_step (Operand-F.Aggregate function argument) = compound false
operand_base_step (Operand-F.Case arms otherwise) = compound (all_simple arms && optional_simple otherwise)
operand_base_step (Operand-F.Cast operand sort) = compound (optional_simple operand)
operand_base_step (Operand-F.Exists query) = compound false
operand_base_step (Operand-F.Subquery query) = compound false
operand_base_step (Operand-F.Parenthesized expr) = compound expr.simple
operand_base_step operand = compound true

abbrev pub select_item_base_step : SelectItem-F (Unit {0}) Alone (Option NameBytes) (Option (List NameBytes)) Alone Alone Alone (Option Object) Alone Alone Alone (Unit {0}) Alone Alone Alone (Option Base) (Option Base) Alone Alone → Option NameBytes
select_item_base_step (SelectItem-F.Expr expr name) = expr.column
select_item_base_step (SelectItem-F.QualifiedStar qualifier) = None

abbrev pub select_list_base_step : SelectList-F (Unit {0}) Alone (Option NameBytes) (Option (List NameBytes)) Alone Alone Alone (Option Object) Alone Alone Alone (Unit {0}) Alone Alone Alone (Option Base) (Option Base) Alone Alone → Option (List NameBytes)
select_list_base_step SelectList-F.Star = None
select_list_base_step (SelectList-F.Listed items) = all_columns items

abbrev pub tail_base_step : Tail-F (Unit {0}) Alone (Option NameBytes) (Option (List NameBytes)) Alone Alone Alone (Option Object) Alone Alone Alone (Unit {0}) Alone Alone Alone (Option Base) (Option Base) Alone Alone → Alone
tail_base_step (Tail-F.Compare by with) = compound with.simple
tail_base_step (Tail-F.IsNull negated) = compound true
tail_base_step (Tail-F.Between negated low high) = compound (low.simple && high.simple)
tail_base_step (Tail-F.InQuery negated query) = compound false
tail_base_step (Tail-F.InList negated list) = compound (all_simple list)
tail_base_step (Tail-F.Like negated pattern) = compound pattern.simple

abbrev pub added_base_step : Added-F (Unit {0}) Alone (Option NameBytes) (Option (List NameBytes)) Alone Alone Alone (Option Object) Alone Alone Alone (Unit {0}) Alone Alone Alone (Option Base) (Option Base) Alone Alone → Alone
added_base_step a = compound a.term.simple

abbrev pub arm_base_step : Arm-F (Unit {0}) Alone (Option NameBytes) (Option (List NameBytes)) Alone Alone Alone (Option Object) Alone Alone Alone (Unit {0}) Alone Alone Alone (Option Base) (Option Base) Alone Alone → Alone
arm_base_step a = compound (a.condition.simple && a.value.simple)

abbrev pub chain_base_step : Chain-F (Unit {0}) Alone (Option NameBytes) (Option (List NameBytes)) Alone Alone Alone (Option Object) Alone Alone Alone (Unit {0}) Alone Alone Alone (Option Base) (Option Base) Alone Alone → Option Object
chain_base_step c = chain_table c.first.table c.joins

abbrev pub conjunction_base_step : Conjunction-F (Unit {0}) Alone (Option NameBytes) (Option (List NameBytes)) Alone Alone Alone (Option Object) Alone Alone Alone (Unit {0}) Alone Alone Alone (Option Base) (Option Base) Alone Alone → Alone
conjunction_base_step c = only c.every

abbrev pub expr_base_step : Expr-F (Unit {0}) Alone (Option NameBytes) (Option (List NameBytes)) Alone Alone Alone (Option Object) Alone Alone Alone (Unit {0}) Alone Alone Alone (Option Base) (Option Base) Alone Alone → Alone
expr_base_step e = only e.any

abbrev pub factor_base_step : Factor-F (Unit {0}) Alone (Option NameBytes) (Option (List NameBytes)) Alone Alone Alone (Option Object) Alone Alone Alone (Unit {0}) Alone Alone Alone (Option Base) (Option Base) Alone Alone → Alone
factor_base_step f = unless f.minus f.operand

abbrev pub further_base_step : Further-F (Unit {0}) Alone (Option NameBytes) (Option (List NameBytes)) Alone Alone Alone (Option Object) Alone Alone Alone (Unit {0}) Alone Alone Alone (Option Base) (Option Base) Alone Alone → Unit {0}
further_base_step f = tt

abbrev pub multiplied_base_step : Multiplied-F (Unit {0}) Alone (Option NameBytes) (Option (List NameBytes)) Alone Alone Alone (Option Object) Alone Alone Alone (Unit {0}) Alone Alone Alone (Option Base) (Option Base) Alone Alone → Alone
multiplied_base_step m = compound m.factor.simple

abbrev pub negation_base_step : Negation-F (Unit {0}) Alone (Option NameBytes) (Option (List NameBytes)) Alone Alone Alone (Option Object) Alone Alone Alone (Unit {0}) Alone Alone Alone (Option Base) (Option Base) Alone Alone → Alone
negation_base_step n = unless n.negated n.predicate

abbrev pub predicate_base_step : Predicate-F (Unit {0}) Alone (Option NameBytes) (Option (List NameBytes)) Alone Alone Alone (Option Object) Alone Alone Alone (Unit {0}) Alone Alone Alone (Option Base) (Option Base) Alone Alone → Alone
predicate_base_step p = only_tested p.tested p.tail

abbrev pub query_base_step : Query-F (Unit {0}) Alone (Option NameBytes) (Option (List NameBytes)) Alone Alone Alone (Option Object) Alone Alone Alone (Unit {0}) Alone Alone Alone (Option Base) (Option Base) Alone Alone → Option Base
query_base_step q = only_select q.first q.others

abbrev pub select_base_step : Select-F (Unit {0}) Alone (Option NameBytes) (Option (List NameBytes)) Alone Alone Alone (Option Object) Alone Alone Alone (Unit {0}) Alone Alone Alone (Option Base) (Option Base) Alone Alone → Option Base
select_base_step s = plain_select s.distinct (optional_simple s.filter) s.group_by (base_from s.from s.list)

abbrev pub sum_base_step : Sum-F (Unit {0}) Alone (Option NameBytes) (Option (List NameBytes)) Alone Alone Alone (Option Object) Alone Alone Alone (Unit {0}) Alone Alone Alone (Option Base) (Option Base) Alone Alone → Alone
sum_base_step s = only_first s.first s.others

abbrev pub term_base_step : Term-F (Unit {0}) Alone (Option NameBytes) (Option (List NameBytes)) Alone Alone Alone (Option Object) Alone Alone Alone (Unit {0}) Alone Alone Alone (Option Base) (Option Base) Alone Alone → Alone
term_base_step t = only_first t.first t.others

-- the base and the columns of a query that is plain, but for columns named twice
unfoldable pub base_of : Query → Option Base
base_of = fold-Query (Unit {0}) Alone (Option NameBytes) (Option (List NameBytes)) Alone Alone Alone (Option Object) Alone Alone Alone (Unit {0}) Alone Alone Alone (Option Base) (Option Base) Alone Alone
    join_base_step operand_base_step select_item_base_step select_list_base_step tail_base_step added_base_step arm_base_step chain_base_step conjunction_base_step expr_base_step factor_base_step further_base_step multiplied_base_step negation_base_step predicate_base_step query_base_step select_base_step sum_base_step term_base_step

-- a view's base and its columns of the base: those of a plain query, else none
abbrev pub HasBase : Option Base → Option Object → List NameBytes → Type 0
HasBase None base columns = (base ≡ None) × (columns ≡ [])
HasBase (Some plain) base columns =
    (AllPairs (λ a b. a ≢ b) plain.columns × (base ≡ Some plain.table) × (columns ≡ plain.columns))
    ⊎ ((¬ (AllPairs (λ a b. a ≢ b) plain.columns)) × (base ≡ None) × (columns ≡ []))
