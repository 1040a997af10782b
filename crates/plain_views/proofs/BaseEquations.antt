-- The column that a part of a tree is alone, and the base of a SELECT, one equation for each alternative.
use Rattle.std.proofs.Common.{◌≡◌, ℕ, ◌==◌, List, [], ◌∷◌, Option, None, length, map, refl, arith, rules}
use Rattle.std.specs.Prelude.{if◌then◌else◌, option_map, option_and_then}
use Rattle.sql_tree.specs.declared.expr.SelectItem.{SelectItem}
use Rattle.sql_tree.specs.declared.expr.Arm.{Arm}
use Rattle.sql_tree.specs.declared.expr.Chain.{Chain, out-Chain}
use Rattle.sql_tree.specs.declared.expr.Conjunction.{Conjunction, out-Conjunction}
use Rattle.sql_tree.specs.declared.expr.Expr.{Expr, out-Expr, the_lemmas}
use Rattle.sql_tree.specs.declared.expr.Factor.{Factor, out-Factor}
use Rattle.sql_tree.specs.declared.expr.Negation.{Negation, out-Negation}
use Rattle.sql_tree.specs.declared.expr.Predicate.{Predicate, out-Predicate}
use Rattle.sql_tree.specs.declared.expr.Query.{Query, out-Query}
use Rattle.sql_tree.specs.declared.expr.Select.{Select, out-Select}
use Rattle.sql_tree.specs.declared.expr.Sum.{Sum, out-Sum}
use Rattle.sql_tree.specs.declared.expr.Term.{Term, out-Term}
use Rattle.sql_tree.specs.declared.expr.Operand.TheVariants as operands
use Rattle.sql_tree.specs.declared.expr.SelectItem.TheVariants as items
use Rattle.sql_tree.specs.declared.expr.SelectList.TheVariants as lists
use Rattle.sql_tree.specs.declared.expr.Aggregate.{Aggregate}
use Rattle.sql_names.specs.declared.sort.SqlType.{SqlType}
use Rattle.sql_names.specs.declared.sort.Special.{Special}
use Rattle.sql_names.specs.declared.column.Reference.{Reference}
use Rattle.sql_names.specs.declared.column.ObjectName.{ObjectName}
use Rattle.sql_names.specs.NameBytes.{NameBytes}
use Rattle.cat_items.specs.Plain.{Alone, Base, object_of, optional_simple, only, only_first, only_tested, unless, reference_alone, all_columns, chain_table, base_from, plain_select, only_select, base_of}
use Rattle.plain_views.specs.Bases.{only_member}
use Rattle.plain_views.specs.Alone.{join_base, operand_base, select_item_base, select_list_base, tail_base, added_base, arm_base, chain_base, conjunction_base, expr_base, factor_base, further_base, multiplied_base, negation_base, predicate_base, select_base, sum_base, term_base}

column_first : {X : Type 0} (f : X → Alone) (part : Alone) (xs : List X) → (only_first part (map f xs)).column ≡ (if length xs == 0 then part.column else None)
column_first f part [] = refl
column_first f part (x ∷ xs) = grind arith

chain_first : {X : Type 0} (f : X → Unit {0}) (table : ObjectName) (xs : List X) → chain_table table (map f xs) ≡ (if length xs == 0 then object_of table else None)
chain_first f table [] = refl
chain_first f table (x ∷ xs) = grind arith

select_first : {X : Type 0} (f : X → Unit {0}) (base : Option Base) (xs : List X) → only_select base (map f xs) ≡ (if length xs == 0 then base else None)
select_first f base [] = refl
select_first f base (x ∷ xs) = grind arith

column_only : {X : Type 0} (f : X → Alone) (xs : List X) → (only (map f xs)).column ≡ option_and_then (λ x. (f x).column) (only_member xs)
column_only f [] = refl
column_only f (x ∷ []) = refl
column_only f (x ∷ y ∷ xs) = refl

ruleset firsts = (column_first, chain_first, select_first, column_only)

pub column_Operand_Literal : (text' : List ℕ) → (operand_base (operands.Literal text')).column ≡ None
unfolding join_base operand_base select_item_base select_list_base tail_base added_base arm_base chain_base conjunction_base expr_base factor_base further_base multiplied_base negation_base predicate_base select_base sum_base term_base base_of
column_Operand_Literal text' = search (rules, the_lemmas, firsts)

pub column_Operand_Number : (text' : List ℕ) → (operand_base (operands.Number text')).column ≡ None
unfolding join_base operand_base select_item_base select_list_base tail_base added_base arm_base chain_base conjunction_base expr_base factor_base further_base multiplied_base negation_base predicate_base select_base sum_base term_base base_of
column_Operand_Number text' = search (rules, the_lemmas, firsts)

pub column_Operand_True : (operand_base operands.True).column ≡ None
unfolding join_base operand_base select_item_base select_list_base tail_base added_base arm_base chain_base conjunction_base expr_base factor_base further_base multiplied_base negation_base predicate_base select_base sum_base term_base base_of
column_Operand_True = search (rules, the_lemmas, firsts)

pub column_Operand_False : (operand_base operands.False).column ≡ None
unfolding join_base operand_base select_item_base select_list_base tail_base added_base arm_base chain_base conjunction_base expr_base factor_base further_base multiplied_base negation_base predicate_base select_base sum_base term_base base_of
column_Operand_False = search (rules, the_lemmas, firsts)

pub column_Operand_Special : (special' : Special) → (operand_base (operands.Special special')).column ≡ None
unfolding join_base operand_base select_item_base select_list_base tail_base added_base arm_base chain_base conjunction_base expr_base factor_base further_base multiplied_base negation_base predicate_base select_base sum_base term_base base_of
column_Operand_Special special' = search (rules, the_lemmas, firsts)

pub column_Operand_Value : (operand_base operands.Value).column ≡ None
unfolding join_base operand_base select_item_base select_list_base tail_base added_base arm_base chain_base conjunction_base expr_base factor_base further_base multiplied_base negation_base predicate_base select_base sum_base term_base base_of
column_Operand_Value = search (rules, the_lemmas, firsts)

pub column_Operand_Reference : (r' : Reference) → (operand_base (operands.Reference r')).column ≡ (reference_alone r').column
unfolding join_base operand_base select_item_base select_list_base tail_base added_base arm_base chain_base conjunction_base expr_base factor_base further_base multiplied_base negation_base predicate_base select_base sum_base term_base base_of
column_Operand_Reference r' = search (rules, the_lemmas, firsts)

pub column_Operand_Call : (f' : ObjectName) (es' : List Expr) → (operand_base (operands.Call f' es')).column ≡ None
unfolding join_base operand_base select_item_base select_list_base tail_base added_base arm_base chain_base conjunction_base expr_base factor_base further_base multiplied_base negation_base predicate_base select_base sum_base term_base base_of
column_Operand_Call f' es' = search (rules, the_lemmas, firsts)

pub column_Operand_CountAll : (operand_base operands.CountAll).column ≡ None
unfolding join_base operand_base select_item_base select_list_base tail_base added_base arm_base chain_base conjunction_base expr_base factor_base further_base multiplied_base negation_base predicate_base select_base sum_base term_base base_of
column_Operand_CountAll = search (rules, the_lemmas, firsts)

pub column_Operand_Aggregate : (by' : Aggregate) (e' : Expr) → (operand_base (operands.Aggregate by' e')).column ≡ None
unfolding join_base operand_base select_item_base select_list_base tail_base added_base arm_base chain_base conjunction_base expr_base factor_base further_base multiplied_base negation_base predicate_base select_base sum_base term_base base_of
column_Operand_Aggregate by' e' = search (rules, the_lemmas, firsts)

pub column_Operand_Case : (arms' : List Arm) (e' : Option Expr) → (operand_base (operands.Case arms' e')).column ≡ None
unfolding join_base operand_base select_item_base select_list_base tail_base added_base arm_base chain_base conjunction_base expr_base factor_base further_base multiplied_base negation_base predicate_base select_base sum_base term_base base_of
column_Operand_Case arms' e' = search (rules, the_lemmas, firsts)

pub column_Operand_Cast : (e' : Option Expr) (sort' : SqlType) → (operand_base (operands.Cast e' sort')).column ≡ None
unfolding join_base operand_base select_item_base select_list_base tail_base added_base arm_base chain_base conjunction_base expr_base factor_base further_base multiplied_base negation_base predicate_base select_base sum_base term_base base_of
column_Operand_Cast e' sort' = search (rules, the_lemmas, firsts)

pub column_Operand_Exists : (q' : Query) → (operand_base (operands.Exists q')).column ≡ None
unfolding join_base operand_base select_item_base select_list_base tail_base added_base arm_base chain_base conjunction_base expr_base factor_base further_base multiplied_base negation_base predicate_base select_base sum_base term_base base_of
column_Operand_Exists q' = search (rules, the_lemmas, firsts)

pub column_Operand_Subquery : (q' : Query) → (operand_base (operands.Subquery q')).column ≡ None
unfolding join_base operand_base select_item_base select_list_base tail_base added_base arm_base chain_base conjunction_base expr_base factor_base further_base multiplied_base negation_base predicate_base select_base sum_base term_base base_of
column_Operand_Subquery q' = search (rules, the_lemmas, firsts)

pub column_Operand_Parenthesized : (e' : Expr) → (operand_base (operands.Parenthesized e')).column ≡ None
unfolding join_base operand_base select_item_base select_list_base tail_base added_base arm_base chain_base conjunction_base expr_base factor_base further_base multiplied_base negation_base predicate_base select_base sum_base term_base base_of
column_Operand_Parenthesized e' = search (rules, the_lemmas, firsts)

pub column_Factor : (x : Factor) → (factor_base x).column ≡ (unless (out-Factor x).minus (operand_base (out-Factor x).operand)).column
unfolding join_base operand_base select_item_base select_list_base tail_base added_base arm_base chain_base conjunction_base expr_base factor_base further_base multiplied_base negation_base predicate_base select_base sum_base term_base base_of
column_Factor x = search (rules, the_lemmas, firsts)

pub column_Term : (x : Term) → (term_base x).column ≡ (if length (out-Term x).others == 0 then (factor_base (out-Term x).first).column else None)
unfolding join_base operand_base select_item_base select_list_base tail_base added_base arm_base chain_base conjunction_base expr_base factor_base further_base multiplied_base negation_base predicate_base select_base sum_base term_base base_of
column_Term x = search (rules, the_lemmas, firsts)

pub column_Sum : (x : Sum) → (sum_base x).column ≡ (if length (out-Sum x).others == 0 then (term_base (out-Sum x).first).column else None)
unfolding join_base operand_base select_item_base select_list_base tail_base added_base arm_base chain_base conjunction_base expr_base factor_base further_base multiplied_base negation_base predicate_base select_base sum_base term_base base_of
column_Sum x = search (rules, the_lemmas, firsts)

pub column_Predicate : (x : Predicate) → (predicate_base x).column ≡ (only_tested (sum_base (out-Predicate x).tested) (option_map tail_base (out-Predicate x).tail)).column
unfolding join_base operand_base select_item_base select_list_base tail_base added_base arm_base chain_base conjunction_base expr_base factor_base further_base multiplied_base negation_base predicate_base select_base sum_base term_base base_of
column_Predicate x = search (rules, the_lemmas, firsts)

pub column_Negation : (x : Negation) → (negation_base x).column ≡ (unless (out-Negation x).negated (predicate_base (out-Negation x).predicate)).column
unfolding join_base operand_base select_item_base select_list_base tail_base added_base arm_base chain_base conjunction_base expr_base factor_base further_base multiplied_base negation_base predicate_base select_base sum_base term_base base_of
column_Negation x = search (rules, the_lemmas, firsts)

pub column_Conjunction : (x : Conjunction) → (conjunction_base x).column ≡ option_and_then (λ (n : Negation). (negation_base n).column) (only_member (out-Conjunction x).every)
unfolding join_base operand_base select_item_base select_list_base tail_base added_base arm_base chain_base conjunction_base expr_base factor_base further_base multiplied_base negation_base predicate_base select_base sum_base term_base base_of
column_Conjunction x = search (rules, the_lemmas, firsts)

pub column_Expr : (x : Expr) → (expr_base x).column ≡ option_and_then (λ (c : Conjunction). (conjunction_base c).column) (only_member (out-Expr x).any)
unfolding join_base operand_base select_item_base select_list_base tail_base added_base arm_base chain_base conjunction_base expr_base factor_base further_base multiplied_base negation_base predicate_base select_base sum_base term_base base_of
column_Expr x = search (rules, the_lemmas, firsts)

pub item_Expr : (e : Expr) (name : Option NameBytes) → select_item_base (items.Expr e name) ≡ (expr_base e).column
unfolding join_base operand_base select_item_base select_list_base tail_base added_base arm_base chain_base conjunction_base expr_base factor_base further_base multiplied_base negation_base predicate_base select_base sum_base term_base base_of
item_Expr e name = search (rules, the_lemmas, firsts)

pub item_QualifiedStar : (q : NameBytes) → select_item_base (items.QualifiedStar q) ≡ None
unfolding join_base operand_base select_item_base select_list_base tail_base added_base arm_base chain_base conjunction_base expr_base factor_base further_base multiplied_base negation_base predicate_base select_base sum_base term_base base_of
item_QualifiedStar q = search (rules, the_lemmas, firsts)

pub list_Star : select_list_base lists.Star ≡ None
unfolding join_base operand_base select_item_base select_list_base tail_base added_base arm_base chain_base conjunction_base expr_base factor_base further_base multiplied_base negation_base predicate_base select_base sum_base term_base base_of
list_Star = search (rules, the_lemmas, firsts)

pub list_Listed : (is : List SelectItem) → select_list_base (lists.Listed is) ≡ all_columns (map select_item_base is)
unfolding join_base operand_base select_item_base select_list_base tail_base added_base arm_base chain_base conjunction_base expr_base factor_base further_base multiplied_base negation_base predicate_base select_base sum_base term_base base_of
list_Listed is = search (rules, the_lemmas, firsts)

pub base_Chain : (x : Chain) → chain_base x ≡ (if length (out-Chain x).joins == 0 then object_of (out-Chain x).first.table else None)
unfolding join_base operand_base select_item_base select_list_base tail_base added_base arm_base chain_base conjunction_base expr_base factor_base further_base multiplied_base negation_base predicate_base select_base sum_base term_base base_of
base_Chain x = search (rules, the_lemmas, firsts)

pub base_Select : (x : Select) → select_base x ≡ plain_select (out-Select x).distinct (optional_simple (option_map expr_base (out-Select x).filter)) (out-Select x).group_by (base_from (map chain_base (out-Select x).from) (select_list_base (out-Select x).list))
unfolding join_base operand_base select_item_base select_list_base tail_base added_base arm_base chain_base conjunction_base expr_base factor_base further_base multiplied_base negation_base predicate_base select_base sum_base term_base base_of
base_Select x = search (rules, the_lemmas, firsts)

pub base_Query : (x : Query) → base_of x ≡ (if length (out-Query x).others == 0 then select_base (out-Query x).first else None)
unfolding join_base operand_base select_item_base select_list_base tail_base added_base arm_base chain_base conjunction_base expr_base factor_base further_base multiplied_base negation_base predicate_base select_base sum_base term_base base_of
base_Query x = search (rules, the_lemmas, firsts)

pub ruleset columns = (column_Operand_Literal, column_Operand_Number, column_Operand_True, column_Operand_False, column_Operand_Special, column_Operand_Value, column_Operand_Reference, column_Operand_Call, column_Operand_CountAll, column_Operand_Aggregate, column_Operand_Case, column_Operand_Cast, column_Operand_Exists, column_Operand_Subquery, column_Operand_Parenthesized)

pub ruleset item_bases = (item_Expr, item_QualifiedStar)

pub ruleset list_bases = (list_Star, list_Listed)
