-- The names of a tree that is seen layer by layer, one equation for each alternative.
use Rattle.std.proofs.Common.{◌≡◌, ℕ, Bool, List, [], ◌∷◌, Option, Ok, map, rules}
use Rattle.std.specs.Prelude.{option_map}
use Rattle.sql_tree.specs.declared.expr.Join.{Join, roll-Join}
use Rattle.sql_tree.specs.declared.expr.Join.TheVariants as joins
use Rattle.sql_tree.specs.declared.expr.Operand.{Operand, roll-Operand}
use Rattle.sql_tree.specs.declared.expr.Operand.TheVariants as operands
use Rattle.sql_tree.specs.declared.expr.SelectItem.{SelectItem, roll-SelectItem}
use Rattle.sql_tree.specs.declared.expr.SelectList.{SelectList, roll-SelectList}
use Rattle.sql_tree.specs.declared.expr.SelectList.TheVariants as lists
use Rattle.sql_tree.specs.declared.expr.Tail.{Tail, roll-Tail}
use Rattle.sql_tree.specs.declared.expr.Tail.TheVariants as tails
use Rattle.sql_tree.specs.declared.expr.Added.{Added, roll-Added}
use Rattle.sql_tree.specs.declared.expr.Arm.{Arm, roll-Arm}
use Rattle.sql_tree.specs.declared.expr.Chain.{Chain, roll-Chain}
use Rattle.sql_tree.specs.declared.expr.Conjunction.{Conjunction, roll-Conjunction}
use Rattle.sql_tree.specs.declared.expr.Expr.{Expr, roll-Expr, the_lemmas}
use Rattle.sql_tree.specs.declared.expr.Factor.{Factor, roll-Factor}
use Rattle.sql_tree.specs.declared.expr.Further.{Further, roll-Further}
use Rattle.sql_tree.specs.declared.expr.Multiplied.{Multiplied, roll-Multiplied}
use Rattle.sql_tree.specs.declared.expr.Negation.{Negation, roll-Negation}
use Rattle.sql_tree.specs.declared.expr.Predicate.{Predicate, roll-Predicate}
use Rattle.sql_tree.specs.declared.expr.Query.{Query, roll-Query}
use Rattle.sql_tree.specs.declared.expr.Select.{Select, roll-Select}
use Rattle.sql_tree.specs.declared.expr.Sum.{Sum, roll-Sum}
use Rattle.sql_tree.specs.declared.expr.Term.{Term, roll-Term}
use Rattle.sql_tree.specs.declared.expr.Join.TheOpen.{Join-F, Operand-F, SelectItem-F, SelectList-F, Tail-F}
use Rattle.sql_tree.specs.declared.expr.Comparison.{Comparison}
use Rattle.sql_tree.specs.declared.expr.Aggregate.{Aggregate}
use Rattle.sql_tree.specs.declared.expr.Additive.{Additive}
use Rattle.sql_tree.specs.declared.expr.Multiplicative.{Multiplicative}
use Rattle.sql_tree.specs.declared.expr.SetOperator.{SetOperator}
use Rattle.sql_names.specs.declared.sort.SqlType.{SqlType}
use Rattle.sql_names.specs.declared.sort.Special.{Special}
use Rattle.sql_names.specs.declared.column.Reference.{Reference}
use Rattle.sql_names.specs.declared.column.ObjectName.{ObjectName}
use Rattle.sql_names.specs.declared.column.TableReference.{TableReference}
use Rattle.sql_names.specs.NameBytes.{NameBytes}
use Rattle.name_scopes.specs.declared.scope.Scope.{Scope}
use Rattle.name_scopes.specs.Known.{Known}
use Rattle.name_scopes.specs.Frames.{Frames, whole, empty}
use Rattle.name_scopes.specs.Outcomes.{◌>>=◌, each, thread, listed, perhaps}
use Rattle.name_scopes.specs.Single.{joined, opened, function, reference, star, table_star, item}
use Rattle.query_names.specs.Names.{selected, join, operand, select_item, select_list, tail, added, arm, chain, conjunction, expr, factor, further, multiplied, negation, predicate, query, select, sum, term}

pub names_Join_Inner : (k : Known) (scope : Scope) (table' : TableReference) (on' : Expr) (s : Frames) → join k scope (roll-Join (Join-F.Inner table' on')) s ≡ (joined k scope table' s >>= λ t. expr k scope on' t.1 >>= λ c. Ok (joins.Inner t.0 c, t.1))
unfolding join operand select_item select_list tail added arm chain conjunction expr factor further multiplied negation predicate query select sum term
names_Join_Inner k scope table' on' s = search (rules, the_lemmas)

pub names_Join_Cross : (k : Known) (scope : Scope) (table' : TableReference) (s : Frames) → join k scope (roll-Join (Join-F.Cross table')) s ≡ (joined k scope table' s >>= λ t. Ok (joins.Cross t.0, t.1))
unfolding join operand select_item select_list tail added arm chain conjunction expr factor further multiplied negation predicate query select sum term
names_Join_Cross k scope table' s = search (rules, the_lemmas)

pub names_Operand_Literal : (k : Known) (scope : Scope) (text' : List ℕ) (s : Frames) → operand k scope (roll-Operand (Operand-F.Literal text')) s ≡ (Ok (operands.Literal text'))
unfolding join operand select_item select_list tail added arm chain conjunction expr factor further multiplied negation predicate query select sum term
names_Operand_Literal k scope text' s = search (rules, the_lemmas)

pub names_Operand_Number : (k : Known) (scope : Scope) (text' : List ℕ) (s : Frames) → operand k scope (roll-Operand (Operand-F.Number text')) s ≡ (Ok (operands.Number text'))
unfolding join operand select_item select_list tail added arm chain conjunction expr factor further multiplied negation predicate query select sum term
names_Operand_Number k scope text' s = search (rules, the_lemmas)

pub names_Operand_True : (k : Known) (scope : Scope) (s : Frames) → operand k scope (roll-Operand Operand-F.True) s ≡ (Ok operands.True)
unfolding join operand select_item select_list tail added arm chain conjunction expr factor further multiplied negation predicate query select sum term
names_Operand_True k scope s = search (rules, the_lemmas)

pub names_Operand_False : (k : Known) (scope : Scope) (s : Frames) → operand k scope (roll-Operand Operand-F.False) s ≡ (Ok operands.False)
unfolding join operand select_item select_list tail added arm chain conjunction expr factor further multiplied negation predicate query select sum term
names_Operand_False k scope s = search (rules, the_lemmas)

pub names_Operand_Special : (k : Known) (scope : Scope) (special' : Special) (s : Frames) → operand k scope (roll-Operand (Operand-F.Special special')) s ≡ (Ok (operands.Special special'))
unfolding join operand select_item select_list tail added arm chain conjunction expr factor further multiplied negation predicate query select sum term
names_Operand_Special k scope special' s = search (rules, the_lemmas)

pub names_Operand_Value : (k : Known) (scope : Scope) (s : Frames) → operand k scope (roll-Operand Operand-F.Value) s ≡ (Ok operands.Value)
unfolding join operand select_item select_list tail added arm chain conjunction expr factor further multiplied negation predicate query select sum term
names_Operand_Value k scope s = search (rules, the_lemmas)

pub names_Operand_Reference : (k : Known) (scope : Scope) (r' : Reference) (s : Frames) → operand k scope (roll-Operand (Operand-F.Reference r')) s ≡ (reference k scope r' s >>= λ x. Ok (operands.Reference x))
unfolding join operand select_item select_list tail added arm chain conjunction expr factor further multiplied negation predicate query select sum term
names_Operand_Reference k scope r' s = search (rules, the_lemmas)

pub names_Operand_Call : (k : Known) (scope : Scope) (f' : ObjectName) (es' : List Expr) (s : Frames) → operand k scope (roll-Operand (Operand-F.Call f' es')) s ≡ (function k scope f' >>= λ x. each s [] (map (expr k scope) es') >>= λ y. Ok (operands.Call x y))
unfolding join operand select_item select_list tail added arm chain conjunction expr factor further multiplied negation predicate query select sum term
names_Operand_Call k scope f' es' s = search (rules, the_lemmas)

pub names_Operand_CountAll : (k : Known) (scope : Scope) (s : Frames) → operand k scope (roll-Operand Operand-F.CountAll) s ≡ (Ok operands.CountAll)
unfolding join operand select_item select_list tail added arm chain conjunction expr factor further multiplied negation predicate query select sum term
names_Operand_CountAll k scope s = search (rules, the_lemmas)

pub names_Operand_Aggregate : (k : Known) (scope : Scope) (by' : Aggregate) (e' : Expr) (s : Frames) → operand k scope (roll-Operand (Operand-F.Aggregate by' e')) s ≡ (expr k scope e' s >>= λ x. Ok (operands.Aggregate by' x))
unfolding join operand select_item select_list tail added arm chain conjunction expr factor further multiplied negation predicate query select sum term
names_Operand_Aggregate k scope by' e' s = search (rules, the_lemmas)

pub names_Operand_Case : (k : Known) (scope : Scope) (arms' : List Arm) (e' : Option Expr) (s : Frames) → operand k scope (roll-Operand (Operand-F.Case arms' e')) s ≡ (each s [] (map (arm k scope) arms') >>= λ x. perhaps (option_map (expr k scope) e') s >>= λ y. Ok (operands.Case x y))
unfolding join operand select_item select_list tail added arm chain conjunction expr factor further multiplied negation predicate query select sum term
names_Operand_Case k scope arms' e' s = search (rules, the_lemmas)

pub names_Operand_Cast : (k : Known) (scope : Scope) (e' : Option Expr) (sort' : SqlType) (s : Frames) → operand k scope (roll-Operand (Operand-F.Cast e' sort')) s ≡ (perhaps (option_map (expr k scope) e') s >>= λ x. Ok (operands.Cast x sort'))
unfolding join operand select_item select_list tail added arm chain conjunction expr factor further multiplied negation predicate query select sum term
names_Operand_Cast k scope e' sort' s = search (rules, the_lemmas)

pub names_Operand_Exists : (k : Known) (scope : Scope) (q' : Query) (s : Frames) → operand k scope (roll-Operand (Operand-F.Exists q')) s ≡ (query k scope q' s >>= λ x. Ok (operands.Exists x))
unfolding join operand select_item select_list tail added arm chain conjunction expr factor further multiplied negation predicate query select sum term
names_Operand_Exists k scope q' s = search (rules, the_lemmas)

pub names_Operand_Subquery : (k : Known) (scope : Scope) (q' : Query) (s : Frames) → operand k scope (roll-Operand (Operand-F.Subquery q')) s ≡ (query k scope q' s >>= λ x. Ok (operands.Subquery x))
unfolding join operand select_item select_list tail added arm chain conjunction expr factor further multiplied negation predicate query select sum term
names_Operand_Subquery k scope q' s = search (rules, the_lemmas)

pub names_Operand_Parenthesized : (k : Known) (scope : Scope) (e' : Expr) (s : Frames) → operand k scope (roll-Operand (Operand-F.Parenthesized e')) s ≡ (expr k scope e' s >>= λ x. Ok (operands.Parenthesized x))
unfolding join operand select_item select_list tail added arm chain conjunction expr factor further multiplied negation predicate query select sum term
names_Operand_Parenthesized k scope e' s = search (rules, the_lemmas)

pub names_SelectItem_Expr : (k : Known) (scope : Scope) (e' : Expr) (name' : Option NameBytes) (s : Frames) (position : ℕ) → select_item k scope (roll-SelectItem (SelectItem-F.Expr e' name')) s position ≡ (expr k scope e' s >>= λ x. Ok (item name' x position ∷ []))
unfolding join operand select_item select_list tail added arm chain conjunction expr factor further multiplied negation predicate query select sum term
names_SelectItem_Expr k scope e' name' s position = search (rules, the_lemmas)

pub names_SelectItem_QualifiedStar : (k : Known) (scope : Scope) (q' : NameBytes) (s : Frames) (position : ℕ) → select_item k scope (roll-SelectItem (SelectItem-F.QualifiedStar q')) s position ≡ (table_star k q' s)
unfolding join operand select_item select_list tail added arm chain conjunction expr factor further multiplied negation predicate query select sum term
names_SelectItem_QualifiedStar k scope q' s position = search (rules, the_lemmas)

pub names_SelectList_Star : (k : Known) (scope : Scope) (s : Frames) → select_list k scope (roll-SelectList SelectList-F.Star) s ≡ (star k s >>= λ x. Ok (lists.Listed x))
unfolding join operand select_item select_list tail added arm chain conjunction expr factor further multiplied negation predicate query select sum term
names_SelectList_Star k scope s = search (rules, the_lemmas)

pub names_SelectList_Listed : (k : Known) (scope : Scope) (is' : List SelectItem) (s : Frames) → select_list k scope (roll-SelectList (SelectList-F.Listed is')) s ≡ (listed s [] (map (select_item k scope) is') >>= λ x. Ok (lists.Listed x))
unfolding join operand select_item select_list tail added arm chain conjunction expr factor further multiplied negation predicate query select sum term
names_SelectList_Listed k scope is' s = search (rules, the_lemmas)

pub names_Tail_Compare : (k : Known) (scope : Scope) (by' : Comparison) (x' : Sum) (s : Frames) → tail k scope (roll-Tail (Tail-F.Compare by' x')) s ≡ (sum k scope x' s >>= λ a. Ok (tails.Compare by' a))
unfolding join operand select_item select_list tail added arm chain conjunction expr factor further multiplied negation predicate query select sum term
names_Tail_Compare k scope by' x' s = search (rules, the_lemmas)

pub names_Tail_IsNull : (k : Known) (scope : Scope) (negated' : Bool) (s : Frames) → tail k scope (roll-Tail (Tail-F.IsNull negated')) s ≡ (Ok (tails.IsNull negated'))
unfolding join operand select_item select_list tail added arm chain conjunction expr factor further multiplied negation predicate query select sum term
names_Tail_IsNull k scope negated' s = search (rules, the_lemmas)

pub names_Tail_Between : (k : Known) (scope : Scope) (negated' : Bool) (x' : Sum) (y' : Sum) (s : Frames) → tail k scope (roll-Tail (Tail-F.Between negated' x' y')) s ≡ (sum k scope x' s >>= λ a. sum k scope y' s >>= λ b. Ok (tails.Between negated' a b))
unfolding join operand select_item select_list tail added arm chain conjunction expr factor further multiplied negation predicate query select sum term
names_Tail_Between k scope negated' x' y' s = search (rules, the_lemmas)

pub names_Tail_InQuery : (k : Known) (scope : Scope) (negated' : Bool) (q' : Query) (s : Frames) → tail k scope (roll-Tail (Tail-F.InQuery negated' q')) s ≡ (query k scope q' s >>= λ a. Ok (tails.InQuery negated' a))
unfolding join operand select_item select_list tail added arm chain conjunction expr factor further multiplied negation predicate query select sum term
names_Tail_InQuery k scope negated' q' s = search (rules, the_lemmas)

pub names_Tail_InList : (k : Known) (scope : Scope) (negated' : Bool) (es' : List Expr) (s : Frames) → tail k scope (roll-Tail (Tail-F.InList negated' es')) s ≡ (each s [] (map (expr k scope) es') >>= λ a. Ok (tails.InList negated' a))
unfolding join operand select_item select_list tail added arm chain conjunction expr factor further multiplied negation predicate query select sum term
names_Tail_InList k scope negated' es' s = search (rules, the_lemmas)

pub names_Tail_Like : (k : Known) (scope : Scope) (negated' : Bool) (x' : Sum) (s : Frames) → tail k scope (roll-Tail (Tail-F.Like negated' x')) s ≡ (sum k scope x' s >>= λ a. Ok (tails.Like negated' a))
unfolding join operand select_item select_list tail added arm chain conjunction expr factor further multiplied negation predicate query select sum term
names_Tail_Like k scope negated' x' s = search (rules, the_lemmas)

pub names_Added : (k : Known) (scope : Scope) (by' : Additive) (term' : Term) (s : Frames) → added k scope (roll-Added (record { by = by'; term = term' })) s ≡ (term k scope term' s >>= λ a. Ok (roll-Added (record { by = by'; term = a })))
unfolding join operand select_item select_list tail added arm chain conjunction expr factor further multiplied negation predicate query select sum term
names_Added k scope by' term' s = search (rules, the_lemmas)

pub names_Arm : (k : Known) (scope : Scope) (condition' : Expr) (value' : Expr) (s : Frames) → arm k scope (roll-Arm (record { condition = condition'; value = value' })) s ≡ (expr k scope condition' s >>= λ a. expr k scope value' s >>= λ b. Ok (roll-Arm (record { condition = a; value = b })))
unfolding join operand select_item select_list tail added arm chain conjunction expr factor further multiplied negation predicate query select sum term
names_Arm k scope condition' value' s = search (rules, the_lemmas)

pub names_Chain : (k : Known) (scope : Scope) (first' : TableReference) (joins' : List Join) (s : Frames) → chain k scope (roll-Chain (record { first = first'; joins = joins' })) s ≡ (opened k scope first' s >>= λ t. thread [] (map (join k scope) joins') t.1 >>= λ js. Ok (roll-Chain (record { first = t.0; joins = js.0 }), js.1))
unfolding join operand select_item select_list tail added arm chain conjunction expr factor further multiplied negation predicate query select sum term
names_Chain k scope first' joins' s = search (rules, the_lemmas)

pub names_Conjunction : (k : Known) (scope : Scope) (every' : List Negation) (s : Frames) → conjunction k scope (roll-Conjunction (record { every = every' })) s ≡ (each s [] (map (negation k scope) every') >>= λ a. Ok (roll-Conjunction (record { every = a })))
unfolding join operand select_item select_list tail added arm chain conjunction expr factor further multiplied negation predicate query select sum term
names_Conjunction k scope every' s = search (rules, the_lemmas)

pub names_Expr : (k : Known) (scope : Scope) (any' : List Conjunction) (s : Frames) → expr k scope (roll-Expr (record { any = any' })) s ≡ (each s [] (map (conjunction k scope) any') >>= λ a. Ok (roll-Expr (record { any = a })))
unfolding join operand select_item select_list tail added arm chain conjunction expr factor further multiplied negation predicate query select sum term
names_Expr k scope any' s = search (rules, the_lemmas)

pub names_Factor : (k : Known) (scope : Scope) (minus' : Bool) (operand' : Operand) (s : Frames) → factor k scope (roll-Factor (record { minus = minus'; operand = operand' })) s ≡ (operand k scope operand' s >>= λ a. Ok (roll-Factor (record { minus = minus'; operand = a })))
unfolding join operand select_item select_list tail added arm chain conjunction expr factor further multiplied negation predicate query select sum term
names_Factor k scope minus' operand' s = search (rules, the_lemmas)

pub names_Further : (k : Known) (scope : Scope) (by' : SetOperator) (all' : Bool) (select' : Select) (s : Frames) → further k scope (roll-Further (record { by = by'; all = all'; select = select' })) s ≡ (select k scope select' s >>= λ a. Ok (roll-Further (record { by = by'; all = all'; select = a })))
unfolding join operand select_item select_list tail added arm chain conjunction expr factor further multiplied negation predicate query select sum term
names_Further k scope by' all' select' s = search (rules, the_lemmas)

pub names_Multiplied : (k : Known) (scope : Scope) (by' : Multiplicative) (factor' : Factor) (s : Frames) → multiplied k scope (roll-Multiplied (record { by = by'; factor = factor' })) s ≡ (factor k scope factor' s >>= λ a. Ok (roll-Multiplied (record { by = by'; factor = a })))
unfolding join operand select_item select_list tail added arm chain conjunction expr factor further multiplied negation predicate query select sum term
names_Multiplied k scope by' factor' s = search (rules, the_lemmas)

pub names_Negation : (k : Known) (scope : Scope) (negated' : Bool) (predicate' : Predicate) (s : Frames) → negation k scope (roll-Negation (record { negated = negated'; predicate = predicate' })) s ≡ (predicate k scope predicate' s >>= λ a. Ok (roll-Negation (record { negated = negated'; predicate = a })))
unfolding join operand select_item select_list tail added arm chain conjunction expr factor further multiplied negation predicate query select sum term
names_Negation k scope negated' predicate' s = search (rules, the_lemmas)

pub names_Predicate : (k : Known) (scope : Scope) (tested' : Sum) (tail' : Option Tail) (s : Frames) → predicate k scope (roll-Predicate (record { tested = tested'; tail = tail' })) s ≡ (sum k scope tested' s >>= λ a. perhaps (option_map (tail k scope) tail') s >>= λ b. Ok (roll-Predicate (record { tested = a; tail = b })))
unfolding join operand select_item select_list tail added arm chain conjunction expr factor further multiplied negation predicate query select sum term
names_Predicate k scope tested' tail' s = search (rules, the_lemmas)

pub names_Query : (k : Known) (scope : Scope) (first' : Select) (others' : List Further) (s : Frames) → query k scope (roll-Query (record { first = first'; others = others' })) s ≡ (select k scope first' s >>= λ a. each s [] (map (further k scope) others') >>= λ b. Ok (roll-Query (record { first = a; others = b })))
unfolding join operand select_item select_list tail added arm chain conjunction expr factor further multiplied negation predicate query select sum term
names_Query k scope first' others' s = search (rules, the_lemmas)

pub names_Select : (k : Known) (scope : Scope) (distinct' : Bool) (list' : SelectList) (from' : List Chain) (filter' : Option Expr) (group_by' : List Reference) (s : Frames) → select k scope (roll-Select (record { distinct = distinct'; list = list'; from = from'; filter = filter'; group_by = group_by' })) s ≡ (thread [] (map (chain k scope) from') (empty ∷ s) >>= λ f. select_list k scope list' (whole f.1) >>= λ l. perhaps (option_map (expr k scope) filter') (whole f.1) >>= λ w. selected distinct' l f.0 w (each (whole f.1) [] (map (reference k scope) group_by')))
unfolding join operand select_item select_list tail added arm chain conjunction expr factor further multiplied negation predicate query select sum term
names_Select k scope distinct' list' from' filter' group_by' s = search (rules, the_lemmas)

pub names_Sum : (k : Known) (scope : Scope) (first' : Term) (others' : List Added) (s : Frames) → sum k scope (roll-Sum (record { first = first'; others = others' })) s ≡ (term k scope first' s >>= λ a. each s [] (map (added k scope) others') >>= λ b. Ok (roll-Sum (record { first = a; others = b })))
unfolding join operand select_item select_list tail added arm chain conjunction expr factor further multiplied negation predicate query select sum term
names_Sum k scope first' others' s = search (rules, the_lemmas)

pub names_Term : (k : Known) (scope : Scope) (first' : Factor) (others' : List Multiplied) (s : Frames) → term k scope (roll-Term (record { first = first'; others = others' })) s ≡ (factor k scope first' s >>= λ a. each s [] (map (multiplied k scope) others') >>= λ b. Ok (roll-Term (record { first = a; others = b })))
unfolding join operand select_item select_list tail added arm chain conjunction expr factor further multiplied negation predicate query select sum term
names_Term k scope first' others' s = search (rules, the_lemmas)
