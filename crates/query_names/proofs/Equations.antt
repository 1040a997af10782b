-- The names of a tree, one equation for each alternative.
use Rattle.std.proofs.Common.{◌≡◌, ℕ, Bool, List, [], ◌∷◌, Option, Ok, map, rules}
use Rattle.std.specs.Prelude.{option_map}
use Rattle.sql_tree.specs.declared.expr.Comparison.{Comparison}
use Rattle.sql_tree.specs.declared.expr.Aggregate.{Aggregate}
use Rattle.sql_names.specs.declared.sort.SqlType.{SqlType}
use Rattle.sql_names.specs.declared.sort.Special.{Special}
use Rattle.sql_names.specs.declared.column.Reference.{Reference}
use Rattle.sql_names.specs.declared.column.ObjectName.{ObjectName}
use Rattle.sql_names.specs.declared.column.TableReference.{TableReference}
use Rattle.sql_tree.specs.declared.expr.Join.TheVariants as joins
use Rattle.sql_tree.specs.declared.expr.Operand.TheVariants as operands
use Rattle.sql_tree.specs.declared.expr.SelectItem.{SelectItem}
use Rattle.sql_tree.specs.declared.expr.SelectItem.TheVariants as items
use Rattle.sql_tree.specs.declared.expr.SelectList.TheVariants as lists
use Rattle.sql_tree.specs.declared.expr.Tail.TheVariants as tails
use Rattle.sql_tree.specs.declared.expr.Added.{Added, roll-Added, out-Added}
use Rattle.sql_tree.specs.declared.expr.Arm.{Arm, roll-Arm, out-Arm}
use Rattle.sql_tree.specs.declared.expr.Chain.{Chain, roll-Chain, out-Chain}
use Rattle.sql_tree.specs.declared.expr.Conjunction.{Conjunction, roll-Conjunction, out-Conjunction}
use Rattle.sql_tree.specs.declared.expr.Expr.{Expr, roll-Expr, out-Expr, the_lemmas}
use Rattle.sql_tree.specs.declared.expr.Factor.{Factor, roll-Factor, out-Factor}
use Rattle.sql_tree.specs.declared.expr.Further.{Further, roll-Further, out-Further}
use Rattle.sql_tree.specs.declared.expr.Multiplied.{Multiplied, roll-Multiplied, out-Multiplied}
use Rattle.sql_tree.specs.declared.expr.Negation.{Negation, roll-Negation, out-Negation}
use Rattle.sql_tree.specs.declared.expr.Predicate.{Predicate, roll-Predicate, out-Predicate}
use Rattle.sql_tree.specs.declared.expr.Query.{Query, roll-Query, out-Query}
use Rattle.sql_tree.specs.declared.expr.Select.{Select, out-Select}
use Rattle.sql_tree.specs.declared.expr.Sum.{Sum, roll-Sum, out-Sum}
use Rattle.sql_tree.specs.declared.expr.Term.{Term, roll-Term, out-Term}
use Rattle.name_scopes.specs.declared.scope.Scope.{Scope}
use Rattle.sql_names.specs.NameBytes.{NameBytes}
use Rattle.name_scopes.specs.Known.{Known}
use Rattle.name_scopes.specs.Frames.{Frames, whole, empty}
use Rattle.name_scopes.specs.Outcomes.{◌>>=◌, each, thread, listed, perhaps}
use Rattle.name_scopes.specs.Single.{joined, opened, function, reference, star, table_star, item}
use Rattle.query_names.specs.Names.{selected, join, operand, select_item, select_list, tail, added, arm, chain, conjunction, expr, factor, further, multiplied, negation, predicate, query, select, sum, term}

pub names_Join_Inner : (k : Known) (scope : Scope) (table : TableReference) (on : Expr) (s : Frames) → join k scope (joins.Inner table on) s ≡ (joined k scope table s >>= λ t. expr k scope on t.1 >>= λ c. Ok (joins.Inner t.0 c, t.1))
unfolding join operand select_item select_list tail added arm chain conjunction expr factor further multiplied negation predicate query select sum term
names_Join_Inner k scope table on s = search (rules, the_lemmas)

pub names_Join_Cross : (k : Known) (scope : Scope) (table : TableReference) (s : Frames) → join k scope (joins.Cross table) s ≡ (joined k scope table s >>= λ t. Ok (joins.Cross t.0, t.1))
unfolding join operand select_item select_list tail added arm chain conjunction expr factor further multiplied negation predicate query select sum term
names_Join_Cross k scope table s = search (rules, the_lemmas)

pub names_Operand_Literal : (k : Known) (scope : Scope) (text : NameBytes) (s : Frames) → operand k scope (operands.Literal text) s ≡ (Ok (operands.Literal text))
unfolding join operand select_item select_list tail added arm chain conjunction expr factor further multiplied negation predicate query select sum term
names_Operand_Literal k scope text s = search (rules, the_lemmas)

pub names_Operand_Number : (k : Known) (scope : Scope) (text : NameBytes) (s : Frames) → operand k scope (operands.Number text) s ≡ (Ok (operands.Number text))
unfolding join operand select_item select_list tail added arm chain conjunction expr factor further multiplied negation predicate query select sum term
names_Operand_Number k scope text s = search (rules, the_lemmas)

pub names_Operand_True : (k : Known) (scope : Scope) (s : Frames) → operand k scope operands.True s ≡ (Ok (operands.True))
unfolding join operand select_item select_list tail added arm chain conjunction expr factor further multiplied negation predicate query select sum term
names_Operand_True k scope s = search (rules, the_lemmas)

pub names_Operand_False : (k : Known) (scope : Scope) (s : Frames) → operand k scope operands.False s ≡ (Ok (operands.False))
unfolding join operand select_item select_list tail added arm chain conjunction expr factor further multiplied negation predicate query select sum term
names_Operand_False k scope s = search (rules, the_lemmas)

pub names_Operand_Special : (k : Known) (scope : Scope) (special : Special) (s : Frames) → operand k scope (operands.Special special) s ≡ (Ok (operands.Special special))
unfolding join operand select_item select_list tail added arm chain conjunction expr factor further multiplied negation predicate query select sum term
names_Operand_Special k scope special s = search (rules, the_lemmas)

pub names_Operand_Value : (k : Known) (scope : Scope) (s : Frames) → operand k scope operands.Value s ≡ (Ok (operands.Value))
unfolding join operand select_item select_list tail added arm chain conjunction expr factor further multiplied negation predicate query select sum term
names_Operand_Value k scope s = search (rules, the_lemmas)

pub names_Operand_Reference : (k : Known) (scope : Scope) (r : Reference) (s : Frames) → operand k scope (operands.Reference r) s ≡ (reference k scope r s >>= λ r'. Ok (operands.Reference r'))
unfolding join operand select_item select_list tail added arm chain conjunction expr factor further multiplied negation predicate query select sum term
names_Operand_Reference k scope r s = search (rules, the_lemmas)

pub names_Operand_Call : (k : Known) (scope : Scope) (routine : ObjectName) (arguments : List Expr) (s : Frames) → operand k scope (operands.Call routine arguments) s ≡ (function k scope routine >>= λ f. each s [] (map (expr k scope) arguments) >>= λ es. Ok (operands.Call f es))
unfolding join operand select_item select_list tail added arm chain conjunction expr factor further multiplied negation predicate query select sum term
names_Operand_Call k scope routine arguments s = search (rules, the_lemmas)

pub names_Operand_CountAll : (k : Known) (scope : Scope) (s : Frames) → operand k scope operands.CountAll s ≡ (Ok (operands.CountAll))
unfolding join operand select_item select_list tail added arm chain conjunction expr factor further multiplied negation predicate query select sum term
names_Operand_CountAll k scope s = search (rules, the_lemmas)

pub names_Operand_Aggregate : (k : Known) (scope : Scope) (by : Aggregate) (argument : Expr) (s : Frames) → operand k scope (operands.Aggregate by argument) s ≡ (expr k scope argument s >>= λ e. Ok (operands.Aggregate by e))
unfolding join operand select_item select_list tail added arm chain conjunction expr factor further multiplied negation predicate query select sum term
names_Operand_Aggregate k scope by argument s = search (rules, the_lemmas)

pub names_Operand_Case : (k : Known) (scope : Scope) (arms : List Arm) (otherwise : Option Expr) (s : Frames) → operand k scope (operands.Case arms otherwise) s ≡ (each s [] (map (arm k scope) arms) >>= λ as'. perhaps (option_map (expr k scope) otherwise) s >>= λ e. Ok (operands.Case as' e))
unfolding join operand select_item select_list tail added arm chain conjunction expr factor further multiplied negation predicate query select sum term
names_Operand_Case k scope arms otherwise s = search (rules, the_lemmas)

pub names_Operand_Cast : (k : Known) (scope : Scope) (o : Option Expr) (sort : SqlType) (s : Frames) → operand k scope (operands.Cast o sort) s ≡ (perhaps (option_map (expr k scope) o) s >>= λ e. Ok (operands.Cast e sort))
unfolding join operand select_item select_list tail added arm chain conjunction expr factor further multiplied negation predicate query select sum term
names_Operand_Cast k scope o sort s = search (rules, the_lemmas)

pub names_Operand_Exists : (k : Known) (scope : Scope) (q : Query) (s : Frames) → operand k scope (operands.Exists q) s ≡ (query k scope q s >>= λ q'. Ok (operands.Exists q'))
unfolding join operand select_item select_list tail added arm chain conjunction expr factor further multiplied negation predicate query select sum term
names_Operand_Exists k scope q s = search (rules, the_lemmas)

pub names_Operand_Subquery : (k : Known) (scope : Scope) (q : Query) (s : Frames) → operand k scope (operands.Subquery q) s ≡ (query k scope q s >>= λ q'. Ok (operands.Subquery q'))
unfolding join operand select_item select_list tail added arm chain conjunction expr factor further multiplied negation predicate query select sum term
names_Operand_Subquery k scope q s = search (rules, the_lemmas)

pub names_Operand_Parenthesized : (k : Known) (scope : Scope) (e : Expr) (s : Frames) → operand k scope (operands.Parenthesized e) s ≡ (expr k scope e s >>= λ e'. Ok (operands.Parenthesized e'))
unfolding join operand select_item select_list tail added arm chain conjunction expr factor further multiplied negation predicate query select sum term
names_Operand_Parenthesized k scope e s = search (rules, the_lemmas)

pub names_SelectItem_Expr : (k : Known) (scope : Scope) (e : Expr) (name : Option NameBytes) (s : Frames) (position : ℕ) → select_item k scope (items.Expr e name) s position ≡ (expr k scope e s >>= λ e'. Ok (item name e' position ∷ []))
unfolding join operand select_item select_list tail added arm chain conjunction expr factor further multiplied negation predicate query select sum term
names_SelectItem_Expr k scope e name s position = search (rules, the_lemmas)

pub names_SelectItem_QualifiedStar : (k : Known) (scope : Scope) (q : NameBytes) (s : Frames) (position : ℕ) → select_item k scope (items.QualifiedStar q) s position ≡ (table_star k q s)
unfolding join operand select_item select_list tail added arm chain conjunction expr factor further multiplied negation predicate query select sum term
names_SelectItem_QualifiedStar k scope q s position = search (rules, the_lemmas)

pub names_SelectList_Star : (k : Known) (scope : Scope) (s : Frames) → select_list k scope lists.Star s ≡ (star k s >>= λ is. Ok (lists.Listed is))
unfolding join operand select_item select_list tail added arm chain conjunction expr factor further multiplied negation predicate query select sum term
names_SelectList_Star k scope s = search (rules, the_lemmas)

pub names_SelectList_Listed : (k : Known) (scope : Scope) (is : List SelectItem) (s : Frames) → select_list k scope (lists.Listed is) s ≡ (listed s [] (map (select_item k scope) is) >>= λ is'. Ok (lists.Listed is'))
unfolding join operand select_item select_list tail added arm chain conjunction expr factor further multiplied negation predicate query select sum term
names_SelectList_Listed k scope is s = search (rules, the_lemmas)

pub names_Tail_Compare : (k : Known) (scope : Scope) (by : Comparison) (with : Sum) (s : Frames) → tail k scope (tails.Compare by with) s ≡ (sum k scope with s >>= λ x. Ok (tails.Compare by x))
unfolding join operand select_item select_list tail added arm chain conjunction expr factor further multiplied negation predicate query select sum term
names_Tail_Compare k scope by with s = search (rules, the_lemmas)

pub names_Tail_IsNull : (k : Known) (scope : Scope) (negated : Bool) (s : Frames) → tail k scope (tails.IsNull negated) s ≡ (Ok (tails.IsNull negated))
unfolding join operand select_item select_list tail added arm chain conjunction expr factor further multiplied negation predicate query select sum term
names_Tail_IsNull k scope negated s = search (rules, the_lemmas)

pub names_Tail_Between : (k : Known) (scope : Scope) (negated : Bool) (low : Sum) (high : Sum) (s : Frames) → tail k scope (tails.Between negated low high) s ≡ (sum k scope low s >>= λ x. sum k scope high s >>= λ y. Ok (tails.Between negated x y))
unfolding join operand select_item select_list tail added arm chain conjunction expr factor further multiplied negation predicate query select sum term
names_Tail_Between k scope negated low high s = search (rules, the_lemmas)

pub names_Tail_InQuery : (k : Known) (scope : Scope) (negated : Bool) (q : Query) (s : Frames) → tail k scope (tails.InQuery negated q) s ≡ (query k scope q s >>= λ q'. Ok (tails.InQuery negated q'))
unfolding join operand select_item select_list tail added arm chain conjunction expr factor further multiplied negation predicate query select sum term
names_Tail_InQuery k scope negated q s = search (rules, the_lemmas)

pub names_Tail_InList : (k : Known) (scope : Scope) (negated : Bool) (es : List Expr) (s : Frames) → tail k scope (tails.InList negated es) s ≡ (each s [] (map (expr k scope) es) >>= λ es'. Ok (tails.InList negated es'))
unfolding join operand select_item select_list tail added arm chain conjunction expr factor further multiplied negation predicate query select sum term
names_Tail_InList k scope negated es s = search (rules, the_lemmas)

pub names_Tail_Like : (k : Known) (scope : Scope) (negated : Bool) (pattern : Sum) (s : Frames) → tail k scope (tails.Like negated pattern) s ≡ (sum k scope pattern s >>= λ x. Ok (tails.Like negated x))
unfolding join operand select_item select_list tail added arm chain conjunction expr factor further multiplied negation predicate query select sum term
names_Tail_Like k scope negated pattern s = search (rules, the_lemmas)

pub names_Added : (k : Known) (scope : Scope) (x : Added) (s : Frames) → added k scope x s ≡ (term k scope (out-Added x).term s >>= λ t. Ok (roll-Added (record { by = (out-Added x).by; term = t })))
unfolding join operand select_item select_list tail added arm chain conjunction expr factor further multiplied negation predicate query select sum term
names_Added k scope x s = search (rules, the_lemmas)

pub names_Arm : (k : Known) (scope : Scope) (x : Arm) (s : Frames) → arm k scope x s ≡ (expr k scope (out-Arm x).condition s >>= λ c. expr k scope (out-Arm x).value s >>= λ v. Ok (roll-Arm (record { condition = c; value = v })))
unfolding join operand select_item select_list tail added arm chain conjunction expr factor further multiplied negation predicate query select sum term
names_Arm k scope x s = search (rules, the_lemmas)

pub names_Chain : (k : Known) (scope : Scope) (x : Chain) (s : Frames) → chain k scope x s ≡ (opened k scope (out-Chain x).first s >>= λ t. thread [] (map (join k scope) (out-Chain x).joins) t.1 >>= λ js. Ok (roll-Chain (record { first = t.0; joins = js.0 }), js.1))
unfolding join operand select_item select_list tail added arm chain conjunction expr factor further multiplied negation predicate query select sum term
names_Chain k scope x s = search (rules, the_lemmas)

pub names_Conjunction : (k : Known) (scope : Scope) (x : Conjunction) (s : Frames) → conjunction k scope x s ≡ (each s [] (map (negation k scope) (out-Conjunction x).every) >>= λ ns. Ok (roll-Conjunction (record { every = ns })))
unfolding join operand select_item select_list tail added arm chain conjunction expr factor further multiplied negation predicate query select sum term
names_Conjunction k scope x s = search (rules, the_lemmas)

pub names_Expr : (k : Known) (scope : Scope) (x : Expr) (s : Frames) → expr k scope x s ≡ (each s [] (map (conjunction k scope) (out-Expr x).any) >>= λ cs. Ok (roll-Expr (record { any = cs })))
unfolding join operand select_item select_list tail added arm chain conjunction expr factor further multiplied negation predicate query select sum term
names_Expr k scope x s = search (rules, the_lemmas)

pub names_Factor : (k : Known) (scope : Scope) (x : Factor) (s : Frames) → factor k scope x s ≡ (operand k scope (out-Factor x).operand s >>= λ o. Ok (roll-Factor (record { minus = (out-Factor x).minus; operand = o })))
unfolding join operand select_item select_list tail added arm chain conjunction expr factor further multiplied negation predicate query select sum term
names_Factor k scope x s = search (rules, the_lemmas)

pub names_Further : (k : Known) (scope : Scope) (x : Further) (s : Frames) → further k scope x s ≡ (select k scope (out-Further x).select s >>= λ y. Ok (roll-Further (record { by = (out-Further x).by; all = (out-Further x).all; select = y })))
unfolding join operand select_item select_list tail added arm chain conjunction expr factor further multiplied negation predicate query select sum term
names_Further k scope x s = search (rules, the_lemmas)

pub names_Multiplied : (k : Known) (scope : Scope) (x : Multiplied) (s : Frames) → multiplied k scope x s ≡ (factor k scope (out-Multiplied x).factor s >>= λ f. Ok (roll-Multiplied (record { by = (out-Multiplied x).by; factor = f })))
unfolding join operand select_item select_list tail added arm chain conjunction expr factor further multiplied negation predicate query select sum term
names_Multiplied k scope x s = search (rules, the_lemmas)

pub names_Negation : (k : Known) (scope : Scope) (x : Negation) (s : Frames) → negation k scope x s ≡ (predicate k scope (out-Negation x).predicate s >>= λ p. Ok (roll-Negation (record { negated = (out-Negation x).negated; predicate = p })))
unfolding join operand select_item select_list tail added arm chain conjunction expr factor further multiplied negation predicate query select sum term
names_Negation k scope x s = search (rules, the_lemmas)

pub names_Predicate : (k : Known) (scope : Scope) (x : Predicate) (s : Frames) → predicate k scope x s ≡ (sum k scope (out-Predicate x).tested s >>= λ t. perhaps (option_map (tail k scope) (out-Predicate x).tail) s >>= λ tail. Ok (roll-Predicate (record { tested = t; tail = tail })))
unfolding join operand select_item select_list tail added arm chain conjunction expr factor further multiplied negation predicate query select sum term
names_Predicate k scope x s = search (rules, the_lemmas)

pub names_Query : (k : Known) (scope : Scope) (x : Query) (s : Frames) → query k scope x s ≡ (select k scope (out-Query x).first s >>= λ f. each s [] (map (further k scope) (out-Query x).others) >>= λ os. Ok (roll-Query (record { first = f; others = os })))
unfolding join operand select_item select_list tail added arm chain conjunction expr factor further multiplied negation predicate query select sum term
names_Query k scope x s = search (rules, the_lemmas)

pub names_Select : (k : Known) (scope : Scope) (x : Select) (s : Frames) → select k scope x s ≡ (thread [] (map (chain k scope) (out-Select x).from) (empty ∷ s) >>= λ from. select_list k scope (out-Select x).list (whole from.1) >>= λ list. perhaps (option_map (expr k scope) (out-Select x).filter) (whole from.1) >>= λ filter. selected (out-Select x).distinct list from.0 filter (each (whole from.1) [] (map (reference k scope) (out-Select x).group_by)))
unfolding join operand select_item select_list tail added arm chain conjunction expr factor further multiplied negation predicate query select sum term
names_Select k scope x s = search (rules, the_lemmas)

pub names_Sum : (k : Known) (scope : Scope) (x : Sum) (s : Frames) → sum k scope x s ≡ (term k scope (out-Sum x).first s >>= λ t. each s [] (map (added k scope) (out-Sum x).others) >>= λ os. Ok (roll-Sum (record { first = t; others = os })))
unfolding join operand select_item select_list tail added arm chain conjunction expr factor further multiplied negation predicate query select sum term
names_Sum k scope x s = search (rules, the_lemmas)

pub names_Term : (k : Known) (scope : Scope) (x : Term) (s : Frames) → term k scope x s ≡ (factor k scope (out-Term x).first s >>= λ f. each s [] (map (multiplied k scope) (out-Term x).others) >>= λ os. Ok (roll-Term (record { first = f; others = os })))
unfolding join operand select_item select_list tail added arm chain conjunction expr factor further multiplied negation predicate query select sum term
names_Term k scope x s = search (rules, the_lemmas)

pub ruleset names = (names_Join_Inner, names_Join_Cross, names_Operand_Literal, names_Operand_Number, names_Operand_True, names_Operand_False, names_Operand_Special, names_Operand_Value, names_Operand_Reference, names_Operand_Call, names_Operand_CountAll, names_Operand_Aggregate, names_Operand_Case, names_Operand_Cast, names_Operand_Exists, names_Operand_Subquery, names_Operand_Parenthesized, names_SelectItem_Expr, names_SelectItem_QualifiedStar, names_SelectList_Star, names_SelectList_Listed, names_Tail_Compare, names_Tail_IsNull, names_Tail_Between, names_Tail_InQuery, names_Tail_InList, names_Tail_Like, names_Added, names_Arm, names_Chain, names_Conjunction, names_Expr, names_Factor, names_Further, names_Multiplied, names_Negation, names_Predicate, names_Query, names_Select, names_Sum, names_Term)
