-- The brackets of expressions and queries are counted: as many may be open as are open at one word.
use Rattle.std.proofs.Common.{◌≡◌, ◌<◌, ◌-◌, ◌++◌, ℕ, zero, suc, Bool, List, Option, refl, sym, ap, subst, arith}
use Rattle.std.proofs.lemmas.List.{append_cancel_right}
use Rattle.sql_names.specs.declared.column.ObjectName.{ObjectName}
use Rattle.sql_names.specs.declared.column.Reference.{Reference}
use Rattle.sql_names.specs.declared.column.TableReference.{TableReference}
use Rattle.sql_tree.specs.declared.expr.Added.{Added}
use Rattle.sql_tree.specs.declared.expr.Additive.{Additive}
use Rattle.sql_tree.specs.declared.expr.Aggregate.{Aggregate}
use Rattle.sql_tree.specs.declared.expr.Arm.{Arm}
use Rattle.sql_tree.specs.declared.expr.Chain.{Chain}
use Rattle.sql_tree.specs.declared.expr.Comparison.{Comparison}
use Rattle.sql_tree.specs.declared.expr.Conjunction.{Conjunction}
use Rattle.sql_tree.specs.declared.expr.Expr.{Expr}
use Rattle.sql_tree.specs.declared.expr.Factor.{Factor}
use Rattle.sql_tree.specs.declared.expr.Further.{Further}
use Rattle.sql_tree.specs.declared.expr.Join.{Join}
use Rattle.sql_tree.specs.declared.expr.Multiplicative.{Multiplicative}
use Rattle.sql_tree.specs.declared.expr.Multiplied.{Multiplied}
use Rattle.sql_tree.specs.declared.expr.Negation.{Negation}
use Rattle.sql_tree.specs.declared.expr.Operand.{Operand}
use Rattle.sql_tree.specs.declared.expr.Predicate.{Predicate}
use Rattle.sql_tree.specs.declared.expr.Query.{Query}
use Rattle.sql_tree.specs.declared.expr.Select.{Select}
use Rattle.sql_tree.specs.declared.expr.SelectItem.{SelectItem}
use Rattle.sql_tree.specs.declared.expr.SelectList.{SelectList}
use Rattle.sql_tree.specs.declared.expr.SetOperator.{SetOperator}
use Rattle.sql_tree.specs.declared.expr.Sum.{Sum}
use Rattle.sql_tree.specs.declared.expr.Tail.{Tail}
use Rattle.sql_tree.specs.declared.expr.Term.{Term}
use Rattle.sql_names.specs.declared.sort.Special.{Special}
use Rattle.sql_names.specs.declared.sort.SqlType.{SqlType}
use Rattle.sql_spelling.specs.declared.kind.Kind.TheVariants as k
use Rattle.sql_words.specs.declared.word.Word.{Word}
use Rattle.sql_phrases.specs.Shapes.{Spelled, Token, Separated, Optional}
use Rattle.sql_phrases.specs.NameRules.{SpellsObjectName}
use Rattle.sql_phrases.specs.NameRules as names
use Rattle.sql_phrases.specs.TypeRules as types
use Rattle.sql_phrases.specs.TypeRules.{SpellsType, SpellsSpecial, SpellsNumber, SpellsBracketed, SpellsSize, SpellsPrecision, SpellsCharacterWord, SpellsDecimalWord}
use Rattle.sql_expressions.specs.QueryRules as queries
use Rattle.sql_expressions.specs.QueryRules.{SpellsReference, SpellsAlias, SpellsTableReference, SpellsQuantifier, SpellsSetOperator, SpellsGrouping, SpellsSelectItem, SpellsSelectList, SpellsJoin, SpellsChain, SpellsSelect, SpellsFurther, SpellsQuery}
use Rattle.sql_expressions.specs.ExpressionRules as rules
use Rattle.sql_expressions.specs.ExpressionRules.{SpellsComparison, SpellsAdditive, SpellsMultiplicative, SpellsAggregate, SpellsArguments, SpellsArm, SpellsCastOperand, SpellsOperand, SpellsFactor, SpellsMultiplied, SpellsTerm, SpellsAdded, SpellsSum, SpellsTail, SpellsPredicate, SpellsNegation, SpellsConjunction, SpellsExpr, SpellsExprWithin, SpellsQueryWithin}
use Rattle.sql_expressions.specs.Depth.{most_open}
use Rattle.sql_expressions.proofs.Depths.{Peak, peak_none, flat_then, peak_token, peak_spelled, peak_marked, peak_identifier, peak_separated, Deep, flat, deep_then, deep_map, closed, deep_token, deep_paren, deep_case, deep_separated, deep_repeated, deep_optional}

-- ---- names

pub peak_object_name : {o : ObjectName} {ws rest : List Word} → SpellsObjectName o ws rest → Peak 0 ws rest
peak_object_name (names.unqualified n) = peak_identifier n
peak_object_name (names.qualified s d n) = flat_then (peak_identifier s) (flat_then (peak_token d (λ n. refl)) (peak_identifier n))

peak_reference : {r : Reference} {ws rest : List Word} → SpellsReference r ws rest → Peak 0 ws rest
peak_reference (queries.unqualified n) = peak_identifier n
peak_reference (queries.qualified q d n) = flat_then (peak_identifier q) (flat_then (peak_token d (λ n. refl)) (peak_identifier n))

peak_alias : {n : Option (List ℕ)} {ws rest : List Word} → SpellsAlias n ws rest → Peak 0 ws rest
peak_alias queries.no_alias = peak_none
peak_alias (queries.alias m n) = flat_then (peak_marked m (λ n. refl)) (peak_identifier n)

peak_table_reference : {t : TableReference} {ws rest : List Word} → SpellsTableReference t ws rest → Peak 0 ws rest
peak_table_reference (queries.table_reference o n) = flat_then (peak_object_name o) (peak_alias n)

peak_quantifier : {q : Bool} {ws rest : List Word} → SpellsQuantifier q ws rest → Peak 0 ws rest
peak_quantifier queries.no_quantifier = peak_none
peak_quantifier (queries.all t) = peak_token t (λ n. refl)
peak_quantifier (queries.distinct t) = peak_token t (λ n. refl)

peak_set_operator : {o : SetOperator} {ws rest : List Word} → SpellsSetOperator o ws rest → Peak 0 ws rest
peak_set_operator (queries.union t) = peak_token t (λ n. refl)
peak_set_operator (queries.except t) = peak_token t (λ n. refl)

peak_references : {rs : List Reference} {ws rest : List Word} → Separated k.Comma SpellsReference rs ws rest → Peak 0 ws rest
peak_references s = peak_separated SpellsReference (λ r ws rest i. peak_reference i) (λ n. refl) s

peak_grouping : {rs : List Reference} {ws rest : List Word} → SpellsGrouping rs ws rest → Peak 0 ws rest
peak_grouping queries.no_grouping = peak_none
peak_grouping (queries.group_by t u m) = flat_then (peak_token t (λ n. refl)) (flat_then (peak_token u (λ n. refl)) (peak_references m))

-- ---- types

peak_number : {low high n : ℕ} {ws rest : List Word} → SpellsNumber low high n ws rest → Peak 0 ws rest
peak_number (types.number s d lo hi) = peak_spelled s (λ n. refl)

peak_character_word : {ws rest : List Word} → SpellsCharacterWord ws rest → Peak 0 ws rest
peak_character_word (types.character_word t) = peak_token t (λ n. refl)
peak_character_word (types.char_word t) = peak_token t (λ n. refl)

peak_decimal_word : {ws rest : List Word} → SpellsDecimalWord ws rest → Peak 0 ws rest
peak_decimal_word (types.decimal_word t) = peak_token t (λ n. refl)
peak_decimal_word (types.dec_word t) = peak_token t (λ n. refl)

module _ {m : ℕ} where
  deep_bracketed : {low high x : ℕ} {ws rest : List Word} → SpellsBracketed m low high x ws rest → Deep m ws rest (λ n. SpellsBracketed n low high x ws rest)
  deep_bracketed {low} {high} {x} (types.bracketed {a = a} {b = b} lt l i r) =
      deep_map (λ n p. types.bracketed p.0 l p.1 r) (deep_paren (λ n. SpellsNumber low high x a b) lt l (flat (peak_number i) (λ _. i)) r)

  deep_size : {without low high x : ℕ} {ws rest : List Word} → SpellsSize m without low high x ws rest → Deep m ws rest (λ n. SpellsSize n without low high x ws rest)
  deep_size types.size_unsaid = flat peak_none (λ _. types.size_unsaid)
  deep_size (types.size b) = deep_map (λ n p. types.size p) (deep_bracketed b)

  deep_precision : {p s : ℕ} {ws rest : List Word} → SpellsPrecision m p s ws rest → Deep m ws rest (λ n. SpellsPrecision n p s ws rest)
  deep_precision types.precision_unsaid = flat peak_none (λ _. types.precision_unsaid)
  deep_precision (types.precision b) = deep_map (λ n p. types.precision p) (deep_bracketed b)
  deep_precision {p} {s} (types.with_scale {a = a} {b = b} {c = c} {d = d} lt l i t j r) =
      deep_map (λ n q. types.with_scale q.0 l q.1.0 q.1.1.0 q.1.1.1 r)
      (deep_paren (λ n. SpellsNumber 1 38 p a b × (Token k.Comma b c × SpellsNumber 0 p s c d)) lt l
      (deep_then (flat (peak_number i) (λ _. i)) (deep_then (deep_token t (λ n. refl)) (flat (peak_number j) (λ _. j)))) r)

  pub deep_type : {t : SqlType} {ws rest : List Word} → SpellsType m t ws rest → Deep m ws rest (λ n. SpellsType n t ws rest)
  deep_type (types.character w i) = deep_map (λ n p. types.character w p.1) (deep_then (flat (peak_character_word w) (λ _. w)) (deep_size i))
  deep_type (types.varchar t i) = deep_map (λ n p. types.varchar t p.1) (deep_then (deep_token t (λ n. refl)) (deep_bracketed i))
  deep_type (types.varying w t i) = deep_map (λ n p. types.varying w t p.1) (deep_then (flat (flat_then (peak_character_word w) (peak_token t (λ n. refl))) (λ _. t)) (deep_bracketed i))
  deep_type (types.numeric t i) = deep_map (λ n p. types.numeric t p.1) (deep_then (deep_token t (λ n. refl)) (deep_precision i))
  deep_type (types.decimal w i) = deep_map (λ n p. types.decimal w p.1) (deep_then (flat (peak_decimal_word w) (λ _. w)) (deep_precision i))
  deep_type (types.smallint t) = flat (peak_token t (λ n. refl)) (λ _. types.smallint t)
  deep_type (types.integer t) = flat (peak_token t (λ n. refl)) (λ _. types.integer t)
  deep_type (types.int t) = flat (peak_token t (λ n. refl)) (λ _. types.int t)
  deep_type (types.bigint t) = flat (peak_token t (λ n. refl)) (λ _. types.bigint t)
  deep_type (types.boolean t) = flat (peak_token t (λ n. refl)) (λ _. types.boolean t)
  deep_type (types.date t) = flat (peak_token t (λ n. refl)) (λ _. types.date t)
  deep_type (types.time t i) = deep_map (λ n p. types.time t p.1) (deep_then (deep_token t (λ n. refl)) (deep_size i))
  deep_type (types.timestamp t i) = deep_map (λ n p. types.timestamp t p.1) (deep_then (deep_token t (λ n. refl)) (deep_size i))

-- ---- queries, whose expressions are counted

module _ {m : ℕ} (Whole : Spelled Expr) (W : ℕ → Spelled Expr) (f : (e : Expr) (ws rest : List Word) → Whole e ws rest → Deep m ws rest (λ n. W n e ws rest)) where
  deep_item : (x : SelectItem) (ws rest : List Word) → SpellsSelectItem Whole x ws rest → Deep m ws rest (λ n. SpellsSelectItem (W n) x ws rest)
  deep_item x ws rest (queries.expr_item {e = e} {a = a} r al) = deep_map (λ n p. queries.expr_item p.0 al) (deep_then (f e ws a r) (flat (peak_alias al) (λ _. al)))
  deep_item x ws rest (queries.qualified_star q d t) = flat (flat_then (peak_identifier q) (flat_then (peak_token d (λ n. refl)) (peak_token t (λ n. refl)))) (λ _. queries.qualified_star q d t)

  deep_select_list : {x : SelectList} {ws rest : List Word} → SpellsSelectList Whole x ws rest → Deep m ws rest (λ n. SpellsSelectList (W n) x ws rest)
  deep_select_list (queries.star t) = flat (peak_token t (λ n. refl)) (λ _. queries.star t)
  deep_select_list (queries.listed s) = deep_map (λ n p. queries.listed p) (deep_separated (SpellsSelectItem Whole) (λ n. SpellsSelectItem (W n)) deep_item (λ n. refl) s)

  deep_join : (x : Join) (ws rest : List Word) → SpellsJoin Whole x ws rest → Deep m ws rest (λ n. SpellsJoin (W n) x ws rest)
  deep_join x ws rest (queries.inner_join {e = e} {d = d} i j t o r) =
      deep_map (λ n p. queries.inner_join i j t o p.1)
      (deep_then (flat (flat_then (peak_marked i (λ n. refl)) (flat_then (peak_token j (λ n. refl)) (flat_then (peak_table_reference t) (peak_token o (λ n. refl))))) (λ _. o)) (f e d rest r))
  deep_join x ws rest (queries.cross_join c j t) = flat (flat_then (peak_token c (λ n. refl)) (flat_then (peak_token j (λ n. refl)) (peak_table_reference t))) (λ _. queries.cross_join c j t)

  deep_chain : (x : Chain) (ws rest : List Word) → SpellsChain Whole x ws rest → Deep m ws rest (λ n. SpellsChain (W n) x ws rest)
  deep_chain x ws rest (queries.chain t js) =
      deep_map (λ n p. queries.chain t p.1) (deep_then (flat (peak_table_reference t) (λ _. t)) (deep_repeated (SpellsJoin Whole) (λ n. SpellsJoin (W n)) deep_join js))

  deep_select : {x : Select} {ws rest : List Word} → SpellsSelect Whole x ws rest → Deep m ws rest (λ n. SpellsSelect (W n) x ws rest)
  deep_select (queries.select t q l from cs w g) =
      deep_map (λ n p. queries.select t q p.1.0 from p.1.1.1.0 p.1.1.1.1.0 g)
      (deep_then (flat (flat_then (peak_token t (λ n. refl)) (peak_quantifier q)) (λ _. q)) (deep_then (deep_select_list l) (deep_then (deep_token from (λ n. refl))
      (deep_then (deep_separated (SpellsChain Whole) (λ n. SpellsChain (W n)) deep_chain (λ n. refl) cs) (deep_then (deep_optional Whole W f (λ n. refl) w) (flat (peak_grouping g) (λ _. g)))))))

  deep_further : (x : Further) (ws rest : List Word) → SpellsFurther Whole x ws rest → Deep m ws rest (λ n. SpellsFurther (W n) x ws rest)
  deep_further x ws rest (queries.further o a s) = deep_map (λ n p. queries.further o a p.1) (deep_then (flat (flat_then (peak_set_operator o) (peak_marked a (λ n. refl))) (λ _. a)) (deep_select s))

  pub deep_query : {x : Query} {ws rest : List Word} → SpellsQuery Whole x ws rest → Deep m ws rest (λ n. SpellsQuery (W n) x ws rest)
  deep_query (queries.query s fs) = deep_map (λ n p. queries.query p.0 p.1) (deep_then (deep_select s) (deep_repeated (SpellsFurther Whole) (λ n. SpellsFurther (W n)) deep_further fs))

-- ---- operators

pub peak_special : {s : Special} {ws rest : List Word} → SpellsSpecial s ws rest → Peak 0 ws rest
peak_special (types.current_user t) = peak_token t (λ n. refl)
peak_special (types.current_date t) = peak_token t (λ n. refl)
peak_special (types.current_time t) = peak_token t (λ n. refl)
peak_special (types.current_timestamp t) = peak_token t (λ n. refl)

peak_comparison : {c : Comparison} {ws rest : List Word} → SpellsComparison c ws rest → Peak 0 ws rest
peak_comparison (rules.equal t) = peak_token t (λ n. refl)
peak_comparison (rules.not_equal t) = peak_token t (λ n. refl)
peak_comparison (rules.less t) = peak_token t (λ n. refl)
peak_comparison (rules.less_or_equal t) = peak_token t (λ n. refl)
peak_comparison (rules.greater t) = peak_token t (λ n. refl)
peak_comparison (rules.greater_or_equal t) = peak_token t (λ n. refl)

peak_additive : {a : Additive} {ws rest : List Word} → SpellsAdditive a ws rest → Peak 0 ws rest
peak_additive (rules.plus t) = peak_token t (λ n. refl)
peak_additive (rules.minus t) = peak_token t (λ n. refl)
peak_additive (rules.concatenation t) = peak_token t (λ n. refl)

peak_multiplicative : {m : Multiplicative} {ws rest : List Word} → SpellsMultiplicative m ws rest → Peak 0 ws rest
peak_multiplicative (rules.times t) = peak_token t (λ n. refl)
peak_multiplicative (rules.divided t) = peak_token t (λ n. refl)

peak_aggregate : {f : Aggregate} {ws rest : List Word} → SpellsAggregate f ws rest → Peak 0 ws rest
peak_aggregate (rules.count t) = peak_token t (λ n. refl)
peak_aggregate (rules.sum_of t) = peak_token t (λ n. refl)
peak_aggregate (rules.min t) = peak_token t (λ n. refl)
peak_aggregate (rules.max t) = peak_token t (λ n. refl)
peak_aggregate (rules.avg t) = peak_token t (λ n. refl)

-- ---- expressions, where those in brackets are counted

module _ (value : Bool) (n : ℕ)
    (f : 0 < n → (e : Expr) (ws rest : List Word) → SpellsExprWithin value n e ws rest → Deep (n - 1) ws rest (λ j. SpellsExprWithin value (suc j) e ws rest)) where
  deep_list : 0 < n → {es : List Expr} {ws rest : List Word} → Separated k.Comma (SpellsExprWithin value n) es ws rest → Deep (n - 1) ws rest (λ j. Separated k.Comma (SpellsExprWithin value (suc j)) es ws rest)
  deep_list lt s = deep_separated (SpellsExprWithin value n) (λ j. SpellsExprWithin value (suc j)) (f lt) (λ j. refl) s

  deep_inner_query : 0 < n → {q : Query} {ws rest : List Word} → SpellsQuery (SpellsExprWithin value n) q ws rest → Deep (n - 1) ws rest (λ j. SpellsQuery (SpellsExprWithin value (suc j)) q ws rest)
  deep_inner_query lt q = deep_query (SpellsExprWithin value n) (λ j. SpellsExprWithin value (suc j)) (f lt) q

  deep_arguments : 0 < n → {es : List Expr} {ws rest : List Word} → SpellsArguments (SpellsExprWithin value n) es ws rest → Deep (n - 1) ws rest (λ j. SpellsArguments (SpellsExprWithin value (suc j)) es ws rest)
  deep_arguments lt rules.no_arguments = flat peak_none (λ _. rules.no_arguments)
  deep_arguments lt (rules.arguments s) = deep_map (λ j p. rules.arguments p) (deep_list lt s)

  deep_arm : 0 < n → (x : Arm) (ws rest : List Word) → SpellsArm (SpellsExprWithin value n) x ws rest → Deep (n - 1) ws rest (λ j. SpellsArm (SpellsExprWithin value (suc j)) x ws rest)
  deep_arm lt x ws rest (rules.arm {c = c} {v = v} {a = a} {b = b} i t i') = deep_map (λ j p. rules.arm p.0 t p.1.1) (deep_then (f lt c ws a i) (deep_then (deep_token t (λ j. refl)) (f lt v b rest i')))

  deep_cast_operand : 0 < n → {o : Option Expr} {ws rest : List Word} → SpellsCastOperand (SpellsExprWithin value n) o ws rest → Deep (n - 1) ws rest (λ j. SpellsCastOperand (SpellsExprWithin value (suc j)) o ws rest)
  deep_cast_operand lt (rules.cast_null t) = flat (peak_token t (λ j. refl)) (λ _. rules.cast_null t)
  deep_cast_operand lt {ws = ws} {rest = rest} (rules.cast_expr {e = e} i) = deep_map (λ j p. rules.cast_expr p) (f lt e ws rest i)

  deep_operand : (x : Operand) (ws rest : List Word) → SpellsOperand value (SpellsExprWithin value n) n x ws rest → Deep n ws rest (λ j. SpellsOperand value (SpellsExprWithin value j) j x ws rest)
  deep_operand x ws rest (rules.literal t) = flat (peak_spelled t (λ j. refl)) (λ _. rules.literal t)
  deep_operand x ws rest (rules.number t) = flat (peak_spelled t (λ j. refl)) (λ _. rules.number t)
  deep_operand x ws rest (rules.true_word t) = flat (peak_token t (λ j. refl)) (λ _. rules.true_word t)
  deep_operand x ws rest (rules.false_word t) = flat (peak_token t (λ j. refl)) (λ _. rules.false_word t)
  deep_operand x ws rest (rules.special t) = flat (peak_special t) (λ _. rules.special t)
  deep_operand x ws rest (rules.value_word v t) = flat (peak_token t (λ j. refl)) (λ _. rules.value_word v t)
  deep_operand x ws rest (rules.reference r) = flat (peak_reference r) (λ _. rules.reference r)
  deep_operand x ws rest (rules.call {es = es} {b = b} {c = c} lt i l s r) =
      deep_map (λ j p. rules.call p.1.0 i l p.1.1 r) (deep_then (flat (peak_object_name i) (λ _. i)) (deep_paren (λ j. SpellsArguments (SpellsExprWithin value j) es b c) lt l (deep_arguments lt s) r))
  deep_operand x ws rest (rules.count_all {b = b} {c = c} lt t l i r) =
      deep_map (λ j p. rules.count_all p.1.0 t l i r) (deep_then (deep_token t (λ j. refl)) (deep_paren (λ j. Token k.Asterisk b c) lt l (deep_token i (λ j. refl)) r))
  deep_operand x ws rest (rules.aggregate {e = e} {b = b} {c = c} lt t l i r) =
      deep_map (λ j p. rules.aggregate p.1.0 t l p.1.1 r) (deep_then (flat (peak_aggregate t) (λ _. t)) (deep_paren (λ j. SpellsExprWithin value j e b c) lt l (f lt e b c i) r))
  deep_operand x ws rest (rules.case_when {arms = arms} {o = o} {a = a} {b = b} {c = c} {d = d} lt t u s other e) =
      deep_map (λ j p. rules.case_when p.0 t u p.1.1.0 p.1.1.1 e)
      (deep_case (λ j. Token k.When a b × (Separated k.When (SpellsArm (SpellsExprWithin value j)) arms b c × Optional k.Else (SpellsExprWithin value j) o c d)) lt t
      (deep_then (deep_token u (λ j. refl)) (deep_then (deep_separated (SpellsArm (SpellsExprWithin value n)) (λ j. SpellsArm (SpellsExprWithin value (suc j))) (deep_arm lt) (λ j. refl) s)
      (deep_optional (SpellsExprWithin value n) (λ j. SpellsExprWithin value (suc j)) (f lt) (λ j. refl) other))) e)
  deep_operand x ws rest (rules.cast {o = o} {t = s} {b = b} {c = c} {d = d} {e = e} lt t l i u i' r) =
      deep_map (λ j p. rules.cast p.1.0 t l p.1.1.0 u p.1.1.1.1 r)
      (deep_then (deep_token t (λ j. refl)) (deep_paren (λ j. SpellsCastOperand (SpellsExprWithin value j) o b c × (Token k.As c d × SpellsType (j - 1) s d e)) lt l
      (deep_then (deep_cast_operand lt i) (deep_then (deep_token u (λ j. refl)) (deep_map (λ j p. subst (λ h. SpellsType h s d e) (sym (closed j)) p) (deep_type i')))) r))
  deep_operand x ws rest (rules.exists {q = q} {b = b} {c = c} lt t l i r) =
      deep_map (λ j p. rules.exists p.1.0 t l p.1.1 r) (deep_then (deep_token t (λ j. refl)) (deep_paren (λ j. SpellsQuery (SpellsExprWithin value j) q b c) lt l (deep_inner_query lt i) r))
  deep_operand x ws rest (rules.subquery {q = q} {a = a} {b = b} lt l i r) =
      deep_map (λ j p. rules.subquery p.0 l p.1 r) (deep_paren (λ j. SpellsQuery (SpellsExprWithin value j) q a b) lt l (deep_inner_query lt i) r)
  deep_operand x ws rest (rules.parenthesized {e = e} {a = a} {b = b} lt l i r) =
      deep_map (λ j p. rules.parenthesized p.0 l p.1 r) (deep_paren (λ j. SpellsExprWithin value j e a b) lt l (f lt e a b i) r)

  deep_factor : (x : Factor) (ws rest : List Word) → SpellsFactor value (SpellsExprWithin value n) n x ws rest → Deep n ws rest (λ j. SpellsFactor value (SpellsExprWithin value j) j x ws rest)
  deep_factor x ws rest (rules.factor {o = o} {a = a} m i) = deep_map (λ j p. rules.factor m p.1) (deep_then (flat (peak_marked m (λ j. refl)) (λ _. m)) (deep_operand o a rest i))

  deep_multiplied : (x : Multiplied) (ws rest : List Word) → SpellsMultiplied value (SpellsExprWithin value n) n x ws rest → Deep n ws rest (λ j. SpellsMultiplied value (SpellsExprWithin value j) j x ws rest)
  deep_multiplied x ws rest (rules.multiplied {f = y} {a = a} m i) = deep_map (λ j p. rules.multiplied m p.1) (deep_then (flat (peak_multiplicative m) (λ _. m)) (deep_factor y a rest i))

  deep_term : (x : Term) (ws rest : List Word) → SpellsTerm value (SpellsExprWithin value n) n x ws rest → Deep n ws rest (λ j. SpellsTerm value (SpellsExprWithin value j) j x ws rest)
  deep_term x ws rest (rules.term {f = y} {a = a} i s) =
      deep_map (λ j p. rules.term p.0 p.1) (deep_then (deep_factor y ws a i) (deep_repeated (SpellsMultiplied value (SpellsExprWithin value n) n) (λ j. SpellsMultiplied value (SpellsExprWithin value j) j) deep_multiplied s))

  deep_added : (x : Added) (ws rest : List Word) → SpellsAdded value (SpellsExprWithin value n) n x ws rest → Deep n ws rest (λ j. SpellsAdded value (SpellsExprWithin value j) j x ws rest)
  deep_added x ws rest (rules.added {t = t} {b = b} m i) = deep_map (λ j p. rules.added m p.1) (deep_then (flat (peak_additive m) (λ _. m)) (deep_term t b rest i))

  deep_sum : (x : Sum) (ws rest : List Word) → SpellsSum value (SpellsExprWithin value n) n x ws rest → Deep n ws rest (λ j. SpellsSum value (SpellsExprWithin value j) j x ws rest)
  deep_sum x ws rest (rules.sum {t = t} {a = a} i s) =
      deep_map (λ j p. rules.sum p.0 p.1) (deep_then (deep_term t ws a i) (deep_repeated (SpellsAdded value (SpellsExprWithin value n) n) (λ j. SpellsAdded value (SpellsExprWithin value j) j) deep_added s))

  deep_tail : (x : Tail) (ws rest : List Word) → SpellsTail value (SpellsExprWithin value n) n x ws rest → Deep n ws rest (λ j. SpellsTail value (SpellsExprWithin value j) j x ws rest)
  deep_tail x ws rest (rules.compare {s = s} {a = a} c i) = deep_map (λ j p. rules.compare c p.1) (deep_then (flat (peak_comparison c) (λ _. c)) (deep_sum s a rest i))
  deep_tail x ws rest (rules.is_null t m u) = flat (flat_then (peak_token t (λ j. refl)) (flat_then (peak_marked m (λ j. refl)) (peak_token u (λ j. refl)))) (λ _. rules.is_null t m u)
  deep_tail x ws rest (rules.between {low = low} {high = high} {b = b} {c = c} {d = d} m t i u i') =
      deep_map (λ j p. rules.between m t p.1.0 u p.1.1.1)
      (deep_then (flat (flat_then (peak_marked m (λ j. refl)) (peak_token t (λ j. refl))) (λ _. t)) (deep_then (deep_sum low b c i) (deep_then (deep_token u (λ j. refl)) (deep_sum high d rest i'))))
  deep_tail x ws rest (rules.in_query {q = q} {c = c} {d = d} lt m t l i r) =
      deep_map (λ j p. rules.in_query p.1.0 m t l p.1.1 r)
      (deep_then (flat (flat_then (peak_marked m (λ j. refl)) (peak_token t (λ j. refl))) (λ _. t)) (deep_paren (λ j. SpellsQuery (SpellsExprWithin value j) q c d) lt l (deep_inner_query lt i) r))
  deep_tail x ws rest (rules.in_list {es = es} {c = c} {d = d} lt m t l s r) =
      deep_map (λ j p. rules.in_list p.1.0 m t l p.1.1 r)
      (deep_then (flat (flat_then (peak_marked m (λ j. refl)) (peak_token t (λ j. refl))) (λ _. t)) (deep_paren (λ j. Separated k.Comma (SpellsExprWithin value j) es c d) lt l (deep_list lt s) r))
  deep_tail x ws rest (rules.like {s = s} {b = b} m t i) =
      deep_map (λ j p. rules.like m t p.1) (deep_then (flat (flat_then (peak_marked m (λ j. refl)) (peak_token t (λ j. refl))) (λ _. t)) (deep_sum s b rest i))

  deep_predicate : (x : Predicate) (ws rest : List Word) → SpellsPredicate value (SpellsExprWithin value n) n x ws rest → Deep n ws rest (λ j. SpellsPredicate value (SpellsExprWithin value j) j x ws rest)
  deep_predicate x ws rest (rules.untested {s = s} i) = deep_map (λ j p. rules.untested p) (deep_sum s ws rest i)
  deep_predicate x ws rest (rules.tested {s = s} {t = t} {a = a} i i') = deep_map (λ j p. rules.tested p.0 p.1) (deep_then (deep_sum s ws a i) (deep_tail t a rest i'))

  deep_negation : (x : Negation) (ws rest : List Word) → SpellsNegation value (SpellsExprWithin value n) n x ws rest → Deep n ws rest (λ j. SpellsNegation value (SpellsExprWithin value j) j x ws rest)
  deep_negation x ws rest (rules.negation {p = y} {a = a} m i) = deep_map (λ j p. rules.negation m p.1) (deep_then (flat (peak_marked m (λ j. refl)) (λ _. m)) (deep_predicate y a rest i))

  deep_conjunction : (x : Conjunction) (ws rest : List Word) → SpellsConjunction value (SpellsExprWithin value n) n x ws rest → Deep n ws rest (λ j. SpellsConjunction value (SpellsExprWithin value j) j x ws rest)
  deep_conjunction x ws rest (rules.conjunction s) =
      deep_map (λ j p. rules.conjunction p) (deep_separated (SpellsNegation value (SpellsExprWithin value n) n) (λ j. SpellsNegation value (SpellsExprWithin value j) j) deep_negation (λ j. refl) s)

  deep_level : (x : Expr) (ws rest : List Word) → SpellsExpr value (SpellsExprWithin value n) n x ws rest → Deep n ws rest (λ j. SpellsExpr value (SpellsExprWithin value j) j x ws rest)
  deep_level x ws rest (rules.expr s) =
      deep_map (λ j p. rules.expr p) (deep_separated (SpellsConjunction value (SpellsExprWithin value n) n) (λ j. SpellsConjunction value (SpellsExprWithin value j) j) deep_conjunction (λ j. refl) s)

-- ---- every depth

pub deep_expr_within : (value : Bool) (n : ℕ) (e : Expr) (ws rest : List Word) → SpellsExprWithin value (suc n) e ws rest → Deep n ws rest (λ j. SpellsExprWithin value (suc j) e ws rest)
unfolding SpellsExprWithin
deep_expr_within value zero e ws rest d = deep_level value zero (λ lt. absurd (omega (arith, lt))) e ws rest d
deep_expr_within value (suc n) e ws rest d =
    deep_level value (suc n) (λ lt x a b i. subst (λ m. Deep m a b (λ j. SpellsExprWithin value (suc j) x a b)) (sym (closed n)) (deep_expr_within value n x a b i)) e ws rest d

pub deep_query_within : (value : Bool) (n : ℕ) (q : Query) (ws rest : List Word) → SpellsQueryWithin value (suc n) q ws rest → Deep n ws rest (λ j. SpellsQueryWithin value (suc j) q ws rest)
unfolding SpellsQueryWithin
deep_query_within value n q ws rest d = deep_query (SpellsExprWithin value (suc n)) (λ j. SpellsExprWithin value (suc j)) (deep_expr_within value n) d

-- ---- the words of what is spelled

-- as many are open as are counted
most_is : {m : ℕ} {R : ℕ → Type 0} (front rest : List Word) (p : Deep m (front ++ rest) rest R) → most_open 0 front ≡ p.deep
most_is front rest p = let same : front ≡ p.peak.front = append_cancel_right front p.peak.front rest p.peak.splits in omega (arith, ap (most_open 0) same, p.peak.most 0)

pub expr_counted : (value : Bool) (n : ℕ) (e : Expr) (front rest : List Word) → SpellsExprWithin value n e (front ++ rest) rest → most_open 0 front < n
unfolding SpellsExprWithin
expr_counted value zero e front rest d = absurd d
expr_counted value (suc n) e front rest d = let p = deep_expr_within value n e (front ++ rest) rest d in omega (arith, most_is front rest p, p.few)

pub expr_fits : (value : Bool) (m n : ℕ) (e : Expr) (front rest : List Word) → SpellsExprWithin value m e (front ++ rest) rest → most_open 0 front < n → SpellsExprWithin value n e (front ++ rest) rest
unfolding SpellsExprWithin
expr_fits value zero n e front rest d lt = absurd d
expr_fits value (suc m) zero e front rest d lt = absurd (omega (arith, lt))
expr_fits value (suc m) (suc n) e front rest d lt = let p = deep_expr_within value m e (front ++ rest) rest d in p.still n (omega (arith, most_is front rest p, lt))

pub query_counted : (value : Bool) (n : ℕ) (q : Query) (front rest : List Word) → SpellsQueryWithin value n q (front ++ rest) rest → most_open 0 front < n
unfolding SpellsQueryWithin
query_counted value zero q front rest d = absurd d
query_counted value (suc n) q front rest d = let p = deep_query_within value n q (front ++ rest) rest d in omega (arith, most_is front rest p, p.few)

pub query_fits : (value : Bool) (m n : ℕ) (q : Query) (front rest : List Word) → SpellsQueryWithin value m q (front ++ rest) rest → most_open 0 front < n → SpellsQueryWithin value n q (front ++ rest) rest
unfolding SpellsQueryWithin
query_fits value zero n q front rest d lt = absurd d
query_fits value (suc m) zero q front rest d lt = absurd (omega (arith, lt))
query_fits value (suc m) (suc n) q front rest d lt = let p = deep_query_within value m q (front ++ rest) rest d in p.still n (omega (arith, most_is front rest p, lt))
