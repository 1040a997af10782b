-- Queries and expressions that the words of a text spell are formed: texts, numbers and types are of their form, and lists that have a member have one.
use Rattle.std.proofs.Common.{◌≡◌, ◌<◌, ℕ, zero, suc, Bool, List, [], ◌∷◌, ◌++◌, Option, Some, None, length, map, sym, subst, arith}
use Rattle.std.specs.Prelude.{option_map}
use Rattle.std.proofs.lemmas.List.Elements.{All-nil, All-cons, All-append}
use Rattle.sql_names.specs.declared.column.Reference.{Reference}
use Rattle.sql_names.specs.declared.column.TableReference.{TableReference}
use Rattle.sql_names.specs.declared.sort.Special.{Special}
use Rattle.sql_spelling.specs.declared.kind.Kind.{Kind}
use Rattle.sql_spelling.specs.declared.kind.Kind.TheVariants as k
use Rattle.sql_tree.specs.declared.expr.Added.{Added}
use Rattle.sql_tree.specs.declared.expr.Additive.{Additive}
use Rattle.sql_tree.specs.declared.expr.Aggregate.{Aggregate}
use Rattle.sql_tree.specs.declared.expr.Arm.{Arm}
use Rattle.sql_tree.specs.declared.expr.Chain.{Chain}
use Rattle.sql_tree.specs.declared.expr.Comparison.{Comparison}
use Rattle.sql_tree.specs.declared.expr.Conjunction.{Conjunction}
use Rattle.sql_tree.specs.declared.expr.Expr.{Expr}
use Rattle.sql_tree.specs.declared.expr.Factor.{Factor}
use Rattle.sql_tree.specs.declared.expr.Further.{Further}
use Rattle.sql_tree.specs.declared.expr.Join.{Join}
use Rattle.sql_tree.specs.declared.expr.Multiplicative.{Multiplicative}
use Rattle.sql_tree.specs.declared.expr.Multiplied.{Multiplied}
use Rattle.sql_tree.specs.declared.expr.Negation.{Negation}
use Rattle.sql_tree.specs.declared.expr.Operand.{Operand}
use Rattle.sql_tree.specs.declared.expr.Predicate.{Predicate}
use Rattle.sql_tree.specs.declared.expr.Query.{Query}
use Rattle.sql_tree.specs.declared.expr.Select.{Select}
use Rattle.sql_tree.specs.declared.expr.SelectItem.{SelectItem}
use Rattle.sql_tree.specs.declared.expr.SelectList.{SelectList}
use Rattle.sql_tree.specs.declared.expr.SetOperator.{SetOperator}
use Rattle.sql_tree.specs.declared.expr.Sum.{Sum}
use Rattle.sql_tree.specs.declared.expr.Tail.{Tail}
use Rattle.sql_tree.specs.declared.expr.Term.{Term}
use Rattle.sql_words.specs.WordForms.{AreWords}
use Rattle.sql_words.specs.declared.word.Word.{Word}
use Rattle.sql_phrases.specs.Shapes.{Spelled, SpellsText, spells, Separated, one, more, Repeated, no_more, again, Optional, left_out, said}
use Rattle.sql_phrases.specs.TypeRules as types
use Rattle.sql_expressions.specs.ExpressionRules as rules
use Rattle.sql_expressions.specs.QueryRules as queries
use Rattle.sql_expressions.proofs.DepthProofs.{deep_type}
use Rattle.cat_items.specs.Pieces.{Pieces, IsFormed, AreFormed, expr_pieces, query_pieces, all_pieces, optional_pieces, some_pieces, table_pieces, of_reference, of_group, of_object, of_name, of_star, of_literal, of_number, of_type, of_length, of_subquery}
use Rattle.statement_forms.proofs.KeptWords.{kept, kept_token, kept_marked, kept_identifier, kept_object}
use Rattle.statement_forms.proofs.DefaultForms.{spelled-literal, spelled-number}
use Rattle.statement_forms.proofs.TypeForms.{type-form}
use Rattle.statement_forms.proofs.TreePieces as pieces

-- what a phrase gives: its pieces are formed, and behind it are words
abbrev Gives : Pieces → List Word → List Word → Type 0
Gives pieces ws rest = AreWords ws → AreFormed pieces × AreWords rest

none : AreFormed []
none = All-nil IsFormed

both : (a b : Pieces) → AreFormed a → AreFormed b → AreFormed (a ++ b)
both a b p q = All-append IsFormed a b p q

by : {a b : Pieces} → a ≡ b → AreFormed b → AreFormed a
by is formed = subst AreFormed (sym is) formed

table : (t : TableReference) → AreFormed (table_pieces t)
table t = All-cons IsFormed (of_object t.table) (of_name t.correlation ∷ []) tt (All-cons IsFormed (of_name t.correlation) [] tt none)

groups : (rs : List Reference) → AreFormed (map of_group rs)
groups [] = none
groups (r ∷ rs) = All-cons IsFormed (of_group r) (map of_group rs) tt (groups rs)

-- ---- words behind phrases

kept_text : {by : Kind} {t : List ℕ} {ws rest : List Word} → SpellsText by t ws rest → AreWords ws → AreWords rest
kept_text (spells e) are = are.1

kept_reference : {r : Reference} {ws rest : List Word} → queries.SpellsReference r ws rest → AreWords ws → AreWords rest
kept_reference (queries.unqualified n) are = kept_identifier n are
kept_reference (queries.qualified q d n) are = kept_identifier n (kept_token d (kept_identifier q are))

kept_references : {rs : List Reference} {ws rest : List Word} → Separated k.Comma queries.SpellsReference rs ws rest → AreWords ws → AreWords rest
kept_references (one r) are = kept_reference r are
kept_references (more r t s) are = kept_references s (kept_token t (kept_reference r are))

kept_grouping : {rs : List Reference} {ws rest : List Word} → queries.SpellsGrouping rs ws rest → AreWords ws → AreWords rest
kept_grouping queries.no_grouping are = are
kept_grouping (queries.group_by t u s) are = kept_references s (kept_token u (kept_token t are))

kept_alias : {n : Option (List ℕ)} {ws rest : List Word} → queries.SpellsAlias n ws rest → AreWords ws → AreWords rest
kept_alias queries.no_alias are = are
kept_alias (queries.alias m n) are = kept_identifier n (kept_marked m are)

kept_table : {t : TableReference} {ws rest : List Word} → queries.SpellsTableReference t ws rest → AreWords ws → AreWords rest
kept_table (queries.table_reference o n) are = kept_alias n (kept_object o are)

kept_quantifier : {q : Bool} {ws rest : List Word} → queries.SpellsQuantifier q ws rest → AreWords ws → AreWords rest
kept_quantifier queries.no_quantifier are = are
kept_quantifier (queries.all t) are = kept_token t are
kept_quantifier (queries.distinct t) are = kept_token t are

kept_operator : {o : SetOperator} {ws rest : List Word} → queries.SpellsSetOperator o ws rest → AreWords ws → AreWords rest
kept_operator (queries.union t) are = kept_token t are
kept_operator (queries.except t) are = kept_token t are

kept_special : {s : Special} {ws rest : List Word} → types.SpellsSpecial s ws rest → AreWords ws → AreWords rest
kept_special (types.current_user t) are = kept_token t are
kept_special (types.current_date t) are = kept_token t are
kept_special (types.current_time t) are = kept_token t are
kept_special (types.current_timestamp t) are = kept_token t are

kept_comparison : {c : Comparison} {ws rest : List Word} → rules.SpellsComparison c ws rest → AreWords ws → AreWords rest
kept_comparison (rules.equal t) are = kept_token t are
kept_comparison (rules.not_equal t) are = kept_token t are
kept_comparison (rules.less t) are = kept_token t are
kept_comparison (rules.less_or_equal t) are = kept_token t are
kept_comparison (rules.greater t) are = kept_token t are
kept_comparison (rules.greater_or_equal t) are = kept_token t are

kept_additive : {a : Additive} {ws rest : List Word} → rules.SpellsAdditive a ws rest → AreWords ws → AreWords rest
kept_additive (rules.plus t) are = kept_token t are
kept_additive (rules.minus t) are = kept_token t are
kept_additive (rules.concatenation t) are = kept_token t are

kept_multiplicative : {m : Multiplicative} {ws rest : List Word} → rules.SpellsMultiplicative m ws rest → AreWords ws → AreWords rest
kept_multiplicative (rules.times t) are = kept_token t are
kept_multiplicative (rules.divided t) are = kept_token t are

kept_aggregate : {f : Aggregate} {ws rest : List Word} → rules.SpellsAggregate f ws rest → AreWords ws → AreWords rest
kept_aggregate (rules.count t) are = kept_token t are
kept_aggregate (rules.sum_of t) are = kept_token t are
kept_aggregate (rules.min t) are = kept_token t are
kept_aggregate (rules.max t) are = kept_token t are
kept_aggregate (rules.avg t) are = kept_token t are

-- ---- lists

module _ {X : Type 0} (f : X → Pieces) (R : Spelled X) (each : (x : X) (ws rest : List Word) → R x ws rest → Gives (f x) ws rest) where
  all_of_separated : {by : Kind} {xs : List X} {ws rest : List Word} → Separated by R xs ws rest → Gives (all_pieces (map f xs)) ws rest
  all_of_separated (one {x = x} {ws = ws} {rest = rest} i) are = let g = each x ws rest i are in (both (f x) [] g.0 none, g.1)
  all_of_separated (more {x = x} {xs = xs} {ws = ws} {a = a} i t s) are =
      let g = each x ws a i are in
      let r = all_of_separated s (kept_token t g.1) in
      (both (f x) (all_pieces (map f xs)) g.0 r.0, r.1)

  has_one : {by : Kind} {xs : List X} {ws rest : List Word} → Separated by R xs ws rest → 0 < length (map f xs)
  has_one (one i) = omega arith
  has_one (more i t s) = omega arith

  some_of_separated : {by : Kind} {xs : List X} {ws rest : List Word} → Separated by R xs ws rest → Gives (some_pieces (map f xs)) ws rest
  some_of_separated {xs = xs} s are = let g = all_of_separated s are in (All-cons IsFormed (of_length (length (map f xs))) (all_pieces (map f xs)) (has_one s) g.0, g.1)

  all_of_repeated : {xs : List X} {ws rest : List Word} → Repeated R xs ws rest → Gives (all_pieces (map f xs)) ws rest
  all_of_repeated no_more are = (none, are)
  all_of_repeated (again {x = x} {xs = xs} {ws = ws} {a = a} i s) are =
      let g = each x ws a i are in
      let r = all_of_repeated s g.1 in
      (both (f x) (all_pieces (map f xs)) g.0 r.0, r.1)

  of_optional : {by : Kind} {o : Option X} {ws rest : List Word} → Optional by R o ws rest → Gives (optional_pieces (option_map f o)) ws rest
  of_optional left_out are = (none, are)
  of_optional (said {x = x} {a = a} {rest = rest} t i) are = each x a rest i (kept_token t are)

-- ---- queries over expressions that give theirs

module _ (Whole : Spelled Expr) (whole : (e : Expr) (ws rest : List Word) → Whole e ws rest → Gives (expr_pieces e) ws rest) where
  item : (x : SelectItem) (ws rest : List Word) → queries.SpellsSelectItem Whole x ws rest → Gives (pieces.select_item_pieces x) ws rest
  item x ws rest (queries.expr_item {e = e} {n = n} {a = a} r al) are = let g = whole e ws a r are in (by (pieces.of_item e n) (All-cons IsFormed (of_name n) (expr_pieces e) tt g.0), kept_alias al g.1)
  item x ws rest (queries.qualified_star {q = q} i d t) are = (by (pieces.of_table_star q) (All-cons IsFormed of_star [] tt none), kept_token t (kept_token d (kept_identifier i are)))

  list : {x : SelectList} {ws rest : List Word} → queries.SpellsSelectList Whole x ws rest → Gives (pieces.select_list_pieces x) ws rest
  list (queries.star t) are = (by pieces.of_whole_star (All-cons IsFormed of_star [] tt none), kept_token t are)
  list (queries.listed {xs = xs} s) are = let g = some_of_separated pieces.select_item_pieces (queries.SpellsSelectItem Whole) item s are in (by (pieces.of_listed xs) g.0, g.1)

  join : (x : Join) (ws rest : List Word) → queries.SpellsJoin Whole x ws rest → Gives (pieces.join_pieces x) ws rest
  join x ws rest (queries.inner_join {t = t} {e = e} {d = d} i j r o w) are =
      let g = whole e d rest w (kept_token o (kept_table r (kept_token j (kept_marked i are)))) in
      (by (pieces.of_inner t e) (both (table_pieces t) (expr_pieces e) (table t) g.0), g.1)
  join x ws rest (queries.cross_join {t = t} c j r) are = (by (pieces.of_cross t) (table t), kept_table r (kept_token j (kept_token c are)))

  chain : (x : Chain) (ws rest : List Word) → queries.SpellsChain Whole x ws rest → Gives (pieces.chain_pieces x) ws rest
  chain x ws rest (queries.chain {t = t} {js = js} r s) are =
      let g = all_of_repeated pieces.join_pieces (queries.SpellsJoin Whole) join s (kept_table r are) in
      (by (pieces.of_chain t js) (both (table_pieces t) (all_pieces (map pieces.join_pieces js)) (table t) g.0), g.1)

  select : {x : Select} {ws rest : List Word} → queries.SpellsSelect Whole x ws rest → Gives (pieces.select_pieces x) ws rest
  select (queries.select {d = d} {l = l} {cs = cs} {w = w} {rs = rs} t q ls f ss o g) are =
      let a = list ls (kept_quantifier q (kept_token t are)) in
      let b = some_of_separated pieces.chain_pieces (queries.SpellsChain Whole) chain ss (kept_token f a.1) in
      let c = of_optional expr_pieces Whole whole o b.1 in
      let front = pieces.select_list_pieces l ++ some_pieces (map pieces.chain_pieces cs) in (
        by (pieces.of_select d l cs w rs)
            (both (front ++ optional_pieces (option_map expr_pieces w)) (map of_group rs)
            (both front (optional_pieces (option_map expr_pieces w)) (both (pieces.select_list_pieces l) (some_pieces (map pieces.chain_pieces cs)) a.0 b.0) c.0) (groups rs)),
        kept_grouping g c.1,
      )

  further : (x : Further) (ws rest : List Word) → queries.SpellsFurther Whole x ws rest → Gives (pieces.further_pieces x) ws rest
  further x ws rest (queries.further {o = o} {all_said = m} {s = s} u a r) are = let g = select r (kept_marked a (kept_operator u are)) in (by (pieces.of_further o m s) g.0, g.1)

  query : {x : Query} {ws rest : List Word} → queries.SpellsQuery Whole x ws rest → Gives (query_pieces x) ws rest
  query (queries.query {s = s} {fs = fs} r u) are =
      let g = select r are in
      let h = all_of_repeated pieces.further_pieces (queries.SpellsFurther Whole) further u g.1 in
      (by (pieces.of_query s fs) (both (pieces.select_pieces s) (all_pieces (map pieces.further_pieces fs)) g.0 h.0), h.1)

  -- ---- expressions over those in their brackets

  arguments : {es : List Expr} {ws rest : List Word} → rules.SpellsArguments Whole es ws rest → Gives (all_pieces (map expr_pieces es)) ws rest
  arguments rules.no_arguments are = (none, are)
  arguments (rules.arguments s) are = all_of_separated expr_pieces Whole whole s are

  arm : (x : Arm) (ws rest : List Word) → rules.SpellsArm Whole x ws rest → Gives (pieces.arm_pieces x) ws rest
  arm x ws rest (rules.arm {c = c} {v = v} {a = a} {b = b} r t s) are =
      let g = whole c ws a r are in
      let h = whole v b rest s (kept_token t g.1) in
      (by (pieces.of_arm c v) (both (expr_pieces c) (expr_pieces v) g.0 h.0), h.1)

  cast_operand : {o : Option Expr} {ws rest : List Word} → rules.SpellsCastOperand Whole o ws rest → Gives (optional_pieces (option_map expr_pieces o)) ws rest
  cast_operand (rules.cast_null t) are = (none, kept_token t are)
  cast_operand (rules.cast_expr {e = e} {ws = ws} {rest = rest} r) are = whole e ws rest r are

  module _ (value : Bool) (n : ℕ) where
    operand : {x : Operand} {ws rest : List Word} → rules.SpellsOperand value Whole n x ws rest → Gives (pieces.operand_pieces x) ws rest
    operand (rules.literal {t = t} s) are = (by (pieces.of_literal_operand t) (All-cons IsFormed (of_literal t) [] (spelled-literal s are) none), kept_text s are)
    operand (rules.number {t = t} s) are = (by (pieces.of_number_operand t) (All-cons IsFormed (of_number t) [] (spelled-number s are) none), kept_text s are)
    operand (rules.true_word t) are = (by pieces.of_true none, kept_token t are)
    operand (rules.false_word t) are = (by pieces.of_false none, kept_token t are)
    operand (rules.special {s = s} r) are = (by (pieces.of_special s) none, kept_special r are)
    operand (rules.value_word v t) are = (by pieces.of_value none, kept_token t are)
    operand (rules.reference {r = r} s) are = (by (pieces.of_reference_operand r) (All-cons IsFormed (of_reference r) [] tt none), kept_reference s are)
    operand (rules.call {f = f} {es = es} lt o l s r) are =
        let g = arguments s (kept_token l (kept_object o are)) in
        (by (pieces.of_call f es) (All-cons IsFormed (of_object f) (all_pieces (map expr_pieces es)) tt g.0), kept_token r g.1)
    operand (rules.count_all lt c l a r) are = (by pieces.of_count_all none, kept_token r (kept_token a (kept_token l (kept_token c are))))
    operand (rules.aggregate {f = f} {e = e} {b = b} {c = c} lt g l w r) are = let h = whole e b c w (kept_token l (kept_aggregate g are)) in (by (pieces.of_aggregate f e) h.0, kept_token r h.1)
    operand (rules.case_when {arms = arms} {o = o} lt c u s e f) are =
        let g = some_of_separated pieces.arm_pieces (rules.SpellsArm Whole) arm s (kept_token u (kept_token c are)) in
        let h = of_optional expr_pieces Whole whole e g.1 in
        (by (pieces.of_case arms o) (both (some_pieces (map pieces.arm_pieces arms)) (optional_pieces (option_map expr_pieces o)) g.0 h.0), kept_token f h.1)
    operand (rules.cast {o = o} {t = t} lt c l s u w r) are =
        let g = cast_operand s (kept_token l (kept_token c are)) in (
          by (pieces.of_cast o t) (All-cons IsFormed (of_type t) (optional_pieces (option_map expr_pieces o)) (type-form w) g.0),
          kept_token r (kept (deep_type w).peak (kept_token u g.1)),
        )
    operand (rules.exists {q = q} lt e l s r) are = let g = query s (kept_token l (kept_token e are)) in (by (pieces.of_exists q) (All-cons IsFormed of_subquery (query_pieces q) tt g.0), kept_token r g.1)
    operand (rules.subquery {q = q} lt l s r) are = let g = query s (kept_token l are) in (by (pieces.of_subquery_operand q) (All-cons IsFormed of_subquery (query_pieces q) tt g.0), kept_token r g.1)
    operand (rules.parenthesized {e = e} {a = a} {b = b} lt l w r) are = let g = whole e a b w (kept_token l are) in (by (pieces.of_parenthesized e) g.0, kept_token r g.1)

    factor : {x : Factor} {ws rest : List Word} → rules.SpellsFactor value Whole n x ws rest → Gives (pieces.factor_pieces x) ws rest
    factor (rules.factor {m = m} {o = o} s r) are = let g = operand r (kept_marked s are) in (by (pieces.of_factor m o) g.0, g.1)

    multiplied : (x : Multiplied) (ws rest : List Word) → rules.SpellsMultiplied value Whole n x ws rest → Gives (pieces.multiplied_pieces x) ws rest
    multiplied x ws rest (rules.multiplied {m = m} {f = f} s r) are = let g = factor r (kept_multiplicative s are) in (by (pieces.of_multiplied m f) g.0, g.1)

    term : {x : Term} {ws rest : List Word} → rules.SpellsTerm value Whole n x ws rest → Gives (pieces.term_pieces x) ws rest
    term (rules.term {f = f} {others = others} r s) are =
        let g = factor r are in
        let h = all_of_repeated pieces.multiplied_pieces (rules.SpellsMultiplied value Whole n) multiplied s g.1 in
        (by (pieces.of_term f others) (both (pieces.factor_pieces f) (all_pieces (map pieces.multiplied_pieces others)) g.0 h.0), h.1)

    added : (x : Added) (ws rest : List Word) → rules.SpellsAdded value Whole n x ws rest → Gives (pieces.added_pieces x) ws rest
    added x ws rest (rules.added {a = a} {t = t} s r) are = let g = term r (kept_additive s are) in (by (pieces.of_added a t) g.0, g.1)

    sum : {x : Sum} {ws rest : List Word} → rules.SpellsSum value Whole n x ws rest → Gives (pieces.sum_pieces x) ws rest
    sum (rules.sum {t = t} {others = others} r s) are =
        let g = term r are in
        let h = all_of_repeated pieces.added_pieces (rules.SpellsAdded value Whole n) added s g.1 in
        (by (pieces.of_sum t others) (both (pieces.term_pieces t) (all_pieces (map pieces.added_pieces others)) g.0 h.0), h.1)

    tail : {x : Tail} {ws rest : List Word} → rules.SpellsTail value Whole n x ws rest → Gives (pieces.tail_pieces x) ws rest
    tail (rules.compare {c = c} {s = s} r u) are = let g = sum u (kept_comparison r are) in (by (pieces.of_compare c s) g.0, g.1)
    tail (rules.is_null {negated = b} i m t) are = (by (pieces.of_is_null b) none, kept_token t (kept_marked m (kept_token i are)))
    tail (rules.between {negated = b} {low = low} {high = high} m t r a s) are =
        let g = sum r (kept_token t (kept_marked m are)) in
        let h = sum s (kept_token a g.1) in
        (by (pieces.of_between b low high) (both (pieces.sum_pieces low) (pieces.sum_pieces high) g.0 h.0), h.1)
    tail (rules.in_query {negated = b} {q = q} lt m t l s r) are =
        let g = query s (kept_token l (kept_token t (kept_marked m are))) in
        (by (pieces.of_in_query b q) (All-cons IsFormed of_subquery (query_pieces q) tt g.0), kept_token r g.1)
    tail (rules.in_list {negated = b} {es = es} lt m t l s r) are =
        let g = some_of_separated expr_pieces Whole whole s (kept_token l (kept_token t (kept_marked m are))) in
        (by (pieces.of_in_list b es) g.0, kept_token r g.1)
    tail (rules.like {negated = b} {s = s} m t r) are = let g = sum r (kept_token t (kept_marked m are)) in (by (pieces.of_like b s) g.0, g.1)

    predicate : {x : Predicate} {ws rest : List Word} → rules.SpellsPredicate value Whole n x ws rest → Gives (pieces.predicate_pieces x) ws rest
    predicate (rules.untested {s = s} r) are = let g = sum r are in (by (pieces.of_predicate s None) (both (pieces.sum_pieces s) [] g.0 none), g.1)
    predicate (rules.tested {s = s} {t = t} r u) are =
        let g = sum r are in
        let h = tail u g.1 in
        (by (pieces.of_predicate s (Some t)) (both (pieces.sum_pieces s) (pieces.tail_pieces t) g.0 h.0), h.1)

    negation : (x : Negation) (ws rest : List Word) → rules.SpellsNegation value Whole n x ws rest → Gives (pieces.negation_pieces x) ws rest
    negation x ws rest (rules.negation {negated = b} {p = p} m r) are = let g = predicate r (kept_marked m are) in (by (pieces.of_negation b p) g.0, g.1)

    conjunction : (x : Conjunction) (ws rest : List Word) → rules.SpellsConjunction value Whole n x ws rest → Gives (pieces.conjunction_pieces x) ws rest
    conjunction x ws rest (rules.conjunction {xs = xs} s) are = let g = some_of_separated pieces.negation_pieces (rules.SpellsNegation value Whole n) negation s are in (by (pieces.of_conjunction xs) g.0, g.1)

    expr : {x : Expr} {ws rest : List Word} → rules.SpellsExpr value Whole n x ws rest → Gives (expr_pieces x) ws rest
    expr (rules.expr {xs = xs} s) are = let g = some_of_separated pieces.conjunction_pieces (rules.SpellsConjunction value Whole n) conjunction s are in (by (pieces.of_expr xs) g.0, g.1)

-- ---- within any number of brackets

pub expr_gives : (value : Bool) (n : ℕ) (e : Expr) (ws rest : List Word) → rules.SpellsExprWithin value n e ws rest → Gives (expr_pieces e) ws rest
unfolding rules.SpellsExprWithin
expr_gives value zero e ws rest spelled = absurd spelled
expr_gives value (suc n) e ws rest spelled = expr (rules.SpellsExprWithin value n) (expr_gives value n) value n spelled

pub query_gives : (value : Bool) (n : ℕ) (q : Query) (ws rest : List Word) → rules.SpellsQueryWithin value n q ws rest → Gives (query_pieces q) ws rest
unfolding rules.SpellsQueryWithin
query_gives value zero q ws rest spelled = absurd spelled
query_gives value (suc n) q ws rest spelled = query (rules.SpellsExprWithin value (suc n)) (expr_gives value (suc n)) spelled

pub formed_expr : (value : Bool) (n : ℕ) (e : Expr) (words rest : List Word) → AreWords words → rules.SpellsExprWithin value n e words rest → AreFormed (expr_pieces e)
formed_expr value n e words rest are spelled = (expr_gives value n e words rest spelled are).0

pub formed_query : (value : Bool) (n : ℕ) (q : Query) (words rest : List Word) → AreWords words → rules.SpellsQueryWithin value n q words rest → AreFormed (query_pieces q)
formed_query value n q words rest are spelled = (query_gives value n q words rest spelled are).0
