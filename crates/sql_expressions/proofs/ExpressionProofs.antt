-- Expressions: what is read is spelled so, and what is spelled so is read.
use Rattle.std.proofs.Common.{◌≡◌, ℕ, ◌<◌, ◌≤◌, ◌-◌, Bool, true, false, List, length, Option, Some, None, refl, ap, subst, arith, lit<, lit≤}
use Rattle.std.specs.Prelude.{◌==◌, option_map, if◌then◌else◌}
use Rattle.std.proofs.lemmas.Bool.{ne_eqb, eqb-false}
use Rattle.sql_names.specs.declared.column.ObjectName.{ObjectName}
use Rattle.sql_tree.specs.declared.expr.Added.{Added}
use Rattle.sql_tree.specs.declared.expr.Additive.{Additive}
use Rattle.sql_tree.specs.declared.expr.Additive.TheVariants as additives
use Rattle.sql_tree.specs.declared.expr.Aggregate.{Aggregate}
use Rattle.sql_tree.specs.declared.expr.Arm.{Arm}
use Rattle.sql_tree.specs.declared.expr.Comparison.{Comparison}
use Rattle.sql_tree.specs.declared.expr.Comparison.TheVariants as comparisons
use Rattle.sql_tree.specs.declared.expr.Conjunction.{Conjunction}
use Rattle.sql_tree.specs.declared.expr.Expr.{Expr}
use Rattle.sql_tree.specs.declared.expr.Factor.{Factor}
use Rattle.sql_tree.specs.declared.expr.Multiplicative.{Multiplicative}
use Rattle.sql_tree.specs.declared.expr.Multiplicative.TheVariants as multiplicatives
use Rattle.sql_tree.specs.declared.expr.Multiplied.{Multiplied}
use Rattle.sql_tree.specs.declared.expr.Negation.{Negation}
use Rattle.sql_tree.specs.declared.expr.Operand.{Operand}
use Rattle.sql_tree.specs.declared.expr.Operand.TheVariants as operands
use Rattle.sql_tree.specs.declared.expr.Predicate.{Predicate, roll-Predicate}
use Rattle.sql_tree.specs.declared.expr.Query.{Query}
use Rattle.sql_tree.specs.declared.expr.Sum.{Sum}
use Rattle.sql_tree.specs.declared.expr.Tail.{Tail}
use Rattle.sql_tree.specs.declared.expr.Tail.TheVariants as tails
use Rattle.sql_tree.specs.declared.expr.Term.{Term}
use Rattle.sql_names.specs.declared.sort.Special.{Special}
use Rattle.sql_spelling.specs.Kinds.{is_name, same_kind}
use Rattle.sql_words.specs.declared.word.Word.{Word}
use Rattle.sql_spelling.specs.declared.kind.Kind.{Kind}
use Rattle.sql_spelling.specs.declared.kind.Kind.TheVariants as k
use Rattle.sql_phrases.specs.Reading.{peek, next, sees, after}
use Rattle.sql_phrases.specs.Shapes.{Spelled, Token, Separated, Marked, absent, present}
use Rattle.sql_phrases.specs.NameRules.{SpellsObjectName}
use Rattle.sql_phrases.specs.NameRules as names
use Rattle.sql_phrases.specs.NameParsers.{sees_name}
use Rattle.sql_phrases.specs.TypeRules.{SpellsSpecial}
use Rattle.sql_phrases.specs.TypeRules as types
use Rattle.sql_phrases.specs.TypeParsers.{special_by}
use Rattle.sql_phrases.specs.Parsers.{Parser, separated}
use Rattle.sql_expressions.specs.QueryRules.{SpellsReference, SpellsQuery}
use Rattle.sql_expressions.specs.QueryRules as queries
use Rattle.sql_expressions.specs.QueryParsers as queries_of
use Rattle.sql_expressions.specs.QueryParsers.{sees_qualified_star}
use Rattle.sql_expressions.specs.ExpressionRules.{SpellsComparison, equal, not_equal, less, less_or_equal, greater, greater_or_equal, SpellsAdditive, plus, minus, concatenation, SpellsMultiplicative, times, divided, SpellsAggregate, count, sum_of, min, max, avg, SpellsArguments, no_arguments, arguments, SpellsArm, arm, SpellsCastOperand, cast_null, cast_expr, SpellsOperand, literal, number, true_word, false_word, special, value_word, reference, call, count_all, aggregate, case_when, cast, exists, subquery, parenthesized, SpellsFactor, factor, SpellsMultiplied, multiplied, SpellsTerm, term, SpellsAdded, added, SpellsSum, sum, SpellsTail, compare, is_null, between, in_query, in_list, like, SpellsPredicate, untested, tested, SpellsNegation, negation, SpellsConjunction, conjunction, SpellsExpr, expr}
use Rattle.sql_expressions.specs.ExpressionParsers as parse
use Rattle.sql_expressions.specs.ExpressionParsers.{comparison_of, additive_of, begins_added, multiplicative_of, begins_multiplied, constant_of, case_opening}
use Rattle.sql_phrases.proofs.Follow.{follows, Below, below_more, passes, sees_no, sees_differs, sees_other}
use Rattle.sql_phrases.proofs.Lists.{Gives, gives_none, gives_some, gives_then, gives_if, gives_weaker, token_next, spells_at, after_not, gives_eat, gives_expect, expect_at, sees_at, after_at, next_at, peek_at, peek_spelled, next_spelled, spelling_at, below_token, shorter_token, shorter_spelled, Parses, separated_parses, separated_none, separated_begins, below_repeated, repeated_complete, repeated_sound, repeated_shorter, optional_complete, optional_sound, optional_below}
use Rattle.sql_phrases.proofs.Marks.{marked_at, marked_seen, marked_shorter}
use Rattle.sql_phrases.proofs.NameProofs.{object_name_at, gives_object_name, object_name_begins, object_name_shorter}
use Rattle.sql_phrases.proofs.TypeProofs.{opening_at, gives_opening, type_at, gives_type, special_sound}
use Rattle.sql_phrases.proofs.TypeLengths.{special_shorter, type_shorter}
use Rattle.sql_expressions.proofs.Binding.{binds, opens, name_opens}
use Rattle.sql_expressions.proofs.QueryProofs.{referred, reference_shorter, reference_begins, star_is_named, no_object, optional_shorter, not_begun, query_parses, query_begins}

-- ---- operators

comparison_sound : (ws : List Word) (kind : Kind) → peek ws ≡ kind → (c : Comparison) → comparison_of kind ≡ Some c → SpellsComparison c ws (next ws)
comparison_sound ws k.Equals e c h = let q : comparisons.Equal ≡ c = cc in subst (λ z. SpellsComparison z ws (next ws)) q (equal (token_next k.Equals tt e))
comparison_sound ws k.NotEquals e c h = let q : comparisons.NotEqual ≡ c = cc in subst (λ z. SpellsComparison z ws (next ws)) q (not_equal (token_next k.NotEquals tt e))
comparison_sound ws k.LessThan e c h = let q : comparisons.Less ≡ c = cc in subst (λ z. SpellsComparison z ws (next ws)) q (less (token_next k.LessThan tt e))
comparison_sound ws k.LessThanOrEquals e c h = let q : comparisons.LessOrEqual ≡ c = cc in subst (λ z. SpellsComparison z ws (next ws)) q (less_or_equal (token_next k.LessThanOrEquals tt e))
comparison_sound ws k.GreaterThan e c h = let q : comparisons.Greater ≡ c = cc in subst (λ z. SpellsComparison z ws (next ws)) q (greater (token_next k.GreaterThan tt e))
comparison_sound ws k.GreaterThanOrEquals e c h = let q : comparisons.GreaterOrEqual ≡ c = cc in subst (λ z. SpellsComparison z ws (next ws)) q (greater_or_equal (token_next k.GreaterThanOrEquals tt e))
comparison_sound ws _ e c h = cc

comparison_shorter : {c : Comparison} {ws rest : List Word} → SpellsComparison c ws rest → length rest < length ws
comparison_shorter (equal t) = shorter_token t
comparison_shorter (not_equal t) = shorter_token t
comparison_shorter (less t) = shorter_token t
comparison_shorter (less_or_equal t) = shorter_token t
comparison_shorter (greater t) = shorter_token t
comparison_shorter (greater_or_equal t) = shorter_token t

comparison_below : {c : Comparison} {ws rest : List Word} → SpellsComparison c ws rest → Below binds 10 ws
comparison_below (equal t) = below_token binds 10 t (lit< tt)
comparison_below (not_equal t) = below_token binds 10 t (lit< tt)
comparison_below (less t) = below_token binds 10 t (lit< tt)
comparison_below (less_or_equal t) = below_token binds 10 t (lit< tt)
comparison_below (greater t) = below_token binds 10 t (lit< tt)
comparison_below (greater_or_equal t) = below_token binds 10 t (lit< tt)

additive_at : {a : Additive} {ws rest : List Word} → SpellsAdditive a ws rest → (additive_of (peek ws) ≡ Some a) × (next ws ≡ rest)
additive_at (plus t) = (rw (peek_at t) refl, next_at t)
additive_at (minus t) = (rw (peek_at t) refl, next_at t)
additive_at (concatenation t) = (rw (peek_at t) refl, next_at t)

additive_sound : (ws : List Word) (kind : Kind) → peek ws ≡ kind → (a : Additive) → additive_of kind ≡ Some a → SpellsAdditive a ws (next ws)
additive_sound ws k.PlusSign e a h = let q : additives.Plus ≡ a = cc in subst (λ z. SpellsAdditive z ws (next ws)) q (plus (token_next k.PlusSign tt e))
additive_sound ws k.MinusSign e a h = let q : additives.Minus ≡ a = cc in subst (λ z. SpellsAdditive z ws (next ws)) q (minus (token_next k.MinusSign tt e))
additive_sound ws k.Concatenation e a h = let q : additives.Concatenation ≡ a = cc in subst (λ z. SpellsAdditive z ws (next ws)) q (concatenation (token_next k.Concatenation tt e))
additive_sound ws _ e a h = cc

additive_shorter : {a : Additive} {ws rest : List Word} → SpellsAdditive a ws rest → length rest < length ws
additive_shorter (plus t) = shorter_token t
additive_shorter (minus t) = shorter_token t
additive_shorter (concatenation t) = shorter_token t

additive_begins : {a : Additive} {ws rest : List Word} → SpellsAdditive a ws rest → begins_added (peek ws) ≡ true
additive_begins (plus t) = rw (peek_at t) refl
additive_begins (minus t) = rw (peek_at t) refl
additive_begins (concatenation t) = rw (peek_at t) refl

additive_below : {a : Additive} {ws rest : List Word} → SpellsAdditive a ws rest → Below binds 11 ws
additive_below (plus t) = below_token binds 11 t (lit< tt)
additive_below (minus t) = below_token binds 11 t (lit< tt)
additive_below (concatenation t) = below_token binds 11 t (lit< tt)

no_added_by : (kind : Kind) → binds kind < 10 → begins_added kind ≡ false
no_added_by k.PlusSign lt = absurd (omega (arith, lt))
no_added_by k.MinusSign lt = absurd (omega (arith, lt))
no_added_by k.Concatenation lt = absurd (omega (arith, lt))
no_added_by _ lt = refl

no_added : (ws : List Word) → Below binds 10 ws → begins_added (peek ws) ≡ false
no_added ws s = no_added_by (peek ws) s.below

multiplicative_at : {m : Multiplicative} {ws rest : List Word} → SpellsMultiplicative m ws rest → (multiplicative_of (peek ws) ≡ Some m) × (next ws ≡ rest)
multiplicative_at (times t) = (rw (peek_at t) refl, next_at t)
multiplicative_at (divided t) = (rw (peek_at t) refl, next_at t)

multiplicative_sound : (ws : List Word) (kind : Kind) → peek ws ≡ kind → (m : Multiplicative) → multiplicative_of kind ≡ Some m → SpellsMultiplicative m ws (next ws)
multiplicative_sound ws k.Asterisk e m h = let q : multiplicatives.Times ≡ m = cc in subst (λ z. SpellsMultiplicative z ws (next ws)) q (times (token_next k.Asterisk tt e))
multiplicative_sound ws k.Solidus e m h = let q : multiplicatives.Divided ≡ m = cc in subst (λ z. SpellsMultiplicative z ws (next ws)) q (divided (token_next k.Solidus tt e))
multiplicative_sound ws _ e m h = cc

multiplicative_shorter : {m : Multiplicative} {ws rest : List Word} → SpellsMultiplicative m ws rest → length rest < length ws
multiplicative_shorter (times t) = shorter_token t
multiplicative_shorter (divided t) = shorter_token t

multiplicative_begins : {m : Multiplicative} {ws rest : List Word} → SpellsMultiplicative m ws rest → begins_multiplied (peek ws) ≡ true
multiplicative_begins (times t) = rw (peek_at t) refl
multiplicative_begins (divided t) = rw (peek_at t) refl

multiplicative_below : {m : Multiplicative} {ws rest : List Word} → SpellsMultiplicative m ws rest → Below binds 12 ws
multiplicative_below (times t) = below_token binds 12 t (lit< tt)
multiplicative_below (divided t) = below_token binds 12 t (lit< tt)

no_multiplied_by : (kind : Kind) → binds kind < 11 → begins_multiplied kind ≡ false
no_multiplied_by k.Asterisk lt = absurd (omega (arith, lt))
no_multiplied_by k.Solidus lt = absurd (omega (arith, lt))
no_multiplied_by _ lt = refl

no_multiplied : (ws : List Word) → Below binds 11 ws → begins_multiplied (peek ws) ≡ false
no_multiplied ws s = no_multiplied_by (peek ws) s.below

aggregate_shorter : {f : Aggregate} {ws rest : List Word} → SpellsAggregate f ws rest → length rest < length ws
aggregate_shorter (count t) = shorter_token t
aggregate_shorter (sum_of t) = shorter_token t
aggregate_shorter (min t) = shorter_token t
aggregate_shorter (max t) = shorter_token t
aggregate_shorter (avg t) = shorter_token t

-- ---- CASE

case_opening_at : (n : ℕ) {ws a : List Word} → 0 < n → Token k.Case ws a → case_opening n ws ≡ Some (tt, a)
unfolding case_opening
case_opening_at n lt t = let e : (n == 0) ≡ false = ne_eqb n 0 (λ z. absurd (omega arith)) in rw (e, expect_at t)

gives_case_opening : (n : ℕ) {ws : List Word} → Gives (case_opening n ws) (λ _ a. (0 < n) × Token k.Case ws a)
unfolding case_opening
gives_case_opening n = gives_if (n == 0) (λ _. gives_none) (λ e. gives_weaker (gives_expect k.Case tt) (λ _ a t. (let d : n ≡ 0 → ⊥ = eqb-false n 0 e in omega arith, t)))

-- ---- words that are values by themselves

constant_at : (value : Bool) {x : Operand} {ws rest : List Word} (it : Kind) → Token it ws rest → constant_of value it ≡ Some x → parse.constant value ws ≡ Some (x, rest)
unfolding parse.constant
constant_at value it t c = rw (peek_at t, c, next_at t)

-- ---- what stands in brackets

module _ (whole : Parser Expr) (Whole : Spelled Expr) (w : Parses binds whole Whole 7)
    (begun : (e : Expr) (ws rest : List Word) → Whole e ws rest → 0 < opens (peek ws))
    (never_star : (ws : List Word) → sees_qualified_star ws ≡ true → whole ws ≡ None) where
  never_begun : (by : Kind) (e : Expr) (ws rest : List Word) → Whole e ws rest → opens by ≡ 0 → sees by ws ≡ false
  never_begun = not_begun whole Whole w begun never_star

  query_parse : Parses binds (queries_of.query whole) (SpellsQuery Whole) 1
  query_parse = query_parses whole Whole w begun never_star

  sees_select : {q : Query} {ws rest : List Word} → SpellsQuery Whole q ws rest → sees k.Select ws ≡ true
  unfolding sees same_kind
  sees_select is = rw (query_begins whole Whole w begun never_star is) refl

  list_parse : Parses binds (separated k.Comma whole) (Separated k.Comma Whole) 4
  list_parse = separated_parses binds k.Comma tt whole Whole 7 (lit< tt) w

  list_never : (by : Kind) (es : List Expr) (ws rest : List Word) → Separated k.Comma Whole es ws rest → opens by ≡ 0 → sees by ws ≡ false
  list_never by es ws rest m z = separated_begins (λ l. sees by l ≡ false) (λ e l r is. never_begun by e l r is z) es ws rest m

  closed_query_at : {q : Query} {a b rest : List Word} → SpellsQuery Whole q a b → Token k.RightParen b rest → parse.closed_query whole a ≡ Some (q, rest)
  unfolding parse.closed_query
  closed_query_at {q} {a} {b} is r = rw (query_parse.complete q a b is (below_token binds 1 r (lit< tt)), expect_at r)

  closed_list_at : {es : List Expr} {a b rest : List Word} → Separated k.Comma Whole es a b → Token k.RightParen b rest → parse.closed_list whole a ≡ Some (es, rest)
  unfolding parse.closed_list
  closed_list_at {es} {a} {b} is r = rw (list_parse.complete es a b is (below_token binds 4 r (lit< tt)), expect_at r)

  closed_expr_at : {e : Expr} {a b rest : List Word} → Whole e a b → Token k.RightParen b rest → parse.closed_expr whole a ≡ Some (e, rest)
  unfolding parse.closed_expr
  closed_expr_at {e} {a} {b} is r = rw (w.complete e a b is (below_token binds 7 r (lit< tt)), expect_at r)

  gives_closed_query : {a : List Word} → Gives (parse.closed_query whole a) (λ q rest. (b : List Word) × SpellsQuery Whole q a b × Token k.RightParen b rest)
  unfolding parse.closed_query
  gives_closed_query {a} = gives_then (query_parse.sound a) (λ q b is. gives_then (gives_expect k.RightParen tt) (λ _ rest r. gives_some (b, is, r)))

  gives_closed_list : {a : List Word} → Gives (parse.closed_list whole a) (λ es rest. (b : List Word) × Separated k.Comma Whole es a b × Token k.RightParen b rest)
  unfolding parse.closed_list
  gives_closed_list {a} = gives_then (list_parse.sound a) (λ es b is. gives_then (gives_expect k.RightParen tt) (λ _ rest r. gives_some (b, is, r)))

  gives_closed_expr : {a : List Word} → Gives (parse.closed_expr whole a) (λ e rest. (b : List Word) × Whole e a b × Token k.RightParen b rest)
  unfolding parse.closed_expr
  gives_closed_expr {a} = gives_then (w.sound a) (λ e b is. gives_then (gives_expect k.RightParen tt) (λ _ rest r. gives_some (b, is, r)))

  arguments_at : {es : List Expr} {a b rest : List Word} → SpellsArguments Whole es a b → Token k.RightParen b rest → parse.arguments whole a ≡ Some (es, rest)
  unfolding parse.arguments
  arguments_at no_arguments r = rw (sees_at r, after_at r)
  arguments_at {es} {a} {b} (arguments is) r = let h = list_never k.RightParen es a b is refl in rw (h, after_not k.RightParen a h) (closed_list_at is r)

  gives_arguments : {a : List Word} → Gives (parse.arguments whole a) (λ es rest. (b : List Word) × SpellsArguments Whole es a b × Token k.RightParen b rest)
  unfolding parse.arguments
  gives_arguments {a} = gives_eat k.RightParen tt _ _ (λ t. gives_some (a, no_arguments, t)) (λ e. rw e (gives_weaker gives_closed_list (λ es rest g. (g.0, arguments g.1, g.2))))

  arguments_shorter : {es : List Expr} {a b : List Word} → SpellsArguments Whole es a b → length b ≤ length a
  arguments_shorter no_arguments = omega arith
  arguments_shorter {es} {a} {b} (arguments is) = omega (arith, list_parse.shorter es a b is)

  -- ---- WHEN expr THEN expr

  arm_at : (x : Arm) (ws rest : List Word) → SpellsArm Whole x ws rest → Below binds 7 rest → parse.arm whole ws ≡ Some (x, rest)
  unfolding parse.arm
  arm_at x ws rest (arm {c = c} {v = v} {a = a} {b = b} is t is') s = rw (w.complete c ws a is (below_token binds 7 t (lit< tt)), expect_at t, w.complete v b rest is' s)

  arm_sound : (ws : List Word) → Gives (parse.arm whole ws) (λ x a. SpellsArm Whole x ws a)
  unfolding parse.arm
  arm_sound ws = gives_then (w.sound ws) (λ c a is. gives_then (gives_expect k.Then tt) (λ _ b t. gives_then (w.sound b) (λ v rest is'. gives_some (arm is t is'))))

  arm_shorter : (x : Arm) (ws rest : List Word) → SpellsArm Whole x ws rest → length rest < length ws
  arm_shorter x ws rest (arm {c = c} {v = v} {a = a} {b = b} is t is') = omega (arith, w.shorter c ws a is, shorter_token t, w.shorter v b rest is')

  arms_parse : Parses binds (separated k.When (parse.arm whole)) (Separated k.When (SpellsArm Whole)) 1
  arms_parse = separated_parses binds k.When tt (parse.arm whole) (SpellsArm Whole) 7 (lit< tt) (record { sound = arm_sound; complete = arm_at; shorter = arm_shorter })

  -- ---- expr | NULL

  cast_operand_at : {x : Option Expr} {ws rest : List Word} → SpellsCastOperand Whole x ws rest → Below binds 7 rest → parse.cast_operand whole ws ≡ Some (x, rest)
  unfolding parse.cast_operand
  cast_operand_at (cast_null t) s = rw (sees_at t, after_at t)
  cast_operand_at {ws = ws} {rest = rest} (cast_expr {e = e} is) s = let h = never_begun k.Null e ws rest is refl in rw (h, after_not k.Null ws h, w.complete e ws rest is s)

  gives_cast_operand : {ws : List Word} → Gives (parse.cast_operand whole ws) (λ x a. SpellsCastOperand Whole x ws a)
  unfolding parse.cast_operand
  gives_cast_operand {ws} = gives_eat k.Null tt _ _ (λ t. gives_some (cast_null t)) (λ e. rw e (gives_then (w.sound ws) (λ x a is. gives_some (cast_expr is))))

  cast_operand_shorter : {x : Option Expr} {ws rest : List Word} → SpellsCastOperand Whole x ws rest → length rest < length ws
  cast_operand_shorter (cast_null t) = shorter_token t
  cast_operand_shorter {ws = ws} {rest = rest} (cast_expr {e = e} is) = w.shorter e ws rest is

  -- ---- operands

  module _ (value : Bool) (n : ℕ) where
    named_by : (ws : List Word) (kind : Kind) → is_name kind ≡ true → parse.operand_by value whole n kind ws ≡ parse.named_or_constant value whole n ws
    unfolding is_name same_kind
    named_by ws k.Literal e = cc
    named_by ws k.Number e = cc
    named_by ws k.LeftParen e = cc
    named_by ws k.Count e = cc
    named_by ws k.Sum e = cc
    named_by ws k.Min e = cc
    named_by ws k.Max e = cc
    named_by ws k.Avg e = cc
    named_by ws k.Case e = cc
    named_by ws k.Cast e = cc
    named_by ws k.Exists e = cc
    named_by ws _ e = refl

    -- where a name comes next
    operand_named : (ws : List Word) → is_name (peek ws) ≡ true → parse.operand value whole n ws ≡ parse.named value whole n ws
    unfolding parse.operand parse.named_or_constant sees_name
    operand_named ws e = rw (named_by ws (peek ws) e, e)

    -- where a word that is a value by itself comes next
    word_at : {x : Operand} {ws rest : List Word} (it : Kind) → Token it ws rest → is_name it ≡ false → parse.operand_by value whole n it ws ≡ parse.named_or_constant value whole n ws
        → constant_of value it ≡ Some x → parse.operand value whole n ws ≡ Some (x, rest)
    unfolding parse.operand parse.named_or_constant sees_name
    word_at it t d o c = rw (peek_at t, o, peek_at t, d) (constant_at value it t c)

    reference_operand_at : {o : ObjectName} {ws rest : List Word} → SpellsObjectName o ws rest → Below binds 12 rest → parse.operand value whole n ws ≡ Some (operands.Reference (queries_of.reference_of o), rest)
    unfolding parse.named
    reference_operand_at {ws = ws} {rest = rest} is s =
        rw (operand_named ws (object_name_begins is), object_name_at is (passes binds 12 k.Period rest s (lit≤ tt)), passes binds 12 k.LeftParen rest s (lit≤ tt))

    aggregate_at : {f : Aggregate} {e : Expr} {ws a b c rest : List Word} → 0 < n → SpellsAggregate f ws a → Token k.LeftParen a b → Whole e b c → Token k.RightParen c rest
        → parse.operand value whole n ws ≡ Some (operands.Aggregate f e, rest)
    unfolding parse.operand parse.aggregate parse.count parse.counted
    aggregate_at {e = e} {b = b} {c = c} lt (count t) l is r =
        let h = never_begun k.Asterisk e b c is refl in rw (peek_at t, next_at t, opening_at n lt l, h, after_not k.Asterisk b h, closed_expr_at is r)
    aggregate_at lt (sum_of t) l is r = rw (peek_at t, next_at t, opening_at n lt l, closed_expr_at is r)
    aggregate_at lt (min t) l is r = rw (peek_at t, next_at t, opening_at n lt l, closed_expr_at is r)
    aggregate_at lt (max t) l is r = rw (peek_at t, next_at t, opening_at n lt l, closed_expr_at is r)
    aggregate_at lt (avg t) l is r = rw (peek_at t, next_at t, opening_at n lt l, closed_expr_at is r)

    special_operand_at : {s : Special} {ws rest : List Word} → SpellsSpecial s ws rest → parse.operand value whole n ws ≡ Some (operands.Special s, rest)
    unfolding is_name same_kind
    special_operand_at (types.current_user t) = word_at k.CurrentUser t refl refl refl
    special_operand_at (types.current_date t) = word_at k.CurrentDate t refl refl refl
    special_operand_at (types.current_time t) = word_at k.CurrentTime t refl refl refl
    special_operand_at (types.current_timestamp t) = word_at k.CurrentTimestamp t refl refl refl

    operand_at : (x : Operand) (ws rest : List Word) → SpellsOperand value Whole n x ws rest → Below binds 12 rest → parse.operand value whole n ws ≡ Some (x, rest)
    unfolding parse.operand parse.bracketed parse.named parse.case_when parse.cast parse.exists parse.count parse.counted is_name same_kind
    operand_at x ws rest (literal t) s = rw (peek_spelled t, spelling_at t, next_spelled t)
    operand_at x ws rest (number t) s = rw (peek_spelled t, spelling_at t, next_spelled t)
    operand_at x ws rest (true_word t) s = word_at k.True t refl refl refl
    operand_at x ws rest (false_word t) s = word_at k.False t refl refl refl
    operand_at x ws rest (special t) s = special_operand_at t
    operand_at x ws rest (value_word v t) s = word_at k.Value t refl refl (rw v refl)
    operand_at x ws rest (reference (queries.unqualified i)) s = reference_operand_at (names.unqualified i) s
    operand_at x ws rest (reference (queries.qualified q d i)) s = reference_operand_at (names.qualified q d i) s
    operand_at x ws rest (call {a = a} lt is l es r) s =
        rw (operand_named ws (object_name_begins is), object_name_at is (sees_other k.Period k.LeftParen a (peek_at l) refl), sees_at l, opening_at n lt l, arguments_at es r)
    operand_at x ws rest (count_all lt t l i r) s = rw (peek_at t, next_at t, opening_at n lt l, sees_at i, after_at i, expect_at r)
    operand_at x ws rest (aggregate lt t l is r) s = aggregate_at lt t l is r
    operand_at x ws rest (case_when {arms = arms} {o = o} {b = b} {c = c} {d = d} lt t u m other e) s =
        rw (
          peek_at t,
          case_opening_at n lt t,
          expect_at u,
          arms_parse.complete arms b c m (optional_below binds 1 k.Else Whole o c d other (below_token binds 1 e (lit< tt)) (lit< tt)),
          optional_complete k.Else whole Whole o c d other (sees_other k.Else k.End d (peek_at e) refl) (λ y a r. w.complete y a d r (below_token binds 7 e (lit< tt))),
          expect_at e,
        )
    operand_at x ws rest (cast lt t l o u is r) s =
        rw (peek_at t, next_at t, opening_at n lt l, cast_operand_at o (below_token binds 7 u (lit< tt)), expect_at u, type_at (n - 1) is (below_token follows 10 r (lit< tt)), expect_at r)
    operand_at x ws rest (exists lt t l is r) s = rw (peek_at t, next_at t, opening_at n lt l, closed_query_at is r)
    operand_at x ws rest (subquery lt l is r) s = rw (peek_at l, opening_at n lt l, sees_select is, closed_query_at is r)
    operand_at x ws rest (parenthesized {e = e} {a = a} {b = b} lt l is r) s = rw (peek_at l, opening_at n lt l, never_begun k.Select e a b is refl, closed_expr_at is r)

    gives_named : {ws : List Word} → Gives (parse.named value whole n ws) (λ x rest. SpellsOperand value Whole n x ws rest)
    unfolding parse.named
    gives_named {ws} = gives_then gives_object_name (λ f a is. gives_if (sees k.LeftParen a)
        (λ _. gives_then (gives_opening n) (λ _ b o. gives_then gives_arguments (λ es rest g. gives_some (call o.0 is o.1 g.1 g.2))))
        (λ _. gives_some (reference (referred is))))

    gives_aggregate : {f : Aggregate} {ws : List Word} → SpellsAggregate f ws (next ws) → Gives (parse.aggregate value whole n f ws) (λ x rest. SpellsOperand value Whole n x ws rest)
    unfolding parse.aggregate
    gives_aggregate is = gives_then (gives_opening n) (λ _ b o. gives_then gives_closed_expr (λ e rest g. gives_some (aggregate o.0 is o.1 g.1 g.2)))

    gives_count : {ws : List Word} → Token k.Count ws (next ws) → Gives (parse.count value whole n ws) (λ x rest. SpellsOperand value Whole n x ws rest)
    unfolding parse.count parse.counted
    gives_count t = gives_then (gives_opening n) (λ _ b o. gives_eat k.Asterisk tt _ _
        (λ i. gives_then (gives_expect k.RightParen tt) (λ _ rest r. gives_some (count_all o.0 t o.1 i r)))
        (λ e. rw e (gives_then gives_closed_expr (λ x rest g. gives_some (aggregate o.0 (count t) o.1 g.1 g.2)))))

    gives_case_when : {ws : List Word} → Gives (parse.case_when value whole n ws) (λ x rest. SpellsOperand value Whole n x ws rest)
    unfolding parse.case_when
    gives_case_when = gives_then (gives_case_opening n) (λ _ a t. gives_then (gives_expect k.When tt) (λ _ b u. gives_then (arms_parse.sound b) (λ arms c m.
        gives_then (optional_sound k.Else tt whole Whole w.sound c) (λ o d other. gives_then (gives_expect k.End tt) (λ _ rest e. gives_some (case_when t.0 t.1 u m other e))))))

    gives_cast : {ws : List Word} → Token k.Cast ws (next ws) → Gives (parse.cast value whole n ws) (λ x rest. SpellsOperand value Whole n x ws rest)
    unfolding parse.cast
    gives_cast t = gives_then (gives_opening n) (λ _ b l. gives_then gives_cast_operand (λ o c is. gives_then (gives_expect k.As tt) (λ _ d u. gives_then (gives_type (n - 1)) (λ s e is'.
        gives_then (gives_expect k.RightParen tt) (λ _ rest r. gives_some (cast l.0 t l.1 is u is' r))))))

    gives_exists : {ws : List Word} → Token k.Exists ws (next ws) → Gives (parse.exists value whole n ws) (λ x rest. SpellsOperand value Whole n x ws rest)
    unfolding parse.exists
    gives_exists t = gives_then (gives_opening n) (λ _ b o. gives_then gives_closed_query (λ q rest g. gives_some (exists o.0 t o.1 g.1 g.2)))

    gives_bracketed : {ws a : List Word} → 0 < n → Token k.LeftParen ws a → Gives (parse.bracketed whole a) (λ x rest. SpellsOperand value Whole n x ws rest)
    unfolding parse.bracketed
    gives_bracketed {ws} {a} lt l = gives_if (sees k.Select a)
        (λ _. gives_then gives_closed_query (λ q rest g. gives_some (subquery lt l g.1 g.2)))
        (λ _. gives_then gives_closed_expr (λ e rest g. gives_some (parenthesized lt l g.1 g.2)))

    given_value : (ws : List Word) → peek ws ≡ k.Value → (t : Bool) → value ≡ t → Gives (parse.constant_found (if t then Some operands.Value else None) ws) (λ x rest. SpellsOperand value Whole n x ws rest)
    given_value ws e true h = gives_some (value_word h (token_next k.Value tt e))
    given_value ws e false h = gives_none

    given_special : (ws : List Word) (kind : Kind) → peek ws ≡ kind → (s : Option Special) → special_by kind ≡ s → Gives (parse.constant_found (option_map operands.Special s) ws) (λ x rest. SpellsOperand value Whole n x ws rest)
    given_special ws kind e (Some s) h = gives_some (special (special_sound ws kind e s h))
    given_special ws kind e None h = gives_none

    constant_sound_by : (ws : List Word) (kind : Kind) → peek ws ≡ kind → Gives (parse.constant_found (constant_of value kind) ws) (λ x rest. SpellsOperand value Whole n x ws rest)
    constant_sound_by ws k.True e = gives_some (true_word (token_next k.True tt e))
    constant_sound_by ws k.False e = gives_some (false_word (token_next k.False tt e))
    constant_sound_by ws k.Value e = given_value ws e value refl
    constant_sound_by ws kind e = given_special ws kind e (special_by kind) refl

    gives_named_or_constant : {ws : List Word} → Gives (parse.named_or_constant value whole n ws) (λ x rest. SpellsOperand value Whole n x ws rest)
    unfolding parse.named_or_constant parse.constant
    gives_named_or_constant {ws} = gives_if (sees_name ws) (λ _. gives_named) (λ _. constant_sound_by ws (peek ws) refl)

    operand_sound_by : (ws : List Word) (kind : Kind) → peek ws ≡ kind → Gives (parse.operand_by value whole n kind ws) (λ x rest. SpellsOperand value Whole n x ws rest)
    operand_sound_by ws k.Literal e = gives_some (literal (spells_at k.Literal tt e))
    operand_sound_by ws k.Number e = gives_some (number (spells_at k.Number tt e))
    operand_sound_by ws k.LeftParen e = gives_then (gives_opening n) (λ _ a o. gives_bracketed o.0 o.1)
    operand_sound_by ws k.Count e = gives_count (token_next k.Count tt e)
    operand_sound_by ws k.Sum e = gives_aggregate (sum_of (token_next k.Sum tt e))
    operand_sound_by ws k.Min e = gives_aggregate (min (token_next k.Min tt e))
    operand_sound_by ws k.Max e = gives_aggregate (max (token_next k.Max tt e))
    operand_sound_by ws k.Avg e = gives_aggregate (avg (token_next k.Avg tt e))
    operand_sound_by ws k.Case e = gives_case_when
    operand_sound_by ws k.Cast e = gives_cast (token_next k.Cast tt e)
    operand_sound_by ws k.Exists e = gives_exists (token_next k.Exists tt e)
    operand_sound_by ws _ e = gives_named_or_constant

    operand_shorter : (x : Operand) (ws rest : List Word) → SpellsOperand value Whole n x ws rest → length rest < length ws
    operand_shorter x ws rest (literal t) = shorter_spelled t
    operand_shorter x ws rest (number t) = shorter_spelled t
    operand_shorter x ws rest (true_word t) = shorter_token t
    operand_shorter x ws rest (false_word t) = shorter_token t
    operand_shorter x ws rest (special t) = special_shorter t
    operand_shorter x ws rest (value_word v t) = shorter_token t
    operand_shorter x ws rest (reference {r = r} is) = reference_shorter r ws rest is
    operand_shorter x ws rest (call {a = a} lt is l es r) = omega (arith, object_name_shorter _ ws a is, shorter_token l, arguments_shorter es, shorter_token r)
    operand_shorter x ws rest (count_all lt t l i r) = omega (arith, shorter_token t, shorter_token l, shorter_token i, shorter_token r)
    operand_shorter x ws rest (aggregate {e = e} {b = b} {c = c} lt t l is r) = omega (arith, aggregate_shorter t, shorter_token l, w.shorter e b c is, shorter_token r)
    operand_shorter x ws rest (case_when {arms = arms} {b = b} {c = c} {d = d} lt t u m o e) =
        omega (arith, shorter_token t, shorter_token u, arms_parse.shorter arms b c m, optional_shorter (λ y a r. w.shorter y a d r) o, shorter_token e)
    operand_shorter x ws rest (cast lt t l o u is r) = omega (arith, shorter_token t, shorter_token l, cast_operand_shorter o, shorter_token u, type_shorter (n - 1) is, shorter_token r)
    operand_shorter x ws rest (exists {q = q} {b = b} {c = c} lt t l is r) = omega (arith, shorter_token t, shorter_token l, query_parse.shorter q b c is, shorter_token r)
    operand_shorter x ws rest (subquery {q = q} {a = a} {b = b} lt l is r) = omega (arith, shorter_token l, query_parse.shorter q a b is, shorter_token r)
    operand_shorter x ws rest (parenthesized {e = e} {a = a} {b = b} lt l is r) = omega (arith, shorter_token l, w.shorter e a b is, shorter_token r)

    operand_begins : {x : Operand} {ws rest : List Word} → SpellsOperand value Whole n x ws rest → opens (peek ws) ≡ 3
    operand_begins (literal t) = ap opens (peek_spelled t)
    operand_begins (number t) = ap opens (peek_spelled t)
    operand_begins (true_word t) = ap opens (peek_at t)
    operand_begins (false_word t) = ap opens (peek_at t)
    operand_begins (special (types.current_user t)) = ap opens (peek_at t)
    operand_begins (special (types.current_date t)) = ap opens (peek_at t)
    operand_begins (special (types.current_time t)) = ap opens (peek_at t)
    operand_begins (special (types.current_timestamp t)) = ap opens (peek_at t)
    operand_begins (value_word v t) = ap opens (peek_at t)
    operand_begins {ws = ws} (reference is) = name_opens (peek ws) (reference_begins is)
    operand_begins {ws = ws} (call lt is l es r) = name_opens (peek ws) (object_name_begins is)
    operand_begins (count_all lt t l i r) = ap opens (peek_at t)
    operand_begins (aggregate lt (count t) l is r) = ap opens (peek_at t)
    operand_begins (aggregate lt (sum_of t) l is r) = ap opens (peek_at t)
    operand_begins (aggregate lt (min t) l is r) = ap opens (peek_at t)
    operand_begins (aggregate lt (max t) l is r) = ap opens (peek_at t)
    operand_begins (aggregate lt (avg t) l is r) = ap opens (peek_at t)
    operand_begins (case_when lt t u m o e) = ap opens (peek_at t)
    operand_begins (cast lt t l o u is r) = ap opens (peek_at t)
    operand_begins (exists lt t l is r) = ap opens (peek_at t)
    operand_begins (subquery lt l is r) = ap opens (peek_at l)
    operand_begins (parenthesized lt l is r) = ap opens (peek_at l)

    operand_none : (ws : List Word) → sees_qualified_star ws ≡ true → parse.operand value whole n ws ≡ None
    unfolding parse.named
    operand_none ws h = rw (operand_named ws (star_is_named ws h), no_object ws h)

    operand_sound : (ws : List Word) → Gives (parse.operand value whole n ws) (λ x a. SpellsOperand value Whole n x ws a)
    unfolding parse.operand
    operand_sound ws = operand_sound_by ws (peek ws) refl

    -- ---- factor := [-] prim

    factor_at : (x : Factor) (ws rest : List Word) → SpellsFactor value Whole n x ws rest → Below binds 12 rest → parse.factor value whole n ws ≡ Some (x, rest)
    unfolding parse.factor
    factor_at x ws rest (factor {o = o} {a = a} m is) s =
        let e = marked_at m (sees_no opens k.MinusSign a (λ h. absurd (omega (arith, operand_begins is, h)))) in
        rw (e.0, e.1, operand_at o a rest is s)

    factor_sound : (ws : List Word) → Gives (parse.factor value whole n ws) (λ x a. SpellsFactor value Whole n x ws a)
    unfolding parse.factor
    factor_sound ws = gives_then (operand_sound (after k.MinusSign ws)) (λ o a is. gives_some (factor (marked_seen k.MinusSign tt ws) is))

    factor_shorter : (x : Factor) (ws rest : List Word) → SpellsFactor value Whole n x ws rest → length rest < length ws
    factor_shorter x ws rest (factor {o = o} {a = a} m is) = omega (arith, marked_shorter m, operand_shorter o a rest is)

    factor_begins : {x : Factor} {ws rest : List Word} → SpellsFactor value Whole n x ws rest → 1 < opens (peek ws)
    factor_begins (factor absent is) = rw (operand_begins is) (lit< tt)
    factor_begins (factor (present t) is) = rw (peek_at t) (lit< tt)

    factor_none : (ws : List Word) → sees_qualified_star ws ≡ true → parse.factor value whole n ws ≡ None
    unfolding parse.factor is_name same_kind
    factor_none ws h = let e = sees_differs is_name k.MinusSign ws (star_is_named ws h) refl in rw (after_not k.MinusSign ws e, operand_none ws h)

    -- ---- term := factor {('*' | /) factor}

    multiplied_at : (x : Multiplied) (ws rest : List Word) → SpellsMultiplied value Whole n x ws rest → Below binds 12 rest → parse.multiplied value whole n ws ≡ Some (x, rest)
    unfolding parse.multiplied
    multiplied_at x ws rest (multiplied {f = f} {a = a} m is) s = let p = multiplicative_at m in rw (p.0, p.1, factor_at f a rest is s)

    multiplied_found : (ws : List Word) (m : Option Multiplicative) → multiplicative_of (peek ws) ≡ m → Gives (parse.multiplied_by value whole n m ws) (λ x a. SpellsMultiplied value Whole n x ws a)
    multiplied_found ws (Some m) e = gives_then (factor_sound (next ws)) (λ f rest is. gives_some (multiplied (multiplicative_sound ws (peek ws) refl m e) is))
    multiplied_found ws None e = gives_none

    multiplied_shorter : (x : Multiplied) (ws rest : List Word) → SpellsMultiplied value Whole n x ws rest → length rest < length ws
    multiplied_shorter x ws rest (multiplied {f = f} {a = a} m is) = omega (arith, multiplicative_shorter m, factor_shorter f a rest is)

    multiplied_begins : (x : Multiplied) (ws rest : List Word) → SpellsMultiplied value Whole n x ws rest → begins_multiplied (peek ws) ≡ true
    multiplied_begins x ws rest (multiplied m is) = multiplicative_begins m

    multiplied_below : (x : Multiplied) (ws rest : List Word) → SpellsMultiplied value Whole n x ws rest → Below binds 12 ws
    multiplied_below x ws rest (multiplied m is) = multiplicative_below m

    multiplied_parses : Parses binds (parse.multiplied value whole n) (SpellsMultiplied value Whole n) 12
    unfolding parse.multiplied
    multiplied_parses = record { sound = λ ws. multiplied_found ws (multiplicative_of (peek ws)) refl; complete = multiplied_at; shorter = multiplied_shorter }

    term_at : (x : Term) (ws rest : List Word) → SpellsTerm value Whole n x ws rest → Below binds 11 rest → parse.term value whole n ws ≡ Some (x, rest)
    unfolding parse.term
    term_at x ws rest (term {f = f} {others = fs} {a = a} is m) s =
        rw (
          factor_at f ws a is (below_repeated binds begins_multiplied 11 (parse.multiplied value whole n) (SpellsMultiplied value Whole n) 12 multiplied_parses multiplied_begins no_multiplied multiplied_below (lit≤ tt) fs a rest m s),
          repeated_complete binds begins_multiplied 11 (parse.multiplied value whole n) (SpellsMultiplied value Whole n) 12 multiplied_parses multiplied_begins no_multiplied multiplied_below (lit≤ tt) fs a rest m s,
        )

    term_sound : (ws : List Word) → Gives (parse.term value whole n ws) (λ x a. SpellsTerm value Whole n x ws a)
    unfolding parse.term
    term_sound ws = gives_then (factor_sound ws) (λ f a is.
        gives_then (repeated_sound binds begins_multiplied 11 (parse.multiplied value whole n) (SpellsMultiplied value Whole n) 12 multiplied_parses multiplied_begins no_multiplied multiplied_below (lit≤ tt) a)
        (λ fs rest m. gives_some (term is m)))

    term_shorter : (x : Term) (ws rest : List Word) → SpellsTerm value Whole n x ws rest → length rest < length ws
    term_shorter x ws rest (term {f = f} {others = fs} {a = a} is m) =
        omega (
          arith,
          factor_shorter f ws a is,
          repeated_shorter binds begins_multiplied 11 (parse.multiplied value whole n) (SpellsMultiplied value Whole n) 12 multiplied_parses multiplied_begins no_multiplied multiplied_below (lit≤ tt) fs a rest m,
        )

    term_begins : {x : Term} {ws rest : List Word} → SpellsTerm value Whole n x ws rest → 1 < opens (peek ws)
    term_begins (term is m) = factor_begins is

    term_none : (ws : List Word) → sees_qualified_star ws ≡ true → parse.term value whole n ws ≡ None
    unfolding parse.term
    term_none ws h = rw (factor_none ws h)

    -- ---- sum := term {(+ | - | '||') term}

    added_at : (x : Added) (ws rest : List Word) → SpellsAdded value Whole n x ws rest → Below binds 11 rest → parse.added value whole n ws ≡ Some (x, rest)
    unfolding parse.added
    added_at x ws rest (added {t = t} {b = b} m is) s = let p = additive_at m in rw (p.0, p.1, term_at t b rest is s)

    added_found : (ws : List Word) (m : Option Additive) → additive_of (peek ws) ≡ m → Gives (parse.added_by value whole n m ws) (λ x a. SpellsAdded value Whole n x ws a)
    added_found ws (Some m) e = gives_then (term_sound (next ws)) (λ t rest is. gives_some (added (additive_sound ws (peek ws) refl m e) is))
    added_found ws None e = gives_none

    added_shorter : (x : Added) (ws rest : List Word) → SpellsAdded value Whole n x ws rest → length rest < length ws
    added_shorter x ws rest (added {t = t} {b = b} m is) = omega (arith, additive_shorter m, term_shorter t b rest is)

    added_begins : (x : Added) (ws rest : List Word) → SpellsAdded value Whole n x ws rest → begins_added (peek ws) ≡ true
    added_begins x ws rest (added m is) = additive_begins m

    added_below : (x : Added) (ws rest : List Word) → SpellsAdded value Whole n x ws rest → Below binds 11 ws
    added_below x ws rest (added m is) = additive_below m

    added_parses : Parses binds (parse.added value whole n) (SpellsAdded value Whole n) 11
    unfolding parse.added
    added_parses = record { sound = λ ws. added_found ws (additive_of (peek ws)) refl; complete = added_at; shorter = added_shorter }

    sum_at : (x : Sum) (ws rest : List Word) → SpellsSum value Whole n x ws rest → Below binds 10 rest → parse.sum value whole n ws ≡ Some (x, rest)
    unfolding parse.sum
    sum_at x ws rest (sum {t = t} {others = ts} {a = a} is m) s =
        rw (
          term_at t ws a is (below_repeated binds begins_added 10 (parse.added value whole n) (SpellsAdded value Whole n) 11 added_parses added_begins no_added added_below (lit≤ tt) ts a rest m s),
          repeated_complete binds begins_added 10 (parse.added value whole n) (SpellsAdded value Whole n) 11 added_parses added_begins no_added added_below (lit≤ tt) ts a rest m s,
        )

    sum_sound : (ws : List Word) → Gives (parse.sum value whole n ws) (λ x a. SpellsSum value Whole n x ws a)
    unfolding parse.sum
    sum_sound ws = gives_then (term_sound ws) (λ t a is.
        gives_then (repeated_sound binds begins_added 10 (parse.added value whole n) (SpellsAdded value Whole n) 11 added_parses added_begins no_added added_below (lit≤ tt) a) (λ ts rest m. gives_some (sum is m)))

    sum_shorter : (x : Sum) (ws rest : List Word) → SpellsSum value Whole n x ws rest → length rest < length ws
    sum_shorter x ws rest (sum {t = t} {others = ts} {a = a} is m) =
        omega (
          arith,
          term_shorter t ws a is,
          repeated_shorter binds begins_added 10 (parse.added value whole n) (SpellsAdded value Whole n) 11 added_parses added_begins no_added added_below (lit≤ tt) ts a rest m,
        )

    sum_begins : {x : Sum} {ws rest : List Word} → SpellsSum value Whole n x ws rest → 1 < opens (peek ws)
    sum_begins (sum is m) = term_begins is

    sum_none : (ws : List Word) → sees_qualified_star ws ≡ true → parse.sum value whole n ws ≡ None
    unfolding parse.sum
    sum_none ws h = rw (term_none ws h)

    -- ---- tail

    last_sum_at : {x : Sum} {ws rest : List Word} → SpellsSum value Whole n x ws rest → Below binds 9 rest → parse.sum value whole n ws ≡ Some (x, rest)
    last_sum_at {x} {ws} {rest} is s = sum_at x ws rest is (below_more binds 9 10 rest s (lit≤ tt))

    no_tail_by : (kind : Kind) (ws : List Word) → binds kind < 9 → parse.tail_by value whole n kind ws ≡ Some (None, ws)
    no_tail_by k.Equals ws lt = absurd (omega (arith, lt))
    no_tail_by k.NotEquals ws lt = absurd (omega (arith, lt))
    no_tail_by k.LessThan ws lt = absurd (omega (arith, lt))
    no_tail_by k.LessThanOrEquals ws lt = absurd (omega (arith, lt))
    no_tail_by k.GreaterThan ws lt = absurd (omega (arith, lt))
    no_tail_by k.GreaterThanOrEquals ws lt = absurd (omega (arith, lt))
    no_tail_by k.Is ws lt = absurd (omega (arith, lt))
    no_tail_by k.Not ws lt = absurd (omega (arith, lt))
    no_tail_by k.Between ws lt = absurd (omega (arith, lt))
    no_tail_by k.In ws lt = absurd (omega (arith, lt))
    no_tail_by k.Like ws lt = absurd (omega (arith, lt))
    no_tail_by _ ws lt = refl

    compare_at : {c : Comparison} {x : Sum} {ws a rest : List Word} → SpellsComparison c ws a → SpellsSum value Whole n x a rest → Below binds 9 rest → parse.tail value whole n ws ≡ Some (Some (tails.Compare c x), rest)
    unfolding parse.tail
    compare_at (equal t) is s = rw (peek_at t, next_at t, last_sum_at is s)
    compare_at (not_equal t) is s = rw (peek_at t, next_at t, last_sum_at is s)
    compare_at (less t) is s = rw (peek_at t, next_at t, last_sum_at is s)
    compare_at (less_or_equal t) is s = rw (peek_at t, next_at t, last_sum_at is s)
    compare_at (greater t) is s = rw (peek_at t, next_at t, last_sum_at is s)
    compare_at (greater_or_equal t) is s = rw (peek_at t, next_at t, last_sum_at is s)

    tail_at : {x : Tail} {ws rest : List Word} → SpellsTail value Whole n x ws rest → Below binds 9 rest → parse.tail value whole n ws ≡ Some (Some x, rest)
    unfolding parse.tail parse.testing parse.between parse.is_null parse.members
    tail_at (compare t is) s = compare_at t is s
    tail_at (is_null {b = b} t m u) s = let e = marked_at m (sees_other k.Not k.Null b (peek_at u) refl) in rw (peek_at t, next_at t, e.0, e.1, expect_at u)
    tail_at (between {low = low} {b = b} {c = c} absent t is a is') s = rw (peek_at t, peek_at t, next_at t, sum_at low b c is (below_token binds 10 a (lit< tt)), expect_at a, last_sum_at is' s)
    tail_at (between {low = low} {b = b} {c = c} (present o) t is a is') s =
        rw (peek_at o, next_at o, peek_at t, next_at t, sum_at low b c is (below_token binds 10 a (lit< tt)), expect_at a, last_sum_at is' s)
    tail_at (in_query lt absent t l is r) s = rw (peek_at t, peek_at t, next_at t, opening_at n lt l, sees_select is, closed_query_at is r)
    tail_at (in_query lt (present o) t l is r) s = rw (peek_at o, next_at o, peek_at t, next_at t, opening_at n lt l, sees_select is, closed_query_at is r)
    tail_at (in_list {es = es} {c = c} {d = d} lt absent t l m r) s = rw (peek_at t, peek_at t, next_at t, opening_at n lt l, list_never k.Select es c d m refl, closed_list_at m r)
    tail_at (in_list {es = es} {c = c} {d = d} lt (present o) t l m r) s =
        rw (peek_at o, next_at o, peek_at t, next_at t, opening_at n lt l, list_never k.Select es c d m refl, closed_list_at m r)
    tail_at (like absent t is) s = rw (peek_at t, peek_at t, next_at t, last_sum_at is s)
    tail_at (like (present o) t is) s = rw (peek_at o, next_at o, peek_at t, next_at t, last_sum_at is s)

    test_sound_by : {negated : Bool} {ws a : List Word} → Marked k.Not negated ws a → (kind : Kind) → peek a ≡ kind → Gives (parse.test_by value whole n negated kind a) (λ x rest. SpellsTail value Whole n x ws rest)
    unfolding parse.between parse.members
    test_sound_by {a = a} m k.Between e = gives_then (sum_sound (next a)) (λ low c is. gives_then (gives_expect k.And tt) (λ _ d t. gives_then (sum_sound d) (λ high rest is'.
        gives_some (between m (token_next k.Between tt e) is t is'))))
    test_sound_by m k.In e = gives_then (gives_opening n) (λ _ c o. gives_if (sees k.Select c)
        (λ _. gives_then gives_closed_query (λ q rest g. gives_some (in_query o.0 m (token_next k.In tt e) o.1 g.1 g.2)))
        (λ _. gives_then gives_closed_list (λ es rest g. gives_some (in_list o.0 m (token_next k.In tt e) o.1 g.1 g.2))))
    test_sound_by {a = a} m k.Like e = gives_then (sum_sound (next a)) (λ x rest is. gives_some (like m (token_next k.Like tt e) is))
    test_sound_by m _ e = gives_none

    gives_test : {negated : Bool} {ws a : List Word} → Marked k.Not negated ws a → Gives (parse.testing value whole n negated a) (λ x rest. SpellsTail value Whole n x ws rest)
    unfolding parse.testing
    gives_test {a = a} m = test_sound_by m (peek a) refl

    -- the tail of a predicate, where there is one
    data SpellsTailOrNone : Option Tail → List Word → List Word → Type 0 where
      no_tail : {ws : List Word} → SpellsTailOrNone None ws ws
      some_tail : {t : Tail} {ws rest : List Word} → SpellsTail value Whole n t ws rest → SpellsTailOrNone (Some t) ws rest

    compared_found : (ws : List Word) (kind : Kind) → peek ws ≡ kind → (c : Option Comparison) → comparison_of kind ≡ c → Gives (parse.compared_by value whole n c ws) (λ x a. SpellsTailOrNone x ws a)
    compared_found ws kind e (Some c) h = gives_then (sum_sound (next ws)) (λ x rest is. gives_some (some_tail (compare (comparison_sound ws kind e c h) is)))
    compared_found ws kind e None h = gives_some no_tail

    gives_null_test : {ws a : List Word} → Token k.Is ws a → Gives (parse.is_null a) (λ x rest. SpellsTail value Whole n x ws rest)
    unfolding parse.is_null
    gives_null_test {a = a} t = gives_then (gives_expect k.Null tt) (λ _ rest u. gives_some (is_null t (marked_seen k.Not tt a) u))

    tail_sound_by : (ws : List Word) (kind : Kind) → peek ws ≡ kind → Gives (parse.tail_by value whole n kind ws) (λ x a. SpellsTailOrNone x ws a)
    tail_sound_by ws k.Is e = gives_then (gives_null_test (token_next k.Is tt e)) (λ t rest is. gives_some (some_tail is))
    tail_sound_by ws k.Not e = gives_then (gives_test (present (token_next k.Not tt e))) (λ t rest is. gives_some (some_tail is))
    tail_sound_by ws k.Between e = gives_then (gives_test absent) (λ t rest is. gives_some (some_tail is))
    tail_sound_by ws k.In e = gives_then (gives_test absent) (λ t rest is. gives_some (some_tail is))
    tail_sound_by ws k.Like e = gives_then (gives_test absent) (λ t rest is. gives_some (some_tail is))
    tail_sound_by ws kind e = compared_found ws kind e (comparison_of kind) refl

    tail_shorter : {x : Tail} {ws rest : List Word} → SpellsTail value Whole n x ws rest → length rest < length ws
    tail_shorter {rest = rest} (compare {s = x} {a = a} t is) = omega (arith, comparison_shorter t, sum_shorter x a rest is)
    tail_shorter (is_null t m u) = omega (arith, shorter_token t, marked_shorter m, shorter_token u)
    tail_shorter {rest = rest} (between {low = low} {high = high} {b = b} {c = c} {d = d} m t is a is') =
        omega (arith, marked_shorter m, shorter_token t, sum_shorter low b c is, shorter_token a, sum_shorter high d rest is')
    tail_shorter (in_query {q = q} {c = c} {d = d} lt m t l is r) = omega (arith, marked_shorter m, shorter_token t, shorter_token l, query_parse.shorter q c d is, shorter_token r)
    tail_shorter (in_list {es = es} {c = c} {d = d} lt m t l is r) = omega (arith, marked_shorter m, shorter_token t, shorter_token l, list_parse.shorter es c d is, shorter_token r)
    tail_shorter {rest = rest} (like {s = x} {b = b} m t is) = omega (arith, marked_shorter m, shorter_token t, sum_shorter x b rest is)

    tested_below : {by : Kind} {negated : Bool} {ws a b : List Word} → Marked k.Not negated ws a → Token by a b → binds by < 10 → Below binds 10 ws
    tested_below absent t lt = below_token binds 10 t lt
    tested_below (present o) t lt = below_token binds 10 o (lit< tt)

    -- what is tested ends before it
    tail_below : {x : Tail} {ws rest : List Word} → SpellsTail value Whole n x ws rest → Below binds 10 ws
    tail_below (compare t is) = comparison_below t
    tail_below (is_null t m u) = below_token binds 10 t (lit< tt)
    tail_below (between m t is a is') = tested_below m t (lit< tt)
    tail_below (in_query lt m t l is r) = tested_below m t (lit< tt)
    tail_below (in_list lt m t l is r) = tested_below m t (lit< tt)
    tail_below (like m t is) = tested_below m t (lit< tt)

    -- ---- pred := sum [tail]

    predicate_at : (x : Predicate) (ws rest : List Word) → SpellsPredicate value Whole n x ws rest → Below binds 9 rest → parse.predicate value whole n ws ≡ Some (x, rest)
    unfolding parse.predicate parse.tail
    predicate_at x ws rest (untested is) s = rw (last_sum_at is s, no_tail_by (peek rest) rest s.below)
    predicate_at x ws rest (tested {s = y} {a = a} is t) s = rw (sum_at y ws a is (tail_below t), tail_at t s)

    with_tail : {x : Sum} {t : Option Tail} {ws a rest : List Word} → SpellsSum value Whole n x ws a → SpellsTailOrNone t a rest → SpellsPredicate value Whole n (roll-Predicate (record { tested = x; tail = t })) ws rest
    with_tail is no_tail = untested is
    with_tail is (some_tail t) = tested is t

    predicate_sound : (ws : List Word) → Gives (parse.predicate value whole n ws) (λ x a. SpellsPredicate value Whole n x ws a)
    unfolding parse.predicate parse.tail
    predicate_sound ws = gives_then (sum_sound ws) (λ y a is. gives_then (tail_sound_by a (peek a) refl) (λ t rest is'. gives_some (with_tail is is')))

    predicate_shorter : (x : Predicate) (ws rest : List Word) → SpellsPredicate value Whole n x ws rest → length rest < length ws
    predicate_shorter x ws rest (untested {s = y} is) = sum_shorter y ws rest is
    predicate_shorter x ws rest (tested {s = y} {a = a} is t) = omega (arith, sum_shorter y ws a is, tail_shorter t)

    predicate_begins : {x : Predicate} {ws rest : List Word} → SpellsPredicate value Whole n x ws rest → 1 < opens (peek ws)
    predicate_begins (untested is) = sum_begins is
    predicate_begins (tested is t) = sum_begins is

    predicate_none : (ws : List Word) → sees_qualified_star ws ≡ true → parse.predicate value whole n ws ≡ None
    unfolding parse.predicate
    predicate_none ws h = rw (sum_none ws h)

    -- ---- neg := [NOT] pred

    negation_at : (x : Negation) (ws rest : List Word) → SpellsNegation value Whole n x ws rest → Below binds 9 rest → parse.negation value whole n ws ≡ Some (x, rest)
    unfolding parse.negation
    negation_at x ws rest (negation {p = p} {a = a} m is) s =
        let e = marked_at m (sees_no opens k.Not a (λ h. absurd (omega (arith, predicate_begins is, h)))) in
        rw (e.0, e.1, predicate_at p a rest is s)

    negation_sound : (ws : List Word) → Gives (parse.negation value whole n ws) (λ x a. SpellsNegation value Whole n x ws a)
    unfolding parse.negation
    negation_sound ws = gives_then (predicate_sound (after k.Not ws)) (λ p a is. gives_some (negation (marked_seen k.Not tt ws) is))

    negation_shorter : (x : Negation) (ws rest : List Word) → SpellsNegation value Whole n x ws rest → length rest < length ws
    negation_shorter x ws rest (negation {p = p} {a = a} m is) = omega (arith, marked_shorter m, predicate_shorter p a rest is)

    negation_begins : (x : Negation) (ws rest : List Word) → SpellsNegation value Whole n x ws rest → 0 < opens (peek ws)
    negation_begins x ws rest (negation absent is) = omega (arith, predicate_begins is)
    negation_begins x ws rest (negation (present t) is) = rw (peek_at t) (lit< tt)

    negation_none : (ws : List Word) → sees_qualified_star ws ≡ true → parse.negation value whole n ws ≡ None
    unfolding parse.negation is_name same_kind
    negation_none ws h = let e = sees_differs is_name k.Not ws (star_is_named ws h) refl in rw (after_not k.Not ws e, predicate_none ws h)

    negation_parses : Parses binds (parse.negation value whole n) (SpellsNegation value Whole n) 9
    negation_parses = record { sound = negation_sound; complete = negation_at; shorter = negation_shorter }

    negations_parse : Parses binds (separated k.And (parse.negation value whole n)) (Separated k.And (SpellsNegation value Whole n)) 8
    negations_parse = separated_parses binds k.And tt (parse.negation value whole n) (SpellsNegation value Whole n) 9 (lit< tt) negation_parses

    -- ---- conj := neg {AND neg}

    conjunction_at : (x : Conjunction) (ws rest : List Word) → SpellsConjunction value Whole n x ws rest → Below binds 8 rest → parse.conjunction value whole n ws ≡ Some (x, rest)
    unfolding parse.conjunction
    conjunction_at x ws rest (conjunction {xs = xs} m) s = rw (negations_parse.complete xs ws rest m s)

    conjunction_shorter : (x : Conjunction) (ws rest : List Word) → SpellsConjunction value Whole n x ws rest → length rest < length ws
    conjunction_shorter x ws rest (conjunction {xs = xs} m) = negations_parse.shorter xs ws rest m

    conjunction_begins : (x : Conjunction) (ws rest : List Word) → SpellsConjunction value Whole n x ws rest → 0 < opens (peek ws)
    conjunction_begins x ws rest (conjunction {xs = xs} m) = separated_begins (λ l. 0 < opens (peek l)) negation_begins xs ws rest m

    conjunction_parses : Parses binds (parse.conjunction value whole n) (SpellsConjunction value Whole n) 8
    unfolding parse.conjunction
    conjunction_parses = record {
      sound = λ ws. gives_then (negations_parse.sound ws) (λ xs rest m. gives_some (conjunction m));
      complete = λ x ws rest is s. conjunction_at x ws rest is s;
      shorter = λ x ws rest is. conjunction_shorter x ws rest is;
    }

    conjunction_none : (ws : List Word) → sees_qualified_star ws ≡ true → parse.conjunction value whole n ws ≡ None
    unfolding parse.conjunction
    conjunction_none ws h = rw (separated_none binds k.And tt (parse.negation value whole n) (SpellsNegation value Whole n) 9 (lit< tt) negation_parses ws (negation_none ws h))

    conjunctions_parse : Parses binds (separated k.Or (parse.conjunction value whole n)) (Separated k.Or (SpellsConjunction value Whole n)) 7
    conjunctions_parse = separated_parses binds k.Or tt (parse.conjunction value whole n) (SpellsConjunction value Whole n) 8 (lit< tt) conjunction_parses

    -- ---- expr := conj {OR conj}

    expr_at : (x : Expr) (ws rest : List Word) → SpellsExpr value Whole n x ws rest → Below binds 7 rest → parse.expr value whole n ws ≡ Some (x, rest)
    unfolding parse.expr
    expr_at x ws rest (expr {xs = xs} m) s = rw (conjunctions_parse.complete xs ws rest m s)

    expr_shorter : (x : Expr) (ws rest : List Word) → SpellsExpr value Whole n x ws rest → length rest < length ws
    expr_shorter x ws rest (expr {xs = xs} m) = conjunctions_parse.shorter xs ws rest m

    pub expr_begins : (x : Expr) (ws rest : List Word) → SpellsExpr value Whole n x ws rest → 0 < opens (peek ws)
    expr_begins x ws rest (expr {xs = xs} m) = separated_begins (λ l. 0 < opens (peek l)) conjunction_begins xs ws rest m

    pub expr_parses : Parses binds (parse.expr value whole n) (SpellsExpr value Whole n) 7
    unfolding parse.expr
    expr_parses = record {
      sound = λ ws. gives_then (conjunctions_parse.sound ws) (λ xs rest m. gives_some (expr m));
      complete = λ x ws rest is s. expr_at x ws rest is s;
      shorter = λ x ws rest is. expr_shorter x ws rest is;
    }

    pub expr_none : (ws : List Word) → sees_qualified_star ws ≡ true → parse.expr value whole n ws ≡ None
    unfolding parse.expr
    expr_none ws h = rw (separated_none binds k.Or tt (parse.conjunction value whole n) (SpellsConjunction value Whole n) 8 (lit< tt) conjunction_parses ws (conjunction_none ws h))
