-- Expressions. Each rule relates what is spelled, the words that begin with it, and the words after it.
use Rattle.std.specs.Prelude.{◌≡◌, ◌<◌, ◌-◌, ℕ, zero, suc, Bool, true, List, [], Option, Some, None}
use Rattle.sql_names.specs.declared.column.ObjectName.{ObjectName}
use Rattle.sql_names.specs.declared.column.Reference.{Reference}
use Rattle.sql_tree.specs.declared.expr.Added.{Added, roll-Added}
use Rattle.sql_tree.specs.declared.expr.Additive.{Additive}
use Rattle.sql_tree.specs.declared.expr.Additive.TheVariants as additives
use Rattle.sql_tree.specs.declared.expr.Aggregate.{Aggregate}
use Rattle.sql_tree.specs.declared.expr.Aggregate.TheVariants as aggregates
use Rattle.sql_tree.specs.declared.expr.Arm.{Arm, roll-Arm}
use Rattle.sql_tree.specs.declared.expr.Comparison.{Comparison}
use Rattle.sql_tree.specs.declared.expr.Comparison.TheVariants as comparisons
use Rattle.sql_tree.specs.declared.expr.Conjunction.{Conjunction, roll-Conjunction}
use Rattle.sql_tree.specs.declared.expr.Expr.{Expr, roll-Expr}
use Rattle.sql_tree.specs.declared.expr.Factor.{Factor, roll-Factor}
use Rattle.sql_tree.specs.declared.expr.Multiplicative.{Multiplicative}
use Rattle.sql_tree.specs.declared.expr.Multiplicative.TheVariants as multiplicatives
use Rattle.sql_tree.specs.declared.expr.Multiplied.{Multiplied, roll-Multiplied}
use Rattle.sql_tree.specs.declared.expr.Negation.{Negation, roll-Negation}
use Rattle.sql_tree.specs.declared.expr.Operand.{Operand}
use Rattle.sql_tree.specs.declared.expr.Operand.TheVariants as operands
use Rattle.sql_tree.specs.declared.expr.Predicate.{Predicate, roll-Predicate}
use Rattle.sql_tree.specs.declared.expr.Query.{Query}
use Rattle.sql_tree.specs.declared.expr.Sum.{Sum, roll-Sum}
use Rattle.sql_tree.specs.declared.expr.Tail.{Tail}
use Rattle.sql_tree.specs.declared.expr.Tail.TheVariants as tails
use Rattle.sql_tree.specs.declared.expr.Term.{Term, roll-Term}
use Rattle.sql_names.specs.declared.sort.Special.{Special}
use Rattle.sql_names.specs.declared.sort.SqlType.{SqlType}
use Rattle.sql_spelling.specs.declared.kind.Kind.TheVariants as k
use Rattle.sql_words.specs.declared.word.Word.{Word}
use Rattle.sql_phrases.specs.NameRules.{SpellsObjectName}
use Rattle.sql_phrases.specs.Shapes.{Spelled, Token, SpellsText, Separated, Repeated, Optional, Marked}
use Rattle.sql_phrases.specs.TypeRules.{SpellsType, SpellsSpecial}
use Rattle.sql_expressions.specs.QueryRules.{SpellsReference, SpellsQuery}

-- = | <> | < | <= | > | >=
pub data SpellsComparison : Comparison → List Word → List Word → Type 0 where
  equal : {ws rest : List Word} → Token k.Equals ws rest → SpellsComparison comparisons.Equal ws rest
  not_equal : {ws rest : List Word} → Token k.NotEquals ws rest → SpellsComparison comparisons.NotEqual ws rest
  less : {ws rest : List Word} → Token k.LessThan ws rest → SpellsComparison comparisons.Less ws rest
  less_or_equal : {ws rest : List Word} → Token k.LessThanOrEquals ws rest → SpellsComparison comparisons.LessOrEqual ws rest
  greater : {ws rest : List Word} → Token k.GreaterThan ws rest → SpellsComparison comparisons.Greater ws rest
  greater_or_equal : {ws rest : List Word} → Token k.GreaterThanOrEquals ws rest → SpellsComparison comparisons.GreaterOrEqual ws rest

-- + | - | '||'
pub data SpellsAdditive : Additive → List Word → List Word → Type 0 where
  plus : {ws rest : List Word} → Token k.PlusSign ws rest → SpellsAdditive additives.Plus ws rest
  minus : {ws rest : List Word} → Token k.MinusSign ws rest → SpellsAdditive additives.Minus ws rest
  concatenation : {ws rest : List Word} → Token k.Concatenation ws rest → SpellsAdditive additives.Concatenation ws rest

-- '*' | /
pub data SpellsMultiplicative : Multiplicative → List Word → List Word → Type 0 where
  times : {ws rest : List Word} → Token k.Asterisk ws rest → SpellsMultiplicative multiplicatives.Times ws rest
  divided : {ws rest : List Word} → Token k.Solidus ws rest → SpellsMultiplicative multiplicatives.Divided ws rest

-- COUNT | SUM | MIN | MAX | AVG
pub data SpellsAggregate : Aggregate → List Word → List Word → Type 0 where
  count : {ws rest : List Word} → Token k.Count ws rest → SpellsAggregate aggregates.Count ws rest
  sum_of : {ws rest : List Word} → Token k.Sum ws rest → SpellsAggregate aggregates.Sum ws rest
  min : {ws rest : List Word} → Token k.Min ws rest → SpellsAggregate aggregates.Min ws rest
  max : {ws rest : List Word} → Token k.Max ws rest → SpellsAggregate aggregates.Max ws rest
  avg : {ws rest : List Word} → Token k.Avg ws rest → SpellsAggregate aggregates.Avg ws rest

-- `Whole` relates the expressions in brackets
module _ (Whole : Spelled Expr) where
  -- [expr,..]
  pub data SpellsArguments : List Expr → List Word → List Word → Type 0 where
    no_arguments : {ws : List Word} → SpellsArguments [] ws ws
    arguments : {es : List Expr} {ws rest : List Word} → Separated k.Comma Whole es ws rest → SpellsArguments es ws rest

  -- expr THEN expr, after WHEN
  pub data SpellsArm : Arm → List Word → List Word → Type 0 where
    arm : {c v : Expr} {ws a b rest : List Word} → Whole c ws a → Token k.Then a b → Whole v b rest → SpellsArm (roll-Arm (record { condition = c; value = v })) ws rest

  -- expr | NULL
  pub data SpellsCastOperand : Option Expr → List Word → List Word → Type 0 where
    cast_null : {ws rest : List Word} → Token k.Null ws rest → SpellsCastOperand None ws rest
    cast_expr : {e : Expr} {ws rest : List Word} → Whole e ws rest → SpellsCastOperand (Some e) ws rest

-- VALUE may stand where `value`, and n more brackets may be opened; a CASE counts as a bracket up to its END
module _ (value : Bool) (Whole : Spelled Expr) (n : ℕ) where
  -- prim := lit | Number | TRUE | FALSE | special | VALUE | ref | obj '(' [expr,..] ')'
  --   | COUNT '(' '*' ')' | (COUNT | SUM | MIN | MAX | AVG) '(' expr ')'
  --   | CASE WHEN expr THEN expr {WHEN expr THEN expr} [ELSE expr] END
  --   | CAST '(' (expr | NULL) AS type ')' | EXISTS '(' query ')' | '(' query ')' | '(' expr ')'
  pub data SpellsOperand : Operand → List Word → List Word → Type 0 where
    literal : {t : List ℕ} {ws rest : List Word} → SpellsText k.Literal t ws rest → SpellsOperand (operands.Literal t) ws rest
    number : {t : List ℕ} {ws rest : List Word} → SpellsText k.Number t ws rest → SpellsOperand (operands.Number t) ws rest
    true_word : {ws rest : List Word} → Token k.True ws rest → SpellsOperand operands.True ws rest
    false_word : {ws rest : List Word} → Token k.False ws rest → SpellsOperand operands.False ws rest
    special : {s : Special} {ws rest : List Word} → SpellsSpecial s ws rest → SpellsOperand (operands.Special s) ws rest
    value_word : {ws rest : List Word} → value ≡ true → Token k.Value ws rest → SpellsOperand operands.Value ws rest
    reference : {r : Reference} {ws rest : List Word} → SpellsReference r ws rest → SpellsOperand (operands.Reference r) ws rest
    call : {f : ObjectName} {es : List Expr} {ws a b c rest : List Word} → 0 < n → SpellsObjectName f ws a → Token k.LeftParen a b → SpellsArguments Whole es b c → Token k.RightParen c rest
        → SpellsOperand (operands.Call f es) ws rest
    count_all : {ws a b c rest : List Word} → 0 < n → Token k.Count ws a → Token k.LeftParen a b → Token k.Asterisk b c → Token k.RightParen c rest → SpellsOperand operands.CountAll ws rest
    aggregate : {f : Aggregate} {e : Expr} {ws a b c rest : List Word} → 0 < n → SpellsAggregate f ws a → Token k.LeftParen a b → Whole e b c → Token k.RightParen c rest
        → SpellsOperand (operands.Aggregate f e) ws rest
    case_when : {arms : List Arm} {o : Option Expr} {ws a b c d rest : List Word} → 0 < n → Token k.Case ws a → Token k.When a b → Separated k.When (SpellsArm Whole) arms b c
        → Optional k.Else Whole o c d → Token k.End d rest → SpellsOperand (operands.Case arms o) ws rest
    cast : {o : Option Expr} {t : SqlType} {ws a b c d e rest : List Word} → 0 < n → Token k.Cast ws a → Token k.LeftParen a b → SpellsCastOperand Whole o b c → Token k.As c d
        → SpellsType (n - 1) t d e → Token k.RightParen e rest → SpellsOperand (operands.Cast o t) ws rest
    exists : {q : Query} {ws a b c rest : List Word} → 0 < n → Token k.Exists ws a → Token k.LeftParen a b → SpellsQuery Whole q b c → Token k.RightParen c rest
        → SpellsOperand (operands.Exists q) ws rest
    subquery : {q : Query} {ws a b rest : List Word} → 0 < n → Token k.LeftParen ws a → SpellsQuery Whole q a b → Token k.RightParen b rest → SpellsOperand (operands.Subquery q) ws rest
    parenthesized : {e : Expr} {ws a b rest : List Word} → 0 < n → Token k.LeftParen ws a → Whole e a b → Token k.RightParen b rest → SpellsOperand (operands.Parenthesized e) ws rest

  -- factor := [-] prim
  pub data SpellsFactor : Factor → List Word → List Word → Type 0 where
    factor : {m : Bool} {o : Operand} {ws a rest : List Word} → Marked k.MinusSign m ws a → SpellsOperand o a rest → SpellsFactor (roll-Factor (record { minus = m; operand = o })) ws rest

  -- ('*' | /) factor
  pub data SpellsMultiplied : Multiplied → List Word → List Word → Type 0 where
    multiplied : {m : Multiplicative} {f : Factor} {ws a rest : List Word} → SpellsMultiplicative m ws a → SpellsFactor f a rest → SpellsMultiplied (roll-Multiplied (record { by = m; factor = f })) ws rest

  -- term := factor {('*' | /) factor}
  pub data SpellsTerm : Term → List Word → List Word → Type 0 where
    term : {f : Factor} {others : List Multiplied} {ws a rest : List Word} → SpellsFactor f ws a → Repeated SpellsMultiplied others a rest
        → SpellsTerm (roll-Term (record { first = f; others = others })) ws rest

  -- (+ | - | '||') term
  pub data SpellsAdded : Added → List Word → List Word → Type 0 where
    added : {a : Additive} {t : Term} {ws b rest : List Word} → SpellsAdditive a ws b → SpellsTerm t b rest → SpellsAdded (roll-Added (record { by = a; term = t })) ws rest

  -- sum := term {(+ | - | '||') term}
  pub data SpellsSum : Sum → List Word → List Word → Type 0 where
    sum : {t : Term} {others : List Added} {ws a rest : List Word} → SpellsTerm t ws a → Repeated SpellsAdded others a rest → SpellsSum (roll-Sum (record { first = t; others = others })) ws rest

  -- tail := (= | <> | < | <= | > | >=) sum | IS [NOT] NULL | [NOT] BETWEEN sum AND sum
  --   | [NOT] IN '(' (query | expr,..) ')' | [NOT] LIKE sum
  pub data SpellsTail : Tail → List Word → List Word → Type 0 where
    compare : {c : Comparison} {s : Sum} {ws a rest : List Word} → SpellsComparison c ws a → SpellsSum s a rest → SpellsTail (tails.Compare c s) ws rest
    is_null : {negated : Bool} {ws a b rest : List Word} → Token k.Is ws a → Marked k.Not negated a b → Token k.Null b rest → SpellsTail (tails.IsNull negated) ws rest
    between : {negated : Bool} {low high : Sum} {ws a b c d rest : List Word} → Marked k.Not negated ws a → Token k.Between a b → SpellsSum low b c → Token k.And c d → SpellsSum high d rest
        → SpellsTail (tails.Between negated low high) ws rest
    in_query : {negated : Bool} {q : Query} {ws a b c d rest : List Word} → 0 < n → Marked k.Not negated ws a → Token k.In a b → Token k.LeftParen b c → SpellsQuery Whole q c d
        → Token k.RightParen d rest → SpellsTail (tails.InQuery negated q) ws rest
    in_list : {negated : Bool} {es : List Expr} {ws a b c d rest : List Word} → 0 < n → Marked k.Not negated ws a → Token k.In a b → Token k.LeftParen b c
        → Separated k.Comma Whole es c d → Token k.RightParen d rest → SpellsTail (tails.InList negated es) ws rest
    like : {negated : Bool} {s : Sum} {ws a b rest : List Word} → Marked k.Not negated ws a → Token k.Like a b → SpellsSum s b rest → SpellsTail (tails.Like negated s) ws rest

  -- pred := sum [tail]
  pub data SpellsPredicate : Predicate → List Word → List Word → Type 0 where
    untested : {s : Sum} {ws rest : List Word} → SpellsSum s ws rest → SpellsPredicate (roll-Predicate (record { tested = s; tail = None })) ws rest
    tested : {s : Sum} {t : Tail} {ws a rest : List Word} → SpellsSum s ws a → SpellsTail t a rest → SpellsPredicate (roll-Predicate (record { tested = s; tail = Some t })) ws rest

  -- neg := [NOT] pred
  pub data SpellsNegation : Negation → List Word → List Word → Type 0 where
    negation : {negated : Bool} {p : Predicate} {ws a rest : List Word} → Marked k.Not negated ws a → SpellsPredicate p a rest
        → SpellsNegation (roll-Negation (record { negated = negated; predicate = p })) ws rest

  -- conj := neg {AND neg}
  pub data SpellsConjunction : Conjunction → List Word → List Word → Type 0 where
    conjunction : {xs : List Negation} {ws rest : List Word} → Separated k.And SpellsNegation xs ws rest → SpellsConjunction (roll-Conjunction (record { every = xs })) ws rest

  -- expr := conj {OR conj}
  pub data SpellsExpr : Expr → List Word → List Word → Type 0 where
    expr : {xs : List Conjunction} {ws rest : List Word} → Separated k.Or SpellsConjunction xs ws rest → SpellsExpr (roll-Expr (record { any = xs })) ws rest

-- an expression in which fewer than this many brackets are open at one word, with VALUE where it may stand
unfoldable pub SpellsExprWithin : Bool → ℕ → Spelled Expr
SpellsExprWithin value zero = λ _ _ _. ⊥
SpellsExprWithin value (suc n) = SpellsExpr value (SpellsExprWithin value n) n

-- the same of a query
unfoldable pub SpellsQueryWithin : Bool → ℕ → Spelled Query
SpellsQueryWithin value zero = λ _ _ _. ⊥
SpellsQueryWithin value (suc n) = SpellsQuery (SpellsExprWithin value (suc n))
