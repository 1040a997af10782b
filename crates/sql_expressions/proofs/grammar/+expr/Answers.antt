use Rattle.std.proofs.Common.{◌≡◌, ap, arith}
use Rattle.sql_phrases.proofs.Turns.{deeper}
use Rattle.sql_expressions.specs.ExpressionParsers.{expr_within}
use Rattle.sql_expressions.proofs.grammar.+expr.Goals as goal

pub returns-then-depth-eq0 : goal.returns-then-depth-eq0
unfolding expr_within
returns-then-depth-eq0 t c = let none : c.args.depth ≡ 0 = omega arith in ap (λ n. expr_within c.args.value n c.args.words.now) none

pub returns : goal.returns
unfolding expr_within
returns t c = rw (deeper (λ n. expr_within c.args.value n c.args.words.now) c.args.depth (omega arith)) c.expression.ensures
