use Rattle.std.proofs.Common.{◌≡◌, ℕ, zero, suc, ◌<◌, Bool, List, refl, ap, arith}
use Rattle.sql_words.specs.declared.word.Word.{Word}
use Rattle.sql_expressions.specs.ExpressionParsers.{expr_within, query_within}
use Rattle.sql_expressions.specs.QueryParsers as parse
use Rattle.sql_expressions.proofs.grammar.query.Goals as goal

opened : (value : Bool) (n : ℕ) (ws : List Word) → 0 < n → query_within value n ws ≡ parse.query (expr_within value n) ws
unfolding query_within
opened value zero ws some = absurd (omega arith)
opened value (suc n) ws some = refl

pub returns-then-depth-eq0 : goal.returns-then-depth-eq0
unfolding query_within
returns-then-depth-eq0 c = let none : c.args.depth ≡ 0 = omega arith in ap (λ n. query_within c.args.value n c.args.words.now) none

pub returns : goal.returns
returns c = rw (opened c.args.value c.args.depth c.args.words.now (omega arith)) c.query.ensures
