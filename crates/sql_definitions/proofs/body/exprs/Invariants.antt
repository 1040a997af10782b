use Rattle.std.proofs.Common.{◌≡◌, ◌-◌}
use Rattle.sql_spelling.specs.declared.kind.Kind.TheVariants as k
use Rattle.sql_phrases.specs.Parsers.{separated, separated_from}
use Rattle.std.specs.Prelude.{false}
use Rattle.sql_expressions.specs.ExpressionParsers.{expr_within}
use Rattle.sql_definitions.proofs.body.exprs.Given as goal

abbrev pub invariant-loop-turn : goal.invariant-loop-turn
invariant-loop-turn l = separated k.Comma (expr_within false 63) l.fn.words ≡ separated_from k.Comma (expr_within false 63) (l._turn-end - l._turn) l.found l.words
