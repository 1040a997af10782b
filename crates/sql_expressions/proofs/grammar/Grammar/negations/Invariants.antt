use Rattle.std.proofs.Common.{◌≡◌, ◌-◌}
use Rattle.sql_spelling.specs.declared.kind.Kind.TheVariants as k
use Rattle.sql_phrases.specs.Parsers.{separated, separated_from}
use Rattle.sql_expressions.specs.ExpressionParsers.{expr_within, negation}
use Rattle.sql_expressions.proofs.grammar.Grammar.negations.Given as goal

abbrev pub invariant-loop-turn : goal.invariant-loop-turn
invariant-loop-turn g l = separated k.And (negation l.self.value (expr_within l.self.value l.self.depth) l.self.depth) l.fn.words ≡ separated_from k.And (negation l.self.value (expr_within l.self.value l.self.depth) l.self.depth) (l._turn-end - l._turn) l.found l.words
