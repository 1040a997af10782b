use Rattle.std.proofs.Common.{◌≡◌, ◌-◌}
use Rattle.sql_phrases.specs.Parsers.{repeated, repeated_from}
use Rattle.sql_expressions.specs.ExpressionParsers.{expr_within, begins_multiplied, multiplied}
use Rattle.sql_expressions.proofs.grammar.Grammar.more_multiplied.Given as goal

abbrev pub invariant-loop-turn : goal.invariant-loop-turn
invariant-loop-turn g l = repeated begins_multiplied (multiplied l.self.value (expr_within l.self.value l.self.depth) l.self.depth) l.fn.words ≡ repeated_from begins_multiplied (multiplied l.self.value (expr_within l.self.value l.self.depth) l.self.depth) (l._turn-end - l._turn) l.found l.words
