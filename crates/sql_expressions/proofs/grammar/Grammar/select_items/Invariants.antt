use Rattle.std.proofs.Common.{◌≡◌, ◌-◌}
use Rattle.sql_spelling.specs.declared.kind.Kind.TheVariants as k
use Rattle.sql_phrases.specs.Parsers.{separated, separated_from}
use Rattle.sql_expressions.specs.ExpressionParsers.{expr_within}
use Rattle.sql_expressions.specs.QueryParsers.{select_item}
use Rattle.sql_expressions.proofs.grammar.Grammar.select_items.Given as goal

abbrev pub invariant-loop-turn : goal.invariant-loop-turn
invariant-loop-turn g l = separated k.Comma (select_item (expr_within l.self.value l.self.depth)) l.fn.words ≡ separated_from k.Comma (select_item (expr_within l.self.value l.self.depth)) (l._turn-end - l._turn) l.found l.words
