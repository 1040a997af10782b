use Rattle.std.proofs.Common.{◌≡◌, ◌-◌}
use Rattle.sql_spelling.specs.declared.kind.Kind.TheVariants as k
use Rattle.sql_phrases.specs.Parsers.{separated, separated_from}
use Rattle.sql_expressions.specs.QueryParsers.{reference}
use Rattle.sql_expressions.proofs.queries.references.Given as goal

abbrev pub invariant-loop-turn : goal.invariant-loop-turn
invariant-loop-turn l = separated k.Comma reference l.fn.words ≡ separated_from k.Comma reference (l._turn-end - l._turn) l.found l.words
