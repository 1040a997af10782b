use Rattle.std.proofs.Common.{◌≡◌, ◌-◌}
use Rattle.sql_spelling.specs.declared.kind.Kind.TheVariants as k
use Rattle.sql_phrases.specs.NameParsers.{identifier, identifiers}
use Rattle.sql_phrases.specs.Parsers.{separated_from}
use Rattle.sql_phrases.proofs.names.identifiers.Given as goal

abbrev pub invariant-loop-turn : goal.invariant-loop-turn
invariant-loop-turn l = identifiers l.fn.words ≡ separated_from k.Comma identifier (l._turn-end - l._turn) l.found l.words
