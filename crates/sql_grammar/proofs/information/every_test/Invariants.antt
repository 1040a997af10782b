use Rattle.std.proofs.Common.{◌≡◌, ◌-◌}
use Rattle.sql_spelling.specs.declared.kind.Kind.TheVariants as k
use Rattle.sql_grammar.specs.InformationParsers.{info_test}
use Rattle.sql_phrases.specs.Parsers.{separated, separated_from}
use Rattle.sql_grammar.proofs.information.every_test.Given as goal

abbrev pub invariant-loop-turn : goal.invariant-loop-turn
invariant-loop-turn l = separated k.And info_test l.fn.words ≡ separated_from k.And info_test (l._turn-end - l._turn) l.found l.words
