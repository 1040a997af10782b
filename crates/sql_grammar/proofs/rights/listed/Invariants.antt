use Rattle.std.proofs.Common.{◌≡◌, ◌-◌}
use Rattle.sql_spelling.specs.declared.kind.Kind.TheVariants as k
use Rattle.sql_grammar.specs.RightsParsers.{privilege}
use Rattle.sql_phrases.specs.Parsers.{separated, separated_from}
use Rattle.sql_grammar.proofs.rights.listed.Given as goal

abbrev pub invariant-loop-turn : goal.invariant-loop-turn
invariant-loop-turn l = separated k.Comma privilege l.fn.words ≡ separated_from k.Comma privilege (l._turn-end - l._turn) l.found l.words
