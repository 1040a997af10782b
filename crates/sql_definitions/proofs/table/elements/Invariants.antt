use Rattle.std.proofs.Common.{◌≡◌, ◌-◌}
use Rattle.sql_spelling.specs.declared.kind.Kind.TheVariants as k
use Rattle.sql_phrases.specs.Parsers.{separated, separated_from}
use Rattle.sql_definitions.specs.TableParsers.{table_element}
use Rattle.sql_definitions.proofs.table.elements.Given as goal

abbrev pub invariant-loop-turn : goal.invariant-loop-turn
invariant-loop-turn l = separated k.Comma (table_element l.depth) l.fn.words ≡ separated_from k.Comma (table_element l.depth) (l._turn-end - l._turn) l.found l.words
