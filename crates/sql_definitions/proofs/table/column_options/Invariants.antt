use Rattle.std.proofs.Common.{◌≡◌, ◌-◌}
use Rattle.sql_phrases.specs.Parsers.{repeated_from}
use Rattle.sql_definitions.specs.TableParsers.{column_option, column_options, begins_option}
use Rattle.sql_definitions.proofs.table.column_options.Given as goal

abbrev pub invariant-loop-turn : goal.invariant-loop-turn
invariant-loop-turn l = column_options l.depth l.fn.words ≡ repeated_from begins_option (column_option l.depth) (l._turn-end - l._turn) l.found l.words
