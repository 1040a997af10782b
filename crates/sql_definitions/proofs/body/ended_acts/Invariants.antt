use Rattle.std.proofs.Common.{◌≡◌, ◌-◌}
use Rattle.sql_phrases.specs.Parsers.{repeated_from}
use Rattle.sql_definitions.specs.BodyParsers.{ended_act, ended_acts, begins_act}
use Rattle.sql_definitions.proofs.body.ended_acts.Given as goal

abbrev pub invariant-loop-turn : goal.invariant-loop-turn
invariant-loop-turn l = ended_acts l.fn.words ≡ repeated_from begins_act ended_act (l._turn-end - l._turn) l.found l.words
