use Rattle.std.proofs.Common.{◌≡◌, ◌-◌}
use Rattle.sql_phrases.specs.Parsers.{repeated_from}
use Rattle.sql_definitions.specs.CheckParsers.{domain_check, domain_checks, begins_domain_check}
use Rattle.sql_definitions.proofs.condition.domain_checks.Given as goal

abbrev pub invariant-loop-turn : goal.invariant-loop-turn
invariant-loop-turn l = domain_checks l.fn.words ≡ repeated_from begins_domain_check domain_check (l._turn-end - l._turn) l.found l.words
