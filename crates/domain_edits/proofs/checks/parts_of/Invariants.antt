use Rattle.std.proofs.Common.{◌≡◌, map, take}
use Rattle.domain_edits.specs.Checks.{part_of}
use Rattle.domain_edits.proofs.checks.parts_of.Given as goal

abbrev pub invariant-loop-check : goal.invariant-loop-check
invariant-loop-check l = record { parts : l.parts ≡ map part_of (take l.check-index l.checks) }
