use Rattle.std.proofs.Common.{map, take}
use Rattle.edit_rules.specs.First.{First, Passes}
use Rattle.statement_steps.specs.Resolving.{unresolved_name}
use Rattle.domain_edits.specs.Checks.{outcome_of}
use Rattle.domain_edits.specs.Found.{AreFound}
use Rattle.domain_edits.proofs.checks.all_found.Given as goal

abbrev pub invariant-loop-check : goal.invariant-loop-check
invariant-loop-check l = record {
  before : Passes (First (map (λ k. unresolved_name (outcome_of l.c.items l.who l.sort k)) (take l.check-index l.checks)));
  found : AreFound l.c.items l.who l.sort (take l.check-index l.checks) l.all;
}
