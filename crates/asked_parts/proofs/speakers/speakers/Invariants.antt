use Rattle.finite_chains.specs.Chains.{IsWithin}
use Rattle.asked_parts.proofs.speakers.speakers.Given as goal

abbrev pub invariant-loop-x : goal.invariant-loop-x
invariant-loop-x l = IsWithin l.found.items l.suspects
