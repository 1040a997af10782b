use Rattle.std.proofs.Common.{◌-◌, length}
use Rattle.reached_roles.proofs.ReachLemmas.{IsOnward}
use Rattle.reached_roles.proofs.reaching.found_from.Given as goal

abbrev pub invariant-loop-next : goal.invariant-loop-next
invariant-loop-next l = record { onward : IsOnward l.edges l.from l.found.keys l.next }

abbrev pub decreases-loop-next : goal.decreases-loop-next
decreases-loop-next l = length l.edges - l.next
