use Rattle.reached_roles.proofs.ReachLemmas.{ArePut}
use Rattle.reached_roles.proofs.reaching.put_granted.Given as goal

abbrev pub invariant-loop-at : goal.invariant-loop-at
invariant-loop-at l = record { put : ArePut l.edges l.name l.fn.found.keys l.initial.at l.at l.found.keys }
