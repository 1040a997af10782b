use Rattle.role_graph.proofs.AllLemmas.{AllBelow}
use Rattle.added_parts.specs.Extended.{PartsStandIn}
use Rattle.added_parts.proofs.adding.each_of.Given as goal

abbrev pub invariant-loop-x : goal.invariant-loop-x
invariant-loop-x l = record { all : AllBelow (PartsStandIn l.extended) l.items l.x-index }
