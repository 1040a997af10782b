use Rattle.std.proofs.Common.{◌≡◌, take}
use Rattle.role_graph.specs.Marked.{marked}
use Rattle.grant_chain.proofs.rounds.marked_items.Given as goal

abbrev pub invariant-loop-at : goal.invariant-loop-at
invariant-loop-at l = record { kept : l.kept.items ≡ marked (take l.at l.c.items) l.marks }
