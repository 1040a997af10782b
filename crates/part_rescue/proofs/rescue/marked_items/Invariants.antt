use Rattle.std.proofs.Common.{◌≡◌, take}
use Rattle.role_graph.specs.Marked.{marked}
use Rattle.part_rescue.proofs.rescue.marked_items.Given as goal

abbrev pub invariant-loop-at : goal.invariant-loop-at
invariant-loop-at l = record { kept : l.kept.items ≡ marked (take l.at l.part.items) l.marks }
