use Rattle.std.proofs.Common.{take}
use Rattle.chosen_parts.specs.Parts.{AreRanges}
use Rattle.chosen_parts.proofs.stretches.places_of_each.Given as goal

abbrev pub invariant-loop-part : goal.invariant-loop-part
invariant-loop-part l = AreRanges l.c.items (take l.part-index l.parts) l.ranges.items
