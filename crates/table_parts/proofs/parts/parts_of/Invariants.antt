use Rattle.std.proofs.Common.{◌≡◌, take}
use Rattle.std.specs.List.{flat_map}
use Rattle.table_parts.specs.Parts.{element_parts}
use Rattle.table_parts.proofs.parts.parts_of.Given as goal

abbrev pub invariant-loop-element : goal.invariant-loop-element
invariant-loop-element l = record { parts : l.parts ≡ flat_map element_parts (take l.element-index l.elements) }
