use Rattle.std.proofs.Common.{◌≡◌, ◌++◌, take}
use Rattle.std.specs.List.{flat_map}
use Rattle.table_parts.specs.Parts.{option_parts}
use Rattle.table_parts.proofs.parts.push_column.Given as goal

abbrev pub invariant-loop-option : goal.invariant-loop-option
invariant-loop-option l = record { parts : l.parts ≡ l.initial.parts ++ flat_map (option_parts l.definition.column) (take l.option-index l.definition.options) }
