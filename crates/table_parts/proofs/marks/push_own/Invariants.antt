use Rattle.std.proofs.Common.{◌≡◌, ◌++◌, map, take}
use Rattle.table_parts.specs.declared.marks.Mark.TheVariants.{Own}
use Rattle.table_parts.proofs.marks.push_own.Given as goal

abbrev pub invariant-loop-name : goal.invariant-loop-name
invariant-loop-name l = record { marks : l.marks ≡ l.initial.marks ++ map (Own l.at) (take l.name-index l.names) }
