use Rattle.std.proofs.Common.{◌≡◌, ◌++◌, take}
use Rattle.edit_parts.proofs.putting.push_all.Given as goal

abbrev pub invariant-loop-x : goal.invariant-loop-x
invariant-loop-x l = l.items.items ≡ l.initial.items.items ++ take l.x-index l.added
