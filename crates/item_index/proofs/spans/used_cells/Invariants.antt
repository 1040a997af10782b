use Rattle.std.proofs.Common.{◌≡◌, take}
use Rattle.item_index.specs.Spans.{held}
use Rattle.item_index.proofs.spans.used_cells.Given as goal

abbrev pub invariant-loop-span : goal.invariant-loop-span
invariant-loop-span l = l.used ≡ held (take l.span-index l.spans)
