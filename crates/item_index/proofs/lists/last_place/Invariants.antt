use Rattle.std.proofs.Common.{◌+◌, ◌<◌, length, take}
use Rattle.item_index.specs.Shelves.{times}
use Rattle.item_index.proofs.lists.last_place.Given as goal

abbrev pub invariant-loop-at : goal.invariant-loop-at
invariant-loop-at l = (l.at < length l.numbers) × (0 < times l.number (take (l.at + 1) l.numbers))

abbrev pub decreases-loop-at : goal.decreases-loop-at
decreases-loop-at l = l.at
