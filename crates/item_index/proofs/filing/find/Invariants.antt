use Rattle.std.proofs.Common.{◌≡◌, ◌<◌, ℕ, false, slice_get, Some, slice_index}
use Rattle.item_index.proofs.filing.find.Given as goal

abbrev pub invariant-loop-number : goal.invariant-loop-number
invariant-loop-number g l = (j : ℕ) (k : g.row.K.Denot) → j < l.number-index → slice_get l.keys (slice_index l.numbers j) ≡ Some (Some k) → g.K.PartialEq.eq l.key k ≡ false
