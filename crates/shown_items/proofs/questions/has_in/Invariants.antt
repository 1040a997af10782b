use Rattle.std.proofs.Common.{ℕ, ◌<◌, ◌≤◌, slice_index_or}
use Rattle.cat_items.specs.declared.item.Item.{Item}
use Rattle.shown_items.proofs.questions.has_in.Given as goal

-- none of those so far passes
abbrev pub invariant-loop-at : goal.invariant-loop-at
invariant-loop-at g l = (k : ℕ) (d : Item) → l.first ≤ k → k < l.at → ¬ (g.T.Matches.fits l.test (slice_index_or l.items k d))
