use Rattle.std.proofs.Common.{◌≡◌}
use Rattle.shown_items.specs.Faces.{AddsRows, shown_to, IsFace}
use Rattle.shown_items.specs.Viewers.{viewer_of}
use Rattle.shown_items.proofs.Spans.{InSpan}
use Rattle.shown_items.proofs.candidates.put_part.Given as goal

-- the rows of the items so far
abbrev pub invariant-loop-at : goal.invariant-loop-at
invariant-loop-at l = (l.walk ≡ l.initial.walk) × AddsRows (shown_to l.sight) (InSpan l.sight.c.now.items l.first l.at (IsFace l.sight.c.now.items (viewer_of l.sight.viewer))) l.sight.table l.initial.out.items l.out.items
