use Rattle.std.proofs.Common.{◌≡◌, take}
use Rattle.cat_items.specs.declared.ranges.Part.{Part}
use Rattle.schema_tables.specs.Shown.{Shown}
use Rattle.shown_items.specs.Candidates.{IsFaceIn}
use Rattle.shown_items.specs.Faces.{AddsRows, shown_to}
use Rattle.shown_items.specs.Viewers.{viewer_of}
use Rattle.shown_items.proofs.Adding.{Among}
use Rattle.shown_items.proofs.candidates.put_parts.Given as goal

-- the rows of the parts so far
abbrev pub invariant-loop-part : goal.invariant-loop-part
invariant-loop-part l = (l.walk ≡ l.initial.walk) × AddsRows (shown_to l.sight) (Among (take l.part-index l.parts) (λ (part : Part) (s : Shown). IsFaceIn l.sight.table part l.sight.c.now.items (viewer_of l.sight.viewer) s)) l.sight.table l.initial.out.items l.out.items
