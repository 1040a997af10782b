use Rattle.std.proofs.Common.{take}
use Rattle.role_graph.specs.Roles.{IsRoomFor}
use Rattle.shown_items.specs.Faces.{AddsRows, shown_to, IsFace}
use Rattle.shown_items.specs.Viewers.{viewer_of}
use Rattle.shown_items.proofs.Adding.{Among}
use Rattle.shown_items.proofs.rows.put_all.Given as goal

-- the rows of the items so far
abbrev pub invariant-loop-at : goal.invariant-loop-at
invariant-loop-at l = IsRoomFor l.walk l.sight.c.now.items × AddsRows (shown_to l.sight) (Among (take l.at l.items) (IsFace l.sight.c.now.items (viewer_of l.sight.viewer))) l.sight.table l.initial.out.items l.out.items
