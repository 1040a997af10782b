use Rattle.std.proofs.Common.{take}
use Rattle.sql_names.specs.NameBytes.{PathNames}
use Rattle.role_graph.specs.Roles.{IsRoomFor}
use Rattle.schema_tables.specs.Shown.{Shown}
use Rattle.shown_items.specs.Candidates.{IsNearFace, PutsRows}
use Rattle.shown_items.specs.Faces.{shown_to, IsItemFace}
use Rattle.shown_items.specs.Viewers.{viewer_of}
use Rattle.shown_items.proofs.Adding.{Among}
use Rattle.shown_items.proofs.candidates.put_candidates.Given as goal

-- the rows found by the places so far
abbrev pub invariant-loop-on : goal.invariant-loop-on
invariant-loop-on l = IsRoomFor l.walk l.sight.c.now.items × PutsRows (shown_to l.sight) (Among (take l.on-index l.own) (λ (on : PathNames) (s : Shown). IsNearFace on l.sight.c.now.items (viewer_of l.sight.viewer) s)) (IsItemFace l.sight.c.now.items (viewer_of l.sight.viewer)) l.sight.table l.initial.out.items l.out.items
