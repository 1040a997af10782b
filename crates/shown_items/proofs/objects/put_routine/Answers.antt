use Rattle.std.proofs.lemmas.Result.{on_ok_weaker}
use Rattle.schema_tables.specs.Seen as lent
use Rattle.schema_tables.specs.Shown.{of_routine_needs}
use Rattle.shown_items.specs.Faces.{shown_to, IsRoutineFace, IsRoutineNeedsFace}
use Rattle.shown_items.specs.Viewers.{viewer_of}
use Rattle.shown_items.proofs.Adding.{two_added}
use Rattle.shown_items.proofs.LooksShown.{routine_face}
use Rattle.shown_items.proofs.Sides.{where_so}
use Rattle.shown_items.proofs.objects.put_routine.Goals as goal

pub returns : goal.returns
returns c =
    on_ok_weaker c.put_where-2.result
    (two_added (shown_to c.args.sight) c.args.sight.table (IsRoutineFace c.args.sight.c.now.items (viewer_of c.args.sight.viewer) c.args.x.now) (IsRoutineNeedsFace c.args.sight.c.now.items (viewer_of c.args.sight.viewer) c.args.x.now)
    c.args.out.now.items c.put_where.new.out.items c.put_where-2.new.out.items _ _
    (routine_face c.args.sight.c.now.items (viewer_of c.args.sight.viewer) c.sees_routine-may.result c.owns-owned.result c.args.x.now c.sees_routine-may.ensures c.owns-owned.ensures (lent.routine_of c.routine_look-look.result) c.routine_look-look.ensures)
    (where_so _ _ (of_routine_needs (record { object = c.args.x.now.routine; needs = c.args.x.now.needs })) c.owns-owned.ensures)
    c.in_ok-put_where.ensures)
    c.put_where-2.ensures
