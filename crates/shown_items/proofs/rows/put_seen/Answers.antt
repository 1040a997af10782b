use Rattle.std.proofs.Common.{List, ap, sym, subst}
use Rattle.std.proofs.lemmas.Result.{on_ok_weaker}
use Rattle.sql_names.specs.NameBytes.{PathNames}
use Rattle.cat_items.specs.declared.item.Item.{Item}
use Rattle.schema_tables.specs.Sight.{Viewer}
use Rattle.shown_items.specs.Candidates.{IsFaceNear}
use Rattle.shown_items.specs.Faces.{shown_to, IsItemFace}
use Rattle.shown_items.specs.Own.{AreOwn}
use Rattle.shown_items.specs.Viewers.{session_of, viewer_of}
use Rattle.shown_items.proofs.Found.{all_found_by}
use Rattle.shown_items.proofs.Puts.{added_of_puts}
use Rattle.shown_items.proofs.rows.put_seen.Goals as goal

pub returns-in-Some : goal.returns-in-Some
returns-in-Some c =
    let items : List Item = c.args.sight.c.now.items in
    let v : Viewer = viewer_of c.args.sight.viewer in
    let own : List PathNames = c.as_slice.result.now in
    let all = subst (AreOwn items (session_of c.args.session)) (sym c.as_slice.ensures.value) (rw c.in-Some.is at c.in_ok-own.ensures) in
    on_ok_weaker c.put_candidates.result
    (added_of_puts (shown_to c.args.sight) c.args.sight.table (IsItemFace items v) (IsFaceNear own items v) c.args.out.now.items c.put_candidates.new.out.items
    (λ s m row is has. all_found_by items (session_of c.args.session) own all s c.args.sight.table c.requires.rights c.requires.roles m row has v (ap viewer_of c.requires.viewer) is))
    c.put_candidates.ensures
