use Rattle.std.proofs.Common.{◌≡◌, ℕ, List, refl, sym, ap, ◌∙◌, take, get_or}
use Rattle.std.specs.Prelude.{IsTrue, true}
use Rattle.std.proofs.lemmas.List.{take_all}
use Rattle.schema_tables.specs.Shown.{Shown, of_enabled_role}
use Rattle.shown_items.specs.Faces.{shown_to}
use Rattle.shown_items.specs.Viewers.{session_of, viewer_of}
use Rattle.shown_items.proofs.Adding.{Among, among_more, added_alike, two_added}
use Rattle.shown_items.proofs.Faces.{enabled_faces}
use Rattle.shown_items.proofs.rows.put_enabled.Goals as goal

abbrev IsRoleFace : List ℕ → Shown → Type 0
IsRoleFace name s = s ≡ of_enabled_role name

pub loop-name-preserved : goal.loop-name-preserved
loop-name-preserved c =
    let names : List (List ℕ) = c.in-Session.session.enabled.now in
    let name : List ℕ = c.name-item.result in
    let i : ℕ = c.loop-name.name-index in
    added_alike (shown_to c.args.sight) c.args.sight.table c.args.out.now.items c.put_where.new.out.items _ _ (among_more names IsRoleFace i name c.loop-name-test.true)
    (two_added (shown_to c.args.sight) c.args.sight.table (Among (take i names) IsRoleFace) (λ s. s ≡ of_enabled_role (get_or names i name)) c.args.out.now.items c.loop-name.out.items c.put_where.new.out.items
    (Among (take i names) IsRoleFace) (λ s. IsTrue true × (s ≡ of_enabled_role name)) (λ s. (λ h. h, λ h. h))
    (λ s. (λ h. h.1 ∙ ap of_enabled_role c.name-item.is, λ h. (refl, h ∙ sym (ap of_enabled_role c.name-item.is))))
    c.loop-name.invariant c.in_ok-put_where.ensures)

pub returns-after-loop-name : goal.returns-after-loop-name
returns-after-loop-name c =
    let names : List (List ℕ) = c.in-Session.session.enabled.now in
    added_alike (shown_to c.args.sight) c.args.sight.table c.args.out.now.items c.loop-name.out.items _ _
    (enabled_faces (viewer_of c.args.sight.viewer) (session_of c.in-Session.session) (take c.loop-name.name-index names) (ap viewer_of c.in-Session.is) (take_all c.loop-name.name-index names c.loop-name-test.false))
    c.loop-name.invariant
