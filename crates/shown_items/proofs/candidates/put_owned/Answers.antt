use Rattle.std.proofs.Common.{List, refl, ◌∙◌}
use Rattle.std.proofs.lemmas.Result.{on_ok_weaker}
use Rattle.cat_items.specs.declared.item.Item.{Item}
use Rattle.cat_items.specs.Reach.{Has}
use Rattle.schema_tables.specs.Sight.{Viewer}
use Rattle.shown_items.specs.Candidates.{IsOwnerFace, IsSchemaFace}
use Rattle.shown_items.specs.Faces.{shown_to, IsItemFace}
use Rattle.shown_items.specs.Viewers.{viewer_of}
use Rattle.shown_items.proofs.Near.{at_schema, nameless, no_schema}
use Rattle.shown_items.proofs.Puts.{puts_alike, puts_none}
use Rattle.shown_items.proofs.candidates.put_owned.Goals as goal

pub returns-then-len-ne1-clause-rows : goal.returns-then-len-ne1-clause-rows
returns-then-len-ne1-clause-rows c =
    let items : List Item = c.args.sight.c.now.items in
    let v : Viewer = viewer_of c.args.sight.viewer in
    puts_none (shown_to c.args.sight) c.args.sight.table (IsItemFace items v) (IsSchemaFace c.args.on.now items v) c.args.out.now.items c.args.out.now.items
    (λ s m row h has. no_schema items v c.args.on.now (λ one. c.if-len-ne1.true (c.len.ensures.names ∙ one)) s h) refl

pub returns-in-Some-clause-rows : goal.returns-in-Some-clause-rows
returns-in-Some-clause-rows c =
    let items : List Item = c.args.sight.c.now.items in
    let v : Viewer = viewer_of c.args.sight.viewer in
    on_ok_weaker c.put_schema.result
    (puts_alike (shown_to c.args.sight) c.args.sight.table (IsItemFace items v) (λ s. Has items (λ y. IsOwnerFace c.in-Some.schema.now items v y s)) (IsSchemaFace c.args.on.now items v) c.args.out.now.items c.put_schema.new.out.items
    (at_schema items v c.args.on.now c.in-Some.schema.now c.in-Some.ensures))
    c.put_schema.ensures.rows

pub returns-in-None-clause-rows : goal.returns-in-None-clause-rows
returns-in-None-clause-rows c =
    let items : List Item = c.args.sight.c.now.items in
    let v : Viewer = viewer_of c.args.sight.viewer in
    puts_none (shown_to c.args.sight) c.args.sight.table (IsItemFace items v) (IsSchemaFace c.args.on.now items v) c.args.out.now.items c.args.out.now.items
    (λ s m row h has. nameless items v c.args.on.now c.in-None.ensures s h) refl
