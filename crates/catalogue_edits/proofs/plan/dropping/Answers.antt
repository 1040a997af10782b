use Rattle.std.proofs.Common.{◌∙◌, sym}
use Rattle.catalogue_edits.specs.Kinds.{drop_kind}
use Rattle.catalogue_edits.proofs.Plans.{drops_quietly, quietly}
use Rattle.catalogue_edits.proofs.plan.dropping.Goals as goal

pub returns-clause-planned : goal.returns-clause-planned
returns-clause-planned c =
    let parts = c.args.parts.now in
    let tested = c.in_ok-dropped.ensures.tested in
    let quiet = drops_quietly parts.behaviour parts.kind parts.object c.args.c.now.items c.args.who.now _ in
    quietly (drop_kind parts.behaviour parts.kind parts.object) c.args.c.now.items c.args.who.now _ _ c.silent.result c.silent.ensures tested.0 tested.1 quiet.0 (c.where_restrict-restrict.ensures ∙ sym quiet.1)
