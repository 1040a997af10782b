use Rattle.std.proofs.Common.{subst}
use Rattle.edit_rules.specs.First.{IsTested}
use Rattle.statement_steps.specs.Steps.{refusals_of}
use Rattle.object_edits.specs.CreatedViews.{creating_view, query_of}
use Rattle.object_edits.proofs.NamedQueries.{tested_sound}
use Rattle.object_edits.proofs.views.create_view.Goals as goal

pub returns-clause-tested : goal.returns-clause-tested
returns-clause-tested c =
    let items = c.args.c.now.items in
    let parts = c.args.parts.now in
    let query = query_of items c.args.who.now parts.query in
    subst (λ o. IsTested (refusals_of items c.args.who.now (creating_view items o parts.columns query)) (creating_view items o parts.columns query).edit c.edit_of.result) c.in_ok-object_in.ensures c.edit_of.ensures

pub returns-clause-sound : goal.returns-clause-sound
returns-clause-sound c =
    let items = c.args.c.now.items in
    let parts = c.args.parts.now in
    let query = query_of items c.args.who.now parts.query in
    tested_sound items c.args.who.now parts c.edit_of.result c.requires.good c.requires.written
    (subst (λ o. IsTested (refusals_of items c.args.who.now (creating_view items o parts.columns query)) (creating_view items o parts.columns query).edit c.edit_of.result) c.in_ok-object_in.ensures c.edit_of.ensures)
