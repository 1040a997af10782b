use Rattle.std.proofs.Common.{◌≡◌}
use Rattle.cat_items.specs.declared.item.View.{View}
use Rattle.object_edits.specs.CreatedViews.{query_of}
use Rattle.object_edits.proofs.NamedQueries.{made_view, view_made}
use Rattle.object_edits.proofs.views.NewViewMaking.edit.Goals as goal

pub returns : goal.returns
returns c =
    let query = query_of c.args._c.now.items c.args._who.now c.args.self.now.query.now in
    let made = c.args.made in
    let view : View = record { view = c.in_ok-view.view; query = made.query; needs = made.needs; base = made.base; base_columns = made.base_columns } in
    let is : view ≡ made_view c.args.self.now.columns.now query made c.requires.made.resolved c.args.self.now.view =
    (λ i. record { view = c.in_ok-view.ensures i; query = made.query; needs = made.needs; base = made.base; base_columns = made.base_columns }) in
    view_made c.args.self.now.columns.now query made c.requires.made.resolved c.args.self.now.view c.args._c.now.items view c.names_from.result.now (record { target = c.new.result; changed = c.new-2.result; added = c.in_ok-added.added }) is
    c.names_from.ensures c.new.ensures c.new-2.ensures c.in_ok-added.ensures
