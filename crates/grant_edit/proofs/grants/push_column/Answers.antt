use Rattle.std.proofs.Common.{[], ◌∷◌, ◌++◌, ◌≡◌, ap, refl, subst, ◌∙◌}
use Rattle.sql_names.specs.declared.object.Object.{Object}
use Rattle.cat_items.specs.declared.item.Column.{Column}
use Rattle.cat_items.specs.declared.need.Need.{Need}
use Rattle.cat_items.specs.Needs.{column_need}
use Rattle.grant_edit.specs.Grants.{CanGrant}
use Rattle.grant_edit.proofs.GrantLemmas.{column_pushed}
use Rattle.grant_edit.proofs.grants.push_column.Goals as goal

pub returns-in_ok-push-clause-members : goal.returns-in_ok-push-clause-members
returns-in_ok-push-clause-members c =
    let items = c.args.c.now.items in
    let object = c.args.object.now in
    let old = c.args.needs.now.items in
    let made : c.in_ok-on_column.field-0 ≡ column_need c.args.action object c.in-Column.column.name = c.in_ok-on_column.ensures ∙ ap (λ (x : Column). column_need c.args.action object x.name) c.get.ensures in
    let met : CanGrant items c.args.grantor.now (column_need c.args.action object c.get.result.now.name) = subst (λ (o : Object). CanGrant items c.args.grantor.now (column_need c.args.action o c.get.result.now.name)) c.into.ensures (c.if-met_by.ensures.answer.0 refl) in
    let can : CanGrant items c.args.grantor.now (column_need c.args.action object c.in-Column.column.name) = subst (λ (x : Column). CanGrant items c.args.grantor.now (column_need c.args.action object x.name)) c.get.ensures met in
    column_pushed items c.args.grantor.now object c.args.action c.in-Column.column c.args.x.now old c.push.new.self.items c.in-Column.is
    (c.in_ok-push.ensures.items ∙ ap (λ (n : Need). old ++ n ∷ []) made) can
