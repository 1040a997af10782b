use Rattle.std.proofs.Common.{refl, sym, ◌∙◌}
use Rattle.std.proofs.lemmas.Bool.{false≢true}
use Rattle.std.proofs.lemmas.Result.{on_ok_weaker}
use Rattle.cat_items.specs.declared.item.Item.TheVariants as item
use Rattle.schema_tables.specs.Shown.{of_held}
use Rattle.shown_items.specs.Faces.{shown_to, IsFace}
use Rattle.shown_items.specs.Viewers.{viewer_of}
use Rattle.shown_items.proofs.Adding.{added_alike, none_added}
use Rattle.shown_items.proofs.Sides.{where_so, role_shown}
use Rattle.shown_items.proofs.grants.put_right.Goals as goal

pub returns-then-not-sees_right : goal.returns-then-not-sees_right
returns-then-not-sees_right c =
    none_added (shown_to c.args.sight) c.args.sight.table c.args.out.now.items c.args.out.now.items (IsFace c.args.sight.c.now.items (viewer_of c.args.sight.viewer) (item.Held c.args.x.now))
    (λ s m row f k. false≢true (sym c.if-not-sees_right.true ∙ c.sees_right.ensures.1 f.0)) refl

pub put_where-requires : goal.put_where-requires
put_where-requires c may =
    let seen = c.sees_right.ensures.0 c.if-not-sees_right.false in (
      refl,
      (λ h. (c.is_grantable.ensures.0 h, seen), λ h. c.is_grantable.ensures.1 h.0),
      (let same = role_shown c.args.sight.c.now.items (viewer_of c.args.sight.viewer) c.args.x.now in (λ h. same.0 (c.is_of_role.ensures.0 h), λ h. c.is_of_role.ensures.1 (same.1 h))),
    )

pub returns : goal.returns
returns c =
    let seen = c.sees_right.ensures.0 c.if-not-sees_right.false in
    on_ok_weaker c.put_where.result
    (added_alike (shown_to c.args.sight) c.args.sight.table c.args.out.now.items c.put_where.new.out.items _ _ (where_so _ _ (of_held c.args.x.now) (λ h. seen, λ h. refl)))
    c.put_where.ensures
