use Rattle.std.proofs.Common.{◌↔◌, ◌∙◌, sym, subst}
use Rattle.std.specs.List.{Contains}
use Rattle.cat_items.specs.Needs.{body_needs}
use Rattle.body_needs.proofs.Gained.{needs_as}
use Rattle.body_needs.proofs.bodies.needs_with_all_calls.Goals as goal

pub returns : goal.returns
returns c =
    needs_as (Contains c.in_ok-copies.field-0.items) (Contains (body_needs c.args.body.now)) c.each_once.result
    (λ x. subst (λ l. Contains l x ↔ Contains (body_needs c.args.body.now) x) (sym (c.in_ok-copies.ensures ∙ c.as_slice.ensures)) (c.in_ok-all.ensures x))
    c.each_once.ensures
