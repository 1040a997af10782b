use Rattle.std.proofs.Common.{refl}
use Rattle.std.proofs.lemmas.Result.{on_ok_weaker}
use Rattle.schema_tables.specs.Shown.{of_role_auth}
use Rattle.shown_items.specs.Faces.{shown_to}
use Rattle.shown_items.specs.Viewers.{viewer_of}
use Rattle.shown_items.proofs.Adding.{added_alike}
use Rattle.shown_items.proofs.Sides.{where_so, option_shown}
use Rattle.shown_items.proofs.grants.put_role_grant.Goals as goal

pub put_where-requires : goal.put_where-requires
put_where-requires c may = (
  (λ h. (c.has_same_option.ensures.0 h, c.applies-may.ensures.answer.0 may), λ h. c.has_same_option.ensures.1 h.0),
  (let same = option_shown c.args.sight.c.now.items (viewer_of c.args.sight.viewer) c.args.x.now (c.applies-may.ensures.answer.0 may) in (λ h. same.0 (c.has_option.ensures.0 h), λ h. c.has_option.ensures.1 (same.1 h))),
  refl,
)

pub returns-clause-rows : goal.returns-clause-rows
returns-clause-rows c =
    on_ok_weaker c.put_where.result
    (added_alike (shown_to c.args.sight) c.args.sight.table c.args.out.now.items c.put_where.new.out.items _ _ (where_so _ _ (of_role_auth c.args.x.now) c.applies-may.ensures.answer))
    c.put_where.ensures
