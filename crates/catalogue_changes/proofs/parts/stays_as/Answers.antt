use Rattle.std.proofs.Common.{sym, ◌∙◌, ap, not}
use Rattle.std.proofs.lemmas.Bool.{both_ways}
use Rattle.cat_items.specs.Catalogues.{HasKeyAt}
use Rattle.new_catalogues.proofs.Joins.{found_none, found_some}
use Rattle.catalogue_changes.proofs.Arriving.{stays, stays_not, leaves, found_nothing}
use Rattle.catalogue_changes.proofs.parts.stays_as.Goals as goal

pub returns-then-is_some : goal.returns-then-is_some
returns-then-is_some c =
    let old = c.args.c.now.items in
    let out = c.args.leaving.now.items in
    let x = c.args.x.now in
    let here = found_some c.find.result (λ k. HasKeyAt old k x) (sym c.is_some.ensures ∙ c.if-is_some.true) c.find.ensures.found in (
      λ e. stays old out x here (found_none c.find-then-is_some.result _ (c.is_none.ensures ∙ ap not e) c.find-then-is_some.ensures.none),
      λ h. found_nothing c.is_none.result c.find-then-is_some.result (λ k. HasKeyAt out k x) c.is_none.ensures c.find-then-is_some.ensures.found (λ found. leaves old out x c.items.ensures.order c.requires found h),
    )

pub returns-else-is_some : goal.returns-else-is_some
returns-else-is_some c =
    let old = c.args.c.now.items in
    let out = c.args.leaving.now.items in
    let x = c.args.x.now in
    let none = found_none c.find.result _ (sym c.is_some.ensures ∙ c.if-is_some.false) c.find.ensures.none in
    (λ e. absurd (both_ways c.is_some.result c.if-is_some.false e), λ h. absurd (stays_not old out x none h))
