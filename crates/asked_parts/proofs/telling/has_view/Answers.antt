use Rattle.std.proofs.Common.{◌↔◌, ◌<◌, IsTrue, rules, subst}
use Rattle.std.specs.Prelude.{not}
use Rattle.cat_items.specs.Ranges.{IsRange, IsView}
use Rattle.edit_rules.proofs.NameLemmas.{in_range}
use Rattle.asked_parts.proofs.telling.has_view.Goals as goal

pub returns : goal.returns
returns c =
    let some : IsTrue (not c.is_empty.result) ↔ (c.places.result.start < c.places.result.end) = search rules in
    let views = subst (λ o. IsRange c.args.part.now.items c.places.result.start c.places.result.end (IsView o)) c.into.ensures c.places.ensures in
    let has = in_range c.args.part.now.items (IsView c.args.view.now) c.places.result.start c.places.result.end views in
    (λ so. has.0 (some.0 so), λ h. some.1 (has.1 h))
