use Rattle.std.proofs.Common.{sym, ◌∙◌, rules}
use Rattle.std.proofs.lemmas.Fn.{always_returns_same}
use Rattle.cat_items.specs.Order.{item_cmp}
use Rattle.cat_items.proofs.CatalogueLemmas.{none_at, cut_at_gap, none_behind}
use Rattle.cat_items.proofs.Merges.{cut_by_test}
use Rattle.cat_items.proofs.catalogue.gap.Goals as goal

pub returns-in-Some-clause-cut : goal.returns-in-Some-clause-cut
returns-in-Some-clause-cut c = cut_by_test _ _ _ _ c.requires c.in-Some.ensures.value c.compare_items.ensures (sym c.is_lt.ensures ∙ c.if-is_lt.true)

pub returns-in-Some-clause-new : goal.returns-in-Some-clause-new
returns-in-Some-clause-new c = none_behind _ _ (returns-in-Some-clause-cut c)

pub returns-in-Ok-clause-found : goal.returns-in-Ok-clause-found
returns-in-Ok-clause-found c =
    let equal = c.in-Ok.ensures.position (λ y. item_cmp y c.args.item.now) (always_returns_same _ _ _ (λ a r g called. (search rules, search rules))) in
    (c.in-Ok.field-0, (c.in-Ok.ensures.bound, equal))

pub returns-in-Err-clause-cut : goal.returns-in-Err-clause-cut
returns-in-Err-clause-cut c =
    let parted = c.in-Err.ensures.position (λ y. item_cmp y c.args.item.now) (always_returns_same _ _ _ (λ a r g called. (search rules, search rules))) in
    cut_at_gap _ _ _ c.requires c.in-Err.ensures.bound parted

pub returns-in-Err-clause-new : goal.returns-in-Err-clause-new
returns-in-Err-clause-new c =
    let parted = c.in-Err.ensures.position (λ y. item_cmp y c.args.item.now) (always_returns_same _ _ _ (λ a r g called. (search rules, search rules))) in
    none_at _ c.args.item.now _ c.requires parted
