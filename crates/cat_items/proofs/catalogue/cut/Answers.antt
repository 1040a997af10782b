use Rattle.std.proofs.Common.{rules}
use Rattle.std.proofs.lemmas.Fn.{always_returns_same}
use Rattle.cat_items.specs.Order.{item_cmp}
use Rattle.cat_items.proofs.CatalogueLemmas.{cut_at_gap, cut_at_key}
use Rattle.cat_items.proofs.catalogue.cut.Goals as goal

pub returns-in-Ok : goal.returns-in-Ok
returns-in-Ok c =
    let equal = c.in-Ok.ensures.position (λ y. item_cmp y c.args.item.now) (always_returns_same _ _ _ (λ a r g called. (search rules, search rules))) in
    cut_at_key _ _ _ c.requires c.in-Ok.ensures.bound equal

pub returns-in-Err : goal.returns-in-Err
returns-in-Err c =
    let parted = c.in-Err.ensures.position (λ y. item_cmp y c.args.item.now) (always_returns_same _ _ _ (λ a r g called. (search rules, search rules))) in
    cut_at_gap _ _ _ c.requires c.in-Err.ensures.bound parted
