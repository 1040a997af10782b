use Rattle.std.proofs.Common.{rules}
use Rattle.std.proofs.lemmas.Fn.{always_returns_same}
use Rattle.cat_items.specs.Order.{item_cmp}
use Rattle.cat_items.proofs.CatalogueLemmas.{none_at}
use Rattle.cat_items.proofs.catalogue.find.Goals as goal

-- the closure compares with the item that is sought, and the slice is the catalogue's
pub returns-in-Ok : goal.returns-in-Ok
returns-in-Ok c =
    let equal = c.in-Ok.ensures.position (λ y. item_cmp y c.args.item.now) (always_returns_same _ _ _ (λ a r g called. (search rules, search rules))) in
    record { found = rw (← c.items.ensures.items) (c.in-Ok.ensures.bound, equal); none = tt }

pub returns-in-Err : goal.returns-in-Err
returns-in-Err c =
    let parted = c.in-Err.ensures.position (λ y. item_cmp y c.args.item.now) (always_returns_same _ _ _ (λ a r g called. (search rules, search rules))) in
    record { found = tt; none = rw (← c.items.ensures.items) (none_at _ c.args.item.now _ (rw c.items.ensures.items c.items.ensures.order) parted) }
