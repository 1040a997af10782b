use Rattle.std.proofs.Common.{◌≡◌, ◌↔◌, ◌⊎◌, rules, sym, subst}
use Rattle.std.specs.List.{Contains}
use Rattle.std.proofs.lemmas.Fn.{always_returns_same}
use Rattle.cat_items.specs.Catalogues.{IsInOrder}
use Rattle.cat_items.specs.Order.{item_cmp}
use Rattle.cat_items.proofs.CatalogueLemmas.{members-insert}
use Rattle.grant_edit.proofs.RightLemmas.{put_new, put_there}
use Rattle.grant_edit.proofs.rights.put.Goals as goal

pub returns-in-Ok-clause-members : goal.returns-in-Ok-clause-members
returns-in-Ok-clause-members c =
    let equal = c.in-Ok.ensures.position (λ y. item_cmp y c.args.x) (always_returns_same _ _ _ (λ a r g called. (search rules, search rules))) in
    put_there c.args.items.now.items c.as_slice.result.now c.args.x c.in-Ok.field-0 c.as_slice.ensures.value c.requires.right c.in-Ok.ensures.bound equal

pub returns-in_ok-insert-in-Err-clause-order : goal.returns-in_ok-insert-in-Err-clause-order
returns-in_ok-insert-in-Err-clause-order c =
    let parted = c.in-Err.ensures.position (λ y. item_cmp y c.args.x) (always_returns_same _ _ _ (λ a r g called. (search rules, search rules))) in
    subst IsInOrder (sym c.in_ok-insert-in-Err.ensures.items) (put_new c.args.items.now.items c.as_slice.result.now c.args.x c.in-Err.at c.as_slice.ensures.value c.requires.order c.in-Err.ensures.bound parted)

pub returns-in_ok-insert-in-Err-clause-members : goal.returns-in_ok-insert-in-Err-clause-members
returns-in_ok-insert-in-Err-clause-members c y =
    subst (λ l. Contains l y ↔ (Contains c.args.items.now.items y ⊎ (y ≡ c.args.x))) (sym c.in_ok-insert-in-Err.ensures.items) (members-insert c.args.items.now.items c.in-Err.at c.args.x y)
