use Rattle.std.proofs.Common.{◌≡◌, ◌∙◌, ◌<◌, false, length, get_or, sym, rules}
use Rattle.std.specs.declared.cmp.Ordering.TheVariants.{Equal}
use Rattle.std.proofs.lemmas.Bool.{false≢true}
use Rattle.std.proofs.lemmas.Fn.{always_returns_same}
use Rattle.cat_items.specs.declared.item.Item.{Item}
use Rattle.cat_items.specs.Order.{item_cmp}
use Rattle.cat_items.proofs.CatalogueLemmas.{none_at}
use Rattle.part_rounds.specs.Grants.{grant_item}
use Rattle.part_rounds.proofs.GrantedLaws.{made_mark, made_nowhere, made_there}
use Rattle.part_rounds.proofs.granted.is_made.Goals as goal

pub returns-in-Ok : goal.returns-in-Ok
returns-in-Ok c =
    let l = c.args.c.now.items in
    let g = c.args.grant in
    let found = c.in-Ok.ensures.position (λ y. item_cmp y (grant_item false g)) (always_returns_same _ _ _ (λ a r g called. (search rules, search rules))) in
    let low : c.in-Ok.at < length l = rw (← c.items.ensures.items) c.in-Ok.ensures.bound in
    let equal : (d : Item) → item_cmp (get_or l c.in-Ok.at d) (grant_item false g) ≡ Equal = rw (← c.items.ensures.items) found in (
      λ e. made_there l c.args.marks.now c.in-Ok.at g low equal (sym c.marked.ensures ∙ e),
      λ h. c.marked.ensures ∙ made_mark l c.args.marks.now c.in-Ok.at g c.items.ensures.order low equal h,
    )

pub returns-in-Err : goal.returns-in-Err
returns-in-Err c =
    let g = c.args.grant in
    let parted = c.in-Err.ensures.position (λ y. item_cmp y (grant_item false g)) (always_returns_same _ _ _ (λ a r g called. (search rules, search rules))) in (
      λ e. absurd (false≢true e),
      λ h. absurd (made_nowhere c.args.c.now.items c.args.marks.now g (rw (← c.items.ensures.items) (none_at _ (grant_item false g) _ (rw c.items.ensures.items c.items.ensures.order) parted)) h),
    )
