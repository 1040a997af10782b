use Rattle.std.proofs.Common.{rules, refl, true≢false, sym}
use Rattle.std.proofs.lemmas.Fn.{always_returns_same}
use Rattle.cat_items.specs.Order.{item_cmp}
use Rattle.edit_parts.proofs.TouchedLaws.{found_at, not_found}
use Rattle.edit_parts.proofs.putting.stands_in.Goals as goal

pub returns-in-Ok : goal.returns-in-Ok
returns-in-Ok c =
    let x = c.args.x.now in
    let equal = c.in-Ok.ensures.position (λ y. item_cmp y x) (always_returns_same _ _ _ (λ a r g called. (search rules, search rules))) in
    (λ e. found_at c.args.items.now x c.in-Ok.field-0 c.in-Ok.ensures.bound c.requires.apart (equal x), λ h. refl)

pub returns-in-Err : goal.returns-in-Err
returns-in-Err c =
    let x = c.args.x.now in
    let parted = c.in-Err.ensures.position (λ y. item_cmp y x) (always_returns_same _ _ _ (λ a r g called. (search rules, search rules))) in
    (λ e. absurd (true≢false (sym e)), λ h. absurd (not_found c.args.items.now x c.in-Err.field-0 c.requires.order parted h))
