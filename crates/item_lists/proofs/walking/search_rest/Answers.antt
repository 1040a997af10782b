use Rattle.std.proofs.Common.{arith, length, rules}
use Rattle.std.proofs.lemmas.Fn.{always_returns_same}
use Rattle.std.proofs.lemmas.Slice.{between_to_end}
use Rattle.cat_items.specs.Order.{item_cmp}
use Rattle.item_lists.proofs.Steps.{gap_from, key_from}
use Rattle.item_lists.proofs.walking.search_rest.Goals as goal

pub returns-in-Ok-clause-place : goal.returns-in-Ok-clause-place
returns-in-Ok-clause-place c =
    let items = c.args.items.now in
    let from = c.args.from in
    let x = c.args.x.now in
    let equal = c.in-Ok.ensures.position (λ y. item_cmp y x) (always_returns_same _ _ _ (λ a r g called. (search rules, search rules))) in
    key_from items x _ from c.in-Ok.at (between_to_end items from (length items) (omega arith)) c.in-Ok.ensures.bound equal

pub returns-in-Err-clause-place : goal.returns-in-Err-clause-place
returns-in-Err-clause-place c =
    let items = c.args.items.now in
    let from = c.args.from in
    let x = c.args.x.now in
    let parted = c.in-Err.ensures.position (λ y. item_cmp y x) (always_returns_same _ _ _ (λ a r g called. (search rules, search rules))) in
    gap_from items x _ from c.in-Err.gap (between_to_end items from (length items) (omega arith)) c.requires.order c.requires.before c.in-Err.ensures.bound parted
