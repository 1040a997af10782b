use Rattle.std.proofs.Common.{◌∙◌, ap, arith, length, ◌++◌}
use Rattle.std.proofs.lemmas.Slice.{between_to_end}
use Rattle.item_lists.proofs.Merges.{all_merged}
use Rattle.item_lists.proofs.merging.merged.Goals as goal

pub of_sorted-requires : goal.of_sorted-requires
of_sorted-requires c =
    let items = c.args.items.now in
    let from = c.loop-next.from in
    let last = c.in_ok-push_all.ensures ∙ ap (λ l. c.loop-next.all.items ++ l) (between_to_end items from (length items) (omega arith)) in
    (all_merged items c.args.more.now c.loop-next.all.items c.push_all.new.all.items from c.loop-next.next c.requires.items (omega (arith, c.loop-next-test.false)) c.loop-next.invariant.merged last).0

pub returns-clause-members : goal.returns-clause-members
returns-clause-members c =
    let items = c.args.items.now in
    let from = c.loop-next.from in
    let last = c.in_ok-push_all.ensures ∙ ap (λ l. c.loop-next.all.items ++ l) (between_to_end items from (length items) (omega arith)) in
    rw c.of_sorted.ensures.items
    (all_merged items c.args.more.now c.loop-next.all.items c.push_all.new.all.items from c.loop-next.next c.requires.items (omega (arith, c.loop-next-test.false)) c.loop-next.invariant.merged last).1
