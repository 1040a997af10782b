use Rattle.std.proofs.Common.{◌+◌, ◌<◌, [], length, sym, ◌∙◌, ap, subst, arith}
use Rattle.std.proofs.lemmas.List.{take_all}
use Rattle.cat_items.specs.declared.item.Item.TheVariants.{User}
use Rattle.cat_items.specs.Catalogues.{IsInOrder}
use Rattle.cat_items.specs.Order.{item_cmp}
use Rattle.role_graph.specs.Marked.{marked}
use Rattle.grant_chain.proofs.RoundLemmas.{marked_kept, marked_left, order_of_marked}
use Rattle.part_rescue.proofs.rescue.marked_items.Goals as goal
use Rattle.part_rescue.proofs.rescue.marked_items.Goals.{then-marked+in_ok-copy+in_ok-push, else-marked}

pub loop-at-preserved : goal.loop-at-preserved
loop-at-preserved c =
    let items = c.args.part.now.items in
    let m = c.args.marks.now in
    let at = c.loop-at.at in
    let low : at < length items = omega (arith, c.loop-at-test.true, ap length c.items-items.ensures.items) in
    let below : at < length m = omega (arith, low, c.requires) in
    record {
      kept = elim c.if-marked.branch [
        | then-marked+in_ok-copy+in_ok-push w ↦ rw (w.kept-is, w.in_ok-push.ensures.items, w.in_ok-copy.ensures, c.loop-at.invariant.kept)
            (marked_kept items c.items-items.result.now m at (at + 1) w.index-items-at.result c.items-items.ensures.items (omega arith) low below w.index-items-at.is (sym w.if-marked.ensures))
        | else-marked w ↦ rw (w.kept-is, c.loop-at.invariant.kept) (marked_left items m at (at + 1) (User []) (omega arith) low below (sym w.if-marked.ensures))
      ];
    }

pub returns-clause-order : goal.returns-clause-order
returns-clause-order c =
    let items = c.args.part.now.items in
    let m = c.args.marks.now in
    let all = take_all c.loop-at.at items (omega (arith, c.loop-at-test.false, ap length c.items-items.ensures.items)) in
    subst IsInOrder (sym (c.loop-at.invariant.kept ∙ ap (λ l. marked l m) all)) (order_of_marked item_cmp items m c.items-items.ensures.order)
