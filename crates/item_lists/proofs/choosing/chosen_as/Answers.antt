use Rattle.std.proofs.Common.{refl}
use Rattle.edit_rules.proofs.ChosenItems.{chosen_more, chosen_less}
use Rattle.item_lists.specs.Walks.{StandsAs}
use Rattle.item_lists.proofs.Steps.{has_passed, next_before, stands_otherwise, stands_so}
use Rattle.item_lists.proofs.choosing.chosen_as.Goals as goal
use Rattle.item_lists.proofs.choosing.chosen_as.Goals.{then-stands_from-there+in_ok-copy+in_ok-push, else-stands_from-there}

pub stands_from-requires-clause-before : goal.stands_from-requires-clause-before
stands_from-requires-clause-before c = next_before c.args.items.now c.loop-x.x-index c.x-item.result c.args.other.now c.loop-x.from c.loop-x-test.true c.x-item.is c.loop-x.invariant.passed

pub loop-x-preserved : goal.loop-x-preserved
loop-x-preserved c =
    let items = c.args.items.now in
    let other = c.args.other.now in
    let i = c.loop-x.x-index in
    let x = c.x-item.result in
    let P = StandsAs c.args.there other in
    record {
      chosen = elim c.if-stands_from-there.branch [
        | then-stands_from-there+in_ok-copy+in_ok-push w ↦ rw (w.found-is, w.in_ok-push.ensures.items, w.in_ok-copy.ensures)
            (chosen_more items items c.loop-x.found.items P i x c.requires.items refl c.loop-x-test.true c.x-item.is c.loop-x.invariant.chosen (stands_so c.args.there c.stands_from.result other x c.stands_from.ensures.stands w.if-stands_from-there.true))
        | else-stands_from-there w ↦ rw w.found-is
            (chosen_less items items c.loop-x.found.items P i x refl c.loop-x-test.true c.x-item.is c.loop-x.invariant.chosen (stands_otherwise c.args.there c.stands_from.result other x c.stands_from.ensures.stands w.if-stands_from-there.false))
      ];
      passed = has_passed items i x other c.stands_from.new.from c.requires.items c.loop-x-test.true c.x-item.is c.stands_from.ensures.passed;
    }
