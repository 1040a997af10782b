use Rattle.std.proofs.Common.{refl}
use Rattle.std.proofs.lemmas.Bool.{false≢true}
use Rattle.edit_rules.proofs.ChosenItems.{chosen_more, chosen_less}
use Rattle.edit_rules.proofs.choosing.chosen.Goals as goal
use Rattle.edit_rules.proofs.choosing.chosen.Goals.{then-chooses+in_ok-copy+in_ok-push, else-chooses}

pub loop-x-preserved : goal.loop-x-preserved
loop-x-preserved g c =
    let items = c.args.c.now.items in
    let P = g.T.Chooses.fits c.args.test.now in
    elim c.if-chooses.branch [
      | then-chooses+in_ok-copy+in_ok-push w ↦ rw (w.found-is, w.in_ok-push.ensures.items, w.in_ok-copy.ensures)
          (chosen_more items c.items-x-items.result.now c.loop-x.found.items P c.loop-x.x-index c.x-item.result c.items-x-items.ensures.order c.items-x-items.ensures.items c.loop-x-test.true c.x-item.is c.loop-x.invariant (w.if-chooses.ensures.0 refl))
      | else-chooses w ↦ rw w.found-is
          (chosen_less items c.items-x-items.result.now c.loop-x.found.items P c.loop-x.x-index c.x-item.result c.items-x-items.ensures.items c.loop-x-test.true c.x-item.is c.loop-x.invariant (λ so. false≢true (w.if-chooses.ensures.1 so)))
    ]
