use Rattle.std.proofs.Common.{refl}
use Rattle.std.proofs.lemmas.Bool.{false≢true}
use Rattle.edit_rules.proofs.ChosenItems.{chosen_more, chosen_less}
use Rattle.table_additions.proofs.ranges.chosen_of.Goals as goal
use Rattle.table_additions.proofs.ranges.chosen_of.Goals.{then-chooses+in_ok-copy+in_ok-push, else-chooses}

pub loop-x-preserved : goal.loop-x-preserved
loop-x-preserved g c =
    let items = c.args.items.now in
    let P = g.T.Chooses.fits c.args.test.now in
    elim c.if-chooses.branch [
      | then-chooses+in_ok-copy+in_ok-push w ↦ rw (w.found-is, w.in_ok-push.ensures.items, w.in_ok-copy.ensures)
          (chosen_more items items c.loop-x.found.items P c.loop-x.x-index c.x-item.result c.requires refl c.loop-x-test.true c.x-item.is c.loop-x.invariant (w.if-chooses.ensures.0 refl))
      | else-chooses w ↦ rw w.found-is
          (chosen_less items items c.loop-x.found.items P c.loop-x.x-index c.x-item.result refl c.loop-x-test.true c.x-item.is c.loop-x.invariant (λ so. false≢true (w.if-chooses.ensures.1 so)))
    ]
