use Rattle.std.proofs.Common.{◌≡◌, take, refl, subst, arith}
use Rattle.std.proofs.lemmas.Bool.{false≢true}
use Rattle.edit_rules.specs.Chosen.{AreChosen}
use Rattle.edit_rules.proofs.ChosenItems.{chosen_more, chosen_less}
use Rattle.chosen_parts.proofs.choosing.choose_between.Goals as goal
use Rattle.chosen_parts.proofs.choosing.choose_between.Goals.{then-chooses+in_ok-copy+in_ok-push, else-chooses}

pub loop-at-preserved : goal.loop-at-preserved
loop-at-preserved g c =
    let items = c.args.items.now in
    let P = g.T.Chooses.fits c.args.test.now in
    elim c.if-chooses.branch [
      | then-chooses+in_ok-copy+in_ok-push w ↦ rw (w.found-is, w.in_ok-push.ensures.items, w.in_ok-copy.ensures)
          (chosen_more items items c.loop-at.found.items P c.loop-at.at c.index-items-at.result c.requires.order refl (omega arith) c.index-items-at.is c.loop-at.invariant (w.if-chooses.ensures.0 refl))
      | else-chooses w ↦ rw w.found-is
          (chosen_less items items c.loop-at.found.items P c.loop-at.at c.index-items-at.result refl (omega arith) c.index-items-at.is c.loop-at.invariant (λ so. false≢true (w.if-chooses.ensures.1 so)))
    ]

pub returns : goal.returns
returns g c =
    let last : c.loop-at.at ≡ c.args.to = omega arith in
    subst (λ n. AreChosen (take n c.args.items.now) (g.T.Chooses.fits c.args.test.now) c.loop-at.found.items) last c.loop-at.invariant
