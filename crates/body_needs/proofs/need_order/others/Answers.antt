use Rattle.std.proofs.Common.{refl}
use Rattle.std.proofs.lemmas.Bool.{false≢true}
use Rattle.body_needs.proofs.OtherNeeds.{others_none, others_more, others_less, others_all}
use Rattle.body_needs.proofs.need_order.others.Goals as goal
use Rattle.body_needs.proofs.need_order.others.Goals.{then-not-is_same+in_ok-copy+in_ok-push, else-not-is_same}

pub loop-one-init : goal.loop-one-init
loop-one-init c = rw c.new-others.ensures.items (others_none c.args.all.now c.args.own.now)

pub loop-one-preserved : goal.loop-one-preserved
loop-one-preserved c =
    elim c.if-not-is_same.branch [
      | then-not-is_same+in_ok-copy+in_ok-push w ↦ rw (w.others-is, w.in_ok-push.ensures.items, w.in_ok-copy.ensures)
          (others_more c.args.all.now c.loop-one.others.items c.args.own.now c.loop-one.one-index c.one-item.result c.loop-one-test.true c.one-item.is c.loop-one.invariant (λ same. false≢true (w.if-not-is_same.ensures.1 same)))
      | else-not-is_same w ↦ rw w.others-is
          (others_less c.args.all.now c.loop-one.others.items c.args.own.now c.loop-one.one-index c.one-item.result c.loop-one-test.true c.one-item.is c.loop-one.invariant (w.if-not-is_same.ensures.0 refl))
    ]

pub returns : goal.returns
returns c = others_all c.args.all.now c.loop-one.others.items c.args.own.now c.loop-one.one-index c.loop-one-test.false c.loop-one.invariant
