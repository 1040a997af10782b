use Rattle.std.proofs.Common.{◌≡◌, ◌+◌, [], ◌∷◌, ◌++◌, take, sym, subst}
use Rattle.std.proofs.lemmas.Bool.{both_ways}
use Rattle.std.proofs.lemmas.List.{take_all}
use Rattle.cat_items.specs.Catalogues.{IsInOrder}
use Rattle.new_catalogues.proofs.Joins.{front_more, order_put}
use Rattle.catalogue_changes.specs.Parts.{AreArriving}
use Rattle.catalogue_changes.proofs.Arriving.{arriving_put, arriving_kept}
use Rattle.catalogue_changes.proofs.parts.arriving.Goals as goal
use Rattle.catalogue_changes.proofs.parts.arriving.Goals.{then-not-stays_as+in_ok-copy+in_ok-push, else-not-stays_as}

pub loop-x-preserved : goal.loop-x-preserved
loop-x-preserved c =
    let items = c.args.items.now in
    let old = c.args.c.now.items in
    let out = c.args.leaving.now.items in
    let i = c.loop-x.x-index in
    let x = c.x-item.result in
    let before = c.loop-x.arriving.items in
    let front = front_more items i x c.loop-x-test.true c.x-item.is in
    elim c.if-not-stays_as.branch [
      | then-not-stays_as+in_ok-copy+in_ok-push w ↦
          let more : c.if-not-stays_as.arriving.items ≡ before ++ x ∷ [] = rw (w.arriving-is, w.in_ok-push.ensures.items, w.in_ok-copy.ensures) in
          record {
            order = subst IsInOrder (sym more) (order_put items before i x c.requires.order c.loop-x-test.true c.x-item.is c.loop-x.invariant.members.within c.loop-x.invariant.order);
            members = subst (λ l. AreArriving old out (take (i + 1) items) l) (sym more) (subst (λ l. AreArriving old out l (before ++ x ∷ [])) front
                (arriving_put old out (take i items) before x (λ h. both_ways c.stays_as.result w.if-not-stays_as.true (c.stays_as.ensures.1 h)) c.loop-x.invariant.members));
          }
      | else-not-stays_as w ↦
          let same : c.if-not-stays_as.arriving.items ≡ before = rw w.arriving-is in
          record {
            order = subst IsInOrder (sym same) c.loop-x.invariant.order;
            members = subst (λ l. AreArriving old out (take (i + 1) items) l) (sym same) (subst (λ l. AreArriving old out l before) front
                (arriving_kept old out (take i items) before x (c.stays_as.ensures.0 w.if-not-stays_as.false) c.loop-x.invariant.members));
          }
    ]

pub returns-clause-members : goal.returns-clause-members
returns-clause-members c = rw (← take_all c.loop-x.x-index c.args.items.now c.loop-x-test.false) c.loop-x.invariant.members
