use Rattle.std.proofs.Common.{◌≡◌, ◌+◌, ◌<◌, [], ◌∷◌, ◌++◌, length, take, not, sym, ◌∙◌, ap, subst}
use Rattle.cat_items.specs.Catalogues.{IsInOrder, HasKeyAt}
use Rattle.new_catalogues.specs.Joining.{AreMissing}
use Rattle.new_catalogues.proofs.Joins.{found_none, found_some, missing_put, missing_kept, front_more, order_put}
use Rattle.new_catalogues.proofs.edits.missing.Goals as goal
use Rattle.new_catalogues.proofs.edits.missing.Goals.{then-is_none+in_ok-copy+in_ok-push, else-is_none}

pub loop-x-preserved : goal.loop-x-preserved
loop-x-preserved c =
    let items = c.args.items.now in
    let there = c.args.c.now.items in
    let i = c.loop-x.x-index in
    let x = c.x-item.result in
    let before = c.loop-x.missing.items in
    let front = front_more items i x c.loop-x-test.true c.x-item.is in
    elim c.if-is_none.branch [
      | then-is_none+in_ok-copy+in_ok-push w ↦
          let more : c.if-is_none.missing.items ≡ before ++ x ∷ [] = rw (w.missing-is, w.in_ok-push.ensures.items, w.in_ok-copy.ensures) in
          let none = found_none c.find.result _ (c.is_none.ensures ∙ ap not w.if-is_none.true) c.find.ensures.none in
          record {
            order = subst IsInOrder (sym more) (order_put items before i x c.requires c.loop-x-test.true c.x-item.is c.loop-x.invariant.members.within c.loop-x.invariant.order);
            members = subst (λ l. AreMissing there (take (i + 1) items) l) (sym more) (subst (λ l. AreMissing there l (before ++ x ∷ [])) front (missing_put there (take i items) before x none c.loop-x.invariant.members));
          }
      | else-is_none w ↦
          let same : c.if-is_none.missing.items ≡ before = rw w.missing-is in
          let some = found_some c.find.result (λ k. HasKeyAt there k x) (c.is_none.ensures ∙ ap not w.if-is_none.false) c.find.ensures.found in
          record {
            order = subst IsInOrder (sym same) c.loop-x.invariant.order;
            members = subst (λ l. AreMissing there (take (i + 1) items) l) (sym same) (subst (λ l. AreMissing there l before) front (missing_kept there (take i items) before x some c.loop-x.invariant.members));
          }
    ]
