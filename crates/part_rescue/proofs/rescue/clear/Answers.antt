use Rattle.std.proofs.Common.{◌≡◌, ◌↔◌, ◌<◌, true, cond, length, set, ap, subst, get_or, arith}
use Rattle.std.specs.List.{Contains}
use Rattle.std.specs.declared.cmp.Ordering.TheVariants.{Less}
use Rattle.cat_items.specs.declared.item.Item.{Item}
use Rattle.cat_items.specs.Order.{item_cmp}
use Rattle.item_lists.specs.Walks.{AreBefore}
use Rattle.item_lists.proofs.Steps.{has_passed}
use Rattle.part_rescue.proofs.Clear.{clear_goes, clear_ends}
use Rattle.part_rescue.proofs.rescue.clear.Goals as goal
use Rattle.part_rescue.proofs.rescue.clear.Goals.{then-not-stands_from, else-not-stands_from}

pub loop-at-preserved : goal.loop-at-preserved
loop-at-preserved c =
    let part = c.args.part.now.items in
    let suspects = c.args.suspects.now.items in
    let k = c.loop-at.at in
    let m = c.loop-at.marks in
    let x = c.index-items-at.result in
    let stands = c.stands_from.result in
    let same = c.items-items.ensures.items in
    let listed = c.items-listed.ensures.items in
    let low : k < length part = subst (λ l. k < length l) same c.loop-at-test.true in
    let is : x ≡ get_or part k x = subst (λ l. x ≡ get_or l k x) same c.index-items-at.is in
    let new : c.if-not-stands_from.marks ≡ cond stands m (set m k true) =
    elim c.if-not-stands_from.branch [
      | then-not-stands_from w ↦ rw (w.marks-is, w.mark.ensures, w.if-not-stands_from.true)
      | else-not-stands_from w ↦ rw (w.marks-is, w.if-not-stands_from.false)
    ] in
    record {
      clear = clear_goes suspects part m _ k stands x low is c.loop-at.invariant.clear (subst (λ l. (stands ≡ true) ↔ Contains l x) listed c.stands_from.ensures.stands) new;
      passed = has_passed part k x suspects c.stands_from.new.from c.items-items.ensures.order low is (subst (λ l. (y : Item) → item_cmp x y ≡ Less → AreBefore l c.stands_from.new.from y) listed c.stands_from.ensures.passed);
    }

pub returns : goal.returns
returns c = clear_ends _ _ _ c.loop-at.at (omega (arith, c.loop-at-test.false, ap length c.items-items.ensures.items)) c.loop-at.invariant.clear
