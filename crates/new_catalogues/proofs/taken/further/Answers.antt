use Rattle.std.proofs.Common.{List, sym, subst}
use Rattle.std.specs.List.{Contains}
use Rattle.std.proofs.lemmas.Bool.{both_ways}
use Rattle.cat_items.specs.declared.item.Item.{Item}
use Rattle.cat_items.specs.Edits.{IsFurther}
use Rattle.new_catalogues.proofs.FurtherLemmas.{none_here, none_at_all, least_further}
use Rattle.new_catalogues.proofs.taken.further.Goals as goal
use Rattle.new_catalogues.proofs.taken.further.Goals.{else-not-has-via-then-not-has+else-not-has-2, else-not-has-via-else-not-has}

pub returns-then-not-has-2-clause-least : goal.returns-then-not-has-2-clause-least
returns-then-not-has-2-clause-least c =
    let x = c.x-item.result in
    least_further c.args.c.now.items c.args.edit.now c.args.new.now.items c.loop-x.x-index x c.items-x-items.ensures.order (rw c.items-x-items.ensures.items at c.loop-x-test.true) (rw c.items-x-items.ensures.items at c.x-item.is) c.loop-x.invariant.none
    (λ h. both_ways c.has.result c.if-not-has.true (c.has.ensures.1 (subst (λ (l : List Item). Contains l x) (sym c.as_slice.ensures) h)))
    (λ h. both_ways c.has-then-not-has.result c.if-not-has-2.true (c.has-then-not-has.ensures.1 (subst (λ (l : List Item). Contains l x) (sym c.items.ensures.items) h)))

pub loop-x-preserved : goal.loop-x-preserved
loop-x-preserved c =
    let x = c.x-item.result in
    record {
      none = none_here c.args.c.now.items (IsFurther c.args.c.now.items c.args.edit.now c.args.new.now.items) c.loop-x.x-index x (rw c.items-x-items.ensures.items at c.loop-x-test.true) (rw c.items-x-items.ensures.items at c.x-item.is) c.loop-x.invariant.none
          (λ further. elim c.else-not-has.branch [
            | else-not-has-via-then-not-has+else-not-has-2 w ↦ further.2 (subst (λ (l : List Item). Contains l x) w.items.ensures.items (w.has-then-not-has.ensures.0 w.if-not-has-2.false))
            | else-not-has-via-else-not-has w ↦ further.1 (subst (λ (l : List Item). Contains l x) c.as_slice.ensures (c.has.ensures.0 w.if-not-has.false))
          ]);
    }

pub returns-clause-none : goal.returns-clause-none
returns-clause-none c = λ x h.
    none_at_all c.args.c.now.items (IsFurther c.args.c.now.items c.args.edit.now c.args.new.now.items) c.loop-x.x-index (rw c.items-x-items.ensures.items at c.loop-x-test.false) c.loop-x.invariant.none x h.0 h
