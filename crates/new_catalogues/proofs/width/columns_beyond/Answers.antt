use Rattle.std.proofs.Common.{sym, ◌∙◌, ap}
use Rattle.std.specs.Option.{option_copied}
use Rattle.new_catalogues.proofs.FurtherLemmas.{none_here}
use Rattle.new_catalogues.proofs.WidthLemmas.{IsWide, unnamed, not_wide, least_wide, none_wide}
use Rattle.new_catalogues.proofs.width.columns_beyond.Goals as goal

pub loop-x-preserved-in_default : goal.loop-x-preserved-in_default
loop-x-preserved-in_default c =
    let all = c.args.c.now.items in
    let x = c.x-item.result in
    record {
      none = none_here all (IsWide all c.args.most) c.loop-x.x-index x (rw c.items-x-items.ensures.items at c.loop-x-test.true) (rw c.items-x-items.ensures.items at c.x-item.is) c.loop-x.invariant.none
          (unnamed all c.args.most x (sym c.table_of.ensures ∙ ap option_copied c.in_default.is));
    }

pub returns-then-count-most-clause-least : goal.returns-then-count-most-clause-least
returns-then-count-most-clause-least c =
    least_wide c.args.c.now.items c.args.most c.column_count-count.result c.loop-x.x-index c.x-item.result c.in-Some.table.now c.items-x-items.ensures.order
    (rw c.items-x-items.ensures.items at c.loop-x-test.true) (rw c.items-x-items.ensures.items at c.x-item.is) c.loop-x.invariant.none (sym c.table_of.ensures ∙ ap option_copied c.in-Some.is) c.column_count-count.ensures c.if-count-most.true

pub loop-x-preserved : goal.loop-x-preserved
loop-x-preserved c =
    let all = c.args.c.now.items in
    let x = c.x-item.result in
    record {
      none = none_here all (IsWide all c.args.most) c.loop-x.x-index x (rw c.items-x-items.ensures.items at c.loop-x-test.true) (rw c.items-x-items.ensures.items at c.x-item.is) c.loop-x.invariant.none
          (not_wide all c.args.most c.column_count-count.result x c.in-Some.table.now (sym c.table_of.ensures ∙ ap option_copied c.in-Some.is) c.column_count-count.ensures c.if-count-most.false);
    }

pub returns-clause-none : goal.returns-clause-none
returns-clause-none c = none_wide c.args.c.now.items c.args.most c.loop-x.x-index (rw c.items-x-items.ensures.items at c.loop-x-test.false) c.loop-x.invariant.none
