use Rattle.std.proofs.Common.{sym, ◌∙◌, ap}
use Rattle.std.specs.Option.{option_copied}
use Rattle.catalogue_changes.proofs.Widths.{past_other, past_columns, none_at_end, first_found}
use Rattle.catalogue_changes.proofs.width.first_beyond.Goals as goal

pub loop-at-preserved-in_default : goal.loop-at-preserved-in_default
loop-at-preserved-in_default c =
    let x = c.index-items-at.result in
    record {
      none = past_other c.args.c.now.items c.args.change.now c.args.most c.args.kind c.loop-at.at x (rw c.items-items.ensures.items at c.loop-at-test.true) (rw c.items-items.ensures.items at c.index-items-at.is)
          (sym (ap option_copied c.in_default.is) ∙ c.table_of.ensures) c.loop-at.invariant.none;
    }

pub returns-in-Some-count_beyond-clause-some : goal.returns-in-Some-count_beyond-clause-some
returns-in-Some-count_beyond-clause-some c = λ new is.
    first_found c.args.c.now.items c.args.change.now c.args.most c.args.kind c.items.ensures.order c.requires.good c.requires.narrow c.loop-at.at c.index-items-at.result c.in-Some.table.now
    (rw c.items-items.ensures.items at c.loop-at-test.true) (rw c.items-items.ensures.items at c.index-items-at.is) (sym (ap option_copied c.in-Some.is) ∙ c.table_of.ensures) c.loop-at.invariant.none
    new is c.in-Some-count_beyond.count (c.in-Some-count_beyond.ensures.some new is)

pub loop-at-preserved : goal.loop-at-preserved
loop-at-preserved c = record {
  none = past_columns c.args.c.now.items c.args.change.now c.args.most c.args.kind c.loop-at.at c.columns_of-at.result.start c.columns_of-at.result.end c.index-items-at.result c.in-Some.table.now
      (rw c.items-items.ensures.items at c.loop-at-test.true) (rw c.items-items.ensures.items at c.index-items-at.is) (sym (ap option_copied c.in-Some.is) ∙ c.table_of.ensures) c.columns_of-at.ensures
      c.in_default-count_beyond.ensures.none c.loop-at.invariant.none;
}

pub returns-clause-none : goal.returns-clause-none
returns-clause-none c = λ new is o count wide.
    none_at_end c.args.c.now.items c.args.change.now c.args.most c.args.kind c.items.ensures.order c.requires.good c.requires.narrow c.loop-at.at (rw c.items-items.ensures.items at c.loop-at-test.false) c.loop-at.invariant.none o new is count wide
