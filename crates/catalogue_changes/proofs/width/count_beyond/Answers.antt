use Rattle.std.proofs.lemmas.Bool.{both_ways}
use Rattle.catalogue_changes.proofs.Widths.{wide_as, wide_count}
use Rattle.catalogue_changes.proofs.width.count_beyond.Goals as goal
use Rattle.catalogue_changes.proofs.width.count_beyond.Goals.{else-count-most-via-then-count-most+else-has_after, else-count-most-via-else-count-most}

pub returns-then-has_after-clause-some : goal.returns-then-has_after-clause-some
returns-then-has_after-clause-some c = λ new is.
    wide_as c.args.kind c.args.table.now new c.args.most c.count_columns_after-count.result ((c.has_after.ensures new is).0 c.if-has_after.true) (c.count_columns_after-count.ensures new is) c.if-count-most.true

pub returns-else-count-most-clause-none : goal.returns-else-count-most-clause-none
returns-else-count-most-clause-none c = λ new is count wide.
    elim c.else-count-most.branch [
      | else-count-most-via-then-count-most+else-has_after w ↦ both_ways w.has_after.result w.if-has_after.false ((w.has_after.ensures new is).1 (wide.0, wide.2.within, wide.1))
      | else-count-most-via-else-count-most w ↦ wide_count c.args.kind c.args.table.now new c.args.most count c.count_columns_after-count.result wide (c.count_columns_after-count.ensures new is) w.if-count-most.false
    ]
