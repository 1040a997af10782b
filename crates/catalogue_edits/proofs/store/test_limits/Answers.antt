use Rattle.std.proofs.Common.{sym, arith}
use Rattle.catalogue_edits.proofs.Outcomes.{within_limits, columns_refused, items_beyond}
use Rattle.catalogue_edits.proofs.store.test_limits.Goals as goal

pub returns-in-None-clause-tested : goal.returns-in-None-clause-tested
returns-in-None-clause-tested c =
    let new = c.requires.change.0 in
    let count = c.count_after-count.ensures new c.requires.change.2 in (
      within_limits c.args.limits.now c.args.c.now.items c.args.edit.now new c.requires.change.1 (omega (arith, count, c.from.ensures, c.if-count-from.false)) (c.in-None.ensures.none new c.requires.change.2),
      tt,
    )

pub returns-in-Some-clause-tested : goal.returns-in-Some-clause-tested
returns-in-Some-clause-tested c =
    let new = c.requires.change.0 in
    let count = c.count_after-count.ensures new c.requires.change.2 in (
      columns_refused c.args.limits.now c.args.c.now.items c.args.edit.now new c.in-Some.count c.requires.change.1 (omega (arith, count, c.from.ensures, c.if-count-from.false)) (c.in-Some.ensures.least new c.requires.change.2),
      tt,
    )

pub returns-then-count-from-clause-tested : goal.returns-then-count-from-clause-tested
returns-then-count-from-clause-tested c =
    let new = c.requires.change.0 in
    let count = c.count_after-count.ensures new c.requires.change.2 in
    (items_beyond c.args.limits.now c.args.c.now.items c.args.edit.now new c.count_after-count.result c.requires.change.1 (sym count) (omega (arith, c.from.ensures, c.if-count-from.true)), tt)
