use Rattle.domain_drop.proofs.CopyLemmas.{default_pairs}
use Rattle.domain_drop.proofs.copies.copies_for_item.Goals as goal

pub returns-in-Column : goal.returns-in-Column
returns-in-Column c = rw (c.in-Column.is, ← c.get.ensures) c.copies_for_column.ensures

pub returns-in_default : goal.returns-in_default
returns-in_default c = default_pairs c.args.c.now.items c.args.checks.now c.args.x.now c.args.copies.now c.in_default.not-Column
