use Rattle.domain_drop.specs.CheckCopies.{pairs_with}
use Rattle.domain_drop.proofs.CopyLemmas.{adds_all, adds_more, no_copies}
use Rattle.domain_drop.proofs.copies.copies_for_column.Goals as goal

pub loop-x-init : goal.loop-x-init
loop-x-init c = record { adds = no_copies c.args.c.now.items c.args.copies.now }

pub loop-x-preserved : goal.loop-x-preserved
loop-x-preserved c = record {
  adds = adds_more c.args.c.now.items (pairs_with c.args.column.now) c.args.checks.now c.loop-x.x-index c.x-item.result c.args.copies.now c.loop-x.copies c.copy_item.new.copies
      (rw c.as_slice-x-items.ensures at c.loop-x-test.true) (rw c.as_slice-x-items.ensures at c.x-item.is) c.loop-x.invariant.adds c.in_ok-copy_item.ensures;
}

pub returns : goal.returns
returns c = adds_all c.args.c.now.items (pairs_with c.args.column.now) c.args.checks.now c.loop-x.x-index c.args.copies.now c.loop-x.copies (rw c.as_slice-x-items.ensures at c.loop-x-test.false) c.loop-x.invariant.adds
