use Rattle.std.proofs.Common.{[], refl, sym, subst}
use Rattle.domain_drop.specs.CheckCopies.{AddsCopies, pairs_here, pairs_of}
use Rattle.domain_drop.proofs.CopyLemmas.{adds_all, adds_more, from_none, no_copies}
use Rattle.domain_drop.proofs.copies.copies_of.Goals as goal

pub loop-x-init : goal.loop-x-init
loop-x-init c = record { adds = subst (AddsCopies c.args.c.now.items [] []) (sym c.new-copies.ensures) (no_copies c.args.c.now.items []) }

pub loop-x-preserved : goal.loop-x-preserved
loop-x-preserved c = record {
  adds = adds_more c.args.c.now.items (pairs_here c.args.checks.now) c.args.columns.now c.loop-x.x-index c.x-item.result [] c.loop-x.copies c.copies_for_item.new.copies
      (rw c.as_slice-x-items.ensures at c.loop-x-test.true) (rw c.as_slice-x-items.ensures at c.x-item.is) c.loop-x.invariant.adds c.in_ok-copies_for_item.ensures;
}

pub returns : goal.returns
returns c =
    from_none c.args.c.now.items (pairs_of c.args.columns.now c.args.checks.now) [] c.loop-x.copies refl
    (adds_all c.args.c.now.items (pairs_here c.args.checks.now) c.args.columns.now c.loop-x.x-index [] c.loop-x.copies (rw c.as_slice-x-items.ensures at c.loop-x-test.false) c.loop-x.invariant.adds)
