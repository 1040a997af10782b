use Rattle.std.proofs.Common.{[], refl}
use Rattle.domain_drop.proofs.FreedLemmas.{among_all, among_more, next_check, none_among}
use Rattle.domain_drop.proofs.freeing.put_copies.Goals as goal

pub loop-copy-init : goal.loop-copy-init
loop-copy-init c = record { members = none_among c.args.added.now.items c.args.added.now.items [] refl refl }

pub put-requires : goal.put-requires
put-requires c = rw c.in_ok-share.ensures (
    next_check c.args.added.now.items c.loop-copy.added.items c.args.copies.now c.loop-copy.copy-index c.copy-item.result c.requires.differ c.requires.none (rw c.as_slice-copy-items.ensures at c.loop-copy-test.true) (rw c.as_slice-copy-items.ensures at c.copy-item.is) c.loop-copy.invariant.members
    )

pub loop-copy-preserved : goal.loop-copy-preserved
loop-copy-preserved c = record {
  members = among_more c.args.added.now.items c.loop-copy.added.items c.put.new.items.items c.args.copies.now c.loop-copy.copy-index c.copy-item.result
      (rw c.as_slice-copy-items.ensures at c.loop-copy-test.true) (rw c.as_slice-copy-items.ensures at c.copy-item.is) c.loop-copy.invariant.members (rw c.in_ok-share.ensures at c.in_ok-put.ensures.members);
}

pub returns : goal.returns
returns c = among_all c.args.added.now.items c.loop-copy.added.items c.args.copies.now c.loop-copy.copy-index (rw c.as_slice-copy-items.ensures at c.loop-copy-test.false) c.loop-copy.invariant.members
