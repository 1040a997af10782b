use Rattle.std.proofs.Common.{[], refl}
use Rattle.domain_drop.proofs.FreedLemmas.{freed_all, freed_more, next_is_new, none_freed}
use Rattle.domain_drop.proofs.freeing.put_back.Goals as goal

pub loop-x-init : goal.loop-x-init
loop-x-init c = record { members = none_freed c.args.c.now.items [] c.args.added.now.items c.requires.empty refl }

pub put_freed_item-requires : goal.put_freed_item-requires
put_freed_item-requires c =
    next_is_new c.args.c.now.items c.args.columns.now c.loop-x.added.items c.loop-x.x-index c.x-item.result c.requires.order (rw c.as_slice-x-items.ensures at c.loop-x-test.true) (rw c.as_slice-x-items.ensures at c.x-item.is) c.loop-x.invariant.members

pub loop-x-preserved : goal.loop-x-preserved
loop-x-preserved c = record {
  members = freed_more c.args.c.now.items c.args.columns.now c.loop-x.added.items c.put_freed_item.new.added.items c.loop-x.x-index c.x-item.result
      (rw c.as_slice-x-items.ensures at c.loop-x-test.true) (rw c.as_slice-x-items.ensures at c.x-item.is) c.loop-x.invariant.members c.in_ok-put_freed_item.ensures;
}

pub returns : goal.returns
returns c = freed_all c.args.c.now.items c.args.columns.now c.loop-x.added.items c.loop-x.x-index (rw c.as_slice-x-items.ensures at c.loop-x-test.false) c.loop-x.invariant.members
