use Rattle.table_constraints.proofs.PutLemmas.{next_is, put_more, put_whole}
use Rattle.table_constraints.proofs.putting.put_all.Goals as goal

pub put-requires : goal.put-requires
put-requires c = rw c.in_ok-copy.ensures (
    next_is c.args.added.now.items c.args.items.now c.as_slice-x-items.result.now c.loop-x.x-index c.as_slice-x-items.ensures c.loop-x.added.items c.x-item.result c.loop-x-test.true c.x-item.is c.requires.one c.requires.beside c.loop-x.invariant.members
    )

pub loop-x-preserved : goal.loop-x-preserved
loop-x-preserved c = record {
  members = put_more c.args.added.now.items c.args.items.now c.as_slice-x-items.result.now c.loop-x.x-index c.as_slice-x-items.ensures c.loop-x.added.items c.put.new.items.items c.x-item.result c.loop-x-test.true c.x-item.is c.loop-x.invariant.members
      (rw c.in_ok-copy.ensures at c.in_ok-put.ensures.members);
}

pub returns : goal.returns
returns c = put_whole c.args.added.now.items c.args.items.now c.as_slice-x-items.result.now c.loop-x.x-index c.as_slice-x-items.ensures c.loop-x.added.items c.loop-x-test.false c.loop-x.invariant.members
