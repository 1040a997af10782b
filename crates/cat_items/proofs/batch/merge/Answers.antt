use Rattle.cat_items.proofs.Merges.{merging_begins, merging_front, merging_goes, merging_ends}
use Rattle.cat_items.proofs.batch.merge.Goals as goal

pub loop-old-init : goal.loop-old-init
loop-old-init c = merging_begins c.args.items.now c.args.old c.requires.within c.requires.first c.requires.second c.requires.apart

pub cut_of_place-at-requires-clause-order : goal.cut_of_place-at-requires-clause-order
cut_of_place-at-requires-clause-order c = merging_front c.loop-old.items c.args.items.now c.loop-old.old c.loop-old.end c.loop-old.invariant

pub loop-old-preserved : goal.loop-old-preserved
loop-old-preserved c =
    merging_goes c.loop-old.items c.exchange.new.items c.args.items.now c.loop-old.old c.loop-old.end c.cut_of_place-at.result c.loop-old.invariant c.loop-old-test.true c.cut_of_place-at.ensures.within c.cut_of_place-at.ensures.cut c.exchange.ensures.len c.exchange.ensures.parts

pub returns-clause-order : goal.returns-clause-order
returns-clause-order c = merging_ends c.loop-old.items c.args.items.now c.loop-old.old c.loop-old.end c.loop-old.invariant c.loop-old-test.false
