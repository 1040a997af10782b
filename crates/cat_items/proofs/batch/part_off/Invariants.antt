use Rattle.cat_items.proofs.Partings.{Parting}
use Rattle.cat_items.proofs.batch.part_off.Given as goal

abbrev pub invariant-loop-item : goal.invariant-loop-item
invariant-loop-item l = Parting l.items l.initial.items l.out l.item-index l.kept l.read
