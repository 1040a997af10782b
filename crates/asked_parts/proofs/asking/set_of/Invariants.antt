use Rattle.std.proofs.Common.{◌≡◌, ◌⊎◌, ◌↔◌, length}
use Rattle.std.specs.List.{Contains}
use Rattle.std.specs.Vec.Iter.{into_iter_items, into_iter_len}
use Rattle.cat_items.specs.declared.item.Item.{Item}
use Rattle.asked_parts.proofs.asking.set_of.Given as goal

abbrev pub invariant-loop-key : goal.invariant-loop-key
invariant-loop-key l = record {
  members : (k : Item) → Contains l.fn.keys.items k ↔ (Contains l.set.keys k ⊎ Contains (into_iter_items l.key-iterator) k);
  len : length (into_iter_items l.key-iterator) ≡ into_iter_len l.key-iterator;
}
