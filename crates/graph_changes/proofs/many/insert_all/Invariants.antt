use Rattle.std.proofs.Common.{◌≡◌, ◌≤◌, length}
use Rattle.std.specs.Vec.Iter.{into_iter_items, into_iter_len}
use Rattle.item_index.specs.Undo.{inserted_all}
use Rattle.graph_steps.specs.Steps.{AreNewKeys}
use Rattle.graph_changes.proofs.many.insert_all.Given as goal

-- what is left to be done leads to the same graph
abbrev pub invariant-loop-key : goal.invariant-loop-key
invariant-loop-key g l = record {
  after : inserted_all l.index (into_iter_items l.key-iterator) ≡ inserted_all l.fn.index l.fn.keys.items;
  new : AreNewKeys g.K.PartialEq.eq l.index (into_iter_items l.key-iterator);
  len : length (into_iter_items l.key-iterator) ≡ into_iter_len l.key-iterator;
  room : into_iter_len l.key-iterator ≤ l.index.spare_keys;
}
