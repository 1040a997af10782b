use Rattle.std.proofs.Common.{◌≡◌, ◌+◌, ◌≤◌, ◌++◌, length}
use Rattle.std.specs.Vec.{vec_capacity, vec_len}
use Rattle.std.specs.Vec.Iter.{into_iter_items, into_iter_len}
use Rattle.item_index.specs.Undo.{inserted_all, numbers_given}
use Rattle.graph_steps.specs.Steps.{AreNewKeys}
use Rattle.graph_changes.proofs.ends.insert_noting.Given as goal

-- what is left to be done leads to the same graph, and to the same numbers
abbrev pub invariant-loop-key : goal.invariant-loop-key
invariant-loop-key g l = record {
  after : inserted_all l.index (into_iter_items l.key-iterator) ≡ inserted_all l.fn.index l.fn.keys.items;
  given : l.numbers.items ++ numbers_given l.index (into_iter_items l.key-iterator) ≡ l.fn.numbers.items ++ numbers_given l.fn.index l.fn.keys.items;
  new : AreNewKeys g.K.PartialEq.eq l.index (into_iter_items l.key-iterator);
  len : length (into_iter_items l.key-iterator) ≡ into_iter_len l.key-iterator;
  room : into_iter_len l.key-iterator ≤ l.index.spare_keys;
  noted : vec_len l.numbers + into_iter_len l.key-iterator ≤ vec_capacity l.numbers;
}
