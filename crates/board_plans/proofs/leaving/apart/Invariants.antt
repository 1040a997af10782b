use Rattle.std.proofs.Common.{◌≡◌, ◌+◌, [], filter, nat_eq, take}
use Rattle.indexmap.specs.IndexSet.{insert_all}
use Rattle.board_plans.specs.Leaving.{is_item_at, is_topic_at}
use Rattle.board_plans.proofs.leaving.apart.Given as goal

abbrev pub invariant-loop-number : goal.invariant-loop-number
invariant-loop-number g l = record {
  items : l.items.keys ≡ insert_all nat_eq [] (filter (is_item_at l.board) (take l.number-index l.number-items));
  topics : l.topics.items ≡ filter (is_topic_at l.board) (take l.number-index l.number-items);
  all : l.number-items ≡ l.touched.keys;
  ticks : l.steps ≡ l.initial.steps + l.number-index;
}
