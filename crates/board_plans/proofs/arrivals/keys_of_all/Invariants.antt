use Rattle.std.proofs.Common.{◌≡◌, [], map, take}
use Rattle.std.specs.List.{AllZip, fold}
use Rattle.indexmap.specs.IndexSet.{insert_key}
use Rattle.cat_items.specs.contracts.item.ItemPartialEq.TheImpl as same
use Rattle.board_plans.specs.Ends.{IsPlaceOf}
use Rattle.board_plans.proofs.arrivals.keys_of_all.Given as goal

abbrev pub invariant-loop-arrival : goal.invariant-loop-arrival
invariant-loop-arrival l = record {
  keys : l.keys.keys ≡ fold (insert_key same.ghosts.eq) [] (map (λ a. a.key) (take l.arrival-index l.arrivals));
  places : AllZip (λ a place. IsPlaceOf same.ghosts.eq l.keys.keys a.key place) (take l.arrival-index l.arrivals) l.places.items;
}
