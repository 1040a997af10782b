-- Keys that come in, and the links that they want.
use Rattle.std.specs.Prelude.{◌++◌, List, map}
use Rattle.std.specs.Option.{option_to_list}
use Rattle.cat_items.specs.declared.item.Item.{Item}
use Rattle.board_plans.specs.declared.arrivals.Arrival.{Arrival}

-- the links of a key that comes in, between keys: to what it depends on, from what it stands under, to what it adds to
abbrev pub links_by : Arrival → List (Item × Item)
links_by a = map (λ other. (a.key, other)) a.depends_on ++ map (λ other. (other, a.key)) a.stands_under ++ map (λ other. (a.key, other)) (option_to_list a.adds_to)
