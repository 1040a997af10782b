-- What questions about a catalogue are answered by.
use Rattle.std.specs.Prelude.{ℕ, Bool, List, Option}
use Rattle.std.specs.Borrow.{MutBor}
use Rattle.cat_items.specs.declared.item.Item.{Item}
use Rattle.role_graph.specs.Marked.{counted}

-- the items of a catalogue, the marks of those that count, where not all do, and room for walks, which is lent
pub record Grounds : Type 0 where
  pub items : List Item
  pub marks : Option (List Bool)
  pub walk : MutBor ℕ

-- the items that count
abbrev pub counting : Grounds → List Item
counting g = counted g.items g.marks
