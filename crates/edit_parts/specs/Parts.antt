-- Which items are suspects, by the touched items and a part of the edited catalogue.
use Rattle.std.specs.Prelude.{◌≡◌, ◌↔◌, ◌⊎◌, ℕ, List}
use Rattle.std.specs.List.{Contains}
use Rattle.item_index.specs.Graphs.{Graph}
use Rattle.cat_items.specs.declared.edit.Edit.{Edit}
use Rattle.cat_items.specs.declared.item.Item.{Item}
use Rattle.cat_items.specs.Catalogues.{IsInOrder}
use Rattle.cat_items.specs.Survivors.{IsSystemRight}
use Rattle.board_graph.specs.BoardKeys.{ghost_key}
use Rattle.board_marks.specs.Marks.{IsMarked}
use Rattle.edit_parts.specs.Touched.{IsTouchedItem, IsTouchedRight}

-- the touched items and the touched rights by the system
abbrev pub AreTouchedItems : Graph Item → List ℕ → Edit → List Item → Type 0
AreTouchedItems g marks edit start = (x : Item) → Contains start x ↔ (IsTouchedItem g marks edit x ⊎ IsTouchedRight g marks x)

-- a right that the system could grant for the part, and that has no node without a mark, as an item or as a ghost
abbrev pub IsPossibleSuspect : Graph Item → List ℕ → List Item → Item → Type 0
IsPossibleSuspect g marks part x = IsSystemRight part x × IsMarked g marks x × IsMarked g marks (ghost_key x)

abbrev pub IsSuspectBy : Graph Item → List ℕ → Edit → List Item → Item → Type 0
IsSuspectBy g marks edit part x = IsTouchedItem g marks edit x ⊎ IsPossibleSuspect g marks part x

-- the item is this right, and neither it nor its ghost has a node without a mark
abbrev pub IsUnlessKept : Graph Item → List ℕ → Item → Item → Type 0
IsUnlessKept g marks right x = (x ≡ right) × IsMarked g marks right × IsMarked g marks (ghost_key right)

-- a list has the items of both
abbrev pub AreBoth : List Item → List Item → List Item → Type 0
AreBoth items rights all = (x : Item) → Contains all x ↔ (Contains items x ⊎ Contains rights x)

-- what a part has but for those of its suspects that are not among some of them
abbrev pub IsLeftOf : List Item → List Item → List Item → List Item → Type 0
IsLeftOf some all part left = IsInOrder left × ((x : Item) → Contains left x ↔ (Contains part x × (¬ (Contains all x × (¬ (Contains some x))))))

-- the list has all that is touched, and each right that the system could grant for the part and that has no node without a mark
abbrev pub HasAllTouched : Graph Item → List ℕ → Edit → List Item → List Item → Type 0
HasAllTouched g marks edit part all = (x : Item) → IsTouchedItem g marks edit x ⊎ (IsTouchedRight g marks x ⊎ IsPossibleSuspect g marks part x) → Contains all x
