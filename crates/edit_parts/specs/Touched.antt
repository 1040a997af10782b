-- Which items and rights an edit's marks speak of.
use Rattle.std.specs.Prelude.{◌≡◌, ◌⊎◌, ℕ, true, List}
use Rattle.std.specs.List.{Contains}
use Rattle.std.specs.declared.cmp.Ordering.TheVariants.{Equal}
use Rattle.item_index.specs.Graphs.{Graph, HasKey}
use Rattle.cat_items.specs.declared.edit.Edit.{Edit}
use Rattle.cat_items.specs.declared.item.Item.{Item}
use Rattle.cat_items.specs.Catalogues.{IsInOrder}
use Rattle.cat_items.specs.Fit.{IsFit}
use Rattle.cat_items.specs.Good.{IsGood}
use Rattle.cat_items.specs.Order.{item_cmp}
use Rattle.board_graph.specs.BoardKeys.{IsHelper, ghost_key}
use Rattle.board_steps.specs.Plans.{IsFullBoard}
use Rattle.edit_suspects.specs.Helpers.{may_be_ghost}

-- the board is that of a good catalogue that the edit fits
abbrev pub FitsBoard : Graph Item → Edit → Type 0
FitsBoard g edit = (c edited : List Item) × IsGood c × IsFullBoard g c × IsFit c edit edited

-- the edit neither destroys nor changes the item
abbrev pub IsLeft : Edit → Item → Type 0
IsLeft edit x = (¬ (Contains edit.target x)) × (¬ (Contains edit.changed x))

-- the number has for its key an item, no helper, that the edit leaves
abbrev pub IsLeftAt : Graph Item → Edit → ℕ → Item → Type 0
IsLeftAt g edit n x = HasKey g n x × (¬ (IsHelper x)) × IsLeft edit x

-- an item that the edit leaves and whose number is marked, or an added one
abbrev pub IsTouchedItem : Graph Item → List ℕ → Edit → Item → Type 0
IsTouchedItem g marks edit x = ((n : ℕ) × Contains marks n × IsLeftAt g edit n x) ⊎ Contains edit.added x

-- the key is this right's by the system, or its ghost's
abbrev pub IsRightOf : Item → Item → Type 0
IsRightOf k x = (may_be_ghost x ≡ true) × ((x ≡ k) ⊎ (ghost_key x ≡ k))

-- the number has the key of this right by the system, or of its ghost
abbrev pub IsRightAt : Graph Item → ℕ → Item → Type 0
IsRightAt g n x = (may_be_ghost x ≡ true) × (HasKey g n x ⊎ HasKey g n (ghost_key x))

-- a right by the system whose number is marked, or its ghost's
abbrev pub IsTouchedRight : Graph Item → List ℕ → Item → Type 0
IsTouchedRight g marks x = (n : ℕ) × Contains marks n × IsRightAt g n x

-- an item of the board
abbrev pub IsItem : Graph Item → Item → Type 0
IsItem g x = ((n : ℕ) × HasKey g n x) × (¬ (IsHelper x))

-- Of the board's items no two have one place in the order of items; what the edit destroys and changes is of the board, and what it adds has no place of
-- what it leaves.
pub record AreApart (g : Graph Item) (edit : Edit) : Type 0 where
  pub items : (x y : Item) → IsItem g x → IsItem g y → item_cmp x y ≡ Equal → x ≡ y
  pub target : (x : Item) → Contains edit.target x → IsItem g x
  pub changed : (x : Item) → Contains edit.changed x → IsItem g x
  pub added : (x y : Item) → IsItem g x → IsLeft edit x → Contains edit.added y → item_cmp x y ≡ Equal → x ≡ y
  pub target_order : IsInOrder edit.target
  pub changed_order : IsInOrder edit.changed
  pub added_order : IsInOrder edit.added
