-- What rounds over a part rescue, and how the suspects of an edit are told from the other items.
use Rattle.std.specs.Prelude.{◌≡◌, ◌↔◌, ◌⊎◌, ℕ, Bool, false, true, List, length}
use Rattle.std.specs.List.{Contains}
use Rattle.item_index.specs.Graphs.{Graph}
use Rattle.cat_items.specs.declared.item.Item.{Item}
use Rattle.cat_items.specs.Supported.{Supported}
use Rattle.role_graph.specs.Marked.{marked}
use Rattle.grant_chain.specs.Rounds.{HaveClosed}
use Rattle.part_rounds.specs.Grown.{Grows}
use Rattle.asked_parts.specs.Parts.{IsKept}

-- the marked items are those of the part that are no suspects
pub record AreUnsuspected (suspects part : List Item) (marks : List Bool) : Type 0 where
  pub size : length marks ≡ length part
  pub members : (x : Item) → Contains (marked part marks) x ↔ (Contains part x × (¬ (Contains suspects x)))

-- The marks have grown from those, each by an item of the part that the marked ones support, and these support nothing more.
pub record AreRescued (suspects part : List Item) (marks : List Bool) : Type 0 where
  pub first : List Bool
  pub clear : AreUnsuspected suspects part first
  pub grown : Grows (Supported part) part first marks
  pub closed : HaveClosed (Supported part) part marks

-- The list has the suspects of f; and the items of c that are no suspects are those that have an unmarked number in the board g.
pub record AreTold (g : Graph Item) (c : List Item) (marks : List ℕ) (f : List Item) (suspect : Item → Bool) (suspects : List Item) : Type 0 where
  pub listed : (x : Item) → Contains suspects x ↔ (Contains f x × (suspect x ≡ true))
  pub others : (y : Item) → IsKept g c marks y ↔ (Contains c y × (suspect y ≡ false))

-- what was rescued, and the items of c that are no suspects
abbrev pub IsStanding : List Item → (Item → Bool) → List Item → List Bool → List Item → Type 0
IsStanding c suspect part marks standing = (x : Item) → Contains standing x ↔ (Contains (marked part marks) x ⊎ (Contains c x × (suspect x ≡ false)))
