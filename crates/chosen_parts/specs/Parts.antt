-- Items that stand in parts of a catalogue, and the places of these parts.
use Rattle.std.specs.Prelude.{◌≤◌, ◌<◌, ℕ, List, length, slice_index_or}
use Rattle.std.specs.List.{Contains, HoldsAt}
use Rattle.std.specs.declared.ops.Range.{Range}
use Rattle.cat_items.specs.declared.item.Item.{Item}
use Rattle.cat_items.specs.declared.ranges.Part.{Part}
use Rattle.cat_items.specs.Ranges.{IsIn}

-- an item of one of these parts
abbrev pub LiesIn : List Part → Item → Type 0
LiesIn parts x = (part : Part) × Contains parts part × IsIn part x

-- all items of a list that are so are of these parts
abbrev pub LieIn : List Item → List Part → (Item → Type 0) → Type 0
LieIn items parts P = (x : Item) → Contains items x → P x → LiesIn parts x

-- an item from one place to before another is so
abbrev pub PassesBetween : (Item → Type 0) → List Item → ℕ → ℕ → Type 0
PassesBetween P items from to = (k : ℕ) × (from ≤ k) × (k < to) × HoldsAt P items k

-- a place in one of these ranges
abbrev pub IsCovered : List (Range ℕ) → ℕ → Type 0
IsCovered ranges k = (range : Range ℕ) × Contains ranges range × (range.start ≤ k) × (k < range.end)

-- ranges within a list, among which each place of an item of these parts lies
pub record AreRanges (items : List Item) (parts : List Part) (ranges : List (Range ℕ)) : Type 0 where
  pub within : (range : Range ℕ) → Contains ranges range → (range.start ≤ range.end) × (range.end ≤ length items)
  pub covered : (k : ℕ) (d : Item) → k < length items → LiesIn parts (slice_index_or items k d) → IsCovered ranges k
