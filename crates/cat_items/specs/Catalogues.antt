-- What a catalogue is.
use Rattle.std.specs.Prelude.{◌≡◌, ◌≢◌, ◌<◌, ◌≤◌, ℕ, List, length, slice_index_or}
use Rattle.std.specs.List.{AllPairs, HoldsAt, Contains}
use Rattle.std.specs.declared.cmp.Ordering.TheVariants.{Less, Equal}
use Rattle.sql_names.specs.NameBytes.{NameBytes}
use Rattle.cat_items.specs.declared.item.Item.{Item}
use Rattle.cat_items.specs.declared.item.Item.TheVariants.{User, Schema}
use Rattle.cat_items.specs.Order.{item_cmp}

-- each item comes before the later ones, so no two have one key
abbrev pub IsInOrder : List Item → Type 0
IsInOrder items = AllPairs (λ a b. item_cmp a b ≡ Less) items

-- the items of a catalogue, and for how many more it has room
pub record Listing : Type 0 where
  pub items : List Item
  pub spare : ℕ

-- there is an item at this place, and it has the key of x
abbrev pub HasKeyAt : List Item → ℕ → Item → Type 0
HasKeyAt items k x = (k < length items) × HoldsAt (λ y. item_cmp y x ≡ Equal) items k

-- the items before this place come before x, and the others don't
pub record IsCut (items : List Item) (at : ℕ) (x : Item) : Type 0 where
  pub within : at ≤ length items
  pub before : (k : ℕ) (d : Item) → k < at → item_cmp (slice_index_or items k d) x ≡ Less
  pub after : (k : ℕ) (d : Item) → at ≤ k → k < length items → item_cmp (slice_index_or items k d) x ≢ Less

-- the user of one of these names
abbrev pub IsUserOf : List NameBytes → Item → Type 0
IsUserOf names x = (name : NameBytes) × Contains names name × (x ≡ User name)

-- the schema of this name has this owner
abbrev pub OwnsSchema : List Item → NameBytes → NameBytes → Type 0
OwnsSchema items schema owner = Contains items (Schema (record { name = schema; owner = owner }))

-- an item with the key of the schema of this name
abbrev pub schema_key : NameBytes → Item
schema_key name = Schema (record { name = name; owner = name })
