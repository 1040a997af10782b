-- How many columns tables and views have.
use Rattle.std.specs.Prelude.{◌≡◌, ◌⊎◌, ◌↔◌, ◌<◌, ℕ, List, length, Option, Some, None}
use Rattle.std.specs.List.{Contains}
use Rattle.std.specs.declared.cmp.Ordering.TheVariants.{Less}
use Rattle.sql_names.specs.declared.object.Object.{Object}
use Rattle.cat_items.specs.declared.item.Item.{Item}
use Rattle.cat_items.specs.declared.item.Item.TheVariants.{Table, View}
use Rattle.cat_items.specs.Catalogues.{IsInOrder}
use Rattle.cat_items.specs.Order.{item_cmp}
use Rattle.cat_items.specs.Shape.{IsColumnOf}

-- the name of a base table or a view
abbrev pub table_name : Item → Option Object
table_name (Table t) = Some t
table_name (View v) = Some v.view
table_name x = None

-- the columns of a table or a view, each once, are so many
pub record HasColumnCount (c : List Item) (table : Object) (count : ℕ) : Type 0 where
  pub columns : List Item
  pub order : IsInOrder columns
  pub members : (x : Item) → Contains columns x ↔ (Contains c x × IsColumnOf table x)
  pub counted : length columns ≡ count

-- a table or a view of so many columns, which are more than `most`
pub record HasMoreColumns (c : List Item) (most count : ℕ) (x : Item) : Type 0 where
  pub table : Object
  pub within : Contains c x
  pub named : table_name x ≡ Some table
  pub columns : HasColumnCount c table count
  pub more : most < count

-- the first of these tables and views has so many columns
pub record IsLeastWide (c : List Item) (most count : ℕ) : Type 0 where
  pub table : Item
  pub is : HasMoreColumns c most count table
  pub least : (n : ℕ) (other : Item) → HasMoreColumns c most n other → (other ≡ table) ⊎ (item_cmp table other ≡ Less)
