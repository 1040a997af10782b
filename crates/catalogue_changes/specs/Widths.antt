-- Tables and views of many columns.
use Rattle.std.specs.Prelude.{◌≡◌, ◌⊎◌, ℕ, List, Option, Some, None}
use Rattle.std.specs.declared.cmp.Ordering.TheVariants.{Less}
use Rattle.sql_names.specs.declared.object.Object.{Object}
use Rattle.cat_items.specs.declared.item.Item.{Item}
use Rattle.cat_items.specs.declared.item.Item.TheVariants.{Column}
use Rattle.cat_items.specs.Order.{item_cmp}
use Rattle.cat_items.specs.Ranges.{IsView}
use Rattle.cat_items.specs.Rights.{IsBaseTable}
use Rattle.new_catalogues.specs.Width.{HasMoreColumns}
use Rattle.catalogue_changes.specs.declared.width.TableKind.{TableKind}
use Rattle.catalogue_changes.specs.declared.width.TableKind.TheVariants.{BaseTable, View}

-- no table or view has more columns than `most`
abbrev pub IsNarrow : List Item → ℕ → Type 0
IsNarrow c most = (count : ℕ) (x : Item) → HasMoreColumns c most count x → ⊥

-- the table or view of a column
abbrev pub column_table : Item → Option Object
column_table (Column c) = Some c.table
column_table x = None

-- the base table, or the view, of this name
abbrev pub IsOf : TableKind → Object → Item → Type 0
IsOf BaseTable o x = IsBaseTable o x
IsOf View o x = IsView o x

-- the base table, or the view, of this name stands and has so many columns, which are more than `most`
abbrev pub IsWideAs : TableKind → Object → List Item → ℕ → ℕ → Type 0
IsWideAs kind o c most count = (x : Item) × IsOf kind o x × HasMoreColumns c most count x

-- the first such base table, or the first such view
pub record IsFirstWide (kind : TableKind) (c : List Item) (most count : ℕ) : Type 0 where
  pub name : Object
  pub table : Item
  pub of : IsOf kind name table
  pub is : HasMoreColumns c most count table
  pub least : (o : Object) (n : ℕ) (other : Item) → IsOf kind o other → HasMoreColumns c most n other → (other ≡ table) ⊎ (item_cmp table other ≡ Less)
