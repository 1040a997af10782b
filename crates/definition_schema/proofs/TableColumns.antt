-- Each table and each view has a column.
use Rattle.std.proofs.Common.{◌≡◌, refl, sym, ap, subst, ◌∙◌, ℕ, List, [], ◌∷◌, ◌++◌, Some, None}
use Rattle.std.specs.Prelude.{codes}
use Rattle.std.specs.List.{Contains}
use Rattle.finite_chains.proofs.Members.{Contains-nil}
use Rattle.sql_names.specs.declared.object.Object.{Object}
use Rattle.cat_items.specs.declared.item.Item.{Item}
use Rattle.cat_items.specs.declared.item.Item.TheVariants as item
use Rattle.cat_items.specs.declared.row.Cell.TheVariants.{Words}
use Rattle.cat_items.specs.Good.{IsGood}
use Rattle.cat_items.specs.Reach.{Has}
use Rattle.cat_items.specs.Shape.{IsColumnOf}
use Rattle.cat_items.specs.Supported.{Keeps}
use Rattle.edit_laws.proofs.GoodCatalogues.{good_order, table_column_stands}
use Rattle.schema_tables.specs.declared.names.SchemaTable.{SchemaTable}
use Rattle.schema_tables.specs.declared.names.SchemaTable.TheVariants as t
use Rattle.schema_tables.specs.Cells.{Row, object_cells}
use Rattle.schema_tables.specs.Shown.{Shown, of_table, of_view}
use Rattle.schema_tables.specs.Sight.{IsShown}
use Rattle.schema_tables.specs.TableRows.{Beside, rows, HasRow}
use Rattle.definition_schema.specs.Keys.{values, HasSome, Refers, Any}
use Rattle.definition_schema.specs.Definition.{AreDefinitionRows}
use Rattle.definition_schema.proofs.RowsOf.{only, column_row}
use Rattle.definition_schema.proofs.Places.{has_position}
use Rattle.definition_schema.proofs.Positions.{column_row_is}

-- a table, or a view, of this name
abbrev pub IsTableNamed : Object → Item → Type 0
IsTableNamed o (item.Table x) = x ≡ o
IsTableNamed o (item.View v) = v.view ≡ o
IsTableNamed o x = ⊥

abbrev pub table_kind : Item → List ℕ
table_kind (item.Table x) = codes "BASE TABLE"
table_kind x = codes "VIEW"

abbrev pub IsTableRow : List Item → Row → Type 0
IsTableRow c row = (o : Object) × (x : Item) × Contains c x × IsTableNamed o x × (row ≡ object_cells o ++ Words (table_kind x) ∷ [])

pub table_rows_are : (c : List Item) (row : Row) → HasRow (IsShown c None) t.Tables row → IsTableRow c row
table_rows_are c row h = by h.0 h.1 h.2 h.4
  where
    by : (s : Shown) (m : Beside) → IsShown c None s → Contains (rows t.Tables m s) row → IsTableRow c row
    by (of_table o) m p k = (o, item.Table o, p.0, refl, only _ _ k)
    by (of_view v) m p k = (v.view, item.View p.0, p.1, sym p.2.1, only _ _ k)
    by _ m p k = absurd (Contains-nil _ k)

module _ (c : List Item) (good : IsGood c) (d : SchemaTable → List Row) (are : AreDefinitionRows c d) where
  -- a column of the table stands
  column_of : (o : Object) (x : Item) → Contains c x → IsTableNamed o x → Has c (IsColumnOf o)
  column_of o (item.Table q) here e = by (table_column_stands c good q here)
    where
      kept : (y : Item) → Keeps c q y → IsColumnOf o y
      kept (item.Column z) k = k.0 ∙ e
      kept _ k = absurd k

      by : Has c (Keeps c q) → Has c (IsColumnOf o)
      by k = (k.0, k.1, kept k.0 k.2)
  column_of o (item.View v) here e = subst (λ w. Has c (IsColumnOf w)) e (good.shape.view_columns v here)
  column_of o _ here e = absurd e

  row_of : (o : Object) (y : Item) → Contains c y → IsColumnOf o y → HasSome (d t.Columns) (λ b. Any b × ((Some (Words o.schema) ∷ Some (Words o.name) ∷ []) ≡ values (0 ∷ 1 ∷ []) b))
  row_of o (item.Column x) here e =
      let at = has_position c (good_order c good) x here in
      (column_row x at.0, column_row_is c good d are x at.0 here at.1, (tt, λ j. Some (Words (sym e j).schema) ∷ Some (Words (sym e j).name) ∷ []))
  row_of o _ here e = absurd e

  pub each_table_has_a_column : Refers (d t.Tables) Any (0 ∷ 1 ∷ []) (d t.Columns) Any (0 ∷ 1 ∷ [])
  each_table_has_a_column a here any =
      let p = table_rows_are c a (((are t.Tables tt).members a).0 here) in
      let k = column_of p.0 p.1 p.2 p.3 in
      let r = row_of p.0 k.0 k.1 k.2 in
      (r.0, r.1, (tt, ap (values (0 ∷ 1 ∷ [])) p.4 ∙ r.2.1))
