-- The columns of keys and foreign keys stand, with their table.
use Rattle.std.proofs.Common.{◌≡◌, sym, ap, subst, ◌∙◌, ℕ, List, [], ◌∷◌, Some}
use Rattle.std.specs.List.{Contains}
use Rattle.std.proofs.lemmas.List.Elements.{All-contains}
use Rattle.sql_names.specs.declared.object.Object.{Object}
use Rattle.cat_items.specs.declared.item.Item.{Item}
use Rattle.cat_items.specs.declared.item.Item.TheVariants as item
use Rattle.cat_items.specs.declared.row.Cell.TheVariants.{Words}
use Rattle.cat_items.specs.Good.{IsGood}
use Rattle.cat_items.specs.Reach.{Has}
use Rattle.cat_items.specs.Rights.{path_of, IsColumn}
use Rattle.edit_laws.proofs.GoodCatalogues.{good_order, key_columns_stand, foreign_columns_stand}
use Rattle.schema_tables.specs.declared.names.SchemaTable.{SchemaTable}
use Rattle.schema_tables.specs.declared.names.SchemaTable.TheVariants as t
use Rattle.schema_tables.specs.Cells.{Row}
use Rattle.definition_schema.specs.Keys.{values, HasSome, Refers, Any}
use Rattle.definition_schema.specs.Definition.{AreDefinitionRows}
use Rattle.definition_schema.proofs.Lengths.{numbered_has}
use Rattle.definition_schema.proofs.RowsOf.{column_row}
use Rattle.definition_schema.proofs.Places.{has_position}
use Rattle.definition_schema.proofs.Positions.{column_row_is}
use Rattle.definition_schema.proofs.KeyUsage.{IsKeyed, usage_rows_are}

module _ (c : List Item) (good : IsGood c) (d : SchemaTable → List Row) (are : AreDefinitionRows c d) where
  column_stands : (name table : Object) (columns : List (List ℕ)) (x : Item) → Contains c x → IsKeyed c name table columns x → (column : List ℕ) → Contains columns column → Has c (IsColumn (path_of table) column)
  column_stands name table columns (item.Key k) here e column among =
      subst (λ o. Has c (IsColumn (path_of o) column)) e.1 (All-contains (λ n. Has c (IsColumn (path_of k.table) n)) k.columns column (key_columns_stand c good k here) (subst (λ l. Contains l column) (sym e.2) among))
  column_stands name table columns (item.Foreign f) here e column among =
      subst (λ o. Has c (IsColumn (path_of o) column)) e.1 (All-contains (λ n. Has c (IsColumn (path_of f.table) n)) f.columns column (foreign_columns_stand c good f here) (subst (λ l. Contains l column) (sym e.2) among))
  column_stands name table columns _ here e column among = absurd e

  pub column_named : (table : Object) (column : List ℕ) (y : Item) → Contains c y → IsColumn (path_of table) column y → HasSome (d t.Columns) (λ b. Any b × ((Some (Words table.schema) ∷ Some (Words table.name) ∷ Some (Words column) ∷ []) ≡ values (0 ∷ 1 ∷ 2 ∷ []) b))
  column_named table column (item.Column x) here e =
      let at = has_position c (good_order c good) x here in
      let schema : table.schema ≡ x.table.schema = cc (e.0) in
      let name : table.name ≡ x.table.name = cc (e.0) in
      (column_row x at.0, column_row_is c good d are x at.0 here at.1, (tt, λ j. Some (Words (schema j)) ∷ Some (Words (name j)) ∷ Some (Words (sym e.1 j)) ∷ []))
  column_named table column _ here e = absurd e

  pub each_key_column_stands : Refers (d t.KeyColumnUsage) Any (2 ∷ 3 ∷ 4 ∷ []) (d t.Columns) Any (0 ∷ 1 ∷ 2 ∷ [])
  each_key_column_stands a here any =
      let u = usage_rows_are c a (((are t.KeyColumnUsage tt).members a).0 here) in
      let h = column_stands u.name u.table u.columns u.constraint u.stands u.keyed u.column (numbered_has 1 u.columns (u.number, u.column) u.at) in
      let r = column_named u.table u.column h.0 h.1 h.2 in
      (r.0, r.1, (tt, ap (values (2 ∷ 3 ∷ 4 ∷ [])) u.is ∙ r.2.1))
