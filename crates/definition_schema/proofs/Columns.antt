-- Columns: their names, their tables, their domains.
use Rattle.std.proofs.Common.{◌≡◌, ◌⊎◌, inl, inr, refl, sym, ap, subst, ◌∙◌, ℕ, ◌<◌, false, List, [], ◌∷◌, ◌++◌, Option, Some, None, not, length, arith}
use Rattle.std.specs.Prelude.{codes, slice_index_or}
use Rattle.std.specs.List.{Contains}
use Rattle.std.specs.declared.cmp.Ordering.TheVariants.{Less, Equal}
use Rattle.std.proofs.lemmas.Bool.{cases_lt}
use Rattle.std.proofs.lemmas.Cmp.{tied_itself}
use Rattle.finite_chains.proofs.Members.{Contains-head}
use Rattle.sql_names.specs.declared.object.Object.{Object}
use Rattle.cat_items.specs.declared.item.Column.{Column}
use Rattle.cat_items.specs.declared.item.Domain.{Domain}
use Rattle.cat_items.specs.declared.item.Item.{Item}
use Rattle.cat_items.specs.declared.item.Item.TheVariants as item
use Rattle.cat_items.specs.declared.row.Cell.TheVariants.{Number, Words}
use Rattle.cat_items.specs.Catalogues.{IsInOrder}
use Rattle.cat_items.specs.Good.{IsGood}
use Rattle.cat_items.specs.Order.{item_cmp}
use Rattle.cat_items.proofs.OrderLemmas.{item_cmp-total}
use Rattle.cat_items.specs.Rights.{path_of, IsTable, IsDomain}
use Rattle.cat_items.specs.Shape.{columns, IsColumnOf}
use Rattle.cat_items.specs.Supported.{RestsOnDomain}
use Rattle.edit_laws.proofs.GoodCatalogues.{good_order, good_supports, column_table_stands}
use Rattle.schema_tables.specs.declared.names.SchemaTable.{SchemaTable}
use Rattle.schema_tables.specs.declared.names.SchemaTable.TheVariants as t
use Rattle.schema_tables.specs.Cells.{Row, object_cells, optional_object_cells, default_cell, yes_cell, type_cells}
use Rattle.schema_tables.specs.Shown.{of_domain}
use Rattle.schema_tables.specs.Sight.{IsPosition}
use Rattle.schema_tables.specs.TableRows.{domain_row}
use Rattle.definition_schema.specs.Keys.{values, HasSome, IsKey, Refers, Any}
use Rattle.definition_schema.specs.Constraints.{ColumnsHold, IsNull, Every}
use Rattle.definition_schema.specs.Definition.{AreDefinitionRows}
use Rattle.definition_schema.proofs.RowsOf.{column_row}
use Rattle.definition_schema.proofs.Ranges.{one_start}
use Rattle.definition_schema.proofs.Positions.{of_row, same_path, columns_have_positions}
use Rattle.definition_schema.proofs.TableColumns.{each_table_has_a_column}
use Rattle.definition_schema.proofs.TablesAndViews.{view_table_is, table_is}
use Rattle.definition_schema.proofs.Named.{one_object}

-- an item stands once in a list in order
one_index : (c : List Item) → IsInOrder c → (x : Item) (k m : ℕ) → k < length c → m < length c → slice_index_or c k x ≡ x → slice_index_or c m x ≡ x → k < m → ⊥
one_index c order x k m inside there at other less =
    let before : item_cmp x x ≡ Less = subst (λ z. item_cmp z x ≡ Less) at (subst (λ z. item_cmp (slice_index_or c k x) z ≡ Less) other (order k m x less there)) in
    let same : item_cmp x x ≡ Equal = tied_itself item_cmp-total x in
    let both : Less ≡ Equal = sym before ∙ same in
    cc

-- the row, with its domain apart
abbrev based_row : Column → ℕ → Option Object → Row
based_row x n domain = object_cells x.table ++ Words x.name ∷ Number n ∷ default_cell x.default ∷ yes_cell (not x.not_null) ∷ type_cells x.sort ++ optional_object_cells domain

module _ (c : List Item) (good : IsGood c) (d : SchemaTable → List Row) (are : AreDefinitionRows c d) where
  -- a column has one position
  one_number : (x : Column) (n m : ℕ) → IsPosition c x n → IsPosition c x m → n ≡ m
  one_number x n m p q =
      let low = one_start c (IsColumnOf x.table) (item.Column x) p.0 p.1 q.0 q.1 p.3 q.3 (omega (arith, p.4, p.6)) in
      let high = one_start c (IsColumnOf x.table) (item.Column x) q.0 q.1 p.0 p.1 q.3 p.3 (omega (arith, q.4, q.6)) in
      let first : p.2 < length c = omega (arith, p.4, p.3.within) in
      let second : q.2 < length c = omega (arith, q.4, q.3.within) in
      let k : p.2 ≡ q.2 = (elim (cases_lt p.2 q.2) [
        | inl less ↦ absurd (one_index c (good_order c good) (item.Column x) p.2 q.2 first second p.5 q.5 less)
        | inr more ↦ elim (cases_lt q.2 p.2) [
          | inl less ↦ absurd (one_index c (good_order c good) (item.Column x) q.2 p.2 second first q.5 p.5 less)
          | inr other ↦ omega (arith, more, other)
        ]
      ]) in
      omega (arith, low, high, k, p.7, q.7)

  key : IsKey (d t.Columns) (0 ∷ 1 ∷ 2 ∷ [])
  key a b here there e =
      let p = of_row c good d are a here in
      let q = of_row c good d are b there in
      let same : values (0 ∷ 1 ∷ 2 ∷ []) (column_row p.0 p.1) ≡ values (0 ∷ 1 ∷ 2 ∷ []) (column_row q.0 q.1) = sym (ap (values (0 ∷ 1 ∷ 2 ∷ [])) p.4) ∙ e ∙ ap (values (0 ∷ 1 ∷ 2 ∷ [])) q.4 in
      let schema : p.0.table.schema ≡ q.0.table.schema = cc in
      let table : p.0.table.name ≡ q.0.table.name = cc in
      let name : p.0.name ≡ q.0.name = cc in
      let o : p.0.table ≡ q.0.table = one_object p.0.table q.0.table schema table in
      let column : item.Column p.0 ≡ item.Column q.0 = good.shape.names (item.Column p.0) (item.Column q.0) (columns q.0.table, q.0.name ∷ []) p.2 q.2 (λ i. Some (columns (o i), name i ∷ [])) refl in
      let x : p.0 ≡ q.0 = cc in
      let n : p.1 ≡ q.1 = one_number q.0 p.1 q.1 (subst (λ z. IsPosition c z p.1) x p.3) q.3 in
      p.4 ∙ ap (λ z. column_row z p.1) x ∙ ap (column_row q.0) n ∙ sym q.4

  pub table_of : (o : Object) (y : Item) → Contains c y → IsTable (path_of o) y → HasSome (d t.Tables) (λ b. Any b × ((Some (Words o.schema) ∷ Some (Words o.name) ∷ []) ≡ values (0 ∷ 1 ∷ []) b))
  table_of o (item.Table q) here e = let f = same_path o q e in (object_cells q ++ Words (codes "BASE TABLE") ∷ [], table_is c good d are q here, (tt, λ i. Some (Words (f i).schema) ∷ Some (Words (f i).name) ∷ []))
  table_of o (item.View v) here e = let f = same_path o v.view e in (object_cells v.view ++ Words (codes "VIEW") ∷ [], view_table_is c good d are v here, (tt, λ i. Some (Words (f i).schema) ∷ Some (Words (f i).name) ∷ []))
  table_of o _ here e = absurd e

  table : Refers (d t.Columns) Any (0 ∷ 1 ∷ []) (d t.Tables) Any (0 ∷ 1 ∷ [])
  table a here any =
      let p = of_row c good d are a here in
      let h = column_table_stands c good p.0 p.2 in
      let r = table_of p.0.table h.0 h.1 h.2 in
      (r.0, r.1, (tt, ap (values (0 ∷ 1 ∷ [])) p.4 ∙ r.2.1))

  abbrev HasDomain : Row → Type 0
  HasDomain row = (IsNull 11 row × IsNull 12 row) ⊎ HasSome (d t.Domains) (λ b. values (11 ∷ 12 ∷ 6 ∷ 7 ∷ 8 ∷ 9 ∷ 10 ∷ []) row ≡ values (0 ∷ 1 ∷ 2 ∷ 3 ∷ 4 ∷ 5 ∷ 6 ∷ []) b)

  domain_is : (x : Column) (n : ℕ) (o : Object) (y : Item) → Contains c y → IsDomain (path_of o) y → ((q : Domain) → Contains c (item.Domain q) → q.domain ≡ o → x.sort ≡ q.sort) → HasDomain (based_row x n (Some o))
  domain_is x n o (item.Domain q) here e sorts =
      let f = same_path o q.domain e in
      let s = sorts q here (sym f) in
      let row : Row = domain_row (record { domain = q.domain; sort = q.sort; default = q.default }) in
      inr (
        row,
        ((are t.Domains tt).members row).1 (of_domain (record { domain = q.domain; sort = q.sort; default = q.default }), record { same = false; option = false; role = false }, (q, here, (tt, refl, refl, (λ h. refl, λ never. absurd (never tt)))), (refl, refl, refl), Contains-head row []),
        λ i. values (11 ∷ 12 ∷ 6 ∷ 7 ∷ 8 ∷ 9 ∷ 10 ∷ []) (object_cells x.table ++ Words x.name ∷ Number n ∷ default_cell x.default ∷ yes_cell (not x.not_null) ∷ type_cells (s i) ++ object_cells (f i)),
      )
  domain_is x n o _ here e sorts = absurd e

  domain_of : (x : Column) (n : ℕ) (domain : Option Object) → RestsOnDomain c x.table.schema domain → ((q : Domain) → Contains c (item.Domain q) → domain ≡ Some q.domain → x.sort ≡ q.sort) → HasDomain (based_row x n domain)
  domain_of x n None rests sorts = inl (refl, refl)
  domain_of x n (Some o) rests sorts = domain_is x n o rests.0.0 rests.0.1 rests.0.2 (λ q h e. sorts q h (ap Some (sym e)))

  domain : Every (d t.Columns) HasDomain
  domain a here =
      let p = of_row c good d are a here in
      subst HasDomain (sym p.4) (domain_of p.0 p.1 p.0.domain (good_supports c good (item.Column p.0) p.2).2 (λ q h e. good.shape.domains p.0 q p.2 h e))

  pub columns_hold : ColumnsHold d
  columns_hold = record { column_names_differ = key; column_tables_stand = table; each_table_has_a_column = each_table_has_a_column c good d are; columns_have_positions = columns_have_positions c good d are; column_domains_stand = domain }
