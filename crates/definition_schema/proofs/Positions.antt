-- The ordinal positions of the columns of a table are 1 to n, each once.
use Rattle.std.proofs.Common.{◌≡◌, refl, sym, ap, subst, ◌∙◌, ℕ, ◌+◌, ◌-◌, ◌<◌, ◌≤◌, Bool, true, false, List, [], ◌∷◌, Option, Some, None, arith}
use Rattle.std.specs.Prelude.{◌↔◌, IsTrue, slice_get, slice_index_or}
use Rattle.std.specs.List.{Contains}
use Rattle.std.proofs.lemmas.List.{get_or_default}
use Rattle.finite_chains.proofs.Members.{Contains-head}
use Rattle.sql_names.specs.declared.object.Object.{Object}
use Rattle.cat_items.specs.declared.item.Column.{Column}
use Rattle.cat_items.specs.declared.item.Item.{Item}
use Rattle.cat_items.specs.declared.item.Item.TheVariants as item
use Rattle.cat_items.specs.declared.row.Cell.TheVariants.{Number, Words}
use Rattle.cat_items.specs.Good.{IsGood}
use Rattle.cat_items.specs.Ranges.{IsRange}
use Rattle.cat_items.specs.Rights.{path_of, IsDomain}
use Rattle.cat_items.specs.Shape.{IsColumnOf}
use Rattle.cat_items.specs.Supported.{RestsOnDomain}
use Rattle.edit_laws.proofs.GoodCatalogues.{good_supports}
use Rattle.schema_tables.specs.Cells.{Row}
use Rattle.schema_tables.specs.declared.names.SchemaTable.{SchemaTable}
use Rattle.schema_tables.specs.declared.names.SchemaTable.TheVariants as t
use Rattle.schema_tables.specs.Shown.{Shown, of_column, of_domain}
use Rattle.schema_tables.specs.Sight.{IsShown, IsPosition}
use Rattle.schema_tables.specs.TableRows.{Shows, IsDomainBeside}
use Rattle.definition_schema.specs.Keys.{values, HasSome, IsAt, IsKey, HavePositions}
use Rattle.definition_schema.specs.Definition.{AreDefinitionRows}
use Rattle.definition_schema.proofs.Ranges.{one_start, one_end}
use Rattle.definition_schema.proofs.RowsOf.{column_row, column_rows_are, IsColumnRow}

one_object : (a b : Object) → a.schema ≡ b.schema → a.name ≡ b.name → a ≡ b
one_object a b e f = λ i. record { schema = e i; name = f i }

pub same_path : (a b : Object) → path_of a ≡ path_of b → a ≡ b
same_path a b e = one_object a b (cc) (cc)

at_column : (table : Object) (z : Item) → IsColumnOf table z → (y : Column) × (z ≡ item.Column y) × (y.table ≡ table)
at_column table (item.Column y) h = (y, refl, h)
at_column table _ h = absurd h

module _ (c : List Item) (good : IsGood c) (d : SchemaTable → List Row) (are : AreDefinitionRows c d) where
  -- ---- rows of columns

  of_domain_named : (domain : Object) (y : Item) → Contains c y → IsDomain (path_of domain) y → Shows (IsShown c None) (IsDomainBeside (Some domain))
  of_domain_named domain (item.Domain x) is e = (
    of_domain (record { domain = x.domain; sort = x.sort; default = x.default }),
    (x, is, (tt, refl, refl, (λ h. refl, λ n. absurd (n tt)))),
    ap Some (same_path domain x.domain e),
  )
  of_domain_named domain _ is e = absurd e

  no_domain : (s : Shown) → IsDomainBeside None s → ⊥
  no_domain (of_domain x) e = cc
  no_domain _ e = e

  domain_beside : (schema : List ℕ) (domain : Option Object) → RestsOnDomain c schema domain → (b : Bool) × (IsTrue b ↔ Shows (IsShown c None) (IsDomainBeside domain))
  domain_beside schema None h = (false, (λ e. absurd (no e), λ s. absurd (no_domain s.0 s.2)))
    where
      no : IsTrue false → ⊥
      no e = cc
  domain_beside schema (Some domain) h = (true, (λ e. of_domain_named domain h.0.0 h.0.1 h.0.2, λ s. refl))

  pub column_row_is : (x : Column) (n : ℕ) → Contains c (item.Column x) → IsPosition c x n → Contains (d t.Columns) (column_row x n)
  column_row_is x n is at =
      let b = domain_beside x.table.schema x.domain (good_supports c good (item.Column x) is).2 in
      ((are t.Columns tt).members (column_row x n)).1 (
        of_column (record { table = x.table; name = x.name; position = n; default = x.default; not_null = x.not_null; sort = x.sort; domain = x.domain }),
        record { same = false; option = b.0; role = false },
        (x, is, record { may = tt; table = refl; name = refl; position = at; default = (λ h. refl, λ no. absurd (no tt)); not_null = refl; sort = refl; domain = refl }),
        (refl, b.1, refl),
        Contains-head _ [],
      )

  pub of_row : (a : Row) → Contains (d t.Columns) a → IsColumnRow c a
  of_row a is = column_rows_are c a (((are t.Columns tt).members a).0 is)

  -- ---- positions

  one_place : (x y : Column) (n : ℕ) → IsPosition c x n → IsPosition c y n → x.table ≡ y.table → item.Column x ≡ item.Column y
  one_place x y n p q e =
      let range : IsRange c q.0 q.1 (IsColumnOf x.table) = subst (λ o. IsRange c q.0 q.1 (IsColumnOf o)) (sym e) q.3 in
      let low = one_start c (IsColumnOf x.table) (item.Column x) p.0 p.1 q.0 q.1 p.3 range (omega (arith, p.4, p.6)) in
      let high = one_start c (IsColumnOf x.table) (item.Column x) q.0 q.1 p.0 p.1 range p.3 (omega (arith, q.4, q.6)) in
      let same : p.2 ≡ q.2 = omega (arith, low, high, p.7, q.7) in
      sym p.5 ∙ ap (λ k. slice_index_or c k (item.Column x)) same ∙ get_or_default c q.2 (item.Column x) (item.Column y) (omega (arith, q.4, q.3.within)) ∙ q.5

  once : IsKey (d t.Columns) (0 ∷ 1 ∷ 3 ∷ [])
  once a b here there e =
      let p = of_row a here in
      let q = of_row b there in
      let same : values (0 ∷ 1 ∷ 3 ∷ []) (column_row p.0 p.1) ≡ values (0 ∷ 1 ∷ 3 ∷ []) (column_row q.0 q.1) = sym (ap (values (0 ∷ 1 ∷ 3 ∷ [])) p.4) ∙ e ∙ ap (values (0 ∷ 1 ∷ 3 ∷ [])) q.4 in
      let n : p.1 ≡ q.1 = cc in
      let schema : p.0.table.schema ≡ q.0.table.schema = cc in
      let name : p.0.table.name ≡ q.0.table.name = cc in
      let column : item.Column p.0 ≡ item.Column q.0 = one_place p.0 q.0 q.1 (subst (IsPosition c p.0) n p.3) q.3 (one_object p.0.table q.0.table schema name) in
      let x : p.0 ≡ q.0 = cc in
      p.4 ∙ ap (λ z. column_row z p.1) x ∙ ap (column_row q.0) n ∙ sym q.4

  -- the other columns of the table are in the same range
  below : (a : Row) (x : Column) (n : ℕ) (p : IsPosition c x n) → a ≡ column_row x n → (k : ℕ) → HasSome (d t.Columns) (IsAt (0 ∷ 1 ∷ []) 3 (values (0 ∷ 1 ∷ []) a) k) → (1 ≤ k) × (k ≤ p.1 - p.0)
  below a x n p e k h =
      let q = of_row h.0 h.1 in
      let same : values (0 ∷ 1 ∷ []) (column_row q.0 q.1) ≡ values (0 ∷ 1 ∷ []) (column_row x n) = sym (ap (values (0 ∷ 1 ∷ [])) q.4) ∙ h.2.0 ∙ ap (values (0 ∷ 1 ∷ [])) e in
      let third : slice_get (column_row q.0 q.1) 3 ≡ Some (Number k) = sym (ap (λ r. slice_get r 3) q.4) ∙ h.2.1 in
      let m : q.1 ≡ k = cc in
      let schema : q.0.table.schema ≡ x.table.schema = cc in
      let name : q.0.table.name ≡ x.table.name = cc in
      let other = q.3 in
      let range : IsRange c other.0 other.1 (IsColumnOf x.table) = subst (λ o. IsRange c other.0 other.1 (IsColumnOf o)) (one_object q.0.table x.table schema name) other.3 in
      let low = one_start c (IsColumnOf x.table) (item.Column x) p.0 p.1 other.0 other.1 p.3 range (omega (arith, p.4, p.6)) in
      let high = one_start c (IsColumnOf x.table) (item.Column x) other.0 other.1 p.0 p.1 range p.3 (omega (arith, other.4, other.6)) in
      let end = one_end c (IsColumnOf x.table) (item.Column x) other.0 other.1 p.0 p.1 range p.3 (omega (arith, other.4, other.6)) in
      (omega (arith, m, other.7, other.6), omega (arith, m, other.7, other.4, low, high, end))

  -- the column at a place of the range
  found_at : (a : Row) (x : Column) (n : ℕ) (p : IsPosition c x n) → a ≡ column_row x n → (k i : ℕ) → i + 1 ≡ p.0 + k → p.0 ≤ i → i < p.1 → (y : Column) × (slice_index_or c i (item.Column x) ≡ item.Column y) × (y.table ≡ x.table) → HasSome (d t.Columns) (IsAt (0 ∷ 1 ∷ []) 3 (values (0 ∷ 1 ∷ []) a) k)
  found_at a x n p e k i is low inside f =
      let found : slice_index_or c i (item.Column f.0) ≡ item.Column f.0 = get_or_default c i (item.Column f.0) (item.Column x) (omega (arith, inside, p.3.within)) ∙ f.1 in
      let range : IsRange c p.0 p.1 (IsColumnOf f.0.table) = subst (λ o. IsRange c p.0 p.1 (IsColumnOf o)) (sym f.2) p.3 in
      let at : IsPosition c f.0 k = (p.0, p.1, i, range, inside, found, low, is) in
      let same : values (0 ∷ 1 ∷ []) (column_row f.0 k) ≡ values (0 ∷ 1 ∷ []) (column_row x n) = (λ j. Some (Words (f.2 j).schema) ∷ Some (Words (f.2 j).name) ∷ []) in
      (column_row f.0 k, column_row_is f.0 k (i, omega (arith, inside, p.3.within), found) at, (same ∙ ap (values (0 ∷ 1 ∷ [])) (sym e), refl))

  there : (a : Row) (x : Column) (n : ℕ) (p : IsPosition c x n) → a ≡ column_row x n → (k : ℕ) → (1 ≤ k) × (k ≤ p.1 - p.0) → HasSome (d t.Columns) (IsAt (0 ∷ 1 ∷ []) 3 (values (0 ∷ 1 ∷ []) a) k)
  there a x n p e k h =
      let i : ℕ = p.0 + k - 1 in
      let is : i + 1 ≡ p.0 + k = omega (arith, h.0) in
      let low : p.0 ≤ i = omega (arith, h.0) in
      let inside : i < p.1 = omega (arith, h.0, h.1, p.4, p.6) in
      found_at a x n p e k i is low inside (at_column x.table (slice_index_or c i (item.Column x)) (p.3.inside i (item.Column x) low inside))

  run : (a : Row) → Contains (d t.Columns) a → (n : ℕ) × ((k : ℕ) → HasSome (d t.Columns) (IsAt (0 ∷ 1 ∷ []) 3 (values (0 ∷ 1 ∷ []) a) k) ↔ ((1 ≤ k) × (k ≤ n)))
  run a here =
      let p = of_row a here in
      (p.3.1 - p.3.0, λ k. (below a p.0 p.1 p.3 p.4 k, there a p.0 p.1 p.3 p.4 k))

  pub columns_have_positions : HavePositions (d t.Columns) (0 ∷ 1 ∷ []) 3
  columns_have_positions = record { once = once; run = run }
