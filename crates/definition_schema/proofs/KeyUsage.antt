-- Key column usage: the columns of keys and foreign keys, at positions 1 to n; a foreign key has as many as the key that it names.
use Rattle.std.proofs.Common.{◌≡◌, refl, sym, ap, subst, ◌∙◌, ℕ, ◌≤◌, false, List, [], ◌∷◌, Some, None, length, arith}
use Rattle.std.specs.Prelude.{◌↔◌, slice_get}
use Rattle.std.specs.List.{Contains}
use Rattle.finite_chains.proofs.Members.{Contains-nil}
use Rattle.sql_names.specs.declared.object.Object.{Object}
use Rattle.cat_items.specs.declared.item.Foreign.{Foreign}
use Rattle.cat_items.specs.declared.item.Item.{Item}
use Rattle.cat_items.specs.declared.item.Item.TheVariants as item
use Rattle.cat_items.specs.declared.row.Cell.TheVariants.{Number}
use Rattle.cat_items.specs.Good.{IsGood}
use Rattle.cat_items.specs.Rights.{path_of}
use Rattle.cat_items.specs.Shape.{constraints}
use Rattle.cat_items.specs.Supported.{IsKey}
use Rattle.edit_laws.proofs.GoodCatalogues.{foreign_key_stands}
use Rattle.schema_tables.specs.Cells.{Row}
use Rattle.schema_tables.specs.declared.names.SchemaTable.{SchemaTable}
use Rattle.schema_tables.specs.declared.names.SchemaTable.TheVariants as t
use Rattle.schema_tables.specs.Shown.{Shown, of_key, of_foreign}
use Rattle.schema_tables.specs.Sight.{IsShown}
use Rattle.schema_tables.specs.TableRows.{Beside, rows, HasRow, numbered, key_usage, key_usage_row}
use Rattle.definition_schema.specs.Keys.{values, HasSome, IsAt, owner}
use Rattle.definition_schema.specs.Definition.{AreDefinitionRows}
use Rattle.definition_schema.proofs.Lengths.{same_length, numbered_within, numbered_at, of_map, map_has}
use Rattle.definition_schema.proofs.Named.{one_object}

-- a key or a foreign key of this name, on this table, with these columns
abbrev pub IsKeyed : List Item → Object → Object → List (List ℕ) → Item → Type 0
IsKeyed c name table columns (item.Key k) = (k.name ≡ name) × (k.table ≡ table) × (k.columns ≡ columns)
IsKeyed c name table columns (item.Foreign f) = (f.name ≡ name) × (f.table ≡ table) × (f.columns ≡ columns)
IsKeyed c name table columns x = ⊥

pub record IsUsageRow (c : List Item) (row : Row) : Type 0 where
  pub name : Object
  pub table : Object
  pub columns : List (List ℕ)
  pub constraint : Item
  pub stands : Contains c constraint
  pub keyed : IsKeyed c name table columns constraint
  pub number : ℕ
  pub column : List ℕ
  pub at : Contains (numbered 1 columns) (number, column)
  pub is : row ≡ key_usage_row name table (number, column)

pub usage_rows_are : (c : List Item) (row : Row) → HasRow (IsShown c None) t.KeyColumnUsage row → IsUsageRow c row
usage_rows_are c row h = by h.0 h.1 h.2 h.4
  where
    of : (name table : Object) (columns : List (List ℕ)) (x : Item) → Contains c x → IsKeyed c name table columns x → Contains (key_usage name table columns) row → IsUsageRow c row
    of name table columns x here keyed k =
        let p = of_map (key_usage_row name table) (numbered 1 columns) row k in
        record { name = name; table = table; columns = columns; constraint = x; stands = here; keyed = keyed; number = p.0.0; column = p.0.1; at = p.1; is = sym p.2 }

    by : (s : Shown) (m : Beside) → IsShown c None s → Contains (rows t.KeyColumnUsage m s) row → IsUsageRow c row
    by (of_key x) m p k = of x.name x.table x.columns (item.Key x) p.0 (refl, refl, refl) k
    by (of_foreign x) m p k = of x.name x.table x.columns (item.Foreign x) p.0 (refl, refl, refl) k
    by _ m p k = absurd (Contains-nil _ k)

pub keyed_columns : (c : List Item) (name table : Object) (columns : List (List ℕ)) (other other_table : Object) (others : List (List ℕ)) (x : Item) → IsKeyed c name table columns x → IsKeyed c other other_table others x → columns ≡ others
keyed_columns c name table columns other other_table others (item.Key k) p q = sym p.2 ∙ q.2
keyed_columns c name table columns other other_table others (item.Foreign f) p q = sym p.2 ∙ q.2
keyed_columns c name table columns other other_table others _ p q = absurd p

module _ (c : List Item) (good : IsGood c) (d : SchemaTable → List Row) (are : AreDefinitionRows c d) where
  pub of_usage : (a : Row) → Contains (d t.KeyColumnUsage) a → IsUsageRow c a
  of_usage a is = usage_rows_are c a (((are t.KeyColumnUsage tt).members a).0 is)

  pub usage_row_is : (name table : Object) (columns : List (List ℕ)) (x : Item) → Contains c x → IsKeyed c name table columns x → (p : ℕ × List ℕ) → Contains (numbered 1 columns) p → Contains (d t.KeyColumnUsage) (key_usage_row name table p)
  usage_row_is name table columns (item.Key k) here e p at =
      ((are t.KeyColumnUsage tt).members (key_usage_row name table p)).1 (
        of_key k,
        record { same = false; option = false; role = false },
        (here, tt),
        (refl, refl, refl),
        subst (λ o. Contains (key_usage o k.table k.columns) (key_usage_row name table p)) (sym e.0)
            (subst (λ o. Contains (key_usage name o k.columns) (key_usage_row name table p)) (sym e.1)
            (subst (λ l. Contains (key_usage name table l) (key_usage_row name table p)) (sym e.2) (map_has (key_usage_row name table) (numbered 1 columns) p at))),
      )
  usage_row_is name table columns (item.Foreign f) here e p at =
      ((are t.KeyColumnUsage tt).members (key_usage_row name table p)).1 (
        of_foreign f,
        record { same = false; option = false; role = false },
        (here, tt),
        (refl, refl, refl),
        subst (λ o. Contains (key_usage o f.table f.columns) (key_usage_row name table p)) (sym e.0)
            (subst (λ o. Contains (key_usage name o f.columns) (key_usage_row name table p)) (sym e.1)
            (subst (λ l. Contains (key_usage name table l) (key_usage_row name table p)) (sym e.2) (map_has (key_usage_row name table) (numbered 1 columns) p at))),
      )
  usage_row_is name table columns _ here e p at = absurd e

  pub named : (name table : Object) (columns : List (List ℕ)) (x : Item) → IsKeyed c name table columns x → Rattle.cat_items.specs.Shape.name_of x ≡ Some (constraints, path_of name)
  named name table columns (item.Key k) e = ap (λ o. Some (constraints, path_of o)) e.0
  named name table columns (item.Foreign f) e = ap (λ o. Some (constraints, path_of o)) e.0
  named name table columns _ e = absurd e

  -- the positions of one constraint
  pub usage_of : (name table : Object) (columns : List (List ℕ)) (x : Item) → Contains c x → IsKeyed c name table columns x → (n : ℕ) → HasSome (d t.KeyColumnUsage) (IsAt (0 ∷ 1 ∷ []) 5 (owner name) n) ↔ ((1 ≤ n) × (n ≤ length columns))
  usage_of name table columns x here keyed n = (
    λ h.
        let u = of_usage h.0 h.1 in
        let first : values (0 ∷ 1 ∷ []) (key_usage_row u.name u.table (u.number, u.column)) ≡ owner name = sym (ap (values (0 ∷ 1 ∷ [])) u.is) ∙ h.2.0 in
        let number : slice_get (key_usage_row u.name u.table (u.number, u.column)) 5 ≡ Some (Number n) = sym (ap (λ r. slice_get r 5) u.is) ∙ h.2.1 in
        let schema : u.name.schema ≡ name.schema = cc in
        let own : u.name.name ≡ name.name = cc in
        let k : u.number ≡ n = cc in
        let same : u.constraint ≡ x = good.shape.names u.constraint x (constraints, path_of name) u.stands here (named u.name u.table u.columns u.constraint u.keyed ∙ ap (λ o. Some (constraints, path_of o)) (one_object u.name name schema own)) (named name table columns x keyed) in
        let list : u.columns ≡ columns = keyed_columns c u.name u.table u.columns name table columns x (subst (IsKeyed c u.name u.table u.columns) same u.keyed) keyed in
        let r = numbered_within 1 u.columns (u.number, u.column) u.at in
        let len : length u.columns ≡ length columns = ap length list in
        (omega (arith, r.0, k), omega (arith, r.1, k, len)),
    λ h.
        let r = numbered_at 1 columns n h.0 (omega (arith, h.1)) in
        (key_usage_row name table (n, r.0), usage_row_is name table columns x here keyed (n, r.0) r.1, (refl, refl)),
  )

  -- ---- as many columns as the key

  pub as_many_of : (f : Foreign) → Contains c (item.Foreign f) → (n : ℕ) → HasSome (d t.KeyColumnUsage) (IsAt (0 ∷ 1 ∷ []) 5 (owner f.name) n) ↔ HasSome (d t.KeyColumnUsage) (IsAt (0 ∷ 1 ∷ []) 5 (owner f.key) n)
  as_many_of f here n = by h.0 h.1 h.2
    where
      h : Rattle.cat_items.specs.Reach.Has c (IsKey f.key)
      h = foreign_key_stands c good f here

      by : (y : Item) → Contains c y → IsKey f.key y → HasSome (d t.KeyColumnUsage) (IsAt (0 ∷ 1 ∷ []) 5 (owner f.name) n) ↔ HasSome (d t.KeyColumnUsage) (IsAt (0 ∷ 1 ∷ []) 5 (owner f.key) n)
      by (item.Key k) there e =
          let own = good.shape.lists (item.Foreign f) here in
          let keys = good.shape.keys f k here there e in
          let target : length k.columns ≡ length f.target_columns = same_length k.columns f.target_columns (good.shape.lists (item.Key k) there).1 own.3 keys.1 in
          let len : length k.columns ≡ length f.columns = target ∙ own.2 in
          let a = usage_of f.name f.table f.columns (item.Foreign f) here (refl, refl, refl) n in
          let b = usage_of f.key k.table k.columns (item.Key k) there (e, refl, refl) n in
          (λ p. let q = a.0 p in b.1 (q.0, omega (arith, q.1, len)), λ p. let q = b.0 p in a.1 (q.0, omega (arith, q.1, len)))
      by _ there e = absurd e
