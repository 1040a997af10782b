-- Keys and foreign keys: their rows of key column usage and of referential constraints.
use Rattle.std.proofs.Common.{◌≡◌, ◌⊎◌, ◌↔◌, inl, inr, refl, sym, ap, subst, ◌∙◌, ◌<◌, ◌≤◌, Bool, false, true, List, [], ◌∷◌, Some, None, length, arith}
use Rattle.std.specs.Prelude.{ℕ, codes, slice_get}
use Rattle.std.specs.List.{Contains}
use Rattle.finite_chains.proofs.Members.{Contains-nil, Contains-head}
use Rattle.sql_names.specs.declared.object.Object.{Object}
use Rattle.cat_items.specs.declared.item.Foreign.{Foreign}
use Rattle.cat_items.specs.declared.item.Item.{Item}
use Rattle.cat_items.specs.declared.item.Item.TheVariants as item
use Rattle.cat_items.specs.declared.row.Cell.TheVariants.{Words}
use Rattle.cat_items.specs.Good.{IsGood}
use Rattle.cat_items.specs.Shape.{constraints}
use Rattle.cat_items.specs.Supported as supported
use Rattle.edit_laws.proofs.GoodCatalogues.{foreign_key_stands}
use Rattle.schema_tables.specs.declared.names.SchemaTable.{SchemaTable}
use Rattle.schema_tables.specs.declared.names.SchemaTable.TheVariants as t
use Rattle.schema_tables.specs.Cells.{Row}
use Rattle.schema_tables.specs.Shown.{Shown, of_foreign}
use Rattle.schema_tables.specs.Sight.{IsShown}
use Rattle.schema_tables.specs.TableRows.{Beside, rows, HasRow, key_kind, key_usage_row, numbered, referential_row, table_constraint}
use Rattle.definition_schema.specs.Keys.{values, owner, HasSome, HavePositions, IsKey, IsAt, Refers, Any, Is}
use Rattle.definition_schema.specs.Constraints.{Every}
use Rattle.definition_schema.specs.Definition.{AreDefinitionRows}
use Rattle.definition_schema.proofs.KeyUsage.{IsKeyed, IsUsageRow, as_many_of, keyed_columns, named, of_usage, usage_of, usage_row_is}
use Rattle.definition_schema.proofs.Lengths.{numbered_at, numbered_once}
use Rattle.definition_schema.proofs.Named.{IsNamed, differ, none, same_item}
use Rattle.definition_schema.proofs.RowsOf.{only}
use Rattle.definition_schema.proofs.TableConstraints.{IsOne, constraint_is, of_constraints}

referential_rows_are : (c : List Item) (row : Row) → HasRow (IsShown c None) t.ReferentialConstraints row → (f : Foreign) × Contains c (item.Foreign f) × (row ≡ referential_row f)
referential_rows_are c row h = by h.0 h.1 h.2 h.4
  where
    by : (s : Shown) (m : Beside) → IsShown c None s → Contains (rows t.ReferentialConstraints m s) row → (f : Foreign) × Contains c (item.Foreign f) × (row ≡ referential_row f)
    by (of_foreign f) m p among = (f, p.0, only _ _ among)
    by _ m p among = absurd (Contains-nil _ among)

keyed_table : (c : List Item) (name table : Object) (columns : List (List ℕ)) (other other_table : Object) (others : List (List ℕ)) (x : Item) → IsKeyed c name table columns x → IsKeyed c other other_table others x → table ≡ other_table
keyed_table c name table columns other other_table others (item.Key k) p q = sym p.1 ∙ q.1
keyed_table c name table columns other other_table others (item.Foreign f) p q = sym p.1 ∙ q.1
keyed_table c name table columns other other_table others _ p q = absurd p

keyed_name : (c : List Item) (name table : Object) (columns : List (List ℕ)) (other other_table : Object) (others : List (List ℕ)) (x : Item) → IsKeyed c name table columns x → IsKeyed c other other_table others x → name ≡ other
keyed_name c name table columns other other_table others (item.Key k) p q = sym p.0 ∙ q.0
keyed_name c name table columns other other_table others (item.Foreign f) p q = sym p.0 ∙ q.0
keyed_name c name table columns other other_table others _ p q = absurd p

-- the kind of a key or a foreign key, which is no check
kind_of_key : (c : List Item) (name table : Object) (columns : List (List ℕ)) (x : Item) → IsKeyed c name table columns x → (kind : List ℕ) × IsOne name table kind x × (kind ≡ codes "CHECK" → ⊥)
kind_of_key c name table columns (item.Key k) e = (key_kind k.primary, (e.0, e.1, refl), kinds k.primary)
  where
    kinds : (b : Bool) → key_kind b ≡ codes "CHECK" → ⊥
    kinds true f = differ (codes "PRIMARY KEY") (codes "CHECK") refl f
    kinds false f = differ (codes "UNIQUE") (codes "CHECK") refl f
kind_of_key c name table columns (item.Foreign f) e = (codes "FOREIGN KEY", (e.0, e.1, refl), differ (codes "FOREIGN KEY") (codes "CHECK") refl)
kind_of_key c name table columns _ e = absurd e

-- a constraint that is no check has columns
columns_of_key : (c : List Item) → IsGood c → (name table : Object) (kind : List ℕ) (x : Item) → Contains c x → IsOne name table kind x → (kind ≡ codes "CHECK" → ⊥) → (columns : List (List ℕ)) × IsKeyed c name table columns x × (0 < length columns)
columns_of_key c good name table kind (item.Key k) here e apart = (k.columns, (e.0, e.1, refl), (good.shape.lists (item.Key k) here).0)
columns_of_key c good name table kind (item.Foreign f) here e apart = (f.columns, (e.0, e.1, refl), (good.shape.lists (item.Foreign f) here).0)
columns_of_key c good name table kind (item.Check x) here e apart = absurd (apart (sym e.2))
columns_of_key c good name table kind _ here e apart = absurd e

foreign_of : (name table : Object) (x : Item) → IsOne name table (codes "FOREIGN KEY") x → (f : Foreign) × (x ≡ item.Foreign f) × (f.name ≡ name)
foreign_of name table (item.Key k) e = absurd (kinds k.primary e.2)
  where
    kinds : (b : Bool) → key_kind b ≡ codes "FOREIGN KEY" → ⊥
    kinds true f = differ (codes "PRIMARY KEY") (codes "FOREIGN KEY") refl f
    kinds false f = differ (codes "UNIQUE") (codes "FOREIGN KEY") refl f
foreign_of name table (item.Foreign f) e = (f, refl, e.0)
foreign_of name table (item.Check x) e = absurd (differ (codes "CHECK") (codes "FOREIGN KEY") refl e.2)
foreign_of name table _ e = absurd e

module _ (c : List Item) (good : IsGood c) (d : SchemaTable → List Row) (are : AreDefinitionRows c d) where
  of_referential : (a : Row) → Contains (d t.ReferentialConstraints) a → (f : Foreign) × Contains c (item.Foreign f) × (a ≡ referential_row f)
  of_referential a is = referential_rows_are c a (((are t.ReferentialConstraints tt).members a).0 is)

  usage_named : (a : Row) (u : IsUsageRow c a) → IsNamed c constraints a u.constraint
  usage_named a u = record { name = u.name; stands = u.stands; named = named c good d are u.name u.table u.columns u.constraint u.keyed; at = ap (values (0 ∷ 1 ∷ [])) u.is }

  -- ---- key column usage

  pub key_tables : Refers (d t.KeyColumnUsage) Any (0 ∷ 1 ∷ 2 ∷ 3 ∷ []) (d t.TableConstraints) (λ row. ¬ (Is 4 (codes "CHECK") row)) (0 ∷ 1 ∷ 2 ∷ 3 ∷ [])
  key_tables a here any =
      let u = of_usage c good d are a here in
      let k = kind_of_key c u.name u.table u.columns u.constraint u.keyed in (
        table_constraint u.name u.table k.0,
        constraint_is c good d are u.name u.table k.0 u.constraint u.stands k.1,
        (λ is_check. k.2 (let e : k.0 ≡ codes "CHECK" = cc in e), ap (values (0 ∷ 1 ∷ 2 ∷ 3 ∷ [])) u.is),
      )

  once : IsKey (d t.KeyColumnUsage) (0 ∷ 1 ∷ 5 ∷ [])
  once a b here there e =
      let p = of_usage c good d are a here in
      let q = of_usage c good d are b there in
      let same : values (0 ∷ 1 ∷ 5 ∷ []) (key_usage_row p.name p.table (p.number, p.column)) ≡ values (0 ∷ 1 ∷ 5 ∷ []) (key_usage_row q.name q.table (q.number, q.column)) = sym (ap (values (0 ∷ 1 ∷ 5 ∷ [])) p.is) ∙ e ∙ ap (values (0 ∷ 1 ∷ 5 ∷ [])) q.is in
      let schema : p.name.schema ≡ q.name.schema = cc in
      let own : p.name.name ≡ q.name.name = cc in
      let number : p.number ≡ q.number = cc in
      let names : values (0 ∷ 1 ∷ []) a ≡ values (0 ∷ 1 ∷ []) b = ap (values (0 ∷ 1 ∷ [])) p.is ∙ (λ i. Some (Words (schema i)) ∷ Some (Words (own i)) ∷ []) ∙ sym (ap (values (0 ∷ 1 ∷ [])) q.is) in
      let x = same_item c good constraints a b p.constraint q.constraint (usage_named a p) (usage_named b q) names in
      let keyed = subst (IsKeyed c p.name p.table p.columns) x p.keyed in
      let columns : p.columns ≡ q.columns = keyed_columns c p.name p.table p.columns q.name q.table q.columns q.constraint keyed q.keyed in
      let table : p.table ≡ q.table = keyed_table c p.name p.table p.columns q.name q.table q.columns q.constraint keyed q.keyed in
      let name : p.name ≡ q.name = keyed_name c p.name p.table p.columns q.name q.table q.columns q.constraint keyed q.keyed in
      let at : Contains (numbered 1 q.columns) (q.number, p.column) = subst (λ l. Contains (numbered 1 l) (q.number, p.column)) columns (subst (λ n. Contains (numbered 1 p.columns) (n, p.column)) number p.at) in
      let column : p.column ≡ q.column = numbered_once 1 q.columns q.number p.column q.column at q.at in
      p.is ∙ (λ i. key_usage_row (name i) (table i) (number i, column i)) ∙ sym q.is

  run : (a : Row) → Contains (d t.KeyColumnUsage) a → (n : ℕ) × ((k : ℕ) → HasSome (d t.KeyColumnUsage) (IsAt (0 ∷ 1 ∷ []) 5 (values (0 ∷ 1 ∷ []) a) k) ↔ ((1 ≤ k) × (k ≤ n)))
  run a here =
      let u = of_usage c good d are a here in
      let at : owner u.name ≡ values (0 ∷ 1 ∷ []) a = sym (ap (values (0 ∷ 1 ∷ [])) u.is) in (
        length u.columns,
        λ k. subst (λ o. HasSome (d t.KeyColumnUsage) (IsAt (0 ∷ 1 ∷ []) 5 o k) ↔ ((1 ≤ k) × (k ≤ length u.columns))) at (usage_of c good d are u.name u.table u.columns u.constraint u.stands u.keyed k),
      )

  pub key_positions : HavePositions (d t.KeyColumnUsage) (0 ∷ 1 ∷ []) 5
  key_positions = record { once = once; run = run }

  pub keys_have_columns : Refers (d t.TableConstraints) (λ row. ¬ (Is 4 (codes "CHECK") row)) (0 ∷ 1 ∷ []) (d t.KeyColumnUsage) Any (0 ∷ 1 ∷ [])
  keys_have_columns a here apart =
      let p = of_constraints c good d are a here in
      let k = columns_of_key c good p.name p.table p.kind p.constraint p.stands p.one (λ e. apart (ap (λ r. slice_get r 4) p.is ∙ ap (λ z. Some (Words z)) e)) in
      let r = numbered_at 1 k.0 1 (omega arith) (omega (arith, k.2)) in (
        key_usage_row p.name p.table (1, r.0),
        usage_row_is c good d are p.name p.table k.0 p.constraint p.stands k.1 (1, r.0) r.1,
        (tt, ap (values (0 ∷ 1 ∷ [])) p.is),
      )

  -- ---- referential constraints

  referential_named : (a : Row) (f : Foreign) → Contains c (item.Foreign f) → a ≡ referential_row f → IsNamed c constraints a (item.Foreign f)
  referential_named a f here is = record { name = f.name; stands = here; named = refl; at = ap (values (0 ∷ 1 ∷ [])) is }

  pub foreign_key : IsKey (d t.ReferentialConstraints) (0 ∷ 1 ∷ [])
  foreign_key a b here there e =
      let p = of_referential a here in
      let q = of_referential b there in
      let same = same_item c good constraints a b (item.Foreign p.0) (item.Foreign q.0) (referential_named a p.0 p.1 p.2) (referential_named b q.0 q.1 q.2) e in
      let x : p.0 ≡ q.0 = cc in
      p.2 ∙ ap referential_row x ∙ sym q.2

  pub foreign : Refers (d t.ReferentialConstraints) Any (0 ∷ 1 ∷ []) (d t.TableConstraints) (Is 4 (codes "FOREIGN KEY")) (0 ∷ 1 ∷ [])
  foreign a here any =
      let p = of_referential a here in (
        table_constraint p.0.name p.0.table (codes "FOREIGN KEY"),
        constraint_is c good d are p.0.name p.0.table (codes "FOREIGN KEY") (item.Foreign p.0) p.1 (refl, refl, refl),
        (refl, ap (values (0 ∷ 1 ∷ [])) p.2),
      )

  pub all_foreign : Refers (d t.TableConstraints) (Is 4 (codes "FOREIGN KEY")) (0 ∷ 1 ∷ []) (d t.ReferentialConstraints) Any (0 ∷ 1 ∷ [])
  all_foreign a here is_foreign =
      let p = of_constraints c good d are a here in
      let kind : p.kind ≡ codes "FOREIGN KEY" = cc (sym (ap (λ r. slice_get r 4) p.is) ∙ is_foreign) in
      let f = foreign_of p.name p.table p.constraint (subst (λ z. IsOne p.name p.table z p.constraint) kind p.one) in (
        referential_row f.0,
        ((are t.ReferentialConstraints tt).members _).1 (of_foreign f.0, none, (subst (Contains c) f.1 p.stands, tt), (refl, refl, refl), Contains-head (referential_row f.0) []),
        (tt, ap (values (0 ∷ 1 ∷ [])) p.is ∙ λ i. Some (Words (sym f.2 i).schema) ∷ Some (Words (sym f.2 i).name) ∷ []),
      )

  abbrev IsUnique : Row → Type 0
  IsUnique row = Is 4 (codes "PRIMARY KEY") row ⊎ Is 4 (codes "UNIQUE") row

  unique_of : (name : Object) (y : Item) → Contains c y → supported.IsKey name y → HasSome (d t.TableConstraints) (λ b. IsUnique b × (owner name ≡ values (0 ∷ 1 ∷ []) b))
  unique_of name (item.Key k) here e = (
    table_constraint k.name k.table (key_kind k.primary),
    constraint_is c good d are k.name k.table (key_kind k.primary) (item.Key k) here (refl, refl, refl),
    (kinds k.primary, λ i. owner (sym e i)),
  )
    where
      kinds : (b : Bool) → IsUnique (table_constraint k.name k.table (key_kind b))
      kinds true = inl refl
      kinds false = inr refl
  unique_of name _ here e = absurd e

  pub unique : Refers (d t.ReferentialConstraints) Any (2 ∷ 3 ∷ []) (d t.TableConstraints) IsUnique (0 ∷ 1 ∷ [])
  unique a here any =
      let p = of_referential a here in
      let h = foreign_key_stands c good p.0 p.1 in
      let r = unique_of p.0.key h.0 h.1 h.2 in
      (r.0, r.1, (r.2.0, ap (values (2 ∷ 3 ∷ [])) p.2 ∙ r.2.1))

  pub as_many : Every (d t.ReferentialConstraints) (λ row. (n : ℕ) → HasSome (d t.KeyColumnUsage) (IsAt (0 ∷ 1 ∷ []) 5 (values (0 ∷ 1 ∷ []) row) n) ↔ HasSome (d t.KeyColumnUsage) (IsAt (0 ∷ 1 ∷ []) 5 (values (2 ∷ 3 ∷ []) row) n))
  as_many a here =
      let p = of_referential a here in
      subst (λ row. (n : ℕ) → HasSome (d t.KeyColumnUsage) (IsAt (0 ∷ 1 ∷ []) 5 (values (0 ∷ 1 ∷ []) row) n) ↔ HasSome (d t.KeyColumnUsage) (IsAt (0 ∷ 1 ∷ []) 5 (values (2 ∷ 3 ∷ []) row) n)) (sym p.2) (as_many_of c good d are p.0 p.1)
