-- Table constraints: their tables, and that a table has one primary key at most.
use Rattle.std.proofs.Common.{◌≡◌, refl, sym, ap, subst, ◌∙◌, Bool, false, true, List, [], ◌∷◌, ◌++◌, Some, None}
use Rattle.std.specs.Prelude.{ℕ, codes, slice_get}
use Rattle.std.specs.List.{Contains}
use Rattle.finite_chains.proofs.Members.{Contains-nil, Contains-head}
use Rattle.sql_names.specs.declared.object.Object.{Object}
use Rattle.cat_items.specs.declared.item.Key.{Key}
use Rattle.cat_items.specs.declared.item.Item.{Item}
use Rattle.cat_items.specs.declared.item.Item.TheVariants as item
use Rattle.cat_items.specs.declared.row.Cell.TheVariants.{Words}
use Rattle.cat_items.specs.Good.{IsGood}
use Rattle.cat_items.specs.Reach.{Has}
use Rattle.cat_items.specs.Rights.{path_of, IsBaseTable}
use Rattle.cat_items.specs.Shape.{constraints, name_of}
use Rattle.edit_laws.proofs.GoodCatalogues.{key_table_stands, foreign_table_stands, check_table_stands}
use Rattle.schema_tables.specs.declared.names.SchemaTable.{SchemaTable}
use Rattle.schema_tables.specs.declared.names.SchemaTable.TheVariants as t
use Rattle.schema_tables.specs.Cells.{Row, object_cells}
use Rattle.schema_tables.specs.Shown.{Shown, of_key, of_foreign, of_check}
use Rattle.schema_tables.specs.Sight.{IsShown}
use Rattle.schema_tables.specs.TableRows.{Beside, rows, HasRow, key_kind, table_constraint}
use Rattle.definition_schema.specs.Keys.{values, HasSome, IsKey, Refers, Any, Is}
use Rattle.definition_schema.specs.Definition.{AreDefinitionRows}
use Rattle.definition_schema.proofs.Named.{IsNamed, differ, none, one_object, same_item}
use Rattle.definition_schema.proofs.RowsOf.{only}
use Rattle.definition_schema.proofs.TablesAndViews.{table_is}

-- a constraint of this name and kind, on this table
abbrev pub IsOne : Object → Object → List ℕ → Item → Type 0
IsOne name table kind (item.Key k) = (k.name ≡ name) × (k.table ≡ table) × (key_kind k.primary ≡ kind)
IsOne name table kind (item.Foreign f) = (f.name ≡ name) × (f.table ≡ table) × (codes "FOREIGN KEY" ≡ kind)
IsOne name table kind (item.Check x) = (x.name ≡ name) × (x.table ≡ table) × (codes "CHECK" ≡ kind)
IsOne name table kind x = ⊥

pub record IsConstraintRow (c : List Item) (row : Row) : Type 0 where
  pub name : Object
  pub table : Object
  pub kind : List ℕ
  pub constraint : Item
  pub stands : Contains c constraint
  pub one : IsOne name table kind constraint
  pub is : row ≡ table_constraint name table kind

pub constraint_rows_are : (c : List Item) (row : Row) → HasRow (IsShown c None) t.TableConstraints row → IsConstraintRow c row
constraint_rows_are c row h = by h.0 h.1 h.2 h.4
  where
    by : (s : Shown) (m : Beside) → IsShown c None s → Contains (rows t.TableConstraints m s) row → IsConstraintRow c row
    by (of_key k) m p among = record { name = k.name; table = k.table; kind = key_kind k.primary; constraint = item.Key k; stands = p.0; one = (refl, refl, refl); is = only _ _ among }
    by (of_foreign f) m p among = record { name = f.name; table = f.table; kind = codes "FOREIGN KEY"; constraint = item.Foreign f; stands = p.0; one = (refl, refl, refl); is = only _ _ among }
    by (of_check x) m p among = record { name = x.name; table = x.table; kind = codes "CHECK"; constraint = item.Check x; stands = p.0; one = (refl, refl, refl); is = only _ _ among }
    by _ m p among = absurd (Contains-nil _ among)

pub one_name : (name table : Object) (kind : List ℕ) (x : Item) → IsOne name table kind x → name_of x ≡ Some (constraints, path_of name)
one_name name table kind (item.Key k) e = ap (λ o. Some (constraints, path_of o)) e.0
one_name name table kind (item.Foreign f) e = ap (λ o. Some (constraints, path_of o)) e.0
one_name name table kind (item.Check x) e = ap (λ o. Some (constraints, path_of o)) e.0
one_name name table kind _ e = absurd e

one_row : (n m : Object) (s u : Object) (k l : List ℕ) (x : Item) → IsOne n s k x → IsOne m u l x → table_constraint n s k ≡ table_constraint m u l
one_row n m s u k l (item.Key x) p q = λ i. table_constraint ((sym p.0 ∙ q.0) i) ((sym p.1 ∙ q.1) i) ((sym p.2 ∙ q.2) i)
one_row n m s u k l (item.Foreign x) p q = λ i. table_constraint ((sym p.0 ∙ q.0) i) ((sym p.1 ∙ q.1) i) ((sym p.2 ∙ q.2) i)
one_row n m s u k l (item.Check x) p q = λ i. table_constraint ((sym p.0 ∙ q.0) i) ((sym p.1 ∙ q.1) i) ((sym p.2 ∙ q.2) i)
one_row n m s u k l _ p q = absurd p

-- what kind of item has which kind of constraint
key_of_primary : (name table : Object) (x : Item) → IsOne name table (codes "PRIMARY KEY") x → (k : Key) × (x ≡ item.Key k) × (k.primary ≡ true) × (k.table ≡ table)
key_of_primary name table (item.Key k) e = (k, refl, primary k.primary e.2, e.1)
  where
    primary : (b : Bool) → key_kind b ≡ codes "PRIMARY KEY" → b ≡ true
    primary true e = refl
    primary false e = absurd (differ (codes "UNIQUE") (codes "PRIMARY KEY") refl e)
key_of_primary name table (item.Foreign f) e = absurd (differ (codes "FOREIGN KEY") (codes "PRIMARY KEY") refl e.2)
key_of_primary name table (item.Check x) e = absurd (differ (codes "CHECK") (codes "PRIMARY KEY") refl e.2)
key_of_primary name table _ e = absurd e

module _ (c : List Item) (good : IsGood c) (d : SchemaTable → List Row) (are : AreDefinitionRows c d) where
  pub of_constraints : (a : Row) → Contains (d t.TableConstraints) a → IsConstraintRow c a
  of_constraints a is = constraint_rows_are c a (((are t.TableConstraints tt).members a).0 is)

  pub constraint_is : (name table : Object) (kind : List ℕ) (x : Item) → Contains c x → IsOne name table kind x → Contains (d t.TableConstraints) (table_constraint name table kind)
  constraint_is name table kind (item.Key k) here e =
      subst (Contains (d t.TableConstraints)) (λ i. table_constraint (e.0 i) (e.1 i) (e.2 i))
      (((are t.TableConstraints tt).members _).1 (of_key k, none, (here, tt), (refl, refl, refl), Contains-head (table_constraint k.name k.table (key_kind k.primary)) []))
  constraint_is name table kind (item.Foreign f) here e =
      subst (Contains (d t.TableConstraints)) (λ i. table_constraint (e.0 i) (e.1 i) (e.2 i))
      (((are t.TableConstraints tt).members _).1 (of_foreign f, none, (here, tt), (refl, refl, refl), Contains-head (table_constraint f.name f.table (codes "FOREIGN KEY")) []))
  constraint_is name table kind (item.Check x) here e =
      subst (Contains (d t.TableConstraints)) (λ i. table_constraint (e.0 i) (e.1 i) (e.2 i))
      (((are t.TableConstraints tt).members _).1 (of_check x, none, (here, tt), (refl, refl, refl), Contains-head (table_constraint x.name x.table (codes "CHECK")) []))
  constraint_is name table kind _ here e = absurd e

  pub constraint_named : (a : Row) (p : IsConstraintRow c a) → IsNamed c constraints a p.constraint
  constraint_named a p = record { name = p.name; stands = p.stands; named = one_name p.name p.table p.kind p.constraint p.one; at = ap (values (0 ∷ 1 ∷ [])) p.is }

  pub table_names : IsKey (d t.TableConstraints) (0 ∷ 1 ∷ [])
  table_names a b here there e =
      let p = of_constraints a here in
      let q = of_constraints b there in
      let x = same_item c good constraints a b p.constraint q.constraint (constraint_named a p) (constraint_named b q) e in
      p.is ∙ one_row p.name q.name p.table q.table p.kind q.kind q.constraint (subst (IsOne p.name p.table p.kind) x p.one) q.one ∙ sym q.is

  base_table_row : (table : Object) (y : Item) → Contains c y → IsBaseTable table y → HasSome (d t.Tables) (λ b. Is 2 (codes "BASE TABLE") b × ((Some (Words table.schema) ∷ Some (Words table.name) ∷ []) ≡ values (0 ∷ 1 ∷ []) b))
  base_table_row table (item.Table o) here e = (object_cells o ++ Words (codes "BASE TABLE") ∷ [], table_is c good d are o here, (refl, λ i. Some (Words (sym e i).schema) ∷ Some (Words (sym e i).name) ∷ []))
  base_table_row table _ here e = absurd e

  base_table : (name table : Object) (kind : List ℕ) (x : Item) → Contains c x → IsOne name table kind x → Has c (IsBaseTable table)
  base_table name table kind (item.Key k) here e = subst (λ o. Has c (IsBaseTable o)) e.1 (key_table_stands c good k here)
  base_table name table kind (item.Foreign f) here e = subst (λ o. Has c (IsBaseTable o)) e.1 (foreign_table_stands c good f here)
  base_table name table kind (item.Check x) here e = subst (λ o. Has c (IsBaseTable o)) e.1 (check_table_stands c good x here)
  base_table name table kind _ here e = absurd e

  pub constraint_tables : Refers (d t.TableConstraints) Any (2 ∷ 3 ∷ []) (d t.Tables) (Is 2 (codes "BASE TABLE")) (0 ∷ 1 ∷ [])
  constraint_tables a here any =
      let p = of_constraints a here in
      let h = base_table p.name p.table p.kind p.constraint p.stands p.one in
      let r = base_table_row p.table h.0 h.1 h.2 in
      (r.0, r.1, (r.2.0, ap (values (2 ∷ 3 ∷ [])) p.is ∙ r.2.1))

  pub primary_keys : (a b : Row) → Contains (d t.TableConstraints) a → Contains (d t.TableConstraints) b → Is 4 (codes "PRIMARY KEY") a → Is 4 (codes "PRIMARY KEY") b → values (2 ∷ 3 ∷ []) a ≡ values (2 ∷ 3 ∷ []) b → a ≡ b
  primary_keys a b here there first second e =
      let p = of_constraints a here in
      let q = of_constraints b there in
      let kind : p.kind ≡ codes "PRIMARY KEY" = cc (sym (ap (λ r. slice_get r 4) p.is) ∙ first) in
      let other : q.kind ≡ codes "PRIMARY KEY" = cc (sym (ap (λ r. slice_get r 4) q.is) ∙ second) in
      let k = key_of_primary p.name p.table p.constraint (subst (λ z. IsOne p.name p.table z p.constraint) kind p.one) in
      let l = key_of_primary q.name q.table q.constraint (subst (λ z. IsOne q.name q.table z q.constraint) other q.one) in
      let same : values (2 ∷ 3 ∷ []) (table_constraint p.name p.table p.kind) ≡ values (2 ∷ 3 ∷ []) (table_constraint q.name q.table q.kind) = sym (ap (values (2 ∷ 3 ∷ [])) p.is) ∙ e ∙ ap (values (2 ∷ 3 ∷ [])) q.is in
      let schema : p.table.schema ≡ q.table.schema = cc in
      let name : p.table.name ≡ q.table.name = cc in
      let table : p.table ≡ q.table = one_object p.table q.table schema name in
      let keys : k.0 ≡ l.0 = good.shape.primary k.0 l.0 (subst (Contains c) k.1 p.stands) (subst (Contains c) l.1 q.stands) (k.3 ∙ table ∙ sym l.3) k.2 l.2 in
      let x : p.constraint ≡ q.constraint = k.1 ∙ ap item.Key keys ∙ sym l.1 in
      p.is ∙ one_row p.name q.name p.table q.table p.kind q.kind q.constraint (subst (IsOne p.name p.table p.kind) x p.one) q.one ∙ sym q.is
