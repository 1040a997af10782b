-- Schemas, tables and views.
use Rattle.std.proofs.Common.{◌≡◌, refl, sym, ap, subst, ◌∙◌, ℕ, false, List, [], ◌∷◌, ◌++◌, Some, None}
use Rattle.std.specs.Prelude.{codes, is_some, slice_get}
use Rattle.std.specs.List.{Contains}
use Rattle.std.specs.Cmp.{nat_cmp_total}
use Rattle.std.specs.Cmp.Lexicographic.{lists_total}
use Rattle.std.specs.declared.cmp.Ordering.TheVariants.{Equal}
use Rattle.std.proofs.lemmas.Cmp.{tied_itself}
use Rattle.finite_chains.proofs.Members.{Contains-nil, Contains-head}
use Rattle.sql_names.specs.declared.object.Object.{Object}
use Rattle.cat_items.specs.declared.item.Schema.{Schema}
use Rattle.cat_items.specs.declared.item.View.{View}
use Rattle.cat_items.specs.declared.item.Item.{Item}
use Rattle.cat_items.specs.declared.item.Item.TheVariants as item
use Rattle.cat_items.specs.declared.row.Cell.TheVariants.{Words}
use Rattle.cat_items.specs.Good.{IsGood}
use Rattle.cat_items.specs.Order.{name_cmp}
use Rattle.cat_items.specs.Reach.{Has}
use Rattle.cat_items.specs.Rights.{path_of, IsSchema}
use Rattle.cat_items.specs.Shape.{tables, name_of}
use Rattle.edit_laws.proofs.EditedLists.{one_by_key}
use Rattle.edit_laws.proofs.GoodCatalogues.{good_order, owner_stands, table_schema_stands, view_schema_stands}
use Rattle.schema_tables.specs.declared.names.SchemaTable.{SchemaTable}
use Rattle.schema_tables.specs.declared.names.SchemaTable.TheVariants as t
use Rattle.schema_tables.specs.Cells.{Row, object_cells}
use Rattle.schema_tables.specs.Shown.{Shown, ShownView, of_schema, of_table, of_view}
use Rattle.schema_tables.specs.Sight.{IsShown, IsShownView}
use Rattle.schema_tables.specs.TableRows.{Beside, rows, HasRow, view_row}
use Rattle.definition_schema.specs.Keys.{values, HasSome, IsKey, Refers, Any, Is}
use Rattle.definition_schema.specs.Constraints.{TablesHold}
use Rattle.definition_schema.specs.Definition.{AreDefinitionRows}
use Rattle.definition_schema.proofs.RowsOf.{only}
use Rattle.definition_schema.proofs.Rights.{authorization}
use Rattle.definition_schema.proofs.TableColumns.{IsTableNamed, IsTableRow, table_kind, table_rows_are}
use Rattle.definition_schema.proofs.Named.{differ, one_object}

abbrev schema_row : Schema → Row
schema_row s = Words s.name ∷ Words s.owner ∷ []

schema_rows_are : (c : List Item) (row : Row) → HasRow (IsShown c None) t.Schemata row → (s : Schema) × Contains c (item.Schema s) × (row ≡ schema_row s)
schema_rows_are c row h = by h.0 h.1 h.2 h.4
  where
    by : (s : Shown) (m : Beside) → IsShown c None s → Contains (rows t.Schemata m s) row → (x : Schema) × Contains c (item.Schema x) × (row ≡ schema_row x)
    by (of_schema x) m p k = (x, p.0, only _ _ k)
    by _ m p k = absurd (Contains-nil _ k)

abbrev whole_view : View → ShownView
whole_view v = record { view = v.view; query = Some v.query; plain = is_some v.base }

is_whole : (c : List Item) (v : View) (s : ShownView) → IsShownView c None v s → s ≡ whole_view v
is_whole c v s p = λ i. record { view = p.1 i; query = p.2.0 tt i; plain = p.3 i }

view_rows_are : (c : List Item) (row : Row) → HasRow (IsShown c None) t.Views row → (v : View) × Contains c (item.View v) × (row ≡ view_row (whole_view v))
view_rows_are c row h = by h.0 h.1 h.2 h.4
  where
    by : (s : Shown) (m : Beside) → IsShown c None s → Contains (rows t.Views m s) row → (v : View) × Contains c (item.View v) × (row ≡ view_row (whole_view v))
    by (of_view s) m p k = (p.0, p.1, only _ _ k ∙ ap view_row (is_whole c p.0 s p.2))
    by _ m p k = absurd (Contains-nil _ k)

named : (o : Object) (x : Item) → IsTableNamed o x → name_of x ≡ Some (tables, path_of o)
named o (item.Table q) e = ap (λ z. Some (tables, path_of z)) e
named o (item.View v) e = ap (λ z. Some (tables, path_of z)) e
named o _ e = absurd e

module _ (c : List Item) (good : IsGood c) (d : SchemaTable → List Row) (are : AreDefinitionRows c d) where
  of_schemata : (a : Row) → Contains (d t.Schemata) a → (s : Schema) × Contains c (item.Schema s) × (a ≡ schema_row s)
  of_schemata a is = schema_rows_are c a (((are t.Schemata tt).members a).0 is)

  of_tables : (a : Row) → Contains (d t.Tables) a → IsTableRow c a
  of_tables a is = table_rows_are c a (((are t.Tables tt).members a).0 is)

  of_views : (a : Row) → Contains (d t.Views) a → (v : View) × Contains c (item.View v) × (a ≡ view_row (whole_view v))
  of_views a is = view_rows_are c a (((are t.Views tt).members a).0 is)

  schema_is : (s : Schema) → Contains c (item.Schema s) → Contains (d t.Schemata) (schema_row s)
  schema_is s here = ((are t.Schemata tt).members (schema_row s)).1 (of_schema s, record { same = false; option = false; role = false }, (here, tt), (refl, refl, refl), Contains-head (schema_row s) [])

  view_is : (v : View) → Contains c (item.View v) → Contains (d t.Views) (view_row (whole_view v))
  view_is v here = ((are t.Views tt).members (view_row (whole_view v))).1 (of_view (whole_view v), record { same = false; option = false; role = false }, (v, here, (tt, refl, (λ h. refl, λ never. absurd (never tt)), refl)), (refl, refl, refl), Contains-head (view_row (whole_view v)) [])

  pub table_is : (o : Object) → Contains c (item.Table o) → Contains (d t.Tables) (object_cells o ++ Words (codes "BASE TABLE") ∷ [])
  table_is o here = ((are t.Tables tt).members _).1 (of_table o, record { same = false; option = false; role = false }, (here, tt), (refl, refl, refl), Contains-head (object_cells o ++ Words (codes "BASE TABLE") ∷ []) [])

  pub view_table_is : (v : View) → Contains c (item.View v) → Contains (d t.Tables) (object_cells v.view ++ Words (codes "VIEW") ∷ [])
  view_table_is v here = ((are t.Tables tt).members _).1 (of_view (whole_view v), record { same = false; option = false; role = false }, (v, here, (tt, refl, (λ h. refl, λ never. absurd (never tt)), refl)), (refl, refl, refl), Contains-head (object_cells v.view ++ Words (codes "VIEW") ∷ []) [])

  -- two schemas of one name are one
  one_schema : (s u : Schema) → Contains c (item.Schema s) → Contains c (item.Schema u) → s.name ≡ u.name → item.Schema s ≡ item.Schema u
  one_schema s u here there e = one_by_key c (good_order c good) (item.Schema s) (item.Schema u) here there (subst (λ n. name_cmp s.name n ≡ Equal) e (tied_itself (lists_total nat_cmp_total) s.name))

  schema_key : IsKey (d t.Schemata) (0 ∷ [])
  schema_key a b here there e =
      let p = of_schemata a here in
      let q = of_schemata b there in
      let same : values (0 ∷ []) (schema_row p.0) ≡ values (0 ∷ []) (schema_row q.0) = sym (ap (values (0 ∷ [])) p.2) ∙ e ∙ ap (values (0 ∷ [])) q.2 in
      let name : p.0.name ≡ q.0.name = cc in
      let schema : item.Schema p.0 ≡ item.Schema q.0 = one_schema p.0 q.0 p.1 q.1 name in
      let x : p.0 ≡ q.0 = cc in
      p.2 ∙ ap schema_row x ∙ sym q.2

  schema_owner : Refers (d t.Schemata) Any (1 ∷ []) (d t.Authorizations) Any (0 ∷ [])
  schema_owner a here any =
      let p = of_schemata a here in
      let r = authorization c good d are p.0.owner (owner_stands c good p.0 p.1) in
      (r.0, r.1, (tt, ap (values (1 ∷ [])) p.2 ∙ λ i. r.2 i ∷ []))

  key : IsKey (d t.Tables) (0 ∷ 1 ∷ [])
  key a b here there e =
      let p = of_tables a here in
      let q = of_tables b there in
      let same : values (0 ∷ 1 ∷ []) (object_cells p.0 ++ Words (table_kind p.1) ∷ []) ≡ values (0 ∷ 1 ∷ []) (object_cells q.0 ++ Words (table_kind q.1) ∷ []) = sym (ap (values (0 ∷ 1 ∷ [])) p.4) ∙ e ∙ ap (values (0 ∷ 1 ∷ [])) q.4 in
      let schema : p.0.schema ≡ q.0.schema = cc in
      let name : p.0.name ≡ q.0.name = cc in
      let o : p.0 ≡ q.0 = one_object p.0 q.0 schema name in
      let x : p.1 ≡ q.1 = good.shape.names p.1 q.1 (tables, path_of q.0) p.2 q.2 (named p.0 p.1 p.3 ∙ ap (λ z. Some (tables, path_of z)) o) (named q.0 q.1 q.3) in
      p.4 ∙ ap (λ z. object_cells z ++ Words (table_kind p.1) ∷ []) o ∙ ap (λ z. object_cells q.0 ++ Words (table_kind z) ∷ []) x ∙ sym q.4

  in_schema : (o : Object) (x : Item) → Contains c x → IsTableNamed o x → Has c (IsSchema o.schema)
  in_schema o (item.Table q) here e = subst (λ z. Has c (IsSchema z.schema)) e (table_schema_stands c good q here)
  in_schema o (item.View v) here e = subst (λ z. Has c (IsSchema z.schema)) e (view_schema_stands c good v here)
  in_schema o _ here e = absurd e

  pub schema_named : (name : List ℕ) (y : Item) → Contains c y → IsSchema name y → HasSome (d t.Schemata) (λ b. Any b × ((Some (Words name) ∷ []) ≡ values (0 ∷ []) b))
  schema_named name (item.Schema s) here e = (schema_row s, schema_is s here, (tt, λ i. Some (Words (sym e i)) ∷ []))
  schema_named name _ here e = absurd e

  schema : Refers (d t.Tables) Any (0 ∷ []) (d t.Schemata) Any (0 ∷ [])
  schema a here any =
      let p = of_tables a here in
      let s = in_schema p.0 p.1 p.2 p.3 in
      let r = schema_named p.0.schema s.0 s.1 s.2 in
      (r.0, r.1, (tt, ap (values (0 ∷ [])) p.4 ∙ r.2.1))

  views_key : IsKey (d t.Views) (0 ∷ 1 ∷ [])
  views_key a b here there e =
      let p = of_views a here in
      let q = of_views b there in
      let same : values (0 ∷ 1 ∷ []) (view_row (whole_view p.0)) ≡ values (0 ∷ 1 ∷ []) (view_row (whole_view q.0)) = sym (ap (values (0 ∷ 1 ∷ [])) p.2) ∙ e ∙ ap (values (0 ∷ 1 ∷ [])) q.2 in
      let schema : p.0.view.schema ≡ q.0.view.schema = cc in
      let name : p.0.view.name ≡ q.0.view.name = cc in
      let o : p.0.view ≡ q.0.view = one_object p.0.view q.0.view schema name in
      let v : item.View p.0 ≡ item.View q.0 = good.shape.names (item.View p.0) (item.View q.0) (tables, path_of q.0.view) p.1 q.1 (ap (λ z. Some (tables, path_of z)) o) refl in
      let x : p.0 ≡ q.0 = cc in
      p.2 ∙ ap (λ z. view_row (whole_view z)) x ∙ sym q.2

  views : Refers (d t.Views) Any (0 ∷ 1 ∷ []) (d t.Tables) (Is 2 (codes "VIEW")) (0 ∷ 1 ∷ [])
  views a here any =
      let p = of_views a here in
      (object_cells p.0.view ++ Words (codes "VIEW") ∷ [], view_table_is p.0 p.1, (refl, ap (values (0 ∷ 1 ∷ [])) p.2))

  view_of : (o : Object) (x : Item) → Contains c x → IsTableNamed o x → Some (Words (table_kind x)) ≡ Some (Words (codes "VIEW")) → HasSome (d t.Views) (λ b. Any b × ((Some (Words o.schema) ∷ Some (Words o.name) ∷ []) ≡ values (0 ∷ 1 ∷ []) b))
  view_of o (item.View v) here e k = (view_row (whole_view v), view_is v here, (tt, λ i. Some (Words (sym e i).schema) ∷ Some (Words (sym e i).name) ∷ []))
  view_of o (item.Table q) here e k = absurd (differ (codes "BASE TABLE") (codes "VIEW") refl (cc))
  view_of o _ here e k = absurd e

  all_views : Refers (d t.Tables) (Is 2 (codes "VIEW")) (0 ∷ 1 ∷ []) (d t.Views) Any (0 ∷ 1 ∷ [])
  all_views a here kind =
      let p = of_tables a here in
      let r = view_of p.0 p.1 p.2 p.3 (sym (ap (λ z. slice_get z 2) p.4) ∙ kind) in
      (r.0, r.1, (tt, ap (values (0 ∷ 1 ∷ [])) p.4 ∙ r.2.1))

  pub tables_hold : TablesHold d
  tables_hold = record { schema_names_differ = schema_key; schema_owners_stand = schema_owner; table_names_differ = key; table_schemas_stand = schema; view_names_differ = views_key; views_are_tables = views; tables_of_type_view_are_views = all_views }
