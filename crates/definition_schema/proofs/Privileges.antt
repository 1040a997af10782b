-- Privileges: their keys, and that their objects stand.
use Rattle.std.proofs.Common.{◌≡◌, ◌↔◌, refl, sym, ap, subst, ◌∙◌, ℕ, Bool, false, IsTrue, List, [], ◌∷◌, ◌++◌, Option, Some, None, map}
use Rattle.std.specs.Prelude.{codes, if◌then◌else◌}
use Rattle.std.specs.List.{Contains}
use Rattle.std.specs.Str.{bytes_eq}
use Rattle.finite_chains.proofs.Members.{Contains-nil}
use Rattle.sql_names.specs.declared.object.Object.{Object}
use Rattle.sql_tree.specs.declared.rights.Action.{Action}
use Rattle.sql_tree.specs.declared.rights.Action.TheVariants as action
use Rattle.cat_items.specs.declared.need.Auth.{Auth}
use Rattle.cat_items.specs.declared.need.Auth.TheVariants as auths
use Rattle.cat_items.specs.declared.item.Right.{Right}
use Rattle.cat_items.specs.declared.item.Item.{Item}
use Rattle.cat_items.specs.declared.item.Item.TheVariants as item
use Rattle.cat_items.specs.declared.row.Cell.TheVariants.{Words}
use Rattle.cat_items.specs.Good.{IsGood}
use Rattle.cat_items.specs.ItemTexts.{action_text}
use Rattle.cat_items.specs.Reach.{Has}
use Rattle.cat_items.specs.Rights.{path_of, HasColumn, IsColumn, IsDomain, IsObject, IsRoutine, IsTable}
use Rattle.cat_items.specs.Supported.{MayGrant}
use Rattle.cat_items.specs.Supported as supported
use Rattle.edit_laws.proofs.GoodCatalogues.{held_grantee_stands, held_is_granted, held_need_stands}
use Rattle.schema_tables.specs.declared.names.SchemaTable.{SchemaTable}
use Rattle.schema_tables.specs.declared.names.SchemaTable.TheVariants as t
use Rattle.schema_tables.specs.Cells.{Row, action_cell, auth_cell, yes_cell}
use Rattle.schema_tables.specs.Shown.{Shown, of_held, of_grantable}
use Rattle.schema_tables.specs.Sight.{IsShown}
use Rattle.schema_tables.specs.TableRows.{Beside, IsBeside, rows, HasRow, RightTable, on_table, on_column, on_domain, on_routine, on_nothing, column_cells, domain_kind, right_row, right_rows_of, right_table}
use Rattle.definition_schema.specs.Keys.{values, IsKey, Refers, Any}
use Rattle.definition_schema.specs.Constraints.{PrivilegesHold}
use Rattle.definition_schema.specs.Definition.{AreDefinitionRows}
use Rattle.definition_schema.proofs.Columns.{table_of}
use Rattle.definition_schema.proofs.Domains.{domain_named}
use Rattle.definition_schema.proofs.KeyColumns.{column_named}
use Rattle.definition_schema.proofs.Named.{one_object}
use Rattle.definition_schema.proofs.Rights.{IsRightRow, parties}
use Rattle.definition_schema.proofs.RoleRows.{HasProperName, one_auth, proper, same_flag}
use Rattle.definition_schema.proofs.Routines.{routine_named}
use Rattle.definition_schema.proofs.RowsOf.{only}
use Rattle.definition_schema.proofs.Whole.{IsWhole, no_column_named}

-- ---- the rows of the four tables

-- what stands between the object and the action
abbrev more_of : RightTable → Option (List ℕ) → Row
more_of on_column column = column_cells column
more_of on_domain column = domain_kind
more_of other column = []

in_tables : (kind : RightTable) (m : Beside) (r : Right) (row : Row) → Contains (right_rows_of t.TablePrivileges kind m r) row → (kind ≡ on_table) × (row ≡ right_row r [] m.option)
in_tables on_table m r row k = (refl, only _ _ k)
in_tables on_column m r row k = absurd (Contains-nil _ k)
in_tables on_domain m r row k = absurd (Contains-nil _ k)
in_tables on_routine m r row k = absurd (Contains-nil _ k)
in_tables on_nothing m r row k = absurd (Contains-nil _ k)

in_columns : (kind : RightTable) (m : Beside) (r : Right) (row : Row) → Contains (right_rows_of t.ColumnPrivileges kind m r) row → (kind ≡ on_column) × (row ≡ right_row r (column_cells r.need.column) m.option)
in_columns on_table m r row k = absurd (Contains-nil _ k)
in_columns on_column m r row k = (refl, only _ _ k)
in_columns on_domain m r row k = absurd (Contains-nil _ k)
in_columns on_routine m r row k = absurd (Contains-nil _ k)
in_columns on_nothing m r row k = absurd (Contains-nil _ k)

in_usages : (kind : RightTable) (m : Beside) (r : Right) (row : Row) → Contains (right_rows_of t.UsagePrivileges kind m r) row → (kind ≡ on_domain) × (row ≡ right_row r domain_kind m.option)
in_usages on_table m r row k = absurd (Contains-nil _ k)
in_usages on_column m r row k = absurd (Contains-nil _ k)
in_usages on_domain m r row k = (refl, only _ _ k)
in_usages on_routine m r row k = absurd (Contains-nil _ k)
in_usages on_nothing m r row k = absurd (Contains-nil _ k)

in_routines : (kind : RightTable) (m : Beside) (r : Right) (row : Row) → Contains (right_rows_of t.RoutinePrivileges kind m r) row → (kind ≡ on_routine) × (row ≡ right_row r [] m.option)
in_routines on_table m r row k = absurd (Contains-nil _ k)
in_routines on_column m r row k = absurd (Contains-nil _ k)
in_routines on_domain m r row k = absurd (Contains-nil _ k)
in_routines on_routine m r row k = (refl, only _ _ k)
in_routines on_nothing m r row k = absurd (Contains-nil _ k)

record IsRow (c : List Item) (kind : RightTable) (row : Row) : Type 0 where
  right : Right
  stands : Contains c (item.Held right)
  kind_is : right_table right.need.action right.need.column ≡ kind
  flag : Bool
  grantable : IsTrue flag ↔ IsShown c None (of_grantable right)
  is : row ≡ right_row right (more_of kind right.need.column) flag

table_rows_are : (c : List Item) (row : Row) → HasRow (IsShown c None) t.TablePrivileges row → IsRow c on_table row
table_rows_are c row h = by h.0 h.1 h.2 h.3 h.4
  where
    by : (s : Shown) (m : Beside) → IsShown c None s → IsBeside (IsShown c None) s m → Contains (rows t.TablePrivileges m s) row → IsRow c on_table row
    by (of_held r) m p b k = let q = in_tables (right_table r.need.action r.need.column) m r row k in record { right = r; stands = p.0; kind_is = q.0; flag = m.option; grantable = b.1; is = q.1 }
    by _ m p b k = absurd (Contains-nil _ k)

column_rows_are : (c : List Item) (row : Row) → HasRow (IsShown c None) t.ColumnPrivileges row → IsRow c on_column row
column_rows_are c row h = by h.0 h.1 h.2 h.3 h.4
  where
    by : (s : Shown) (m : Beside) → IsShown c None s → IsBeside (IsShown c None) s m → Contains (rows t.ColumnPrivileges m s) row → IsRow c on_column row
    by (of_held r) m p b k = let q = in_columns (right_table r.need.action r.need.column) m r row k in record { right = r; stands = p.0; kind_is = q.0; flag = m.option; grantable = b.1; is = q.1 }
    by _ m p b k = absurd (Contains-nil _ k)

usage_rows_are : (c : List Item) (row : Row) → HasRow (IsShown c None) t.UsagePrivileges row → IsRow c on_domain row
usage_rows_are c row h = by h.0 h.1 h.2 h.3 h.4
  where
    by : (s : Shown) (m : Beside) → IsShown c None s → IsBeside (IsShown c None) s m → Contains (rows t.UsagePrivileges m s) row → IsRow c on_domain row
    by (of_held r) m p b k = let q = in_usages (right_table r.need.action r.need.column) m r row k in record { right = r; stands = p.0; kind_is = q.0; flag = m.option; grantable = b.1; is = q.1 }
    by _ m p b k = absurd (Contains-nil _ k)

routine_rows_are : (c : List Item) (row : Row) → HasRow (IsShown c None) t.RoutinePrivileges row → IsRow c on_routine row
routine_rows_are c row h = by h.0 h.1 h.2 h.3 h.4
  where
    by : (s : Shown) (m : Beside) → IsShown c None s → IsBeside (IsShown c None) s m → Contains (rows t.RoutinePrivileges m s) row → IsRow c on_routine row
    by (of_held r) m p b k = let q = in_routines (right_table r.need.action r.need.column) m r row k in record { right = r; stands = p.0; kind_is = q.0; flag = m.option; grantable = b.1; is = q.1 }
    by _ m p b k = absurd (Contains-nil _ k)

-- ---- what the kind says of the action and the column

no_column : (a : Action) (column : Option (List ℕ)) → right_table a column ≡ on_table → column ≡ None
no_column action.Usage column e = cc
no_column action.Execute column e = cc
no_column action.Admin column e = cc
no_column _ None e = refl
no_column _ (Some name) e = cc

some_column : (a : Action) (column : Option (List ℕ)) → right_table a column ≡ on_column → (name : List ℕ) × (column ≡ Some name)
some_column action.Usage column e = cc
some_column action.Execute column e = cc
some_column action.Admin column e = cc
some_column _ None e = cc
some_column _ (Some name) e = (name, refl)

-- the action is one on tables
abbrev IsOnTable : Action → Type 0
IsOnTable action.Usage = ⊥
IsOnTable action.Execute = ⊥
IsOnTable action.Admin = ⊥
IsOnTable other = Unit {0}

on_table_by : (a : Action) (column : Option (List ℕ)) → right_table a column ≡ on_table → IsOnTable a
on_table_by action.Usage column e = cc
on_table_by action.Execute column e = cc
on_table_by action.Admin column e = cc
on_table_by _ column e = tt

on_column_by : (a : Action) (column : Option (List ℕ)) → right_table a column ≡ on_column → IsOnTable a
on_column_by action.Usage column e = cc
on_column_by action.Execute column e = cc
on_column_by action.Admin column e = cc
on_column_by _ column e = tt

on_domain_by : (a : Action) (column : Option (List ℕ)) → right_table a column ≡ on_domain → a ≡ action.Usage
on_domain_by action.Usage column e = refl
on_domain_by action.Execute column e = cc
on_domain_by action.Admin column e = cc
on_domain_by _ None e = cc
on_domain_by _ (Some name) e = cc

on_routine_by : (a : Action) (column : Option (List ℕ)) → right_table a column ≡ on_routine → a ≡ action.Execute
on_routine_by action.Usage column e = cc
on_routine_by action.Execute column e = refl
on_routine_by action.Admin column e = cc
on_routine_by _ None e = cc
on_routine_by _ (Some name) e = cc

on_table_stands : (a : Action) (on : List (List ℕ)) (x : Item) → IsOnTable a → IsObject a on x → IsTable on x
on_table_stands action.Select on x is h = h
on_table_stands action.Insert on x is h = h
on_table_stands action.Update on x is h = h
on_table_stands action.Delete on x is h = h
on_table_stands action.References on x is h = h
on_table_stands _ on x is h = absurd is

-- an action is told by its text
back : List ℕ → Action
back text = if bytes_eq text (codes "SELECT") then action.Select
    else (if bytes_eq text (codes "INSERT") then action.Insert
    else (if bytes_eq text (codes "UPDATE") then action.Update
    else (if bytes_eq text (codes "DELETE") then action.Delete
    else (if bytes_eq text (codes "REFERENCES") then action.References
    else (if bytes_eq text (codes "USAGE") then action.Usage
    else (if bytes_eq text (codes "EXECUTE") then action.Execute
    else action.Admin))))))

told : (a : Action) → back (action_text a) ≡ a
unfolding back
told action.Select = refl
told action.Insert = refl
told action.Update = refl
told action.Delete = refl
told action.References = refl
told action.Usage = refl
told action.Execute = refl
told action.Admin = refl

one_action : (a b : Action) → action_text a ≡ action_text b → a ≡ b
one_action a b e = sym (told a) ∙ ap back e ∙ told b

-- ---- rows whose object has two names

abbrev privilege : Auth → Auth → Object → Row → Action → Bool → Row
privilege grantor grantee o more a flag = auth_cell grantor ∷ auth_cell grantee ∷ Words o.schema ∷ Words o.name ∷ more ++ action_cell a ∷ yes_cell flag ∷ []

abbrev spelled : Right → List (List ℕ) → Row → Bool → Row
spelled r on more flag = auth_cell r.grantor ∷ auth_cell r.grantee ∷ map Words on ++ more ++ action_cell r.need.action ∷ yes_cell flag ∷ []

two_names : (r : Right) (o : Object) (more : Row) (flag : Bool) → r.need.on ≡ path_of o → right_row r more flag ≡ privilege r.grantor r.grantee o more r.need.action flag
two_names r o more flag e = ap (λ on. spelled r on more flag) e

path_of_table : (on : List (List ℕ)) (x : Item) → IsTable on x → (o : Object) × (on ≡ path_of o)
path_of_table on (item.Table q) e = (q, e)
path_of_table on (item.View v) e = (v.view, e)
path_of_table on _ e = absurd e

path_of_domain : (on : List (List ℕ)) (x : Item) → IsDomain on x → (o : Object) × (on ≡ path_of o)
path_of_domain on (item.Domain q) e = (q.domain, e)
path_of_domain on _ e = absurd e

path_of_routine : (on : List (List ℕ)) (x : Item) → IsRoutine on x → (o : Object) × (on ≡ path_of o)
path_of_routine on (item.Routine q) e = (q.routine, e)
path_of_routine on _ e = absurd e

one_right : (r q : Right) → r.need.action ≡ q.need.action → r.need.on ≡ q.need.on → r.need.column ≡ q.need.column → r.grantor ≡ q.grantor → r.grantee ≡ q.grantee → r ≡ q
one_right r q a on column grantor grantee = λ i. record { need = record { action = a i; on = on i; column = column i }; grantor = grantor i; grantee = grantee i }

module _ (c : List Item) (good : IsGood c) (d : SchemaTable → List Row) (are : AreDefinitionRows c d) where
  grantor_name : (r : Right) (by : Auth) → MayGrant false c r by → HasProperName by
  grantor_name r auths.System may = tt
  grantor_name r auths.Public may = tt
  grantor_name r (auths.Named name) may = proper c good d are name may.0.0 may.0.1 may.0.2

  grantee_name : (to : Auth) → supported.IsGrantee c to → HasProperName to
  grantee_name auths.System stands = tt
  grantee_name auths.Public stands = tt
  grantee_name (auths.Named name) stands = proper c good d are name stands.0 stands.1 stands.2

  -- two rows of the same values are one
  one_row : (kind : RightTable) (a b : Row) (p : IsRow c kind a) (q : IsRow c kind b) (o u : Object) → p.right.need.on ≡ path_of o → q.right.need.on ≡ path_of u
      → auth_cell p.right.grantor ≡ auth_cell q.right.grantor → auth_cell p.right.grantee ≡ auth_cell q.right.grantee → o.schema ≡ u.schema → o.name ≡ u.name
      → action_text p.right.need.action ≡ action_text q.right.need.action → p.right.need.column ≡ q.right.need.column → a ≡ b
  one_row kind a b p q o u on other grantor grantee schema name act column =
      let by = one_auth p.right.grantor q.right.grantor (grantor_name p.right p.right.grantor (held_is_granted c good p.right p.stands)) (grantor_name q.right q.right.grantor (held_is_granted c good q.right q.stands)) grantor in
      let to = one_auth p.right.grantee q.right.grantee (grantee_name p.right.grantee (held_grantee_stands c good p.right p.stands)) (grantee_name q.right.grantee (held_grantee_stands c good q.right q.stands)) grantee in
      let path : p.right.need.on ≡ q.right.need.on = on ∙ ap path_of (one_object o u schema name) ∙ sym other in
      let r : p.right ≡ q.right = one_right p.right q.right (one_action p.right.need.action q.right.need.action act) path column by to in
      let flag : p.flag ≡ q.flag = same_flag (IsShown c None (of_grantable q.right)) p.flag q.flag (subst (λ z. IsTrue p.flag ↔ IsShown c None (of_grantable z)) r p.grantable) q.grantable in
      p.is ∙ (λ i. right_row (r i) (more_of kind (r i).need.column) (flag i)) ∙ sym q.is

  right_of : (kind : RightTable) (a : Row) → IsRow c kind a → IsRightRow c a
  right_of kind a p = (p.right, more_of kind p.right.need.column, p.flag, p.stands, p.is)

  -- ---- on tables

  of_table : (a : Row) → Contains (d t.TablePrivileges) a → IsRow c on_table a
  of_table a is = table_rows_are c a (((are t.TablePrivileges tt).members a).0 is)

  table_stands : (kind : RightTable) (a : Row) (p : IsRow c kind a) → IsOnTable p.right.need.action → Has c (IsTable p.right.need.on)
  table_stands kind a p on = let h = (held_need_stands c good p.right p.stands).0 in (h.0, h.1, on_table_stands p.right.need.action p.right.need.on h.0 on h.2)

  table_on : (a : Row) (p : IsRow c on_table a) → (o : Object) × (p.right.need.on ≡ path_of o)
  table_on a p = let h = table_stands on_table a p (on_table_by p.right.need.action p.right.need.column p.kind_is) in path_of_table p.right.need.on h.0 h.2

  table_key : IsKey (d t.TablePrivileges) (0 ∷ 1 ∷ 2 ∷ 3 ∷ 4 ∷ [])
  table_key a b here there e =
      let p = of_table a here in
      let q = of_table b there in
      let o = table_on a p in
      let u = table_on b q in
      let same : values (0 ∷ 1 ∷ 2 ∷ 3 ∷ 4 ∷ []) (privilege p.right.grantor p.right.grantee o.0 [] p.right.need.action p.flag) ≡ values (0 ∷ 1 ∷ 2 ∷ 3 ∷ 4 ∷ []) (privilege q.right.grantor q.right.grantee u.0 [] q.right.need.action q.flag) =
      sym (ap (values (0 ∷ 1 ∷ 2 ∷ 3 ∷ 4 ∷ [])) (p.is ∙ two_names p.right o.0 [] p.flag o.1)) ∙ e ∙ ap (values (0 ∷ 1 ∷ 2 ∷ 3 ∷ 4 ∷ [])) (q.is ∙ two_names q.right u.0 [] q.flag u.1) in
      one_row on_table a b p q o.0 u.0 o.1 u.1 (cc) (cc) (cc) (cc) (cc) (no_column p.right.need.action p.right.need.column p.kind_is ∙ sym (no_column q.right.need.action q.right.need.column q.kind_is))

  table : Refers (d t.TablePrivileges) Any (2 ∷ 3 ∷ []) (d t.Tables) Any (0 ∷ 1 ∷ [])
  table a here any =
      let p = of_table a here in
      let o = table_on a p in
      let h = table_stands on_table a p (on_table_by p.right.need.action p.right.need.column p.kind_is) in
      let r = table_of c good d are o.0 h.0 h.1 (subst (λ on. IsTable on h.0) o.1 h.2) in
      (r.0, r.1, (tt, ap (values (2 ∷ 3 ∷ [])) (p.is ∙ two_names p.right o.0 [] p.flag o.1) ∙ r.2.1))

  -- ---- on columns

  of_column : (a : Row) → Contains (d t.ColumnPrivileges) a → IsRow c on_column a
  of_column a is = column_rows_are c a (((are t.ColumnPrivileges tt).members a).0 is)

  column_on : (a : Row) (p : IsRow c on_column a) → (o : Object) × (p.right.need.on ≡ path_of o)
  column_on a p = let h = table_stands on_column a p (on_column_by p.right.need.action p.right.need.column p.kind_is) in path_of_table p.right.need.on h.0 h.2

  column_row : (a : Row) (p : IsRow c on_column a) (o : Object) (name : List ℕ) → p.right.need.on ≡ path_of o → p.right.need.column ≡ Some name → a ≡ privilege p.right.grantor p.right.grantee o (Words name ∷ []) p.right.need.action p.flag
  column_row a p o name on column = p.is ∙ ap (λ z. right_row p.right (column_cells z) p.flag) column ∙ two_names p.right o (Words name ∷ []) p.flag on

  column_key : IsKey (d t.ColumnPrivileges) (0 ∷ 1 ∷ 2 ∷ 3 ∷ 4 ∷ 5 ∷ [])
  column_key a b here there e =
      let p = of_column a here in
      let q = of_column b there in
      let o = column_on a p in
      let u = column_on b q in
      let n = some_column p.right.need.action p.right.need.column p.kind_is in
      let m = some_column q.right.need.action q.right.need.column q.kind_is in
      let same : values (0 ∷ 1 ∷ 2 ∷ 3 ∷ 4 ∷ 5 ∷ []) (privilege p.right.grantor p.right.grantee o.0 (Words n.0 ∷ []) p.right.need.action p.flag) ≡ values (0 ∷ 1 ∷ 2 ∷ 3 ∷ 4 ∷ 5 ∷ []) (privilege q.right.grantor q.right.grantee u.0 (Words m.0 ∷ []) q.right.need.action q.flag) =
      sym (ap (values (0 ∷ 1 ∷ 2 ∷ 3 ∷ 4 ∷ 5 ∷ [])) (column_row a p o.0 n.0 o.1 n.1)) ∙ e ∙ ap (values (0 ∷ 1 ∷ 2 ∷ 3 ∷ 4 ∷ 5 ∷ [])) (column_row b q u.0 m.0 u.1 m.1) in
      let name : n.0 ≡ m.0 = cc in
      one_row on_column a b p q o.0 u.0 o.1 u.1 (cc) (cc) (cc) (cc) (cc) (n.1 ∙ ap Some name ∙ sym m.1)

  column : Refers (d t.ColumnPrivileges) Any (2 ∷ 3 ∷ 4 ∷ []) (d t.Columns) Any (0 ∷ 1 ∷ 2 ∷ [])
  column a here any =
      let p = of_column a here in
      let o = column_on a p in
      let n = some_column p.right.need.action p.right.need.column p.kind_is in
      let h : HasColumn c p.right.need.on (Some n.0) = subst (HasColumn c p.right.need.on) n.1 (held_need_stands c good p.right p.stands).1 in
      let r = column_named c good d are o.0 n.0 h.0 h.1 (subst (λ on. IsColumn on n.0 h.0) o.1 h.2) in
      (r.0, r.1, (tt, ap (values (2 ∷ 3 ∷ 4 ∷ [])) (column_row a p o.0 n.0 o.1 n.1) ∙ r.2.1))

  -- ---- on domains

  of_usage : (a : Row) → Contains (d t.UsagePrivileges) a → IsRow c on_domain a
  of_usage a is = usage_rows_are c a (((are t.UsagePrivileges tt).members a).0 is)

  domain_stands : (a : Row) (p : IsRow c on_domain a) → Has c (IsDomain p.right.need.on)
  domain_stands a p = subst (λ x. Has c (IsObject x p.right.need.on)) (on_domain_by p.right.need.action p.right.need.column p.kind_is) (held_need_stands c good p.right p.stands).0

  domain_on : (a : Row) (p : IsRow c on_domain a) → (o : Object) × (p.right.need.on ≡ path_of o)
  domain_on a p = let h = domain_stands a p in path_of_domain p.right.need.on h.0 h.2

  domain_column : (a : Row) (p : IsRow c on_domain a) → p.right.need.column ≡ None
  domain_column a p = no_column_named c good p.right p.stands (subst IsWhole (sym (on_domain_by p.right.need.action p.right.need.column p.kind_is)) tt) (held_is_granted c good p.right p.stands)

  usage_key : IsKey (d t.UsagePrivileges) (0 ∷ 1 ∷ 2 ∷ 3 ∷ 4 ∷ 5 ∷ [])
  usage_key a b here there e =
      let p = of_usage a here in
      let q = of_usage b there in
      let o = domain_on a p in
      let u = domain_on b q in
      let same : values (0 ∷ 1 ∷ 2 ∷ 3 ∷ 4 ∷ 5 ∷ []) (privilege p.right.grantor p.right.grantee o.0 domain_kind p.right.need.action p.flag) ≡ values (0 ∷ 1 ∷ 2 ∷ 3 ∷ 4 ∷ 5 ∷ []) (privilege q.right.grantor q.right.grantee u.0 domain_kind q.right.need.action q.flag) =
      sym (ap (values (0 ∷ 1 ∷ 2 ∷ 3 ∷ 4 ∷ 5 ∷ [])) (p.is ∙ two_names p.right o.0 domain_kind p.flag o.1)) ∙ e ∙ ap (values (0 ∷ 1 ∷ 2 ∷ 3 ∷ 4 ∷ 5 ∷ [])) (q.is ∙ two_names q.right u.0 domain_kind q.flag u.1) in
      one_row on_domain a b p q o.0 u.0 o.1 u.1 (cc) (cc) (cc) (cc) (cc) (domain_column a p ∙ sym (domain_column b q))

  usage : Refers (d t.UsagePrivileges) Any (2 ∷ 3 ∷ []) (d t.Domains) Any (0 ∷ 1 ∷ [])
  usage a here any =
      let p = of_usage a here in
      let o = domain_on a p in
      let h = domain_stands a p in
      let r = domain_named c good d are o.0 h.0 h.1 (subst (λ on. IsDomain on h.0) o.1 h.2) in
      (r.0, r.1, (tt, ap (values (2 ∷ 3 ∷ [])) (p.is ∙ two_names p.right o.0 domain_kind p.flag o.1) ∙ r.2.1))

  -- ---- on routines

  of_routine : (a : Row) → Contains (d t.RoutinePrivileges) a → IsRow c on_routine a
  of_routine a is = routine_rows_are c a (((are t.RoutinePrivileges tt).members a).0 is)

  routine_stands : (a : Row) (p : IsRow c on_routine a) → Has c (IsRoutine p.right.need.on)
  routine_stands a p = subst (λ x. Has c (IsObject x p.right.need.on)) (on_routine_by p.right.need.action p.right.need.column p.kind_is) (held_need_stands c good p.right p.stands).0

  routine_on : (a : Row) (p : IsRow c on_routine a) → (o : Object) × (p.right.need.on ≡ path_of o)
  routine_on a p = let h = routine_stands a p in path_of_routine p.right.need.on h.0 h.2

  routine_column : (a : Row) (p : IsRow c on_routine a) → p.right.need.column ≡ None
  routine_column a p = no_column_named c good p.right p.stands (subst IsWhole (sym (on_routine_by p.right.need.action p.right.need.column p.kind_is)) tt) (held_is_granted c good p.right p.stands)

  routine_key : IsKey (d t.RoutinePrivileges) (0 ∷ 1 ∷ 2 ∷ 3 ∷ 4 ∷ [])
  routine_key a b here there e =
      let p = of_routine a here in
      let q = of_routine b there in
      let o = routine_on a p in
      let u = routine_on b q in
      let same : values (0 ∷ 1 ∷ 2 ∷ 3 ∷ 4 ∷ []) (privilege p.right.grantor p.right.grantee o.0 [] p.right.need.action p.flag) ≡ values (0 ∷ 1 ∷ 2 ∷ 3 ∷ 4 ∷ []) (privilege q.right.grantor q.right.grantee u.0 [] q.right.need.action q.flag) =
      sym (ap (values (0 ∷ 1 ∷ 2 ∷ 3 ∷ 4 ∷ [])) (p.is ∙ two_names p.right o.0 [] p.flag o.1)) ∙ e ∙ ap (values (0 ∷ 1 ∷ 2 ∷ 3 ∷ 4 ∷ [])) (q.is ∙ two_names q.right u.0 [] q.flag u.1) in
      one_row on_routine a b p q o.0 u.0 o.1 u.1 (cc) (cc) (cc) (cc) (cc) (routine_column a p ∙ sym (routine_column b q))

  routine : Refers (d t.RoutinePrivileges) Any (2 ∷ 3 ∷ []) (d t.Routines) Any (0 ∷ 1 ∷ [])
  routine a here any =
      let p = of_routine a here in
      let o = routine_on a p in
      let h = routine_stands a p in
      let r = routine_named c good d are o.0 h.0 h.1 (subst (λ on. IsRoutine on h.0) o.1 h.2) in
      (r.0, r.1, (tt, ap (values (2 ∷ 3 ∷ [])) (p.is ∙ two_names p.right o.0 [] p.flag o.1) ∙ r.2.1))

  pub privileges_hold : PrivilegesHold d
  privileges_hold = record {
    table_privileges_differ = table_key;
    tables_of_privileges_stand = table;
    column_privileges_differ = column_key;
    columns_of_privileges_stand = column;
    usage_privileges_differ = usage_key;
    domains_of_privileges_stand = usage;
    routine_privileges_differ = routine_key;
    routines_of_privileges_stand = routine;
    parties_of_table_privileges_stand = parties c good d are (d t.TablePrivileges) (λ a here. right_of on_table a (of_table a here));
    parties_of_column_privileges_stand = parties c good d are (d t.ColumnPrivileges) (λ a here. right_of on_column a (of_column a here));
    parties_of_usage_privileges_stand = parties c good d are (d t.UsagePrivileges) (λ a here. right_of on_domain a (of_usage a here));
    parties_of_routine_privileges_stand = parties c good d are (d t.RoutinePrivileges) (λ a here. right_of on_routine a (of_routine a here));
  }
