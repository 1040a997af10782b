-- Tables that don't read a kind of descriptors have no rows of it.
use Rattle.std.proofs.Common.{◌≡◌, inl, inr, refl, subst, List, false}
use Rattle.std.specs.List.{Contains}
use Rattle.finite_chains.proofs.Members.{Contains-nil}
use Rattle.sql_tree.specs.declared.expr.Expr.{Expr}
use Rattle.cat_items.specs.declared.need.Need.{Need}
use Rattle.cat_items.specs.declared.item.Assertion.{Assertion}
use Rattle.cat_items.specs.declared.item.Check.{Check}
use Rattle.cat_items.specs.declared.item.Column.{Column}
use Rattle.cat_items.specs.declared.item.Domain.{Domain}
use Rattle.cat_items.specs.declared.item.DomainCheck.{DomainCheck}
use Rattle.cat_items.specs.declared.item.Foreign.{Foreign}
use Rattle.cat_items.specs.declared.item.Key.{Key}
use Rattle.cat_items.specs.declared.item.Right.{Right}
use Rattle.cat_items.specs.declared.item.RoleGrant.{RoleGrant}
use Rattle.cat_items.specs.declared.item.Routine.{Routine}
use Rattle.cat_items.specs.declared.item.Schema.{Schema}
use Rattle.cat_items.specs.declared.item.View.{View}
use Rattle.cat_items.specs.declared.item.Item.{Item}
use Rattle.cat_items.specs.declared.item.Item.TheVariants as item
use Rattle.sql_names.specs.declared.object.Object.{Object}
use Rattle.schema_tables.specs.declared.names.SchemaTable.{SchemaTable}
use Rattle.schema_tables.specs.declared.names.SchemaTable.TheVariants as t
use Rattle.schema_tables.specs.Cells.{Row}
use Rattle.schema_tables.specs.Shown.{Shown, ShownView, ShownColumn, ShownDomain, ShownRoutine, ShownNeeds, of_table, of_view, of_column, of_domain, of_routine, of_view_needs, of_routine_needs, of_role_auth, of_held, of_schema, of_domain_check, of_key, of_foreign, of_check, of_assertion}
use Rattle.schema_tables.specs.Sight.{Viewer}
use Rattle.schema_tables.specs.TableRows.{Beside, RightTable, rows, table_rows, view_rows, view_needs_rows, column_rows, domain_rows, routine_rows, routine_needs_rows, role_auth_rows, right_rows_of, right_table, schema_rows, check_rows, domain_check_rows, key_rows, foreign_rows, table_check_rows, assertion_rows}
use Rattle.shown_items.specs.Faces.{IsFace, IsViewNeedsFace, IsRoutineNeedsFace}
use Rattle.shown_items.specs.Reads.{reads_tables, reads_views, reads_columns, reads_domains, reads_routines, reads_roles, reads_rights, reads_schemata, reads_view_needs, reads_routine_needs, reads_constraints}

no_table : (o : Object) (row : Row) (which : SchemaTable) → reads_tables which ≡ false → Contains (table_rows o which) row → ⊥
no_table o row t.Tables e k = cc
no_table o row which e k = Contains-nil row k

no_view : (p : ShownView) (row : Row) (which : SchemaTable) → reads_views which ≡ false → Contains (view_rows p which) row → ⊥
no_view p row t.Tables e k = cc
no_view p row t.Views e k = cc
no_view p row which e k = Contains-nil row k

needs_of_views : (which : SchemaTable) → reads_views which ≡ false → reads_view_needs which ≡ false
needs_of_views t.ViewTableUsage e = cc
needs_of_views t.ViewColumnUsage e = cc
needs_of_views which e = refl

no_view_needs : (n : ShownNeeds) (row : Row) (which : SchemaTable) → reads_view_needs which ≡ false → Contains (view_needs_rows n which) row → ⊥
no_view_needs n row t.ViewTableUsage e k = cc
no_view_needs n row t.ViewColumnUsage e k = cc
no_view_needs n row which e k = Contains-nil row k

no_column : (m : Beside) (p : ShownColumn) (row : Row) (which : SchemaTable) → reads_columns which ≡ false → Contains (column_rows m p which) row → ⊥
no_column m p row t.Columns e k = cc
no_column m p row t.ColumnDomainUsage e k = cc
no_column m p row which e k = Contains-nil row k

no_domain : (p : ShownDomain) (row : Row) (which : SchemaTable) → reads_domains which ≡ false → Contains (domain_rows p which) row → ⊥
no_domain p row t.Domains e k = cc
no_domain p row which e k = Contains-nil row k

no_routine : (p : ShownRoutine) (row : Row) (which : SchemaTable) → reads_routines which ≡ false → Contains (routine_rows p which) row → ⊥
no_routine p row t.Routines e k = cc
no_routine p row t.Parameters e k = cc
no_routine p row which e k = Contains-nil row k

needs_of_routines : (which : SchemaTable) → reads_routines which ≡ false → reads_routine_needs which ≡ false
needs_of_routines t.RoutineTableUsage e = cc
needs_of_routines which e = refl

no_routine_needs : (n : ShownNeeds) (row : Row) (which : SchemaTable) → reads_routine_needs which ≡ false → Contains (routine_needs_rows n which) row → ⊥
no_routine_needs n row t.RoutineTableUsage e k = cc
no_routine_needs n row which e k = Contains-nil row k

no_schema : (x : Schema) (row : Row) (which : SchemaTable) → reads_schemata which ≡ false → Contains (schema_rows x which) row → ⊥
no_schema x row t.Schemata e k = cc
no_schema x row which e k = Contains-nil row k

no_condition : (name : Object) (condition : Expr) (needs : List Need) (row : Row) (which : SchemaTable) → reads_constraints which ≡ false → Contains (check_rows name condition needs which) row → ⊥
no_condition name condition needs row t.CheckConstraints e k = cc
no_condition name condition needs row t.CheckTableUsage e k = cc
no_condition name condition needs row t.CheckColumnUsage e k = cc
no_condition name condition needs row t.ConstraintTableUsage e k = cc
no_condition name condition needs row t.ConstraintColumnUsage e k = cc
no_condition name condition needs row which e k = Contains-nil row k

no_domain_check : (d : DomainCheck) (row : Row) (which : SchemaTable) → reads_constraints which ≡ false → Contains (domain_check_rows d which) row → ⊥
no_domain_check d row t.DomainConstraints e k = cc
no_domain_check d row which e k = no_condition d.name d.cond d.needs row which e k

no_key : (x : Key) (row : Row) (which : SchemaTable) → reads_constraints which ≡ false → Contains (key_rows x which) row → ⊥
no_key x row t.TableConstraints e k = cc
no_key x row t.KeyColumnUsage e k = cc
no_key x row t.ConstraintTableUsage e k = cc
no_key x row t.ConstraintColumnUsage e k = cc
no_key x row which e k = Contains-nil row k

no_foreign : (f : Foreign) (row : Row) (which : SchemaTable) → reads_constraints which ≡ false → Contains (foreign_rows f which) row → ⊥
no_foreign f row t.TableConstraints e k = cc
no_foreign f row t.ReferentialConstraints e k = cc
no_foreign f row t.KeyColumnUsage e k = cc
no_foreign f row t.ConstraintTableUsage e k = cc
no_foreign f row t.ConstraintColumnUsage e k = cc
no_foreign f row which e k = Contains-nil row k

no_check : (x : Check) (row : Row) (which : SchemaTable) → reads_constraints which ≡ false → Contains (table_check_rows x which) row → ⊥
no_check x row t.TableConstraints e k = cc
no_check x row which e k = no_condition x.name x.cond x.needs row which e k

no_assertion : (a : Assertion) (row : Row) (which : SchemaTable) → reads_constraints which ≡ false → Contains (assertion_rows a which) row → ⊥
no_assertion a row t.Assertions e k = cc
no_assertion a row which e k = no_condition a.name a.cond a.needs row which e k

no_role_grant : (m : Beside) (g : RoleGrant) (row : Row) (which : SchemaTable) → reads_roles which ≡ false → Contains (role_auth_rows m g which) row → ⊥
no_role_grant m g row t.ApplicableRoles e k = cc
no_role_grant m g row t.AdministrableRoleAuthorizations e k = cc
no_role_grant m g row t.RoleAuthorizationDescriptors e k = cc
no_role_grant m g row which e k = Contains-nil row k

no_right : (kind : RightTable) (m : Beside) (r : Right) (row : Row) (which : SchemaTable) → reads_rights which ≡ false → Contains (right_rows_of which kind m r) row → ⊥
no_right kind m r row t.TablePrivileges e k = cc
no_right kind m r row t.ColumnPrivileges e k = cc
no_right kind m r row t.UsagePrivileges e k = cc
no_right kind m r row t.RoutinePrivileges e k = cc
no_right kind m r row t.RoleTableGrants e k = cc
no_right kind m r row t.RoleColumnGrants e k = cc
no_right kind m r row t.RoleUsageGrants e k = cc
no_right kind m r row t.RoleRoutineGrants e k = cc
no_right kind m r row which e k = Contains-nil row k

module _ (c : List Item) (v : Viewer) (which : SchemaTable) (s : Shown) (m : Beside) (row : Row) where
  here : (u : Shown) → s ≡ u → Contains (rows which m s) row → Contains (rows which m u) row
  here u e k = subst (λ z. Contains (rows which m z) row) e k

  pub unread_table : (x : Object) → reads_tables which ≡ false → IsFace c v (item.Table x) s → Contains (rows which m s) row → ⊥
  unread_table x e f k = no_table x row which e (here (of_table x) f.1 k)

  pub unread_view_needs : (x : View) → reads_view_needs which ≡ false → IsViewNeedsFace c v x s → Contains (rows which m s) row → ⊥
  unread_view_needs x e f k = no_view_needs (record { object = x.view; needs = x.needs }) row which e (here (of_view_needs (record { object = x.view; needs = x.needs })) f.1 k)

  pub unread_view : (x : View) → reads_views which ≡ false → IsFace c v (item.View x) s → Contains (rows which m s) row → ⊥
  unread_view x e (inl f) k = no_view f.0 row which e (here (of_view f.0) f.2 k)
  unread_view x e (inr f) k = unread_view_needs x (needs_of_views which e) f k

  pub unread_column : (x : Column) → reads_columns which ≡ false → IsFace c v (item.Column x) s → Contains (rows which m s) row → ⊥
  unread_column x e f k = no_column m f.0 row which e (here (of_column f.0) f.2 k)

  pub unread_domain : (x : Domain) → reads_domains which ≡ false → IsFace c v (item.Domain x) s → Contains (rows which m s) row → ⊥
  unread_domain x e f k = no_domain f.0 row which e (here (of_domain f.0) f.2 k)

  pub unread_routine_needs : (x : Routine) → reads_routine_needs which ≡ false → IsRoutineNeedsFace c v x s → Contains (rows which m s) row → ⊥
  unread_routine_needs x e f k = no_routine_needs (record { object = x.routine; needs = x.needs }) row which e (here (of_routine_needs (record { object = x.routine; needs = x.needs })) f.1 k)

  pub unread_routine : (x : Routine) → reads_routines which ≡ false → IsFace c v (item.Routine x) s → Contains (rows which m s) row → ⊥
  unread_routine x e (inl f) k = no_routine f.0 row which e (here (of_routine f.0) f.2 k)
  unread_routine x e (inr f) k = unread_routine_needs x (needs_of_routines which e) f k

  pub unread_schema : (x : Schema) → reads_schemata which ≡ false → IsFace c v (item.Schema x) s → Contains (rows which m s) row → ⊥
  unread_schema x e f k = no_schema x row which e (here (of_schema x) f.1 k)

  pub unread_domain_check : (d : DomainCheck) → reads_constraints which ≡ false → IsFace c v (item.DomainCheck d) s → Contains (rows which m s) row → ⊥
  unread_domain_check d e f k = no_domain_check d row which e (here (of_domain_check d) f.1 k)

  pub unread_key : (x : Key) → reads_constraints which ≡ false → IsFace c v (item.Key x) s → Contains (rows which m s) row → ⊥
  unread_key x e f k = no_key x row which e (here (of_key x) f.1 k)

  pub unread_foreign : (x : Foreign) → reads_constraints which ≡ false → IsFace c v (item.Foreign x) s → Contains (rows which m s) row → ⊥
  unread_foreign x e f k = no_foreign x row which e (here (of_foreign x) f.1 k)

  pub unread_check : (x : Check) → reads_constraints which ≡ false → IsFace c v (item.Check x) s → Contains (rows which m s) row → ⊥
  unread_check x e f k = no_check x row which e (here (of_check x) f.1 k)

  pub unread_assertion : (a : Assertion) → reads_constraints which ≡ false → IsFace c v (item.Assertion a) s → Contains (rows which m s) row → ⊥
  unread_assertion a e f k = no_assertion a row which e (here (of_assertion a) f.1 k)

  pub unread_role_grant : (g : RoleGrant) → reads_roles which ≡ false → IsFace c v (item.RoleAuth g) s → Contains (rows which m s) row → ⊥
  unread_role_grant g e f k = no_role_grant m g row which e (here (of_role_auth g) f.1 k)

  pub unread_right : (r : Right) → reads_rights which ≡ false → IsFace c v (item.Held r) s → Contains (rows which m s) row → ⊥
  unread_right r e f k = no_right (right_table r.need.action r.need.column) m r row which e (here (of_held r) f.1 k)

  -- an option has no rows of its own
  pub no_admin_rows : (g : RoleGrant) → IsFace c v (item.RoleAdmin g) s → Contains (rows which m s) row → ⊥
  no_admin_rows g f k = Contains-nil row (subst (λ z. Contains (rows which m z) row) f.1 k)

  pub no_grantable_rows : (r : Right) → IsFace c v (item.Grantable r) s → Contains (rows which m s) row → ⊥
  no_grantable_rows r f k = Contains-nil row (subst (λ z. Contains (rows which m z) row) f.1 k)
