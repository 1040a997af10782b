-- The constraints of the Definition Schema (SQL:2003 part 11, chapter 6), over the rows of its tables. Columns are numbered from 0.
use Rattle.std.specs.Prelude.{◌≡◌, ◌⊎◌, ◌↔◌, ℕ, List, [], ◌∷◌, Some, slice_get, codes}
use Rattle.std.specs.List.{Contains}
use Rattle.cat_items.specs.declared.row.Cell.TheVariants.{Null}
use Rattle.role_graph.specs.Cycles.{HasCycle}
use Rattle.schema_tables.specs.declared.names.SchemaTable.{SchemaTable}
use Rattle.schema_tables.specs.declared.names.SchemaTable.TheVariants as t
use Rattle.schema_tables.specs.Cells.{Row}
use Rattle.definition_schema.specs.Keys.{values, HasSome, IsKey, Refers, Any, Is, AreApart, IsAt, HavePositions}

-- a role that is granted to a grantee: the first column of a role descriptor, and the second
abbrev pub IsRoleStep : List Row → List ℕ → List ℕ → Type 0
IsRoleStep rows grantee role = HasSome rows (λ row. Is 0 role row × Is 1 grantee row)

abbrev pub IsNull : ℕ → Row → Type 0
IsNull column row = slice_get row column ≡ Some Null

-- whom a privilege is from, and for
abbrev pub IsGrantor : List Row → ℕ → Row → Type 0
IsGrantor authorizations column row = Is column (codes "_SYSTEM") row ⊎ HasSome authorizations (λ a. slice_get row column ≡ slice_get a 0)

abbrev pub IsGrantee : List Row → ℕ → Row → Type 0
IsGrantee authorizations column row = Is column (codes "PUBLIC") row ⊎ HasSome authorizations (λ a. slice_get row column ≡ slice_get a 0)

abbrev pub Every : List Row → (Row → Type 0) → Type 0
Every rows P = (row : Row) → Contains rows row → P row

module _ (d : SchemaTable → List Row) where
  pub record AuthorizationsHold : Type 0 where
    pub names_differ : IsKey (d t.Authorizations) (0 ∷ [])
    pub no_name_is_kept : Every (d t.Authorizations) (λ row. (¬ (Is 0 (codes "PUBLIC") row)) × (¬ (Is 0 (codes "_SYSTEM") row)))

  pub record RolesHold : Type 0 where
    pub descriptors_differ : IsKey (d t.RoleAuthorizationDescriptors) (0 ∷ 2 ∷ 1 ∷ [])
    pub roles_stand : Refers (d t.RoleAuthorizationDescriptors) Any (0 ∷ []) (d t.Authorizations) (Is 1 (codes "ROLE")) (0 ∷ [])
    pub grantees_stand : Refers (d t.RoleAuthorizationDescriptors) Any (1 ∷ []) (d t.Authorizations) Any (0 ∷ [])
    pub grantors_stand : Every (d t.RoleAuthorizationDescriptors) (IsGrantor (d t.Authorizations) 2)
    pub no_role_leads_back : ¬ (HasCycle (IsRoleStep (d t.RoleAuthorizationDescriptors)))

  pub record TablesHold : Type 0 where
    pub schema_names_differ : IsKey (d t.Schemata) (0 ∷ [])
    pub schema_owners_stand : Refers (d t.Schemata) Any (1 ∷ []) (d t.Authorizations) Any (0 ∷ [])
    pub table_names_differ : IsKey (d t.Tables) (0 ∷ 1 ∷ [])
    pub table_schemas_stand : Refers (d t.Tables) Any (0 ∷ []) (d t.Schemata) Any (0 ∷ [])
    pub view_names_differ : IsKey (d t.Views) (0 ∷ 1 ∷ [])
    pub views_are_tables : Refers (d t.Views) Any (0 ∷ 1 ∷ []) (d t.Tables) (Is 2 (codes "VIEW")) (0 ∷ 1 ∷ [])
    pub tables_of_type_view_are_views : Refers (d t.Tables) (Is 2 (codes "VIEW")) (0 ∷ 1 ∷ []) (d t.Views) Any (0 ∷ 1 ∷ [])

  pub record ColumnsHold : Type 0 where
    pub column_names_differ : IsKey (d t.Columns) (0 ∷ 1 ∷ 2 ∷ [])
    pub column_tables_stand : Refers (d t.Columns) Any (0 ∷ 1 ∷ []) (d t.Tables) Any (0 ∷ 1 ∷ [])
    pub each_table_has_a_column : Refers (d t.Tables) Any (0 ∷ 1 ∷ []) (d t.Columns) Any (0 ∷ 1 ∷ [])
    pub columns_have_positions : HavePositions (d t.Columns) (0 ∷ 1 ∷ []) 3
    pub column_domains_stand : Every (d t.Columns) (λ row. (IsNull 11 row × IsNull 12 row) ⊎ HasSome (d t.Domains) (λ b. values (11 ∷ 12 ∷ 6 ∷ 7 ∷ 8 ∷ 9 ∷ 10 ∷ []) row ≡ values (0 ∷ 1 ∷ 2 ∷ 3 ∷ 4 ∷ 5 ∷ 6 ∷ []) b))

  pub record DomainsHold : Type 0 where
    pub domain_names_differ : IsKey (d t.Domains) (0 ∷ 1 ∷ [])
    pub domain_schemas_stand : Refers (d t.Domains) Any (0 ∷ []) (d t.Schemata) Any (0 ∷ [])
    pub constrained_domains_stand : Refers (d t.DomainConstraints) Any (2 ∷ 3 ∷ []) (d t.Domains) Any (0 ∷ 1 ∷ [])
    pub domain_constraints_are_checks : Refers (d t.DomainConstraints) Any (0 ∷ 1 ∷ []) (d t.CheckConstraints) Any (0 ∷ 1 ∷ [])

  pub record ConstraintsHold : Type 0 where
    -- the names of all constraints differ
    pub table_constraint_names_differ : IsKey (d t.TableConstraints) (0 ∷ 1 ∷ [])
    pub domain_constraint_names_differ : IsKey (d t.DomainConstraints) (0 ∷ 1 ∷ [])
    pub assertion_names_differ : IsKey (d t.Assertions) (0 ∷ 1 ∷ [])
    pub no_table_constraint_is_of_a_domain : AreApart (d t.TableConstraints) (0 ∷ 1 ∷ []) (d t.DomainConstraints) (0 ∷ 1 ∷ [])
    pub no_table_constraint_is_an_assertion : AreApart (d t.TableConstraints) (0 ∷ 1 ∷ []) (d t.Assertions) (0 ∷ 1 ∷ [])
    pub no_domain_constraint_is_an_assertion : AreApart (d t.DomainConstraints) (0 ∷ 1 ∷ []) (d t.Assertions) (0 ∷ 1 ∷ [])
    pub constrained_tables_are_base_tables : Refers (d t.TableConstraints) Any (2 ∷ 3 ∷ []) (d t.Tables) (Is 2 (codes "BASE TABLE")) (0 ∷ 1 ∷ [])
    pub a_table_has_one_primary_key : (a b : Row) → Contains (d t.TableConstraints) a → Contains (d t.TableConstraints) b → Is 4 (codes "PRIMARY KEY") a → Is 4 (codes "PRIMARY KEY") b → values (2 ∷ 3 ∷ []) a ≡ values (2 ∷ 3 ∷ []) b → a ≡ b
    -- the columns of keys and foreign keys
    pub key_columns_stand : Refers (d t.KeyColumnUsage) Any (2 ∷ 3 ∷ 4 ∷ []) (d t.Columns) Any (0 ∷ 1 ∷ 2 ∷ [])
    pub only_keys_have_key_columns : Refers (d t.KeyColumnUsage) Any (0 ∷ 1 ∷ 2 ∷ 3 ∷ []) (d t.TableConstraints) (λ row. ¬ (Is 4 (codes "CHECK") row)) (0 ∷ 1 ∷ 2 ∷ 3 ∷ [])
    pub key_columns_have_positions : HavePositions (d t.KeyColumnUsage) (0 ∷ 1 ∷ []) 5
    pub each_key_has_key_columns : Refers (d t.TableConstraints) (λ row. ¬ (Is 4 (codes "CHECK") row)) (0 ∷ 1 ∷ []) (d t.KeyColumnUsage) Any (0 ∷ 1 ∷ [])
    -- foreign keys
    pub foreign_key_names_differ : IsKey (d t.ReferentialConstraints) (0 ∷ 1 ∷ [])
    pub foreign_keys_are_constraints : Refers (d t.ReferentialConstraints) Any (0 ∷ 1 ∷ []) (d t.TableConstraints) (Is 4 (codes "FOREIGN KEY")) (0 ∷ 1 ∷ [])
    pub constraints_of_type_foreign_key_are_foreign_keys : Refers (d t.TableConstraints) (Is 4 (codes "FOREIGN KEY")) (0 ∷ 1 ∷ []) (d t.ReferentialConstraints) Any (0 ∷ 1 ∷ [])
    pub foreign_keys_name_unique_constraints : Refers (d t.ReferentialConstraints) Any (2 ∷ 3 ∷ []) (d t.TableConstraints) (λ row. Is 4 (codes "PRIMARY KEY") row ⊎ Is 4 (codes "UNIQUE") row) (0 ∷ 1 ∷ [])
    pub foreign_keys_have_as_many_columns : Every (d t.ReferentialConstraints) (λ row. (n : ℕ) → HasSome (d t.KeyColumnUsage) (IsAt (0 ∷ 1 ∷ []) 5 (values (0 ∷ 1 ∷ []) row) n) ↔ HasSome (d t.KeyColumnUsage) (IsAt (0 ∷ 1 ∷ []) 5 (values (2 ∷ 3 ∷ []) row) n))
    -- checks
    pub check_names_differ : IsKey (d t.CheckConstraints) (0 ∷ 1 ∷ [])
    pub each_check_is_a_constraint : Every (d t.CheckConstraints) (λ row. HasSome (d t.TableConstraints) (λ b. Is 4 (codes "CHECK") b × (values (0 ∷ 1 ∷ []) row ≡ values (0 ∷ 1 ∷ []) b))
        ⊎ (HasSome (d t.DomainConstraints) (λ b. values (0 ∷ 1 ∷ []) row ≡ values (0 ∷ 1 ∷ []) b) ⊎ HasSome (d t.Assertions) (λ b. values (0 ∷ 1 ∷ []) row ≡ values (0 ∷ 1 ∷ []) b)))
    pub table_checks_are_checks : Refers (d t.TableConstraints) (Is 4 (codes "CHECK")) (0 ∷ 1 ∷ []) (d t.CheckConstraints) Any (0 ∷ 1 ∷ [])
    pub assertions_are_checks : Refers (d t.Assertions) Any (0 ∷ 1 ∷ []) (d t.CheckConstraints) Any (0 ∷ 1 ∷ [])

  pub record RoutinesHold : Type 0 where
    pub routine_names_differ : IsKey (d t.Routines) (0 ∷ 1 ∷ [])
    pub routine_schemas_stand : Refers (d t.Routines) Any (0 ∷ []) (d t.Schemata) Any (0 ∷ [])
    pub parameter_routines_stand : Refers (d t.Parameters) Any (0 ∷ 1 ∷ []) (d t.Routines) Any (0 ∷ 1 ∷ [])
    pub parameters_have_positions : HavePositions (d t.Parameters) (0 ∷ 1 ∷ []) 2
    pub parameter_names_differ : IsKey (d t.Parameters) (0 ∷ 1 ∷ 4 ∷ [])

  -- a list of privileges: whom they are from and for
  pub record HaveParties (rows : List Row) : Type 0 where
    pub grantors_stand : Every rows (IsGrantor (d t.Authorizations) 0)
    pub grantees_stand : Every rows (IsGrantee (d t.Authorizations) 1)

  pub record PrivilegesHold : Type 0 where
    pub table_privileges_differ : IsKey (d t.TablePrivileges) (0 ∷ 1 ∷ 2 ∷ 3 ∷ 4 ∷ [])
    pub tables_of_privileges_stand : Refers (d t.TablePrivileges) Any (2 ∷ 3 ∷ []) (d t.Tables) Any (0 ∷ 1 ∷ [])
    pub column_privileges_differ : IsKey (d t.ColumnPrivileges) (0 ∷ 1 ∷ 2 ∷ 3 ∷ 4 ∷ 5 ∷ [])
    pub columns_of_privileges_stand : Refers (d t.ColumnPrivileges) Any (2 ∷ 3 ∷ 4 ∷ []) (d t.Columns) Any (0 ∷ 1 ∷ 2 ∷ [])
    pub usage_privileges_differ : IsKey (d t.UsagePrivileges) (0 ∷ 1 ∷ 2 ∷ 3 ∷ 4 ∷ 5 ∷ [])
    pub domains_of_privileges_stand : Refers (d t.UsagePrivileges) Any (2 ∷ 3 ∷ []) (d t.Domains) Any (0 ∷ 1 ∷ [])
    pub routine_privileges_differ : IsKey (d t.RoutinePrivileges) (0 ∷ 1 ∷ 2 ∷ 3 ∷ 4 ∷ [])
    pub routines_of_privileges_stand : Refers (d t.RoutinePrivileges) Any (2 ∷ 3 ∷ []) (d t.Routines) Any (0 ∷ 1 ∷ [])
    pub parties_of_table_privileges_stand : HaveParties (d t.TablePrivileges)
    pub parties_of_column_privileges_stand : HaveParties (d t.ColumnPrivileges)
    pub parties_of_usage_privileges_stand : HaveParties (d t.UsagePrivileges)
    pub parties_of_routine_privileges_stand : HaveParties (d t.RoutinePrivileges)

  pub record AllHold : Type 0 where
    pub authorizations : AuthorizationsHold
    pub roles : RolesHold
    pub tables : TablesHold
    pub columns : ColumnsHold
    pub domains : DomainsHold
    pub constraints : ConstraintsHold
    pub routines : RoutinesHold
    pub privileges : PrivilegesHold
