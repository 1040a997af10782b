-- The rows of each schema table: what one shown descriptor puts into it.
use Rattle.std.specs.Prelude.{◌≡◌, ◌↔◌, ◌⊎◌, ◌+◌, ℕ, Bool, true, false, not, cond, IsTrue, List, [], ◌∷◌, ◌++◌, Option, Some, None, codes, map, flat_map}
use Rattle.std.specs.List.{Contains}
use Rattle.sql_names.specs.declared.object.Object.{Object}
use Rattle.sql_tree.specs.declared.rights.Action.{Action}
use Rattle.sql_tree.specs.declared.rights.Action.TheVariants as action
use Rattle.sql_names.specs.declared.sort.Param.{Param}
use Rattle.sql_names.specs.declared.sort.SqlType.{SqlType}
use Rattle.sql_spelling.specs.Texts.{T}
use Rattle.sql_text.specs.Printing.{expr_text}
use Rattle.sql_tree.specs.declared.expr.Expr.{Expr}
use Rattle.cat_items.specs.declared.need.Auth.{Auth}
use Rattle.cat_items.specs.declared.need.Auth.TheVariants as auths
use Rattle.cat_items.specs.declared.need.Need.{Need}
use Rattle.cat_items.specs.declared.item.Schema.{Schema}
use Rattle.cat_items.specs.declared.item.DomainCheck.{DomainCheck}
use Rattle.cat_items.specs.declared.item.Key.{Key}
use Rattle.cat_items.specs.declared.item.Foreign.{Foreign}
use Rattle.cat_items.specs.declared.item.Check.{Check}
use Rattle.cat_items.specs.declared.item.Assertion.{Assertion}
use Rattle.cat_items.specs.declared.item.Right.{Right}
use Rattle.cat_items.specs.declared.item.RoleGrant.{RoleGrant}
use Rattle.cat_items.specs.declared.row.Cell.{Cell}
use Rattle.cat_items.specs.declared.row.Cell.TheVariants.{Null, Number, Words}
use Rattle.schema_tables.specs.declared.names.SchemaTable.{SchemaTable}
use Rattle.schema_tables.specs.declared.names.SchemaTable.TheVariants as t
use Rattle.schema_tables.specs.Cells.{Row, object_cells, optional_object_cells, path_cells, auth_cell, yes_cell, default_cell, query_cell, body_cell, type_name, type_cells, matching_cell, rule_cell, action_cell}
use Rattle.schema_tables.specs.Shown.{Shown, ShownView, ShownColumn, ShownDomain, ShownRoutine, ShownNeeds, of_user, of_role, of_enabled_role, of_role_auth, of_role_admin, of_schema, of_table, of_view, of_column, of_domain, of_domain_check, of_key, of_foreign, of_check, of_assertion, of_routine, of_view_needs, of_routine_needs, of_held, of_grantable}

-- ---- what else is shown beside a descriptor

-- of a role authorization: `same`, an admin option of the same fields; `option`, one of its role for its grantee, whoever granted it
-- of a privilege: `option`, its grant option; `role`, that its grantor or its grantee is an enabled role
-- of a column: `option`, its domain
pub record Beside : Type 0 where
  pub same : Bool
  pub option : Bool
  pub role : Bool

abbrev pub IsAdminOptionBeside : RoleGrant → Shown → Type 0
IsAdminOptionBeside g (of_role_admin other) = (other.role ≡ g.role) × (other.grantee ≡ g.grantee)
IsAdminOptionBeside g s = ⊥

abbrev pub IsDomainBeside : Option Object → Shown → Type 0
IsDomainBeside domain (of_domain d) = domain ≡ Some d.domain
IsDomainBeside domain s = ⊥

abbrev pub IsEnabledBeside : Right → Shown → Type 0
IsEnabledBeside r (of_enabled_role name) = (r.grantor ≡ auths.Named name) ⊎ (r.grantee ≡ auths.Named name)
IsEnabledBeside r s = ⊥

-- something is shown that is so
abbrev pub Shows : (Shown → Type 0) → (Shown → Type 0) → Type 0
Shows P Q = (s : Shown) × P s × Q s

-- what is so of a descriptor, where P is what is shown
abbrev pub IsBeside : (Shown → Type 0) → Shown → Beside → Type 0
IsBeside P (of_role_auth g) m = (IsTrue m.same ↔ P (of_role_admin g)) × (IsTrue m.option ↔ Shows P (IsAdminOptionBeside g)) × (m.role ≡ false)
IsBeside P (of_column x) m = (m.same ≡ false) × (IsTrue m.option ↔ Shows P (IsDomainBeside x.domain)) × (m.role ≡ false)
IsBeside P (of_held r) m = (m.same ≡ false) × (IsTrue m.option ↔ P (of_grantable r)) × (IsTrue m.role ↔ Shows P (IsEnabledBeside r))
IsBeside P s m = (m.same ≡ false) × (m.option ≡ false) × (m.role ≡ false)

-- ---- rows

-- each of some elements with its number, from n
abbrev pub numbered : {X : Type 0} → ℕ → List X → List (ℕ × X)
numbered n [] = []
numbered n (x ∷ xs) = (n, x) ∷ numbered (n + 1) xs

-- an action on tables, and no other
abbrev pub is_on_tables : Action → Bool
is_on_tables action.Usage = false
is_on_tables action.Execute = false
is_on_tables action.Admin = false
is_on_tables other = true

-- the table that a need is on, if it is on a table
abbrev pub table_on : List (List ℕ) → Action → Option Row
table_on on action = cond (is_on_tables action) (Some (path_cells on)) None

-- the column that a need is on, if it is on a column
abbrev pub column_on : List (List ℕ) → Option (List ℕ) → Option Row
column_on on None = None
column_on on (Some name) = Some (path_cells on ++ Words name ∷ [])

-- a row of these values, if there are any, behind others, or in front of them
abbrev pub behind : Row → Option Row → List Row
behind front None = []
behind front (Some cells) = (front ++ cells) ∷ []

abbrev pub in_front : Row → Option Row → List Row
in_front back None = []
in_front back (Some cells) = (cells ++ back) ∷ []

-- the object that has the needs, and a table or a column that they are on
abbrev pub uses_tables : Object → List Need → List Row
uses_tables o needs = flat_map (λ need. behind (object_cells o) (table_on need.on need.action)) needs

abbrev pub uses_columns : Object → List Need → List Row
uses_columns o needs = flat_map (λ need. behind (object_cells o) (column_on need.on need.column)) needs

-- a table or a column that needs are on, and the object that has them
abbrev pub tables_used : Object → List Need → List Row
tables_used o needs = flat_map (λ need. in_front (object_cells o) (table_on need.on need.action)) needs

abbrev pub columns_used : Object → List Need → List Row
columns_used o needs = flat_map (λ need. in_front (object_cells o) (column_on need.on need.column)) needs

abbrev pub applicable_row : RoleGrant → Bool → Row
applicable_row g flag = Words g.grantee ∷ Words g.role ∷ yes_cell flag ∷ []

abbrev pub descriptor_row : RoleGrant → Bool → Row
descriptor_row g flag = Words g.role ∷ Words g.grantee ∷ auth_cell g.grantor ∷ yes_cell flag ∷ []

abbrev pub role_auth_rows : Beside → RoleGrant → SchemaTable → List Row
role_auth_rows m g t.ApplicableRoles = applicable_row g m.option ∷ []
role_auth_rows m g t.AdministrableRoleAuthorizations = cond m.option (applicable_row g true ∷ []) []
role_auth_rows m g t.RoleAuthorizationDescriptors = descriptor_row g m.same ∷ []
role_auth_rows m g which = []

abbrev pub authorization_row : List ℕ → T → Row
authorization_row name kind = Words name ∷ Words kind ∷ []

abbrev pub user_rows : List ℕ → SchemaTable → List Row
user_rows name t.Authorizations = authorization_row name (codes "USER") ∷ []
user_rows name which = []

abbrev pub role_rows : List ℕ → SchemaTable → List Row
role_rows name t.Authorizations = authorization_row name (codes "ROLE") ∷ []
role_rows name which = []

abbrev pub enabled_role_rows : List ℕ → SchemaTable → List Row
enabled_role_rows name t.EnabledRoles = (Words name ∷ []) ∷ []
enabled_role_rows name which = []

abbrev pub schema_rows : Schema → SchemaTable → List Row
schema_rows s t.Schemata = (Words s.name ∷ Words s.owner ∷ []) ∷ []
schema_rows s which = []

abbrev pub kind_row : Object → T → Row
kind_row o kind = object_cells o ++ Words kind ∷ []

abbrev pub table_rows : Object → SchemaTable → List Row
table_rows o t.Tables = kind_row o (codes "BASE TABLE") ∷ []
table_rows o which = []

abbrev pub view_row : ShownView → Row
view_row v = object_cells v.view ++ query_cell v.query ∷ [] ++ Words (codes "NONE") ∷ [] ++ yes_cell v.plain ∷ []

abbrev pub view_rows : ShownView → SchemaTable → List Row
view_rows v t.Tables = kind_row v.view (codes "VIEW") ∷ []
view_rows v t.Views = view_row v ∷ []
view_rows v which = []

abbrev pub based_row : ShownColumn → Object → Row
based_row x d = object_cells d ++ object_cells x.table ++ Words x.name ∷ []

abbrev pub based_rows : ShownColumn → Option Object → List Row
based_rows x None = []
based_rows x (Some d) = based_row x d ∷ []

abbrev pub column_front : ShownColumn → Row
column_front x = object_cells x.table ++ Words x.name ∷ Number x.position ∷ []

abbrev pub column_row : ShownColumn → Row
column_row x = column_front x ++ default_cell x.default ∷ [] ++ yes_cell (not x.not_null) ∷ [] ++ type_cells x.sort ++ optional_object_cells x.domain

abbrev pub column_rows : Beside → ShownColumn → SchemaTable → List Row
column_rows m x t.Columns = column_row x ∷ []
column_rows m x t.ColumnDomainUsage = cond m.option (based_rows x x.domain) []
column_rows m x which = []

abbrev pub domain_row : ShownDomain → Row
domain_row d = object_cells d.domain ++ type_cells d.sort ++ default_cell d.default ∷ []

abbrev pub domain_rows : ShownDomain → SchemaTable → List Row
domain_rows d t.Domains = domain_row d ∷ []
domain_rows d which = []

abbrev pub check_row : Object → Expr → Row
check_row name condition = object_cells name ++ Words (expr_text condition) ∷ []

-- a check, domain check or assertion of this condition and these needs
abbrev pub check_rows : Object → Expr → List Need → SchemaTable → List Row
check_rows name condition needs t.CheckConstraints = check_row name condition ∷ []
check_rows name condition needs t.CheckTableUsage = uses_tables name needs
check_rows name condition needs t.CheckColumnUsage = uses_columns name needs
check_rows name condition needs t.ConstraintTableUsage = tables_used name needs
check_rows name condition needs t.ConstraintColumnUsage = columns_used name needs
check_rows name condition needs which = []

abbrev pub table_constraint : Object → Object → T → Row
table_constraint name table kind = object_cells name ++ object_cells table ++ Words kind ∷ []

abbrev pub key_usage_row : Object → Object → ℕ × List ℕ → Row
key_usage_row name table p = object_cells name ++ object_cells table ++ Words p.1 ∷ Number p.0 ∷ []

abbrev pub key_usage : Object → Object → List (List ℕ) → List Row
key_usage name table columns = map (key_usage_row name table) (numbered 1 columns)

-- columns that a constraint names
abbrev pub constraint_column : Object → Object → List ℕ → Row
constraint_column name table column = object_cells table ++ Words column ∷ object_cells name

abbrev pub constraint_columns : Object → Object → List (List ℕ) → List Row
constraint_columns name table columns = map (constraint_column name table) columns

abbrev pub pair_row : Object → Object → Row
pair_row a b = object_cells a ++ object_cells b

abbrev pub domain_check_rows : DomainCheck → SchemaTable → List Row
domain_check_rows d t.DomainConstraints = pair_row d.name d.domain ∷ []
domain_check_rows d which = check_rows d.name d.cond d.needs which

abbrev pub key_kind : Bool → T
key_kind primary = cond primary (codes "PRIMARY KEY") (codes "UNIQUE")

abbrev pub key_rows : Key → SchemaTable → List Row
key_rows k t.TableConstraints = table_constraint k.name k.table (key_kind k.primary) ∷ []
key_rows k t.KeyColumnUsage = key_usage k.name k.table k.columns
key_rows k t.ConstraintTableUsage = pair_row k.table k.name ∷ []
key_rows k t.ConstraintColumnUsage = constraint_columns k.name k.table k.columns
key_rows k which = []

abbrev pub referential_row : Foreign → Row
referential_row f = object_cells f.name ++ object_cells f.key ++ matching_cell f.matching ∷ [] ++ rule_cell f.on_update ∷ [] ++ rule_cell f.on_delete ∷ []

abbrev pub foreign_rows : Foreign → SchemaTable → List Row
foreign_rows f t.TableConstraints = table_constraint f.name f.table (codes "FOREIGN KEY") ∷ []
foreign_rows f t.ReferentialConstraints = referential_row f ∷ []
foreign_rows f t.KeyColumnUsage = key_usage f.name f.table f.columns
foreign_rows f t.ConstraintTableUsage = pair_row f.target f.name ∷ []
foreign_rows f t.ConstraintColumnUsage = constraint_columns f.name f.target f.target_columns
foreign_rows f which = []

abbrev pub table_check_rows : Check → SchemaTable → List Row
table_check_rows x t.TableConstraints = table_constraint x.name x.table (codes "CHECK") ∷ []
table_check_rows x which = check_rows x.name x.cond x.needs which

abbrev pub assertion_rows : Assertion → SchemaTable → List Row
assertion_rows a t.Assertions = object_cells a.name ∷ []
assertion_rows a which = check_rows a.name a.cond a.needs which

-- a function has a type that it returns
abbrev pub routine_kind : Option SqlType → Row
routine_kind None = Words (codes "PROCEDURE") ∷ Null ∷ []
routine_kind (Some sort) = Words (codes "FUNCTION") ∷ Words (type_name sort) ∷ []

abbrev pub parameter_row : Object → ℕ × Param → Row
parameter_row o p = object_cells o ++ Number p.0 ∷ Words (codes "IN") ∷ Words p.1.name ∷ Words (type_name p.1.sort) ∷ []

abbrev pub parameters : Object → List Param → List Row
parameters o params = map (parameter_row o) (numbered 1 params)

abbrev pub routine_row : ShownRoutine → Row
routine_row r = object_cells r.routine ++ routine_kind r.returns ++ body_cell r.body ∷ []

abbrev pub routine_rows : ShownRoutine → SchemaTable → List Row
routine_rows r t.Routines = routine_row r ∷ []
routine_rows r t.Parameters = parameters r.routine r.params
routine_rows r which = []

abbrev pub view_needs_rows : ShownNeeds → SchemaTable → List Row
view_needs_rows v t.ViewTableUsage = uses_tables v.object v.needs
view_needs_rows v t.ViewColumnUsage = uses_columns v.object v.needs
view_needs_rows v which = []

abbrev pub routine_needs_rows : ShownNeeds → SchemaTable → List Row
routine_needs_rows r t.RoutineTableUsage = uses_tables r.object r.needs
routine_needs_rows r which = []

-- the table of privileges that a privilege is in
pub data RightTable : Type 0 where
  on_table : RightTable
  on_column : RightTable
  on_domain : RightTable
  on_routine : RightTable
  on_nothing : RightTable

abbrev pub table_or_column : Option (List ℕ) → RightTable
table_or_column None = on_table
table_or_column (Some column) = on_column

abbrev pub right_table : Action → Option (List ℕ) → RightTable
right_table action.Usage column = on_domain
right_table action.Execute column = on_routine
right_table action.Admin column = on_nothing
right_table other column = table_or_column column

abbrev pub column_cells : Option (List ℕ) → Row
column_cells None = []
column_cells (Some name) = Words name ∷ []

-- GRANTOR, GRANTEE, the object
abbrev pub right_front : Right → Row
right_front r = auth_cell r.grantor ∷ auth_cell r.grantee ∷ path_cells r.need.on

-- PRIVILEGE_TYPE, IS_GRANTABLE
abbrev pub right_end : Right → Bool → Row
right_end r grantable = action_cell r.need.action ∷ yes_cell grantable ∷ []

abbrev pub right_row : Right → Row → Bool → Row
right_row r object grantable = right_front r ++ object ++ right_end r grantable

abbrev pub domain_kind : Row
domain_kind = Words (codes "DOMAIN") ∷ []

abbrev pub where_role : Beside → Row → List Row
where_role m row = cond m.role (row ∷ []) []

abbrev pub right_rows_of : SchemaTable → RightTable → Beside → Right → List Row
right_rows_of t.TablePrivileges on_table m r = right_row r [] m.option ∷ []
right_rows_of t.RoleTableGrants on_table m r = where_role m (right_row r [] m.option)
right_rows_of t.ColumnPrivileges on_column m r = right_row r (column_cells r.need.column) m.option ∷ []
right_rows_of t.RoleColumnGrants on_column m r = where_role m (right_row r (column_cells r.need.column) m.option)
right_rows_of t.UsagePrivileges on_domain m r = right_row r domain_kind m.option ∷ []
right_rows_of t.RoleUsageGrants on_domain m r = where_role m (right_row r domain_kind m.option)
right_rows_of t.RoutinePrivileges on_routine m r = right_row r [] m.option ∷ []
right_rows_of t.RoleRoutineGrants on_routine m r = where_role m (right_row r [] m.option)
right_rows_of which kind m r = []

abbrev pub right_rows : Beside → Right → SchemaTable → List Row
right_rows m r which = right_rows_of which (right_table r.need.action r.need.column) m r

-- the rows that a shown descriptor puts into a table
abbrev pub rows : SchemaTable → Beside → Shown → List Row
rows which m (of_user name) = user_rows name which
rows which m (of_role name) = role_rows name which
rows which m (of_enabled_role name) = enabled_role_rows name which
rows which m (of_role_auth g) = role_auth_rows m g which
rows which m (of_role_admin g) = []
rows which m (of_schema s) = schema_rows s which
rows which m (of_table o) = table_rows o which
rows which m (of_view v) = view_rows v which
rows which m (of_column x) = column_rows m x which
rows which m (of_domain d) = domain_rows d which
rows which m (of_domain_check d) = domain_check_rows d which
rows which m (of_key k) = key_rows k which
rows which m (of_foreign f) = foreign_rows f which
rows which m (of_check x) = table_check_rows x which
rows which m (of_assertion a) = assertion_rows a which
rows which m (of_routine r) = routine_rows r which
rows which m (of_view_needs n) = view_needs_rows n which
rows which m (of_routine_needs n) = routine_needs_rows n which
rows which m (of_held r) = right_rows m r which
rows which m (of_grantable r) = []

-- a row of a table, where P is what is shown
abbrev pub HasRow : (Shown → Type 0) → SchemaTable → Row → Type 0
HasRow P which row = (s : Shown) × (m : Beside) × P s × IsBeside P s m × Contains (rows which m s) row
