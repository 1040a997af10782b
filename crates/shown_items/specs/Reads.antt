-- Which tables have rows of a kind of descriptors.
use Rattle.std.specs.Prelude.{Bool, true, false}
use Rattle.cat_items.specs.declared.ranges.ObjectKind.{ObjectKind}
use Rattle.cat_items.specs.declared.ranges.ObjectKind.TheVariants as object
use Rattle.cat_items.specs.declared.ranges.Part.{Part}
use Rattle.cat_items.specs.declared.ranges.Part.TheVariants.{Objects, Schema, Table, View, Columns, Domain, Routine}
use Rattle.schema_tables.specs.declared.names.SchemaTable.{SchemaTable}
use Rattle.schema_tables.specs.declared.names.SchemaTable.TheVariants as t

abbrev pub reads_tables : SchemaTable → Bool
reads_tables t.Tables = true
reads_tables which = false

abbrev pub reads_views : SchemaTable → Bool
reads_views t.Tables = true
reads_views t.Views = true
reads_views t.ViewTableUsage = true
reads_views t.ViewColumnUsage = true
reads_views which = false

abbrev pub reads_columns : SchemaTable → Bool
reads_columns t.Columns = true
reads_columns t.ColumnDomainUsage = true
reads_columns which = false

abbrev pub reads_domains : SchemaTable → Bool
reads_domains t.Domains = true
reads_domains which = false

abbrev pub reads_routines : SchemaTable → Bool
reads_routines t.Routines = true
reads_routines t.Parameters = true
reads_routines t.RoutineTableUsage = true
reads_routines which = false

abbrev pub reads_roles : SchemaTable → Bool
reads_roles t.ApplicableRoles = true
reads_roles t.AdministrableRoleAuthorizations = true
reads_roles t.RoleAuthorizationDescriptors = true
reads_roles which = false

abbrev pub reads_rights : SchemaTable → Bool
reads_rights t.TablePrivileges = true
reads_rights t.ColumnPrivileges = true
reads_rights t.UsagePrivileges = true
reads_rights t.RoutinePrivileges = true
reads_rights t.RoleTableGrants = true
reads_rights t.RoleColumnGrants = true
reads_rights t.RoleUsageGrants = true
reads_rights t.RoleRoutineGrants = true
reads_rights which = false

abbrev pub reads_schemata : SchemaTable → Bool
reads_schemata t.Schemata = true
reads_schemata which = false

abbrev pub reads_view_needs : SchemaTable → Bool
reads_view_needs t.ViewTableUsage = true
reads_view_needs t.ViewColumnUsage = true
reads_view_needs which = false

abbrev pub reads_routine_needs : SchemaTable → Bool
reads_routine_needs t.RoutineTableUsage = true
reads_routine_needs which = false

abbrev pub reads_constraints : SchemaTable → Bool
reads_constraints t.DomainConstraints = true
reads_constraints t.TableConstraints = true
reads_constraints t.ReferentialConstraints = true
reads_constraints t.CheckConstraints = true
reads_constraints t.KeyColumnUsage = true
reads_constraints t.Assertions = true
reads_constraints t.ConstraintTableUsage = true
reads_constraints t.ConstraintColumnUsage = true
reads_constraints t.CheckTableUsage = true
reads_constraints t.CheckColumnUsage = true
reads_constraints which = false

-- what only the owner of a schema is shown of its objects
abbrev pub reads_owned : SchemaTable → ObjectKind → Bool
reads_owned which object.View = reads_view_needs which
reads_owned which object.Routine = reads_routine_needs which
reads_owned which object.Table = false
reads_owned which object.Column = false
reads_owned which object.Domain = false
reads_owned which kind = reads_constraints which

abbrev pub reads_part : SchemaTable → Part → Bool
reads_part which (Schema name) = reads_schemata which
reads_part which (Table key) = reads_tables which
reads_part which (View key) = reads_views which
reads_part which (Columns key) = reads_columns which
reads_part which (Domain key) = reads_domains which
reads_part which (Routine key) = reads_routines which
reads_part which (Objects kind schema) = reads_owned which kind
reads_part which part = true
