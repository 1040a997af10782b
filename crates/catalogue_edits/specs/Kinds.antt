-- The statements that edit a catalogue, in one table: of each kind, by its parts, the tests in their order, the edit, what it
-- warns of, and whether it has the behaviour RESTRICT.
use Rattle.std.specs.Prelude.{◌≡◌, Bool, true, false, List, [], Option, Some, None}
use Rattle.sql_names.specs.declared.column.ObjectName.{ObjectName}
use Rattle.sql_tree.specs.declared.statement.Behaviour.{Behaviour}
use Rattle.sql_tree.specs.declared.statement.Behaviour.TheVariants.{Restrict, Cascade}
use Rattle.sql_tree.specs.declared.statement.AlterTableAction.{AlterTableAction}
use Rattle.sql_tree.specs.declared.statement.AlterTableAction.TheVariants.{DropColumn, DropConstraint}
use Rattle.sql_tree.specs.declared.statement.DropKind.{DropKind}
use Rattle.sql_tree.specs.declared.statement.DropKind.TheVariants.{Domain}
use Rattle.sql_tree.specs.declared.statement.Statement.{Statement}
use Rattle.sql_tree.specs.declared.statement.Statement.TheVariants.{AlterDomain, AlterTable, CreateAssertion, CreateSchema, CreateTable, CreateView, CreateDomain, CreateFunction, CreateProcedure, CreateRole, DropObject, DropRole, DropSchema, GrantPrivileges, GrantRoles, RevokePrivileges, RevokeRoles}
use Rattle.cat_items.specs.declared.edit.Edit.{Edit}
use Rattle.cat_items.specs.declared.edit.Refusal.{Refusal}
use Rattle.cat_items.specs.declared.edit.Who.{Who}
use Rattle.cat_items.specs.declared.item.Item.{Item}
use Rattle.edit_rules.specs.Names.{object_in}
use Rattle.table_additions.specs.Alterations.{IsTableAlteration, alter_table_refusals}
use Rattle.table_additions.specs.Tables.{IsTableCreation, create_table_refusals}
use Rattle.object_edits.specs.CreatedViews.{IsViewCreation, create_view_refusals}
use Rattle.domain_edits.specs.AlteredDomains.{IsDomainAlteration, alter_domain_refusals}
use Rattle.domain_edits.specs.CreatedDomains.{IsDomainCreation, create_domain_refusals}
use Rattle.assertion_edit.specs.CreatedAssertions.{IsAssertionCreation, create_assertion_refusals}
use Rattle.routine_edit.specs.CreatedRoutines.{IsFunctionCreation, IsProcedureCreation, create_function_refusals, create_procedure_refusals}
use Rattle.define_edit.specs.CreatedSchemas.{create_schema_edit, create_schema_refusals}
use Rattle.drop_edit.specs.DroppedObjects.{IsObjectDrop, drop_object_refusals}
use Rattle.drop_edit.specs.DroppedRoles.{IsRoleDrop, drop_role_refusals}
use Rattle.domain_drop.specs.Drops.{IsDomainDropOf, IsSchemaDrop, drop_domain_refusals, drop_schema_refusals}
use Rattle.role_edit.specs.CreatedRoles.{IsRoleCreation, create_role_refusals}
use Rattle.role_edit.specs.GrantedRoles.{IsRoleGrantEdit, grant_roles_refusals}
use Rattle.role_edit.specs.RevokedRoles.{IsRoleRevokeEdit, revoke_roles_refusals}
use Rattle.grant_edit.specs.Statements.{GrantsEdit, Revokes, granting_refusals, revoking_refusals}
use Rattle.catalogue_edits.specs.Warnings.{WarnsOfLess, WarnsOfNothing, is_silent}
use Rattle.catalogue_edits.specs.declared.warning.Warning.{Warning}

-- what is said of a kind of statement
pub record Kind : Type 1 where
  -- whether it is built
  pub built : Type 0
  -- the refusals by the tree, names, owners, taken names, what fits, and privileges, in their order
  pub refusals : List Item → Who → List (Refusal → Type 0)
  pub makes : List Item → Who → Edit → Type 0
  pub warns : List Item → Who → Edit → Option Warning → Type 0
  -- where it has RESTRICT: whether its refusal is that of REVOKE and DROP ROLE
  pub restricts : Option Bool

-- whether RESTRICT is said, and then whether it is REVOKE or DROP ROLE
abbrev pub where_restrict : Behaviour → Bool → Option Bool
where_restrict Restrict by_rights = Some by_rights
where_restrict Cascade by_rights = None

-- what isn't built
abbrev pub no_kind : Kind
no_kind = record { built = ⊥; refusals = λ c who. []; makes = λ c who edit. ⊥; warns = is_silent; restricts = None }

-- DROP of an object that only takes
abbrev pub take_kind : Behaviour → DropKind → ObjectName → Kind
take_kind behaviour kind name = record {
  built = Unit {0};
  refusals = λ c who. drop_object_refusals c who kind name;
  makes = λ c who. IsObjectDrop c kind (object_in who.schema name);
  warns = is_silent;
  restricts = where_restrict behaviour false;
}

-- DROP DOMAIN frees columns, and each other DROP of an object only takes
abbrev pub drop_kind : Behaviour → DropKind → ObjectName → Kind
drop_kind behaviour Domain name = record {
  built = Unit {0};
  refusals = λ c who. drop_domain_refusals c who name;
  makes = λ c who. IsDomainDropOf c who name;
  warns = is_silent;
  restricts = where_restrict behaviour false;
}
drop_kind behaviour kind name = take_kind behaviour kind name

-- ALTER TABLE has RESTRICT where it drops
abbrev pub restricts_of : AlterTableAction → Option Bool
restricts_of (DropColumn column behaviour) = where_restrict behaviour false
restricts_of (DropConstraint constraint behaviour) = where_restrict behaviour false
restricts_of action = None

-- CREATE SCHEMA without elements, and all other statements that edit
unfoldable pub kind_of : Statement → Kind
kind_of (CreateSchema s) = record { built = s.elements ≡ []; refusals = λ c who. create_schema_refusals c who s.schema; makes = λ c who edit. edit ≡ create_schema_edit who s.schema; warns = is_silent; restricts = None }
kind_of (CreateTable s) = record { built = Unit {0}; refusals = λ c who. create_table_refusals c who s; makes = λ c who. IsTableCreation c who s; warns = is_silent; restricts = None }
kind_of (CreateView s) = record { built = Unit {0}; refusals = λ c who. create_view_refusals c who s; makes = λ c who. IsViewCreation c who s; warns = is_silent; restricts = None }
kind_of (CreateDomain s) = record { built = Unit {0}; refusals = λ c who. create_domain_refusals c who s; makes = λ c who. IsDomainCreation c who s; warns = is_silent; restricts = None }
kind_of (CreateAssertion s) = record { built = Unit {0}; refusals = λ c who. create_assertion_refusals c who s; makes = λ c who. IsAssertionCreation c who s; warns = is_silent; restricts = None }
kind_of (AlterDomain s) = record { built = Unit {0}; refusals = λ c who. alter_domain_refusals c who s; makes = λ c who. IsDomainAlteration c who s; warns = is_silent; restricts = None }
kind_of (CreateFunction s) = record { built = Unit {0}; refusals = λ c who. create_function_refusals c who s; makes = λ c who. IsFunctionCreation c who s; warns = is_silent; restricts = None }
kind_of (CreateProcedure s) = record { built = Unit {0}; refusals = λ c who. create_procedure_refusals c who s; makes = λ c who. IsProcedureCreation c who s; warns = is_silent; restricts = None }
kind_of (AlterTable s) = record { built = Unit {0}; refusals = λ c who. alter_table_refusals c who s; makes = λ c who. IsTableAlteration c who s; warns = is_silent; restricts = restricts_of s.action }
kind_of (DropSchema schema behaviour) = record { built = Unit {0}; refusals = λ c who. drop_schema_refusals c who schema; makes = λ c who. IsSchemaDrop c schema; warns = is_silent; restricts = where_restrict behaviour false }
kind_of (DropObject d) = drop_kind d.behaviour d.kind d.object
kind_of (CreateRole r) = record { built = Unit {0}; refusals = λ c who. create_role_refusals c who r; makes = λ c who. IsRoleCreation c who r; warns = is_silent; restricts = None }
kind_of (DropRole role) = record { built = Unit {0}; refusals = λ c who. drop_role_refusals c who role; makes = λ c who. IsRoleDrop c role; warns = is_silent; restricts = Some true }
kind_of (GrantRoles g) = record { built = Unit {0}; refusals = λ c who. grant_roles_refusals c who g; makes = λ c who. IsRoleGrantEdit c who g; warns = is_silent; restricts = None }
kind_of (RevokeRoles g) = record { built = Unit {0}; refusals = λ c who. revoke_roles_refusals c who g; makes = λ c who. IsRoleRevokeEdit c who g; warns = WarnsOfNothing; restricts = where_restrict g.behaviour true }
kind_of (GrantPrivileges g) = record { built = Unit {0}; refusals = λ c who. granting_refusals c who g; makes = λ c who. GrantsEdit c who g; warns = WarnsOfLess g; restricts = None }
kind_of (RevokePrivileges g) = record { built = Unit {0}; refusals = λ c who. revoking_refusals c who g; makes = λ c who. Revokes c who g; warns = WarnsOfNothing; restricts = where_restrict g.behaviour true }
kind_of statement = no_kind
