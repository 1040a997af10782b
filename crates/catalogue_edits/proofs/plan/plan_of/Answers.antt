use Rattle.std.proofs.Common.{refl, subst, sym}
use Rattle.sql_tree.specs.declared.statement.Statement.{Statement}
use Rattle.sql_tree.specs.declared.statement.Statement.TheVariants.{AlterDomain, AlterTable, CreateAssertion, CreateSchema, CreateTable, CreateView, CreateDomain, CreateFunction, CreateProcedure, CreateRole, DropRole, DropSchema, GrantPrivileges, GrantRoles, RevokePrivileges, RevokeRoles}
use Rattle.edit_rules.specs.First.{IsTested}
use Rattle.statement_forms.specs.Written.{IsWritten}
use Rattle.catalogue_edits.specs.Kinds.{kind_of}
use Rattle.catalogue_edits.specs.Statements.{IsPlanned}
use Rattle.catalogue_edits.proofs.Plans.{planned, silently, warns_as}
use Rattle.catalogue_edits.proofs.plan.plan_of.Goals as goal

pub create_table-requires-clause-written : goal.create_table-requires-clause-written
create_table-requires-clause-written c = subst IsWritten c.in-CreateTable.is c.requires.written

pub returns-in_ok-create_schema-in-CreateSchema-clause-planned : goal.returns-in_ok-create_schema-in-CreateSchema-clause-planned
unfolding kind_of
returns-in_ok-create_schema-in-CreateSchema-clause-planned c =
    let tested = c.in_ok-create_schema-in-CreateSchema.ensures.tested in
    silently _ (CreateSchema c.in-CreateSchema.parts) c.args.c.now.items c.args.who.now _ _ c.silent.result c.in-CreateSchema.is c.silent.ensures tested.0 tested.1 refl refl

pub returns-in_ok-create_table-in-CreateTable-clause-planned : goal.returns-in_ok-create_table-in-CreateTable-clause-planned
unfolding kind_of
returns-in_ok-create_table-in-CreateTable-clause-planned c =
    let tested = c.in_ok-create_table-in-CreateTable.ensures.tested in
    silently _ (CreateTable c.in-CreateTable.parts) c.args.c.now.items c.args.who.now _ _ c.silent-in-CreateTable.result c.in-CreateTable.is c.silent-in-CreateTable.ensures tested.0 tested.1 refl refl

pub create_view-requires-clause-written : goal.create_view-requires-clause-written
create_view-requires-clause-written c = subst IsWritten c.in-CreateView.is c.requires.written

pub returns-in_ok-create_view-in-CreateView-clause-planned : goal.returns-in_ok-create_view-in-CreateView-clause-planned
unfolding kind_of
returns-in_ok-create_view-in-CreateView-clause-planned c =
    let tested = c.in_ok-create_view-in-CreateView.ensures.tested in
    silently _ (CreateView c.in-CreateView.parts) c.args.c.now.items c.args.who.now _ _ c.silent-in-CreateView.result c.in-CreateView.is c.silent-in-CreateView.ensures tested.0 tested.1 refl refl

pub create_domain-requires-clause-written : goal.create_domain-requires-clause-written
create_domain-requires-clause-written c = subst IsWritten c.in-CreateDomain.is c.requires.written

pub returns-in_ok-create_domain-in-CreateDomain-clause-planned : goal.returns-in_ok-create_domain-in-CreateDomain-clause-planned
unfolding kind_of
returns-in_ok-create_domain-in-CreateDomain-clause-planned c =
    let tested = c.in_ok-create_domain-in-CreateDomain.ensures.tested in
    silently _ (CreateDomain c.in-CreateDomain.parts) c.args.c.now.items c.args.who.now _ _ c.silent-in-CreateDomain.result c.in-CreateDomain.is c.silent-in-CreateDomain.ensures tested.0 tested.1 refl refl

pub create_function-requires-clause-written : goal.create_function-requires-clause-written
create_function-requires-clause-written c = subst IsWritten c.in-CreateFunction.is c.requires.written

pub returns-in_ok-create_function-in-CreateFunction-clause-planned : goal.returns-in_ok-create_function-in-CreateFunction-clause-planned
unfolding kind_of
returns-in_ok-create_function-in-CreateFunction-clause-planned c =
    let tested = c.in_ok-create_function-in-CreateFunction.ensures.tested in
    silently _ (CreateFunction c.in-CreateFunction.parts) c.args.c.now.items c.args.who.now _ _ c.silent-in-CreateFunction.result c.in-CreateFunction.is c.silent-in-CreateFunction.ensures tested.0 tested.1 refl refl

pub create_procedure-requires-clause-written : goal.create_procedure-requires-clause-written
create_procedure-requires-clause-written c = subst IsWritten c.in-CreateProcedure.is c.requires.written

pub returns-in_ok-create_procedure-in-CreateProcedure-clause-planned : goal.returns-in_ok-create_procedure-in-CreateProcedure-clause-planned
unfolding kind_of
returns-in_ok-create_procedure-in-CreateProcedure-clause-planned c =
    let tested = c.in_ok-create_procedure-in-CreateProcedure.ensures.tested in
    silently _ (CreateProcedure c.in-CreateProcedure.parts) c.args.c.now.items c.args.who.now _ _ c.silent-in-CreateProcedure.result c.in-CreateProcedure.is c.silent-in-CreateProcedure.ensures tested.0 tested.1 refl refl

pub returns-in-DropObject-clause-planned : goal.returns-in-DropObject-clause-planned
unfolding kind_of
returns-in-DropObject-clause-planned c =
    let items = c.args.c.now.items in
    let who = c.args.who.now in
    subst (λ (s : Statement). IsTested ((kind_of s).refusals items who) (IsPlanned (kind_of s) items who) c.dropping.result) (sym c.in-DropObject.is) c.dropping.ensures.planned

pub returns-in_ok-create_role-in-CreateRole-clause-planned : goal.returns-in_ok-create_role-in-CreateRole-clause-planned
unfolding kind_of
returns-in_ok-create_role-in-CreateRole-clause-planned c =
    let tested = c.in_ok-create_role-in-CreateRole.ensures.tested in
    silently _ (CreateRole c.in-CreateRole.parts) c.args.c.now.items c.args.who.now _ _ c.silent-in-CreateRole.result c.in-CreateRole.is c.silent-in-CreateRole.ensures tested.0 tested.1 refl refl

pub returns-in_ok-drop_role-in-DropRole-clause-planned : goal.returns-in_ok-drop_role-in-DropRole-clause-planned
unfolding kind_of
returns-in_ok-drop_role-in-DropRole-clause-planned c =
    let tested = c.in_ok-drop_role-in-DropRole.ensures.tested in
    silently _ (DropRole c.in-DropRole.role) c.args.c.now.items c.args.who.now _ _ c.silent-in-DropRole.result c.in-DropRole.is c.silent-in-DropRole.ensures tested.0 tested.1 refl refl

pub returns-in_ok-grant_roles-in-GrantRoles-clause-planned : goal.returns-in_ok-grant_roles-in-GrantRoles-clause-planned
unfolding kind_of
returns-in_ok-grant_roles-in-GrantRoles-clause-planned c =
    let tested = c.in_ok-grant_roles-in-GrantRoles.ensures.tested in
    silently _ (GrantRoles c.in-GrantRoles.parts) c.args.c.now.items c.args.who.now _ _ c.silent-in-GrantRoles.result c.in-GrantRoles.is c.silent-in-GrantRoles.ensures tested.0 tested.1 refl refl

pub returns-in_ok-revoke_roles-in-RevokeRoles-clause-planned : goal.returns-in_ok-revoke_roles-in-RevokeRoles-clause-planned
unfolding kind_of
returns-in_ok-revoke_roles-in-RevokeRoles-clause-planned c =
    let tested = c.in_ok-revoke_roles-in-RevokeRoles.ensures.tested in
    let plan = c.revoking.ensures in
    planned _ (RevokeRoles c.in-RevokeRoles.parts) c.args.c.now.items c.args.who.now _ c.revoking.result c.in-RevokeRoles.is plan.edit tested.0 tested.1 plan.warning plan.restrict

pub returns-in_ok-revoke-in-RevokePrivileges-clause-planned : goal.returns-in_ok-revoke-in-RevokePrivileges-clause-planned
unfolding kind_of
returns-in_ok-revoke-in-RevokePrivileges-clause-planned c =
    let tested = c.in_ok-revoke-in-RevokePrivileges.ensures.tested in
    let plan = c.revoking-in-RevokePrivileges.ensures in
    planned _ (RevokePrivileges c.in-RevokePrivileges.parts) c.args.c.now.items c.args.who.now _ c.revoking-in-RevokePrivileges.result c.in-RevokePrivileges.is plan.edit tested.0 tested.1 plan.warning plan.restrict

pub returns-in_ok-grant-in-GrantPrivileges-clause-planned : goal.returns-in_ok-grant-in-GrantPrivileges-clause-planned
unfolding kind_of
returns-in_ok-grant-in-GrantPrivileges-clause-planned c =
    let tested = c.in_ok-grant-in-GrantPrivileges.ensures.tested in
    let plan = c.granting.ensures in
    let by = tested.1.2 in
    planned _ (GrantPrivileges c.in-GrantPrivileges.parts) c.args.c.now.items c.args.who.now _ c.granting.result c.in-GrantPrivileges.is plan.edit tested.0 (tested.1.0, tested.1.1, by.edit)
    (tested.1.0, tested.1.1, warns_as _ _ _ c.granting.result.warning by.partial.0 by.partial.1 plan.warning) plan.restrict

pub create_assertion-requires-clause-written : goal.create_assertion-requires-clause-written
create_assertion-requires-clause-written c = subst IsWritten c.in-CreateAssertion.is c.requires.written

pub returns-in_ok-create_assertion-in-CreateAssertion-clause-planned : goal.returns-in_ok-create_assertion-in-CreateAssertion-clause-planned
unfolding kind_of
returns-in_ok-create_assertion-in-CreateAssertion-clause-planned c =
    let tested = c.in_ok-create_assertion-in-CreateAssertion.ensures.tested in
    silently _ (CreateAssertion c.in-CreateAssertion.parts) c.args.c.now.items c.args.who.now _ _ c.silent-in-CreateAssertion.result c.in-CreateAssertion.is c.silent-in-CreateAssertion.ensures tested.0 tested.1 refl refl

pub alter_domain-requires-clause-written : goal.alter_domain-requires-clause-written
alter_domain-requires-clause-written c = subst IsWritten c.in-AlterDomain.is c.requires.written

pub returns-in_ok-alter_domain-in-AlterDomain-clause-planned : goal.returns-in_ok-alter_domain-in-AlterDomain-clause-planned
unfolding kind_of
returns-in_ok-alter_domain-in-AlterDomain-clause-planned c =
    let tested = c.in_ok-alter_domain-in-AlterDomain.ensures.tested in
    silently _ (AlterDomain c.in-AlterDomain.parts) c.args.c.now.items c.args.who.now _ _ c.silent-in-AlterDomain.result c.in-AlterDomain.is c.silent-in-AlterDomain.ensures tested.0 tested.1 refl refl

pub alter_table-requires-clause-written : goal.alter_table-requires-clause-written
alter_table-requires-clause-written c = subst IsWritten c.in-AlterTable.is c.requires.written

pub returns-in_ok-alter_table-in-AlterTable-clause-planned : goal.returns-in_ok-alter_table-in-AlterTable-clause-planned
unfolding kind_of
returns-in_ok-alter_table-in-AlterTable-clause-planned c =
    let tested = c.in_ok-alter_table-in-AlterTable.ensures.tested in
    silently _ (AlterTable c.in-AlterTable.parts) c.args.c.now.items c.args.who.now _ _ c.silent-in-AlterTable.result c.in-AlterTable.is c.silent-in-AlterTable.ensures tested.0 tested.1 refl c.restrict_of-restrict.ensures

pub returns-in_ok-drop_schema-in-DropSchema-clause-planned : goal.returns-in_ok-drop_schema-in-DropSchema-clause-planned
unfolding kind_of
returns-in_ok-drop_schema-in-DropSchema-clause-planned c =
    let tested = c.in_ok-drop_schema-in-DropSchema.ensures.tested in
    silently _ (DropSchema c.in-DropSchema.schema c.in-DropSchema.behaviour) c.args.c.now.items c.args.who.now _ _ c.silent-in-DropSchema.result c.in-DropSchema.is c.silent-in-DropSchema.ensures tested.0 tested.1 refl c.where_restrict-restrict.ensures
