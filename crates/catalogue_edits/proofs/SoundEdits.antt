-- The edit of each statement, by its definition alone: it leaves a good catalogue good, and all users as they are.
use Rattle.std.proofs.Common.{◌≡◌, ◌↔◌, List, [], ◌∷◌, Option, refl, sym, subst, inl, inr}
use Rattle.std.specs.List.{Contains}
use Rattle.finite_chains.proofs.Members.{Contains-nil, Contains-cases}
use Rattle.sql_names.specs.NameBytes.{NameBytes}
use Rattle.sql_names.specs.declared.object.Object.{Object}
use Rattle.sql_tree.specs.declared.statement.CreateRole.{CreateRole as CreateRoleParts}
use Rattle.sql_tree.specs.declared.statement.GrantPrivileges.{GrantPrivileges as GrantParts}
use Rattle.sql_tree.specs.declared.statement.GrantRoles.{GrantRoles as GrantRolesParts}
use Rattle.sql_tree.specs.declared.statement.Statement.{Statement}
use Rattle.sql_tree.specs.declared.statement.Statement.TheVariants.{AlterDomain, AlterTable, CreateAssertion, CreateSchema, CreateTable, CreateView, CreateDomain, CreateFunction, CreateProcedure, CreateRole, DropObject, DropRole, DropSchema, GrantPrivileges, GrantRoles, RevokePrivileges, RevokeRoles}
use Rattle.cat_items.specs.declared.edit.Edit.{Edit}
use Rattle.cat_items.specs.declared.edit.Refusal.TheVariants.{NameExists, NameReserved, RoleCycle, UnknownName}
use Rattle.cat_items.specs.declared.edit.Who.{Who}
use Rattle.cat_items.specs.declared.item.Item.{Item}
use Rattle.cat_items.specs.declared.item.Item.TheVariants as item
use Rattle.cat_items.specs.declared.limits.Limits.{Limits}
use Rattle.cat_items.specs.Good.{IsGood}
use Rattle.cat_items.specs.Rights.{admin}
use Rattle.edit_rules.specs.Chosen.{IsAdding, IsTaking}
use Rattle.edit_rules.specs.First.{First, Passes}
use Rattle.edit_rules.specs.Grantors.{no_current_role}
use Rattle.edit_rules.specs.Names.{object_in, unknown_role}
use Rattle.edit_rules.specs.Privileges.{no_privilege}
use Rattle.edit_rules.proofs.FirstLaws.{passes_behind, passes_first, passes_rest, passes_that}
use Rattle.edit_laws.specs.Sound.{IsSound}
use Rattle.edit_laws.specs.Users.{LeavesUsers}
use Rattle.edit_laws.proofs.Users.{users_stay}
use Rattle.statement_forms.specs.Written.{IsWritten}
use Rattle.sql_names.specs.declared.column.ObjectName.{ObjectName}
use Rattle.sql_tree.specs.declared.statement.Behaviour.{Behaviour}
use Rattle.sql_tree.specs.declared.statement.DropKind.{DropKind}
use Rattle.sql_tree.specs.declared.statement.DropKind.TheVariants as kind
use Rattle.domain_drop.proofs.DomainDrops.{domain_drop_leaves_users, sound_domain_drop}
use Rattle.domain_drop.proofs.SchemaDrops.{schema_drop_leaves_users, sound_schema_drop}
use Rattle.table_additions.proofs.Settled.{alteration_leaves_users as table_alteration_leaves_users, sound_alteration as sound_table_alteration}
use Rattle.table_additions.proofs.NewTables.{creation_leaves_users, sound_creation as sound_table}
use Rattle.routine_edit.specs.CreatedRoutines.{function_signature, procedure_signature}
use Rattle.routine_edit.proofs.Settled.{function_is_sound, procedure_is_sound, routine_leaves_users}
use Rattle.assertion_edit.proofs.NewAssertions.{assertion_leaves_users, sound_creation as sound_assertion}
use Rattle.domain_edits.proofs.Alterations.{alteration_leaves_users, sound_alteration}
use Rattle.domain_edits.proofs.NewDomains.{domain_leaves_users, sound_creation as sound_domain}
use Rattle.object_edits.proofs.SoundViews.{sound_creation as sound_view}
use Rattle.object_edits.proofs.ViewsSettled.{view_leaves_users}
use Rattle.define_edit.specs.CreatedSchemas.{schema_name, schema_owner}
use Rattle.define_edit.proofs.SchemaLemmas.{sound_creation as sound_schema}
use Rattle.drop_edit.specs.DroppedObjects.{GoesWith}
use Rattle.drop_edit.specs.DroppedRoles.{IsOfRole}
use Rattle.drop_edit.proofs.ObjectLemmas.{sound_drop, user_stays}
use Rattle.drop_edit.proofs.RoleLemmas.{sound_of_dropping}
use Rattle.role_edit.specs.CreatedRoles.{IsReservedRole, IsRoleCreation, IsTaken, authorization_exists, create_role_refusals, creating_role, grant_by_system, reserved_role}
use Rattle.role_edit.specs.GrantedRoles.{IsGrantedRole, IsRoleGrantEdit, grant_roles_refusals, no_admin_option, role_cycle, role_name_refusals}
use Rattle.role_edit.specs.RevokedRoles.{IsIdentifiedRoleGrant}
use Rattle.role_edit.proofs.Creating.{admin_is_another, sound_of_creating}
use Rattle.role_edit.proofs.Granting.{sound_of_granting}
use Rattle.role_edit.proofs.Taking.{sound_of_revoking}
use Rattle.grant_edit.specs.Grants.{IsGrant, IsToBeGranted}
use Rattle.grant_edit.specs.Named.{named_grantees, named_privileges}
use Rattle.grant_edit.specs.Revokes.{IsIdentifiedRight}
use Rattle.grant_edit.specs.Statements.{GrantsEdit, revoked_by, target_object}
use Rattle.grant_edit.proofs.RightLemmas.{grant_is_right}
use Rattle.grant_edit.proofs.Soundness.{adding_is_sound, taking_is_sound}
use Rattle.catalogue_edits.specs.Kinds.{drop_kind, kind_of}
use Rattle.catalogue_edits.specs.Revisions.{for_edit, outcome_refusals, revision_refusals, IsRevised}
use Rattle.catalogue_edits.specs.Statements.{edit_refusals, IsEditOf}
use Rattle.catalogue_edits.specs.declared.warning.Warning.{Warning}
use Rattle.catalogue_edits.proofs.Outcomes.{good_again}

-- ---- soundness

role_is_created_soundly : (c : List Item) (who : Who) (parts : CreateRoleParts) (edit : Edit) → IsGood c → Passes (First (create_role_refusals c who parts)) → IsRoleCreation c who parts edit → IsSound c edit
role_is_created_soundly c who parts edit good passed is =
    let none = no_current_role c who parts.admin in
    let taken = authorization_exists c who parts.role in
    let free : ¬ (IsReservedRole parts.role) = λ h. passes_first (reserved_role parts.role) (none ∷ taken ∷ []) passed NameReserved (h, refl) in
    let later = passes_rest none (taken ∷ []) (passes_rest (reserved_role parts.role) (none ∷ taken ∷ []) passed) in
    let new : ¬ (IsTaken c who parts.role) = λ h. passes_that taken later (NameExists (parts.role ∷ [])) (h, refl) in
    subst (IsSound c) (sym is.2) (sound_of_creating c parts.role is.0 good (λ h. new (inl h)) (admin_is_another c who parts.admin parts.role is.0 good new is.1) free)

roles_are_granted_soundly : (c : List Item) (who : Who) (parts : GrantRolesParts) (edit : Edit) → IsGood c → Passes (First (grant_roles_refusals c who parts)) → IsRoleGrantEdit c who parts edit → IsSound c edit
roles_are_granted_soundly c who parts edit good passed is =
    let cycle = role_cycle c parts.roles parts.grantees in
    let lacks = no_admin_option c who parts.grantor parts.roles in
    let later = passes_behind (role_name_refusals c who parts.roles parts.grantees parts.grantor) (cycle ∷ lacks ∷ []) passed in
    sound_of_granting c is.0 parts.roles parts.grantees parts.admin_option edit good (λ h. passes_first cycle (lacks ∷ []) later RoleCycle (h, refl)) is.2

role_is_dropped_soundly : (c : List Item) (who : Who) (role : NameBytes) (edit : Edit) → IsGood c → Passes (First (unknown_role c role ∷ no_privilege c who.user (admin role ∷ []) ∷ [])) → IsTaking c (IsOfRole role) edit → IsSound c edit
role_is_dropped_soundly c who role edit good passed is =
    sound_of_dropping c role edit good (λ none. passes_first (unknown_role c role) (no_privilege c who.user (admin role ∷ []) ∷ []) passed (UnknownName (role ∷ [])) (none, refl)) is

privileges_are_granted_soundly : (c : List Item) (who : Who) (parts : GrantParts) (edit : Edit) → IsGood c → GrantsEdit c who parts edit → IsSound c edit
privileges_are_granted_soundly c who parts edit good is =
    let object = target_object who parts.target in
    let granted = IsToBeGranted c is.0 object (named_privileges parts.target.kind object parts.privileges) in
    let whom = named_grantees parts.grantees in
    adding_is_sound c (IsGrant granted is.0 whom parts.grant_option) edit good is.2 (grant_is_right granted is.0 whom parts.grant_option)

object_is_dropped_soundly : (c : List Item) (who : Who) (behaviour : Behaviour) (k : DropKind) (name : ObjectName) (edit : Edit) → IsGood c → (drop_kind behaviour k name).makes c who edit → IsSound c edit
object_is_dropped_soundly c who behaviour kind.Domain name edit good is = sound_domain_drop c who name edit good is
object_is_dropped_soundly c who behaviour kind.Table name edit good is = sound_drop c kind.Table (object_in who.schema name) edit good is
object_is_dropped_soundly c who behaviour kind.View name edit good is = sound_drop c kind.View (object_in who.schema name) edit good is
object_is_dropped_soundly c who behaviour kind.Assertion name edit good is = sound_drop c kind.Assertion (object_in who.schema name) edit good is
object_is_dropped_soundly c who behaviour kind.Function name edit good is = sound_drop c kind.Function (object_in who.schema name) edit good is
object_is_dropped_soundly c who behaviour kind.Procedure name edit good is = sound_drop c kind.Procedure (object_in who.schema name) edit good is
object_is_dropped_soundly c who behaviour kind.Routine name edit good is = sound_drop c kind.Routine (object_in who.schema name) edit good is

pub edit_is_sound : (c : List Item) (who : Who) (s : Statement) (edit : Edit) → IsGood c → IsWritten s → Passes (First (edit_refusals c who s)) → IsEditOf c who s edit → IsSound c edit
unfolding kind_of
edit_is_sound c who (CreateSchema s) edit good written passed is =
    sound_schema c who (schema_name s.schema) (schema_owner s.schema who) (schema_name s.schema) (schema_owner s.schema who) edit good refl is passed
edit_is_sound c who (CreateTable s) edit good written passed is = sound_table c who s edit good written passed is
edit_is_sound c who (CreateView s) edit good written passed is = sound_view c who s edit good written passed is
edit_is_sound c who (CreateDomain s) edit good written passed is = sound_domain c who s edit good written passed is
edit_is_sound c who (CreateAssertion s) edit good written passed is = sound_assertion c who s edit good written passed is
edit_is_sound c who (AlterDomain s) edit good written passed is = sound_alteration c who s edit good written passed is
edit_is_sound c who (CreateFunction s) edit good written passed is = function_is_sound c who s edit good written passed is
edit_is_sound c who (CreateProcedure s) edit good written passed is = procedure_is_sound c who s edit good written passed is
edit_is_sound c who (AlterTable s) edit good written passed is = sound_table_alteration c who s edit good written passed is
edit_is_sound c who (DropSchema schema behaviour) edit good written passed is = sound_schema_drop c schema edit good is
edit_is_sound c who (DropObject d) edit good written passed is = object_is_dropped_soundly c who d.behaviour d.kind d.object edit good is
edit_is_sound c who (CreateRole r) edit good written passed is = role_is_created_soundly c who r edit good passed is
edit_is_sound c who (GrantRoles g) edit good written passed is = roles_are_granted_soundly c who g edit good passed is
edit_is_sound c who (RevokeRoles g) edit good written passed is = sound_of_revoking c is.0 g edit good is.2
edit_is_sound c who (DropRole role) edit good written passed is = role_is_dropped_soundly c who role edit good passed is
edit_is_sound c who (GrantPrivileges g) edit good written passed is = privileges_are_granted_soundly c who g edit good is
edit_is_sound c who (RevokePrivileges g) edit good written passed is = taking_is_sound c (revoked_by is.0 (target_object who g.target) g) edit good is.2
edit_is_sound c who _ edit good written passed is = absurd is

-- ---- users

adding_leaves_users : (P : Item → Type 0) (edit : Edit) → IsAdding P edit → ((name : NameBytes) → ¬ (P (item.User name))) → LeavesUsers edit
adding_leaves_users P edit is none name = (
  λ h. Contains-nil (item.User name) (subst (λ l. Contains l (item.User name)) is.target h),
  λ h. Contains-nil (item.User name) (subst (λ l. Contains l (item.User name)) is.changed h),
  λ h. none name ((is.added.members (item.User name)).0 h),
)

taking_leaves_users : (c : List Item) (P : Item → Type 0) (edit : Edit) → IsTaking c P edit → ((name : NameBytes) → ¬ (P (item.User name))) → LeavesUsers edit
taking_leaves_users c P edit is none name = (
  λ h. none name ((is.target.members (item.User name)).0 h).1,
  λ h. Contains-nil (item.User name) (subst (λ l. Contains l (item.User name)) is.changed h),
  λ h. Contains-nil (item.User name) (subst (λ l. Contains l (item.User name)) is.added h),
)

schema_leaves_users : (edit : Edit) (schema : Item) → ((name : NameBytes) → ¬ (schema ≡ item.User name)) → edit ≡ record { target = []; changed = []; added = schema ∷ [] } → LeavesUsers edit
schema_leaves_users edit schema other is = subst LeavesUsers (sym is) (λ name. (
  λ h. Contains-nil (item.User name) h,
  λ h. Contains-nil (item.User name) h,
  λ h. elim (Contains-cases schema [] (item.User name) h) [ inl e ↦ other name e | inr later ↦ Contains-nil (item.User name) later ],
))

role_leaves_users : (role administrator : NameBytes) → LeavesUsers (creating_role role administrator)
role_leaves_users role administrator name = (λ h. Contains-nil (item.User name) h, λ h. Contains-nil (item.User name) h, λ h. added h)
  where
    added : Contains (item.Role role ∷ item.RoleAuth (grant_by_system role administrator) ∷ item.RoleAdmin (grant_by_system role administrator) ∷ []) (item.User name) → ⊥
    added h =
        elim (Contains-cases (item.Role role) (item.RoleAuth (grant_by_system role administrator) ∷ item.RoleAdmin (grant_by_system role administrator) ∷ []) (item.User name) h) [
          | inl e ↦ cc
          | inr h2 ↦ elim (Contains-cases (item.RoleAuth (grant_by_system role administrator)) (item.RoleAdmin (grant_by_system role administrator) ∷ []) (item.User name) h2) [
            | inl e ↦ cc
            | inr h3 ↦ elim (Contains-cases (item.RoleAdmin (grant_by_system role administrator)) [] (item.User name) h3) [ inl e ↦ cc | inr h4 ↦ Contains-nil (item.User name) h4 ]
          ]
        ]

taken_leaves_users : (c : List Item) (k : DropKind) (object : Object) (edit : Edit) → IsTaking c (GoesWith k object) edit → LeavesUsers edit
taken_leaves_users c k object edit is = taking_leaves_users c (GoesWith k object) edit is (λ user h. user_stays k object user h)

object_drop_leaves_users : (c : List Item) (who : Who) (behaviour : Behaviour) (k : DropKind) (name : ObjectName) (edit : Edit) → (drop_kind behaviour k name).makes c who edit → LeavesUsers edit
object_drop_leaves_users c who behaviour kind.Domain name edit is = domain_drop_leaves_users c who name edit is
object_drop_leaves_users c who behaviour kind.Table name edit is = taken_leaves_users c kind.Table (object_in who.schema name) edit is
object_drop_leaves_users c who behaviour kind.View name edit is = taken_leaves_users c kind.View (object_in who.schema name) edit is
object_drop_leaves_users c who behaviour kind.Assertion name edit is = taken_leaves_users c kind.Assertion (object_in who.schema name) edit is
object_drop_leaves_users c who behaviour kind.Function name edit is = taken_leaves_users c kind.Function (object_in who.schema name) edit is
object_drop_leaves_users c who behaviour kind.Procedure name edit is = taken_leaves_users c kind.Procedure (object_in who.schema name) edit is
object_drop_leaves_users c who behaviour kind.Routine name edit is = taken_leaves_users c kind.Routine (object_in who.schema name) edit is

pub edit_leaves_users : (c : List Item) (who : Who) (s : Statement) (edit : Edit) → IsEditOf c who s edit → LeavesUsers edit
unfolding kind_of
edit_leaves_users c who (CreateSchema s) edit is = schema_leaves_users edit (item.Schema (record { name = schema_name s.schema; owner = schema_owner s.schema who })) (λ name e. cc) is
edit_leaves_users c who (CreateTable s) edit is = creation_leaves_users c who s edit is
edit_leaves_users c who (AlterTable s) edit is = table_alteration_leaves_users c who s edit is
edit_leaves_users c who (DropSchema schema behaviour) edit is = schema_drop_leaves_users c schema edit is
edit_leaves_users c who (CreateView s) edit is = view_leaves_users c who s edit is
edit_leaves_users c who (CreateDomain s) edit is = domain_leaves_users c who s edit is
edit_leaves_users c who (CreateAssertion s) edit is = assertion_leaves_users c who s edit is
edit_leaves_users c who (AlterDomain s) edit is = alteration_leaves_users c who s edit is
edit_leaves_users c who (CreateFunction s) edit is = routine_leaves_users c who (function_signature who s) s.body edit is
edit_leaves_users c who (CreateProcedure s) edit is = routine_leaves_users c who (procedure_signature who s) s.body edit is
edit_leaves_users c who (DropObject d) edit is = object_drop_leaves_users c who d.behaviour d.kind d.object edit is
edit_leaves_users c who (CreateRole r) edit is = subst LeavesUsers (sym is.2) (role_leaves_users r.role is.0)
edit_leaves_users c who (GrantRoles g) edit is = adding_leaves_users (IsGrantedRole is.0 g.roles g.grantees g.admin_option) edit is.2 (λ name h. h)
edit_leaves_users c who (RevokeRoles g) edit is = taking_leaves_users c (IsIdentifiedRoleGrant is.0 g) edit is.2 (λ name h. h)
edit_leaves_users c who (DropRole role) edit is = taking_leaves_users c (IsOfRole role) edit is (λ name h. h)
edit_leaves_users c who (GrantPrivileges g) edit is = adding_leaves_users _ edit is.2 (λ name h. h)
edit_leaves_users c who (RevokePrivileges g) edit is = taking_leaves_users c (IsIdentifiedRight (revoked_by is.0 (target_object who g.target) g)) edit is.2 (λ name h. h)
edit_leaves_users c who _ edit is = absurd is

-- ---- revisions

pub revision_good : (limits : Limits) (c : List Item) (who : Who) (s : Statement) (warning : Option Warning) (new : List Item) → IsWritten s → Passes (First (revision_refusals limits c who s)) → IsRevised c who s warning new
    → IsGood c → IsGood new
revision_good limits c who s warning new written passed revised good =
    let tests : Passes (First (edit_refusals c who s)) = passes_first (First (edit_refusals c who s)) (for_edit c who s (λ edit. First (outcome_refusals limits c (kind_of s).restricts edit)) ∷ []) passed in
    good_again c revised.edit new (edit_is_sound c who s revised.edit good written tests revised.is_edit) revised.is_new

pub revision_leaves_users : (c : List Item) (who : Who) (s : Statement) (warning : Option Warning) (new : List Item) → IsRevised c who s warning new → (name : NameBytes) → Contains new (item.User name) ↔ Contains c (item.User name)
revision_leaves_users c who s warning new revised = users_stay c new revised.edit (edit_leaves_users c who s revised.edit revised.is_edit) revised.is_new
