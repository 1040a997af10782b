-- GRANT and REVOKE of privileges: their refusals, and the edits that they make.
use Rattle.std.specs.Prelude.{◌↔◌, List, [], ◌∷◌, ◌++◌, IsTrue}
use Rattle.sql_names.specs.NameBytes.{NameBytes}
use Rattle.sql_names.specs.declared.object.Object.{Object}
use Rattle.sql_tree.specs.declared.rights.Target.{Target}
use Rattle.sql_tree.specs.declared.rights.Privileges.{Privileges}
use Rattle.sql_tree.specs.declared.statement.GrantPrivileges.{GrantPrivileges}
use Rattle.sql_tree.specs.declared.statement.RevokePrivileges.{RevokePrivileges}
use Rattle.sql_tree.specs.declared.statement.Statement.{Statement}
use Rattle.sql_tree.specs.declared.statement.Statement.TheVariants as statement
use Rattle.cat_items.specs.declared.edit.Edit.{Edit}
use Rattle.cat_items.specs.declared.edit.Refusal.{Refusal}
use Rattle.cat_items.specs.declared.edit.Who.{Who}
use Rattle.cat_items.specs.declared.item.Item.{Item}
use Rattle.cat_items.specs.declared.need.Need.{Need}
use Rattle.edit_rules.specs.Grantors.{IsGrantor, no_current_role}
use Rattle.edit_rules.specs.Names.{object_in}
use Rattle.grant_edit.specs.declared.grants.Granting.{Granting}
use Rattle.edit_rules.specs.Chosen.{IsAdding, IsTaking}
use Rattle.grant_edit.specs.Grants.{IsGrant, IsToBeGranted, IsPartial, no_privilege_to_grant}
use Rattle.grant_edit.specs.Named.{named_grantees, named_privileges}
use Rattle.grant_edit.specs.Revokes.{IsIdentifiedRight, Revoked}
use Rattle.grant_edit.specs.Targets.{unknown_names_of_rights}

-- the object that a target names, in the session's schema where it names none
abbrev pub target_object : Who → Target → Object
target_object who target = object_in who.schema target.object

-- the privileges that are named on it
abbrev pub privileges_named : Who → Privileges → Target → List Need
privileges_named who privileges target = named_privileges target.kind (target_object who target) privileges

-- nothing can be granted by the statement's grantor
abbrev pub no_privilege_granted : List Item → Who → GrantPrivileges → Refusal → Type 0
no_privilege_granted c who parts refusal = (grantor : NameBytes) × IsGrantor c who parts.grantor grantor × no_privilege_to_grant c grantor (privileges_named who parts.privileges parts.target) refusal

-- GRANT: names in reading order, CURRENT_ROLE behind them, then what can be granted
abbrev pub granting_refusals : List Item → Who → GrantPrivileges → List (Refusal → Type 0)
granting_refusals c who parts = unknown_names_of_rights c (target_object who parts.target) parts.privileges parts.target.kind parts.grantees
    ++ no_current_role c who parts.grantor ∷ no_privilege_granted c who parts ∷ []

-- by this grantor each grantee is granted what is named on the object and can be granted
abbrev pub GrantsEditBy : List Item → NameBytes → Object → GrantPrivileges → Edit → Type 0
GrantsEditBy c grantor object parts edit = IsAdding (IsGrant (IsToBeGranted c grantor object (named_privileges parts.target.kind object parts.privileges)) grantor (named_grantees parts.grantees) parts.grant_option) edit

-- this grantor grants so, and the warning is due where not all that is named can be granted
pub record GrantsBy (c : List Item) (grantor : NameBytes) (object : Object) (parts : GrantPrivileges) (granting : Granting) : Type 0 where
  pub edit : GrantsEditBy c grantor object parts granting.edit
  pub partial : IsTrue granting.partial ↔ IsPartial c grantor parts.privileges (named_privileges parts.target.kind object parts.privileges)

-- GRANT by the statement's grantor: its edit, and whether a warning is due
abbrev pub Grants : List Item → Who → GrantPrivileges → Granting → Type 0
Grants c who parts granting = (grantor : NameBytes) × IsGrantor c who parts.grantor grantor × GrantsBy c grantor (target_object who parts.target) parts granting

-- the edit of GRANT by the statement's grantor
abbrev pub GrantsEdit : List Item → Who → GrantPrivileges → Edit → Type 0
GrantsEdit c who parts edit = (grantor : NameBytes) × IsGrantor c who parts.grantor grantor × GrantsEditBy c grantor (target_object who parts.target) parts edit

-- REVOKE: names in reading order, CURRENT_ROLE behind them, and nothing else
abbrev pub revoking_refusals : List Item → Who → RevokePrivileges → List (Refusal → Type 0)
revoking_refusals c who parts = unknown_names_of_rights c (target_object who parts.target) parts.privileges parts.target.kind parts.grantees
    ++ no_current_role c who parts.grantor ∷ []

-- what a grantor revokes by a statement on an object
abbrev pub revoked_by : NameBytes → Object → RevokePrivileges → Revoked
revoked_by grantor object parts = record {
  object = object;
  named = named_privileges parts.target.kind object parts.privileges;
  grantor = grantor;
  grantees = named_grantees parts.grantees;
  option_alone = parts.option_alone;
}

-- what this grantor granted to the grantees of what is named on the object is destroyed
abbrev pub RevokesBy : List Item → NameBytes → Object → RevokePrivileges → Edit → Type 0
RevokesBy c grantor object parts edit = IsTaking c (IsIdentifiedRight (revoked_by grantor object parts)) edit

-- the edit of REVOKE by the statement's grantor
abbrev pub Revokes : List Item → Who → RevokePrivileges → Edit → Type 0
Revokes c who parts edit = (grantor : NameBytes) × IsGrantor c who parts.grantor grantor × RevokesBy c grantor (target_object who parts.target) parts edit

abbrev pub IsGrantStatement : Statement → Type 0
IsGrantStatement (statement.GrantPrivileges parts) = Unit {0}
IsGrantStatement other = ⊥

abbrev pub grant_refusals : List Item → Who → Statement → List (Refusal → Type 0)
grant_refusals c who (statement.GrantPrivileges parts) = granting_refusals c who parts
grant_refusals c who other = []

abbrev pub IsGranting : List Item → Who → Statement → Granting → Type 0
IsGranting c who (statement.GrantPrivileges parts) granting = Grants c who parts granting
IsGranting c who other granting = ⊥

abbrev pub IsRevokeStatement : Statement → Type 0
IsRevokeStatement (statement.RevokePrivileges parts) = Unit {0}
IsRevokeStatement other = ⊥

abbrev pub revoke_refusals : List Item → Who → Statement → List (Refusal → Type 0)
revoke_refusals c who (statement.RevokePrivileges parts) = revoking_refusals c who parts
revoke_refusals c who other = []

abbrev pub IsRevocation : List Item → Who → Statement → Edit → Type 0
IsRevocation c who (statement.RevokePrivileges parts) edit = Revokes c who parts edit
IsRevocation c who other edit = ⊥
