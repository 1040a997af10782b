-- GRANT and REVOKE of privileges have at most one refusal, and make at most one edit.
use Rattle.std.proofs.Common.{◌≡◌, ℕ, List, ◌∷◌, map, sym, subst, ap, ◌∙◌}
use Rattle.sql_names.specs.declared.object.Object.{Object}
use Rattle.sql_tree.specs.declared.rights.Grantee.{Grantee}
use Rattle.sql_tree.specs.declared.rights.Grantee.TheVariants as grantee
use Rattle.sql_tree.specs.declared.rights.Privilege.{Privilege}
use Rattle.sql_tree.specs.declared.rights.Privileges.{Privileges}
use Rattle.sql_tree.specs.declared.rights.Privileges.TheVariants.{All, Listed}
use Rattle.sql_tree.specs.declared.rights.TargetKind.{TargetKind}
use Rattle.sql_tree.specs.declared.statement.GrantPrivileges.{GrantPrivileges}
use Rattle.sql_tree.specs.declared.statement.RevokePrivileges.{RevokePrivileges}
use Rattle.cat_items.specs.declared.edit.Edit.{Edit}
use Rattle.cat_items.specs.declared.edit.Refusal.TheVariants.{NoPrivilege}
use Rattle.cat_items.specs.declared.edit.Who.{Who}
use Rattle.cat_items.specs.declared.item.Item.{Item}
use Rattle.edit_rules.specs.Names.{unknown_column}
use Rattle.edit_rules.proofs.FirstLaws.{IsSettled, AreSettled, settled_append, settled_each, settled_map}
use Rattle.edit_rules.proofs.Settled.{grantor_settled, least_settled}
use Rattle.edit_rules.specs.Chosen.{IsAdding, IsTaking}
use Rattle.edit_rules.proofs.SettledEdits.{adding_settled, taking_settled}
use Rattle.grant_edit.specs.Grants.{IsGrant, IsToBeGranted}
use Rattle.grant_edit.specs.Named.{named_grantees}
use Rattle.grant_edit.specs.Revokes.{IsIdentifiedRight}
use Rattle.grant_edit.specs.Statements.{revoked_by, granting_refusals, revoking_refusals, no_privilege_granted, privileges_named, GrantsEdit, Revokes, target_object}
use Rattle.grant_edit.specs.Targets.{unknown_listed_columns, unknown_grantee, unknown_names_of_rights, unknown_target_object}

columns_settled : (c : List Item) (object : Object) (privileges : Privileges) → AreSettled (unknown_listed_columns c object privileges)
columns_settled c object All = tt
columns_settled c object (Listed all) =
    settled_each (λ (p : Privilege). map (unknown_column c object) p.columns) (λ p. settled_map (unknown_column c object) (λ n a b h k. h.1 ∙ sym k.1) p.columns) all

grantee_settled : (c : List Item) (g : Grantee) → IsSettled (unknown_grantee c g)
grantee_settled c grantee.Public a b p q = absurd p
grantee_settled c (grantee.Named n) a b p q = p.1 ∙ sym q.1

names_settled : (c : List Item) (object : Object) (privileges : Privileges) (kind : TargetKind) (grantees : List Grantee) → AreSettled (unknown_names_of_rights c object privileges kind grantees)
names_settled c object privileges kind grantees =
    settled_append (unknown_listed_columns c object privileges) (unknown_target_object c kind object ∷ map (unknown_grantee c) grantees) (columns_settled c object privileges)
    ((λ a b p q. p.1 ∙ sym q.1), settled_map (unknown_grantee c) (grantee_settled c) grantees)

no_grant_settled : (c : List Item) (who : Who) (parts : GrantPrivileges) → IsSettled (no_privilege_granted c who parts)
no_grant_settled c who parts a b p q = p.2.1.2 ∙ ap NoPrivilege (least_settled _ p.2.1.0 q.2.1.0 p.2.1.1 q.2.1.1) ∙ sym q.2.1.2

pub granting_refusals_settled : (c : List Item) (who : Who) (parts : GrantPrivileges) → AreSettled (granting_refusals c who parts)
granting_refusals_settled c who parts =
    settled_append (unknown_names_of_rights c (target_object who parts.target) parts.privileges parts.target.kind parts.grantees) _
    (names_settled c (target_object who parts.target) parts.privileges parts.target.kind parts.grantees) ((λ a b p q. p.1 ∙ sym q.1), (no_grant_settled c who parts, tt))

pub revoking_refusals_settled : (c : List Item) (who : Who) (parts : RevokePrivileges) → AreSettled (revoking_refusals c who parts)
revoking_refusals_settled c who parts =
    settled_append (unknown_names_of_rights c (target_object who parts.target) parts.privileges parts.target.kind parts.grantees) _
    (names_settled c (target_object who parts.target) parts.privileges parts.target.kind parts.grantees) ((λ a b p q. p.1 ∙ sym q.1), tt)

pub granting_settled : (c : List Item) (who : Who) (parts : GrantPrivileges) (a b : Edit) → GrantsEdit c who parts a → GrantsEdit c who parts b → a ≡ b
granting_settled c who parts a b p q =
    let P : List ℕ → Item → Type 0 = λ n. IsGrant (IsToBeGranted c n (target_object who parts.target) (privileges_named who parts.privileges parts.target)) n (named_grantees parts.grantees) parts.grant_option in
    let same : p.0 ≡ q.0 = grantor_settled c who parts.grantor p.0 q.0 p.1 q.1 in
    adding_settled (P q.0) a b (subst (λ n. IsAdding (P n) a) same p.2) q.2

pub revocation_settled : (c : List Item) (who : Who) (parts : RevokePrivileges) (a b : Edit) → Revokes c who parts a → Revokes c who parts b → a ≡ b
revocation_settled c who parts a b p q =
    let P : List ℕ → Item → Type 0 = λ n. IsIdentifiedRight (revoked_by n (target_object who parts.target) parts) in
    let same : p.0 ≡ q.0 = grantor_settled c who parts.grantor p.0 q.0 p.1 q.1 in
    taking_settled c (P q.0) a b (subst (λ n. IsTaking c (P n) a) same p.2) q.2
