-- A statement on roles has at most one refusal, and makes at most one edit.
use Rattle.std.proofs.Common.{◌≡◌, ℕ, List, map, Option, sym, subst, ap, ◌∙◌}
use Rattle.sql_tree.specs.declared.rights.Grantor.{Grantor}
use Rattle.sql_tree.specs.declared.statement.CreateRole.{CreateRole}
use Rattle.sql_tree.specs.declared.statement.GrantRoles.{GrantRoles}
use Rattle.sql_tree.specs.declared.statement.RevokeRoles.{RevokeRoles}
use Rattle.cat_items.specs.declared.edit.Edit.{Edit}
use Rattle.cat_items.specs.declared.edit.Who.{Who}
use Rattle.cat_items.specs.declared.item.Item.{Item}
use Rattle.cat_items.specs.Rights.{admin}
use Rattle.edit_rules.specs.Names.{unknown_authorization, unknown_role}
use Rattle.edit_rules.specs.Privileges.{no_privilege}
use Rattle.edit_rules.proofs.FirstLaws.{IsSettled, AreSettled, settled_append, settled_map}
use Rattle.edit_rules.proofs.Settled.{grantor_settled, lacks_settled}
use Rattle.edit_rules.specs.Chosen.{IsAdding, IsTaking}
use Rattle.edit_rules.proofs.SettledEdits.{adding_settled, taking_settled}
use Rattle.role_edit.specs.CreatedRoles.{create_role_refusals, creating_role, IsRoleCreation}
use Rattle.role_edit.specs.GrantedRoles.{role_name_refusals, grant_roles_refusals, no_admin_option, IsGrantedRole, IsRoleGrantEdit}
use Rattle.role_edit.specs.RevokedRoles.{revoke_roles_refusals, IsIdentifiedRoleGrant, IsRoleRevokeEdit}

lacks_option_settled : (c : List Item) (who : Who) (by : Option Grantor) (roles : List (List ℕ)) → IsSettled (no_admin_option c who by roles)
lacks_option_settled c who by roles a b p q =
    let same : p.0 ≡ q.0 = grantor_settled c who by p.0 q.0 p.1 q.1 in
    lacks_settled c q.0 (map admin roles) a b (subst (λ n. no_privilege c n (map admin roles) a) same p.2) q.2

names_settled : (c : List Item) (who : Who) (roles grantees : List (List ℕ)) (by : Option Grantor) → AreSettled (role_name_refusals c who roles grantees by)
names_settled c who roles grantees by =
    settled_append (map (unknown_role c) roles) _ (settled_map (unknown_role c) (λ n a b p q. p.1 ∙ sym q.1) roles)
    (settled_append (map (unknown_authorization c) grantees) _ (settled_map (unknown_authorization c) (λ n a b p q. p.1 ∙ sym q.1) grantees) ((λ a b p q. p.1 ∙ sym q.1), tt))

pub creation_refusals_settled : (c : List Item) (who : Who) (parts : CreateRole) → AreSettled (create_role_refusals c who parts)
creation_refusals_settled c who parts = ((λ a b p q. p.1 ∙ sym q.1), ((λ a b p q. p.1 ∙ sym q.1), ((λ a b p q. p.1 ∙ sym q.1), tt)))

pub grant_refusals_settled : (c : List Item) (who : Who) (parts : GrantRoles) → AreSettled (grant_roles_refusals c who parts)
grant_refusals_settled c who parts =
    settled_append (role_name_refusals c who parts.roles parts.grantees parts.grantor) _ (names_settled c who parts.roles parts.grantees parts.grantor)
    ((λ a b p q. p.1 ∙ sym q.1), (lacks_option_settled c who parts.grantor parts.roles, tt))

pub revoke_refusals_settled : (c : List Item) (who : Who) (parts : RevokeRoles) → AreSettled (revoke_roles_refusals c who parts)
revoke_refusals_settled c who parts = names_settled c who parts.roles parts.grantees parts.grantor

pub creation_settled : (c : List Item) (who : Who) (parts : CreateRole) (a b : Edit) → IsRoleCreation c who parts a → IsRoleCreation c who parts b → a ≡ b
creation_settled c who parts a b p q = p.2 ∙ ap (creating_role parts.role) (grantor_settled c who parts.admin p.0 q.0 p.1 q.1) ∙ sym q.2

pub grant_settled : (c : List Item) (who : Who) (parts : GrantRoles) (a b : Edit) → IsRoleGrantEdit c who parts a → IsRoleGrantEdit c who parts b → a ≡ b
grant_settled c who parts a b p q =
    let same : p.0 ≡ q.0 = grantor_settled c who parts.grantor p.0 q.0 p.1 q.1 in
    adding_settled (IsGrantedRole q.0 parts.roles parts.grantees parts.admin_option) a b
    (subst (λ n. IsAdding (IsGrantedRole n parts.roles parts.grantees parts.admin_option) a) same p.2) q.2

pub revoke_settled : (c : List Item) (who : Who) (parts : RevokeRoles) (a b : Edit) → IsRoleRevokeEdit c who parts a → IsRoleRevokeEdit c who parts b → a ≡ b
revoke_settled c who parts a b p q =
    let same : p.0 ≡ q.0 = grantor_settled c who parts.grantor p.0 q.0 p.1 q.1 in
    taking_settled c (IsIdentifiedRoleGrant q.0 parts) a b (subst (λ n. IsTaking c (IsIdentifiedRoleGrant n parts) a) same p.2) q.2
