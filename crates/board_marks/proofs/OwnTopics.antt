-- Topics that an item depends on have keys of their own, but for what an option adds to.
use Rattle.std.proofs.Common.{◌≡◌, ◌⊎◌, inl, inr, sym, subst, List, Option, Some, None}
use Rattle.std.specs.Prelude.{ℕ}
use Rattle.sql_names.specs.declared.object.Object.{Object}
use Rattle.sql_tree.specs.declared.rights.Action.{Action}
use Rattle.sql_tree.specs.declared.rights.Action.TheVariants as action
use Rattle.cat_items.specs.declared.need.Auth.{Auth}
use Rattle.cat_items.specs.declared.need.Auth.TheVariants.{System, Public, Named}
use Rattle.cat_items.specs.declared.need.Need.{Need}
use Rattle.cat_items.specs.declared.item.Right.{Right}
use Rattle.cat_items.specs.declared.item.RoleGrant.{RoleGrant}
use Rattle.cat_items.specs.declared.item.Item.{Item}
use Rattle.cat_items.specs.declared.item.Item.TheVariants as item
use Rattle.cat_items.specs.Rights.{path_of}
use Rattle.cascade_laws.specs.Topics as on
use Rattle.cascade_laws.specs.Topics.{Topic, DependsOn, IsAuthTopic, IsColumnTopic, IsNameTopic, IsNeedTopic, IsObjectTopic, IsOptionTopic, IsOptionalDomainTopic, IsPartyTopic, IsRightTopic, IsRoleGrantTopic, by_name, by_option, of_need, of_supply, of_edges, of_role, of_admins}
use Rattle.board_graph.specs.Boards.{IsOwnTopic}

own : (s t : Topic) → IsOwnTopic s → t ≡ s → IsOwnTopic t
own s t is e = subst IsOwnTopic (sym e) is

auth_own : (a : Auth) (t : Topic) → IsAuthTopic a t → IsOwnTopic t
auth_own (Named name) t e = own (on.authorization name) t tt e
auth_own System t e = absurd e
auth_own Public t e = absurd e

column_own : (o : Object) (names : List (List ℕ)) (t : Topic) → IsColumnTopic o names t → IsOwnTopic t
column_own o names t is = own (on.column (path_of o) is.0) t tt is.2

domain_own : (o : Option Object) (t : Topic) → IsOptionalDomainTopic o t → IsOwnTopic t
domain_own None t e = absurd e
domain_own (Some o) t e = own (on.domain (path_of o)) t tt e

object_own : (a : Action) (path : List (List ℕ)) (t : Topic) → IsObjectTopic a path t → IsOwnTopic t
object_own action.Usage path t e = own (on.domain path) t tt e
object_own action.Execute path t e = own (on.routine path) t tt e
object_own action.Admin path t e = absurd e
object_own action.Select path t e = own (on.table path) t tt e
object_own action.Insert path t e = own (on.table path) t tt e
object_own action.Update path t e = own (on.table path) t tt e
object_own action.Delete path t e = own (on.table path) t tt e
object_own action.References path t e = own (on.table path) t tt e

need_own : (need : Need) (t : Topic) → IsNeedTopic need t → IsOwnTopic t
need_own need t (inl object) = object_own need.action need.on t object
need_own need t (inr column) = own (on.column need.on column.0) t tt column.2

party_own : (grantor grantee : Auth) (t : Topic) → IsPartyTopic grantor grantee t → IsOwnTopic t
party_own System grantee t is = absurd is
party_own Public grantee t is = elim is [ inl e ↦ absurd e | inr by ↦ auth_own grantee t by ]
party_own (Named name) grantee t is = elim is [ inl by ↦ auth_own (Named name) t by | inr by ↦ auth_own grantee t by ]

right_own : (r : Right) (t : Topic) → IsRightTopic r t → IsOwnTopic t
right_own r t (inl by) = need_own r.need t by
right_own r t (inr by) = party_own r.grantor r.grantee t by

grant_own : (g : RoleGrant) (t : Topic) → IsRoleGrantTopic g t → IsOwnTopic t
grant_own g t (inl e) = own (on.role_named g.role) t tt e
grant_own g t (inr (inl e)) = own (on.authorization g.grantee) t tt e
grant_own g t (inr (inr by)) = auth_own g.grantor t by

name_own : (x : Item) (t : Topic) → IsNameTopic x t → IsOwnTopic t
name_own (item.Schema x) t e = own (on.authorization x.owner) t tt e
name_own (item.Table o) t is = elim is [ inl e ↦ own (on.schema o.schema) t tt e | inr e ↦ own (on.columns o) t tt e ]
name_own (item.View v) t e = own (on.schema v.view.schema) t tt e
name_own (item.Column c) t is = elim is [ inl e ↦ own (on.table (path_of c.table)) t tt e | inr by ↦ domain_own c.domain t by ]
name_own (item.Domain d) t e = own (on.schema d.domain.schema) t tt e
name_own (item.DomainCheck d) t is = elim is [ inl e ↦ own (on.schema d.name.schema) t tt e | inr e ↦ own (on.domain (path_of d.domain)) t tt e ]
name_own (item.Key k) t is = elim is [
  | inl e ↦ own (on.schema k.name.schema) t tt e
  | inr more ↦ (elim more [ inl e ↦ own (on.base_table k.table) t tt e | inr by ↦ column_own k.table k.columns t by ])
]
name_own (item.Foreign f) t is = elim is [
  | inl e ↦ own (on.schema f.name.schema) t tt e
  | inr more ↦ (elim more [
    | inl e ↦ own (on.base_table f.table) t tt e
    | inr far ↦ (elim far [
      | inl by ↦ column_own f.table f.columns t by
      | inr target ↦ (elim target [
        | inl e ↦ own (on.base_table f.target) t tt e
        | inr last ↦ (elim last [ inl by ↦ column_own f.target f.target_columns t by | inr e ↦ own (on.key f.key) t tt e ])
      ])
    ])
  ])
]
name_own (item.Check c) t is = elim is [
  | inl e ↦ own (on.schema c.name.schema) t tt e
  | inr more ↦ (elim more [ inl e ↦ own (on.base_table c.table) t tt e | inr by ↦ column_own c.table c.columns t by ])
]
name_own (item.Assertion a) t e = own (on.schema a.name.schema) t tt e
name_own (item.Routine r) t e = own (on.schema r.routine.schema) t tt e
name_own (item.RoleAuth g) t is = grant_own g t is
name_own (item.RoleAdmin g) t is = grant_own g t is
name_own (item.Held r) t is = right_own r t is
name_own (item.Grantable r) t is = right_own r t is
name_own _ t is = absurd is

pub own_or_option : (c : List Item) (x : Item) (t : Topic) → DependsOn c x t → IsOwnTopic t ⊎ IsOptionTopic x t
own_or_option c x t (by_name is) = inl (name_own x t is)
own_or_option c x t (by_option is) = inr is
own_or_option c x t (of_need need is by) = inl (need_own need t by)
own_or_option c x t (of_supply need a g is by reach e) = inl (own (on.supply need g) t tt e)
own_or_option c x t (of_edges need a name is by reach e) = inl (own (on.edges name) t tt e)
own_or_option c x t (of_role a name is by reach e) = inl (own (on.edges name) t tt e)
own_or_option c x t (of_admins a role name is by reach e) = inl (own (on.admins role name) t tt e)
