-- What stands under a topic of a name that an item asks for is relevant to the item.
use Rattle.std.proofs.Common.{◌≡◌, inl, inr, List, [], ◌∷◌, Option, Some, None, ap, sym, subst, ◌∙◌}
use Rattle.std.specs.Prelude.{ℕ}
use Rattle.finite_chains.proofs.Members.{IsWithin-refl}
use Rattle.sql_names.specs.declared.object.Object.{Object}
use Rattle.sql_tree.specs.declared.rights.Action.{Action}
use Rattle.sql_tree.specs.declared.rights.Action.TheVariants as action
use Rattle.cat_items.specs.declared.need.Auth.{Auth}
use Rattle.cat_items.specs.declared.need.Auth.TheVariants.{System, Public, Named}
use Rattle.cat_items.specs.declared.need.Need.{Need}
use Rattle.cat_items.specs.declared.item.RoleGrant.{RoleGrant}
use Rattle.cat_items.specs.declared.item.Right.{Right}
use Rattle.cat_items.specs.declared.item.Item.{Item}
use Rattle.cat_items.specs.declared.item.Item.TheVariants as item
use Rattle.cat_items.specs.Reach.{Has}
use Rattle.cat_items.specs.Rights.{IsObject, IsColumn}
use Rattle.cat_items.specs.Relevant.{Relevant, IsAuth, IsPartOfNeed, IsFirstSchema, RightNames}
use Rattle.cat_items.specs.Relevant as relevant
use Rattle.cascade_laws.specs.Topics.{Topic, IsUnder, IsObjectTopic, IsNeedTopic, IsAuthTopic, IsPartyTopic, IsRightTopic, IsColumnTopic, IsOptionalDomainTopic, IsRoleGrantTopic, IsNameTopic, IsOptionTopic}
use Rattle.cascade_laws.specs.Topics as on
use Rattle.cascade_laws.specs.Asks.{IsFirstTopic, IsFarRightTopic, IsFarTopic}
use Rattle.cascade_laws.proofs.Least.{under_is_relevant}
use Rattle.look_up_bound.specs.TopicParts.{HasParts}

-- a topic that is neither of rights, of role authorizations nor of admin options
abbrev pub IsOfName : Topic → Type 0
IsOfName (on.supply need grantee) = ⊥
IsOfName (on.edges grantee) = ⊥
IsOfName (on.admins role grantee) = ⊥
IsOfName t = Unit {0}

pub has_under : (u : List Item) (t : Topic) → IsOfName t → HasParts u t → Has u (IsUnder t)
has_under u (on.supply need grantee) is h = absurd is
has_under u (on.edges grantee) is h = absurd is
has_under u (on.admins role grantee) is h = absurd is
has_under u _ is h = h

-- nor of what an option adds to
abbrev pub IsNear : Topic → Type 0
IsNear (on.held r) = ⊥
IsNear (on.role_auth g) = ⊥
IsNear t = IsOfName t

pub near_is_of_name : (t : Topic) → IsNear t → IsOfName t
near_is_of_name (on.held r) is = absurd is
near_is_of_name (on.role_auth g) is = absurd is
near_is_of_name _ is = is

-- ---- topics of names

named : (s t : Topic) → IsNear s → t ≡ s → IsNear t
named s t is e = subst IsNear (sym e) is

of_object : (by : Action) (path : List (List ℕ)) (t : Topic) → IsObjectTopic by path t → IsNear t
of_object action.Usage path t e = named (on.domain path) t tt e
of_object action.Execute path t e = named (on.routine path) t tt e
of_object action.Admin path t e = absurd e
of_object action.Select path t e = named (on.table path) t tt e
of_object action.Insert path t e = named (on.table path) t tt e
of_object action.Update path t e = named (on.table path) t tt e
of_object action.Delete path t e = named (on.table path) t tt e
of_object action.References path t e = named (on.table path) t tt e

pub of_need_name : (need : Need) (t : Topic) → IsNeedTopic need t → IsNear t
of_need_name need t (inl e) = of_object need.action need.on t e
of_need_name need t (inr e) = named (on.column need.on e.0) t tt e.2

of_columns : (o : Object) (names : List (List ℕ)) (t : Topic) → IsColumnTopic o names t → IsNear t
of_columns o names t e = named (on.column (o.schema ∷ o.name ∷ []) e.0) t tt e.2

of_domain : (d : Option Object) (t : Topic) → IsOptionalDomainTopic d t → IsNear t
of_domain None t e = absurd e
of_domain (Some o) t e = named (on.domain (o.schema ∷ o.name ∷ [])) t tt e

of_auth : (a : Auth) (t : Topic) → IsAuthTopic a t → IsNear t
of_auth (Named name) t e = named (on.authorization name) t tt e
of_auth System t e = absurd e
of_auth Public t e = absurd e

of_party : (grantor grantee : Auth) (t : Topic) → IsPartyTopic grantor grantee t → IsNear t
of_party System grantee t e = absurd e
of_party Public grantee t (inl e) = of_auth Public t e
of_party Public grantee t (inr e) = of_auth grantee t e
of_party (Named name) grantee t (inl e) = of_auth (Named name) t e
of_party (Named name) grantee t (inr e) = of_auth grantee t e

of_right : (r : Right) (t : Topic) → IsRightTopic r t → IsNear t
of_right r t (inl e) = of_need_name r.need t e
of_right r t (inr e) = of_party r.grantor r.grantee t e

of_role_grant : (g : RoleGrant) (t : Topic) → IsRoleGrantTopic g t → IsNear t
of_role_grant g t (inl e) = named (on.role_named g.role) t tt e
of_role_grant g t (inr (inl e)) = named (on.authorization g.grantee) t tt e
of_role_grant g t (inr (inr e)) = of_auth g.grantor t e

of_base : (o : Object) (t : Topic) → t ≡ on.base_table o → IsNear t
of_base o t e = named (on.base_table o) t tt e

of_schema : (name : List ℕ) (t : Topic) → t ≡ on.schema name → IsNear t
of_schema name t e = named (on.schema name) t tt e

pub of_name : (x : Item) (t : Topic) → IsNameTopic x t → IsNear t
of_name (item.Schema z) t e = named (on.authorization z.owner) t tt e
of_name (item.Table o) t (inl e) = of_schema o.schema t e
of_name (item.Table o) t (inr e) = named (on.columns o) t tt e
of_name (item.View v) t e = of_schema v.view.schema t e
of_name (item.Column k) t (inl e) = named (on.table (k.table.schema ∷ k.table.name ∷ [])) t tt e
of_name (item.Column k) t (inr e) = of_domain k.domain t e
of_name (item.Domain d) t e = of_schema d.domain.schema t e
of_name (item.DomainCheck d) t (inl e) = of_schema d.name.schema t e
of_name (item.DomainCheck d) t (inr e) = named (on.domain (d.domain.schema ∷ d.domain.name ∷ [])) t tt e
of_name (item.Key k) t (inl e) = of_schema k.name.schema t e
of_name (item.Key k) t (inr (inl e)) = of_base k.table t e
of_name (item.Key k) t (inr (inr e)) = of_columns k.table k.columns t e
of_name (item.Foreign f) t (inl e) = of_schema f.name.schema t e
of_name (item.Foreign f) t (inr (inl e)) = of_base f.table t e
of_name (item.Foreign f) t (inr (inr (inl e))) = of_columns f.table f.columns t e
of_name (item.Foreign f) t (inr (inr (inr (inl e)))) = of_base f.target t e
of_name (item.Foreign f) t (inr (inr (inr (inr (inl e))))) = of_columns f.target f.target_columns t e
of_name (item.Foreign f) t (inr (inr (inr (inr (inr e))))) = named (on.key f.key) t tt e
of_name (item.Check k) t (inl e) = of_schema k.name.schema t e
of_name (item.Check k) t (inr (inl e)) = of_base k.table t e
of_name (item.Check k) t (inr (inr e)) = of_columns k.table k.columns t e
of_name (item.Assertion z) t e = of_schema z.name.schema t e
of_name (item.Routine r) t e = of_schema r.routine.schema t e
of_name (item.RoleAuth g) t e = of_role_grant g t e
of_name (item.RoleAdmin g) t e = of_role_grant g t e
of_name (item.Held r) t e = of_right r t e
of_name (item.Grantable r) t e = of_right r t e
of_name _ t e = absurd e

pub of_option : (x : Item) (t : Topic) → IsOptionTopic x t → IsOfName t
of_option (item.Grantable r) t e = subst IsOfName (sym e) tt
of_option (item.RoleAdmin g) t e = subst IsOfName (sym e) tt
of_option _ t e = absurd e

of_first : (path : List (List ℕ)) (t : Topic) → IsFirstTopic path t → IsNear t
of_first [] t e = absurd e
of_first (name ∷ names) t e = of_schema name t e

of_far_right : (r : Right) (t : Topic) → IsFarRightTopic r t → IsNear t
of_far_right r t (inl e) = of_first r.need.on t e
of_far_right r t (inr (inl e)) = of_auth r.grantee t e
of_far_right r t (inr (inr e)) = of_auth r.grantor t e

pub of_far : (x : Item) (t : Topic) → IsFarTopic x t → IsNear t
of_far (item.Column k) t e = of_schema k.table.schema t e
of_far (item.Held r) t e = of_far_right r t e
of_far (item.Grantable r) t e = of_far_right r t e
of_far _ t e = absurd e

-- ---- what stands under them

under_object : (by : Action) (path : List (List ℕ)) (t : Topic) (y : Item) → IsObjectTopic by path t → IsUnder t y → IsObject by path y
under_object action.Usage path t y e is = subst (λ t. IsUnder t y) e is
under_object action.Execute path t y e is = subst (λ t. IsUnder t y) e is
under_object action.Admin path t y e is = absurd e
under_object action.Select path t y e is = subst (λ t. IsUnder t y) e is
under_object action.Insert path t y e is = subst (λ t. IsUnder t y) e is
under_object action.Update path t y e is = subst (λ t. IsUnder t y) e is
under_object action.Delete path t y e is = subst (λ t. IsUnder t y) e is
under_object action.References path t y e is = subst (λ t. IsUnder t y) e is

pub column_of_need : (need : Need) (name : List ℕ) (y : Item) → need.column ≡ Some name → IsColumn need.on name y → relevant.IsColumnOfNeed need y
column_of_need need name (item.Column k) e is = (is.0, e ∙ ap Some (sym is.1))
column_of_need need name _ e is = absurd is

under_need : (need : Need) (t : Topic) (y : Item) → IsNeedTopic need t → IsUnder t y → IsPartOfNeed need y
under_need need t y (inl e) is = inl (under_object need.action need.on t y e is)
under_need need t y (inr e) is = inr (column_of_need need e.0 y e.1 (subst (λ t. IsUnder t y) e.2 is))

under_first : (path : List (List ℕ)) (t : Topic) (y : Item) → IsFirstTopic path t → IsUnder t y → IsFirstSchema path y
under_first [] t y e is = absurd e
under_first (name ∷ names) t y e is = subst (λ t. IsUnder t y) e is

under_auth : (a : Auth) (t : Topic) (y : Item) → IsAuthTopic a t → IsUnder t y → IsAuth a y
under_auth (Named name) t y e is = subst (λ t. IsUnder t y) e is
under_auth System t y e is = absurd e
under_auth Public t y e is = absurd e

under_far_right : (r : Right) (t : Topic) (y : Item) → IsFarRightTopic r t → IsUnder t y → RightNames r y
under_far_right r t y (inl e) is = inr (inl (under_first r.need.on t y e is))
under_far_right r t y (inr (inl e)) is = inr (inr (inl (under_auth r.grantee t y e is)))
under_far_right r t y (inr (inr e)) is = inr (inr (inr (under_auth r.grantor t y e is)))

under_far : (x : Item) (t : Topic) (y : Item) → IsFarTopic x t → IsUnder t y → relevant.Names x y
under_far (item.Column k) t y e is = inl (subst (λ t. IsUnder t y) e is)
under_far (item.Held r) t y e is = under_far_right r t y e is
under_far (item.Grantable r) t y e is = under_far_right r t y e is
under_far _ t y e is = absurd e

module _ (u : List Item) (x y : Item) (t : Topic) (is : IsUnder t y) where
  pub name_relevant : IsNameTopic x t → Relevant u y x
  name_relevant e = under_is_relevant u u (IsWithin-refl u) t y x is (on.by_name e)

  pub option_relevant : IsOptionTopic x t → Relevant u y x
  option_relevant e = under_is_relevant u u (IsWithin-refl u) t y x is (on.by_option e)

  pub far_relevant : IsFarTopic x t → Relevant u y x
  far_relevant e = relevant.named (under_far x t y e is)

  pub need_relevant : (need : Need) → relevant.IsNeedOf u x need → IsNeedTopic need t → Relevant u y x
  need_relevant need sought e = relevant.on_need need sought (under_need need t y e is)
