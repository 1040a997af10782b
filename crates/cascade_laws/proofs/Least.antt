-- What stands under a topic is relevant to what depends on it: suspicion that spreads over topics makes no item a suspect that isn't one.
use Rattle.std.proofs.Common.{◌≡◌, ◌⊎◌, inl, inr, List, [], ◌∷◌, Option, Some, None, ap, sym, subst, ◌∙◌}
use Rattle.std.specs.Prelude.{ℕ}
use Rattle.std.specs.List.{Contains}
use Rattle.finite_chains.specs.Chains.{IsWithin}
use Rattle.sql_names.specs.declared.object.Object.{Object}
use Rattle.sql_tree.specs.declared.rights.Action.{Action}
use Rattle.sql_tree.specs.declared.rights.Action.TheVariants as action
use Rattle.cat_items.specs.declared.need.Auth.{Auth}
use Rattle.cat_items.specs.declared.need.Auth.TheVariants.{System, Public, Named}
use Rattle.cat_items.specs.declared.need.Need.{Need}
use Rattle.cat_items.specs.declared.item.View.{View}
use Rattle.cat_items.specs.declared.item.RoleGrant.{RoleGrant}
use Rattle.cat_items.specs.declared.item.Right.{Right}
use Rattle.cat_items.specs.declared.item.Item.{Item}
use Rattle.cat_items.specs.declared.item.Item.TheVariants as item
use Rattle.cat_items.specs.Reach.{Reaches}
use Rattle.cat_items.specs.Rights.{path_of, IsObject, IsColumn}
use Rattle.cat_items.specs.Relevant.{Relevant, IsActor, IsOwnedSchema, Owns, OwnsPath, ActsInRight, IsBaseNeed, IsBaseColumnNeed, IsViewNeed, IsObjectNeed, IsRightNeed, IsNeedOf, IsAuth, IsColumnAmong, IsPartOfNeed, IsOptionalDomain, RoleGrantNames, RightNames, Names, IsRightOf, IsRoleFor, IsOptionOn}
use Rattle.cat_items.specs.Relevant as relevant
use Rattle.support_laws.proofs.Monotone.{has_more, reaches_more}
use Rattle.cascade_laws.specs.Topics.{Topic, IsUnder, IsSupply, IsObjectTopic, IsNeedTopic, IsAuthTopic, IsPartyTopic, IsRightTopic, IsColumnTopic, IsOptionalDomainTopic, IsRoleGrantTopic, IsNameTopic, IsOptionTopic, IsUpdateNeed, IsUpdateNeedOn, IsOwnRightNeed, IsOwnNeed, IsGrantOf, DependsOn, by_name, by_option, of_need, of_supply, of_edges, of_role, of_admins}
use Rattle.cascade_laws.specs.Topics as on

under_object : (by : Action) (path : List (List ℕ)) (t : Topic) (y : Item) → IsObjectTopic by path t → IsUnder t y → IsObject by path y
under_object action.Usage path t y e is = subst (λ t. IsUnder t y) e is
under_object action.Execute path t y e is = subst (λ t. IsUnder t y) e is
under_object action.Admin path t y e is = absurd e
under_object action.Select path t y e is = subst (λ t. IsUnder t y) e is
under_object action.Insert path t y e is = subst (λ t. IsUnder t y) e is
under_object action.Update path t y e is = subst (λ t. IsUnder t y) e is
under_object action.Delete path t y e is = subst (λ t. IsUnder t y) e is
under_object action.References path t y e is = subst (λ t. IsUnder t y) e is

column_of_need : (need : Need) (name : List ℕ) (y : Item) → need.column ≡ Some name → IsColumn need.on name y → relevant.IsColumnOfNeed need y
column_of_need need name (item.Column k) e is = (is.0, e ∙ ap Some (sym is.1))
column_of_need need name _ e is = absurd is

under_need : (need : Need) (t : Topic) (y : Item) → IsNeedTopic need t → IsUnder t y → IsPartOfNeed need y
under_need need t y (inl e) is = inl (under_object need.action need.on t y e is)
under_need need t y (inr e) is = inr (column_of_need need e.0 y e.1 (subst (λ t. IsUnder t y) e.2 is))

same_object : (a b : Object) → path_of a ≡ path_of b → b ≡ a
same_object a b e =
    let schemas : a.schema ≡ b.schema = cc in
    let names : a.name ≡ b.name = cc in
    λ i. record { schema = sym schemas i; name = sym names i }

under_column : (table : Object) (names : List (List ℕ)) (t : Topic) (y : Item) → IsColumnTopic table names t → IsUnder t y → IsColumnAmong table names y
under_column table names t y e is = by y (subst (λ t. IsUnder t y) e.2 is)
  where
    by : (y : Item) → IsColumn (path_of table) e.0 y → IsColumnAmong table names y
    by (item.Column k) is = (same_object table k.table is.0, subst (Contains names) (sym is.1) e.1)
    by _ is = absurd is

under_domain : (d : Option Object) (t : Topic) (y : Item) → IsOptionalDomainTopic d t → IsUnder t y → IsOptionalDomain d y
under_domain None t y e is = absurd e
under_domain (Some o) t y e is = subst (λ t. IsUnder t y) e is

under_auth : (a : Auth) (t : Topic) (y : Item) → IsAuthTopic a t → IsUnder t y → IsAuth a y
under_auth (Named name) t y e is = subst (λ t. IsUnder t y) e is
under_auth System t y e is = absurd e
under_auth Public t y e is = absurd e

under_party : (grantor grantee : Auth) (t : Topic) (y : Item) → IsPartyTopic grantor grantee t → IsUnder t y → IsAuth grantor y ⊎ IsAuth grantee y
under_party System grantee t y e is = absurd e
under_party Public grantee t y (inl e) is = inl (under_auth Public t y e is)
under_party Public grantee t y (inr e) is = inr (under_auth grantee t y e is)
under_party (Named name) grantee t y (inl e) is = inl (under_auth (Named name) t y e is)
under_party (Named name) grantee t y (inr e) is = inr (under_auth grantee t y e is)

under_right : (r : Right) (t : Topic) (y : Item) → IsRightTopic r t → IsUnder t y → RightNames r y
under_right r t y (inl e) is = inl (under_need r.need t y e is)
under_right r t y (inr e) is = elim (under_party r.grantor r.grantee t y e is) [ inl by ↦ inr (inr (inr by)) | inr to ↦ inr (inr (inl to)) ]

under_role_grant : (g : RoleGrant) (t : Topic) (y : Item) → IsRoleGrantTopic g t → IsUnder t y → RoleGrantNames g y
under_role_grant g t y (inl e) is = inl (subst (λ t. IsUnder t y) e is)
under_role_grant g t y (inr (inl e)) is = inr (inl (subst (λ t. IsUnder t y) e is))
under_role_grant g t y (inr (inr e)) is = inr (inr (under_auth g.grantor t y e is))

under_name : (x : Item) (t : Topic) (y : Item) → IsNameTopic x t → IsUnder t y → Names x y
under_name (item.Schema z) t y e is = subst (λ t. IsUnder t y) e is
under_name (item.Table o) t y (inl e) is = inl (subst (λ t. IsUnder t y) e is)
under_name (item.Table o) t y (inr e) is = inr (subst (λ t. IsUnder t y) e is)
under_name (item.View v) t y e is = subst (λ t. IsUnder t y) e is
under_name (item.Column k) t y (inl e) is = inr (inl (subst (λ t. IsUnder t y) e is))
under_name (item.Column k) t y (inr e) is = inr (inr (under_domain k.domain t y e is))
under_name (item.Domain d) t y e is = subst (λ t. IsUnder t y) e is
under_name (item.DomainCheck d) t y (inl e) is = inl (subst (λ t. IsUnder t y) e is)
under_name (item.DomainCheck d) t y (inr e) is = inr (subst (λ t. IsUnder t y) e is)
under_name (item.Key k) t y (inl e) is = inl (subst (λ t. IsUnder t y) e is)
under_name (item.Key k) t y (inr (inl e)) is = inr (inl (subst (λ t. IsUnder t y) e is))
under_name (item.Key k) t y (inr (inr e)) is = inr (inr (under_column k.table k.columns t y e is))
under_name (item.Foreign f) t y (inl e) is = inl (subst (λ t. IsUnder t y) e is)
under_name (item.Foreign f) t y (inr (inl e)) is = inr (inl (subst (λ t. IsUnder t y) e is))
under_name (item.Foreign f) t y (inr (inr (inl e))) is = inr (inr (inl (under_column f.table f.columns t y e is)))
under_name (item.Foreign f) t y (inr (inr (inr (inl e)))) is = inr (inr (inr (inl (subst (λ t. IsUnder t y) e is))))
under_name (item.Foreign f) t y (inr (inr (inr (inr (inl e))))) is = inr (inr (inr (inr (inl (under_column f.target f.target_columns t y e is)))))
under_name (item.Foreign f) t y (inr (inr (inr (inr (inr e))))) is = inr (inr (inr (inr (inr (subst (λ t. IsUnder t y) e is)))))
under_name (item.Check k) t y (inl e) is = inl (subst (λ t. IsUnder t y) e is)
under_name (item.Check k) t y (inr (inl e)) is = inr (inl (subst (λ t. IsUnder t y) e is))
under_name (item.Check k) t y (inr (inr e)) is = inr (inr (under_column k.table k.columns t y e is))
under_name (item.Assertion z) t y e is = subst (λ t. IsUnder t y) e is
under_name (item.Routine r) t y e is = subst (λ t. IsUnder t y) e is
under_name (item.RoleAuth g) t y e is = under_role_grant g t y e is
under_name (item.RoleAdmin g) t y e is = under_role_grant g t y e is
under_name (item.Held r) t y e is = under_right r t y e is
under_name (item.Grantable r) t y e is = under_right r t y e is
under_name _ t y e is = absurd e

under_option : (x : Item) (t : Topic) (y : Item) → IsOptionTopic x t → IsUnder t y → IsOptionOn x y
under_option (item.Grantable r) t y e is = subst (λ t. IsUnder t y) e is
under_option (item.RoleAdmin g) t y e is = subst (λ t. IsUnder t y) e is
under_option _ t y e is = absurd e

module _ (c u : List Item) (within : IsWithin c u) where
  -- ---- what is so in c is so in u

  update_more : (v : View) (by : Action) (column : Option (List ℕ)) (need : Need) → IsUpdateNeed c v by column need → IsViewNeed u v by column need
  update_more v action.Insert None need is = is
  update_more v action.Update None need is = is
  update_more v action.Delete None need is = is
  update_more v action.Insert (Some name) need is = has_more c u within (IsBaseColumnNeed v action.Insert name need) is
  update_more v action.Update (Some name) need is = has_more c u within (IsBaseColumnNeed v action.Update name need) is
  update_more v action.Delete (Some name) need is = absurd is
  update_more v action.Select column need is = absurd is
  update_more v action.References column need is = absurd is
  update_more v action.Usage column need is = absurd is
  update_more v action.Execute column need is = absurd is
  update_more v action.Admin column need is = absurd is

  update_on : (r : Right) (need : Need) (y : Item) → IsUpdateNeedOn c r need y → IsObjectNeed u r need y
  update_on r need (item.View v) is = (is.0, update_more v r.need.action r.need.column need is.1)
  update_on r need _ is = absurd is

  right_need : (r : Right) (a : Auth) (need : Need) → IsOwnRightNeed c r a need → IsRightNeed u r a need
  right_need r System need is = (is.0, within is.0 is.1, update_on r need is.0 is.2)
  right_need r Public need is = is
  right_need r (Named name) need is = is

  own_is_needed : (x : Item) (need : Need) → IsOwnNeed c x need → IsNeedOf u x need
  own_is_needed (item.View v) need is = is
  own_is_needed (item.Column k) need is = is
  own_is_needed (item.DomainCheck d) need is = is
  own_is_needed (item.Foreign f) need is = is
  own_is_needed (item.Check k) need is = is
  own_is_needed (item.Assertion z) need is = is
  own_is_needed (item.Routine r) need is = is
  own_is_needed (item.Held r) need is = right_need r r.grantor need is
  own_is_needed (item.Grantable r) need is = right_need r r.grantor need is
  own_is_needed _ need is = absurd is

  owns_more : (name : List ℕ) (a : Auth) → Owns c name a → Owns u name a
  owns_more name a is = has_more c u within (IsOwnedSchema name a) is

  owns_path_more : (path : List (List ℕ)) (a : Auth) → OwnsPath c path a → OwnsPath u path a
  owns_path_more [] a is = is
  owns_path_more (name ∷ names) a is = owns_more name a is

  in_right_more : (r : Right) (by a : Auth) → ActsInRight c r by a → ActsInRight u r by a
  in_right_more r System a is = owns_path_more r.need.on a is
  in_right_more r Public a is = is
  in_right_more r (Named name) a is = is

  actor_more : (x : Item) (a : Auth) → IsActor c x a → IsActor u x a
  actor_more (item.Table t) a is = owns_more t.schema a is
  actor_more (item.View v) a is = owns_more v.view.schema a is
  actor_more (item.Column k) a is = owns_more k.table.schema a is
  actor_more (item.Domain d) a is = owns_more d.domain.schema a is
  actor_more (item.DomainCheck d) a is = owns_more d.name.schema a is
  actor_more (item.Key k) a is = owns_more k.name.schema a is
  actor_more (item.Foreign f) a is = owns_more f.name.schema a is
  actor_more (item.Check k) a is = owns_more k.name.schema a is
  actor_more (item.Assertion z) a is = owns_more z.name.schema a is
  actor_more (item.Routine r) a is = owns_more r.routine.schema a is
  actor_more (item.RoleAuth g) a is = is
  actor_more (item.RoleAdmin g) a is = is
  actor_more (item.Held r) a is = in_right_more r r.grantor a is
  actor_more (item.Grantable r) a is = in_right_more r r.grantor a is
  actor_more _ a is = absurd is

  reach_more : (a g : Auth) → Reaches c a g → Reaches u a g
  reach_more a g is = reaches_more c u within a g is

  -- ---- topics

  under_supply : (need : Need) (a g : Auth) (y : Item) → Reaches u a g → IsSupply need g y → IsRightOf u a need y
  under_supply need a g (item.Held r) way is = (is.0, subst (Reaches u a) (sym is.1) way)
  under_supply need a g (item.Grantable r) way is = (is.0, subst (Reaches u a) (sym is.1) way)
  under_supply need a g _ way is = absurd is

  under_edges : (a : Auth) (name : List ℕ) (y : Item) → Reaches u a (Named name) → IsUnder (on.edges name) y → IsRoleFor u a y
  under_edges a name (item.RoleAuth g) way is = subst (λ n. Reaches u a (Named n)) (sym is) way
  under_edges a name _ way is = absurd is

  under_admins : (x : Item) (a : Auth) (role name : List ℕ) (y : Item) → IsGrantOf role x → Reaches u a (Named name) → IsUnder (on.admins role name) y → relevant.IsAdminForGrant u a x y
  under_admins (item.RoleAuth g) a role name (item.RoleAdmin h) e way is = (is.0 ∙ sym e, subst (λ n. Reaches u a (Named n)) (sym is.1) way)
  under_admins (item.RoleAdmin g) a role name (item.RoleAdmin h) e way is = (is.0 ∙ sym e, subst (λ n. Reaches u a (Named n)) (sym is.1) way)
  under_admins (item.RoleAuth g) a role name _ e way is = absurd is
  under_admins (item.RoleAdmin g) a role name _ e way is = absurd is
  under_admins _ a role name y e way is = absurd e

  pub under_is_relevant : (t : Topic) (y x : Item) → IsUnder t y → DependsOn c x t → Relevant u y x
  under_is_relevant t y x is (by_name e) = relevant.named (under_name x t y e is)
  under_is_relevant t y x is (by_option e) = relevant.without (under_option x t y e is)
  under_is_relevant t y x is (of_need need own e) = relevant.on_need need (own_is_needed x need own) (under_need need t y e is)
  under_is_relevant t y x is (of_supply need a g own acts way e) =
      relevant.right_of need a (own_is_needed x need own) (actor_more x a acts) (under_supply need a g y (reach_more a g way) (subst (λ t. IsUnder t y) e is))
  under_is_relevant t y x is (of_edges need a name own acts way e) =
      relevant.role_for a (actor_more x a acts) (under_edges a name y (reach_more a (Named name) way) (subst (λ t. IsUnder t y) e is))
  under_is_relevant t y x is (of_role a name grants acts way e) =
      relevant.role_for a (actor_more x a acts) (under_edges a name y (reach_more a (Named name) way) (subst (λ t. IsUnder t y) e is))
  under_is_relevant t y x is (of_admins a role name grants acts way e) =
      relevant.admin_for a (actor_more x a acts) (under_admins x a role name y grants (reach_more a (Named name) way) (subst (λ t. IsUnder t y) e is))
