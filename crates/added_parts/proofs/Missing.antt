-- What items ask for, all whose parts stand.
use Rattle.std.proofs.Common.{◌≡◌, ◌↔◌, ◌⊎◌, inl, inr, ℕ, List, [], ◌∷◌, ◌++◌, Option, Some, None, sym, refl, subst}
use Rattle.std.specs.List.{Contains}
use Rattle.std.proofs.lemmas.List.Elements.{All-contains, Contains-append_cases}
use Rattle.finite_chains.specs.Chains.{IsWithin}
use Rattle.sql_names.specs.declared.object.Object.{Object}
use Rattle.cat_items.specs.declared.edit.Edit.{Edit}
use Rattle.cat_items.specs.declared.need.Auth.{Auth}
use Rattle.cat_items.specs.declared.need.Auth.TheVariants.{System, Public, Named}
use Rattle.cat_items.specs.declared.need.Need.{Need}
use Rattle.cat_items.specs.declared.item.Column.{Column}
use Rattle.cat_items.specs.declared.item.RoleGrant.{RoleGrant}
use Rattle.cat_items.specs.declared.item.Right.{Right}
use Rattle.cat_items.specs.declared.item.Item.{Item}
use Rattle.cat_items.specs.declared.item.Item.TheVariants as item
use Rattle.cat_items.specs.Bound.{IsSpokenOf}
use Rattle.cat_items.specs.Reach.{Has}
use Rattle.cat_items.specs.Relevant.{HasUsage, IsFirstSchema, IsNeedOf, IsRightNeed, IsUsageOf}
use Rattle.cat_items.specs.Rights.{path_of, IsColumn, Stands}
use Rattle.cat_items.specs.Supported.{HasColumns}
use Rattle.edit_rules.proofs.NameLemmas.{base_table_there}
use Rattle.cascade_laws.specs.Asks.{Asks, IsFarRightTopic, IsFarTopic, IsFirstTopic}
use Rattle.cascade_laws.specs.Asks as asks
use Rattle.cascade_laws.specs.Topics.{Topic, IsAuthTopic, IsColumnTopic, IsNameTopic, IsNeedTopic, IsOptionalDomainTopic, IsOptionTopic, IsPartyTopic, IsRightTopic, IsRoleGrantTopic}
use Rattle.cascade_laws.specs.Topics as on
use Rattle.look_up_bound.specs.TopicParts.{HasParts}
use Rattle.look_up_bound.proofs.Standing.{need_there, parts_more}
use Rattle.added_parts.specs.Parts.{AllStand, AuthStands, ConstraintStands, DomainStands, GrantorStands, HasNewColumns, PartsStand, RightStands, RoleGrantStands}

-- ---- what an item names stands

module _ (s : List Item) where
  at : (t r : Topic) → HasParts s r → t ≡ r → HasParts s t
  at t r h e = subst (HasParts s) (sym e) h

  stands_there : (need : Need) (t : Topic) → Stands s need → IsNeedTopic need t → HasParts s t
  stands_there = need_there s s (λ o k there inside is. inside)

  auth_there : (a : Auth) (t : Topic) → AuthStands s a → IsAuthTopic a t → HasParts s t
  auth_there (Named name) t h e = at t (on.authorization name) h e
  auth_there System t h e = absurd e
  auth_there Public t h e = absurd e

  grantor_there : (a : Auth) (t : Topic) → GrantorStands s a → IsAuthTopic a t → HasParts s t
  grantor_there (Named name) t h e = at t (on.authorization name) h e
  grantor_there System t h e = absurd e
  grantor_there Public t h e = absurd e

  parties_there : (by to : Auth) (t : Topic) → GrantorStands s by → AuthStands s to → IsPartyTopic by to t → HasParts s t
  parties_there System to t h k e = absurd e
  parties_there Public to t h k (inl e) = absurd e
  parties_there Public to t h k (inr e) = auth_there to t k e
  parties_there (Named name) to t h k (inl e) = at t (on.authorization name) h e
  parties_there (Named name) to t h k (inr e) = auth_there to t k e

  right_there : (r : Right) (t : Topic) → RightStands s r → IsRightTopic r t → HasParts s t
  right_there r t h (inl e) = stands_there r.need t h.0 e
  right_there r t h (inr e) = parties_there r.grantor r.grantee t h.3 h.2 e

  role_grant_there : (g : RoleGrant) (t : Topic) → RoleGrantStands s g → IsRoleGrantTopic g t → HasParts s t
  role_grant_there g t h (inl e) = at t (on.role_named g.role) h.0 e
  role_grant_there g t h (inr (inl e)) = at t (on.authorization g.grantee) h.1 e
  role_grant_there g t h (inr (inr e)) = auth_there g.grantor t h.2 e

  columns_there : (o : Object) (named : List (List ℕ)) (t : Topic) → HasColumns s o named → IsColumnTopic o named t → HasParts s t
  columns_there o named t h e = at t (on.column (path_of o) e.0) (All-contains (λ name. Has s (IsColumn (path_of o) name)) named e.0 h e.1) e.2

  domain_there : (domain : Option Object) (t : Topic) → DomainStands s domain → IsOptionalDomainTopic domain t → HasParts s t
  domain_there None t h e = absurd e
  domain_there (Some d) t h e = at t (on.domain (path_of d)) h e

  constraint_there : (name table : Object) (named : List (List ℕ)) (t : Topic) → ConstraintStands s name table named → (t ≡ on.schema name.schema) ⊎ ((t ≡ on.base_table table) ⊎ IsColumnTopic table named t) → HasParts s t
  constraint_there name table named t h (inl e) = at t (on.schema name.schema) h.0 e
  constraint_there name table named t h (inr (inl e)) = at t (on.base_table table) h.1 e
  constraint_there name table named t h (inr (inr e)) = columns_there table named t h.2 e

  name_there : (c : List Item) (x : Item) (t : Topic) → PartsStand c s x → IsNameTopic x t → HasParts s t
  name_there c (item.Schema z) t h e = at t (on.authorization z.owner) h e
  name_there c (item.Table o) t h (inl e) = at t (on.schema o.schema) h.0 e
  name_there c (item.Table o) t h (inr e) = at t (on.columns o) h.1.0 e
  name_there c (item.View v) t h e = at t (on.schema v.view.schema) h.0 e
  name_there c (item.Column k) t h (inl e) = at t (on.table (path_of k.table)) h.1 e
  name_there c (item.Column k) t h (inr e) = domain_there k.domain t h.2 e
  name_there c (item.Domain d) t h e = at t (on.schema d.domain.schema) h e
  name_there c (item.DomainCheck d) t h (inl e) = at t (on.schema d.name.schema) h.1.0 e
  name_there c (item.DomainCheck d) t h (inr e) = at t (on.domain (path_of d.domain)) h.0 e
  name_there c (item.Key k) t h e = constraint_there k.name k.table k.columns t h e
  name_there c (item.Foreign f) t h (inl e) = at t (on.schema f.name.schema) h.0.0 e
  name_there c (item.Foreign f) t h (inr (inl e)) = at t (on.base_table f.table) h.0.1 e
  name_there c (item.Foreign f) t h (inr (inr (inl e))) = columns_there f.table f.columns t h.0.2 e
  name_there c (item.Foreign f) t h (inr (inr (inr (inl e)))) = at t (on.base_table f.target) h.1 e
  name_there c (item.Foreign f) t h (inr (inr (inr (inr (inl e))))) = columns_there f.target f.target_columns t h.2 e
  name_there c (item.Foreign f) t h (inr (inr (inr (inr (inr e))))) = at t (on.key f.key) h.3 e
  name_there c (item.Check k) t h e = constraint_there k.name k.table k.columns t h.0 e
  name_there c (item.Assertion z) t h e = at t (on.schema z.name.schema) h.0 e
  name_there c (item.Routine r) t h e = at t (on.schema r.routine.schema) h.0 e
  name_there c (item.RoleAuth g) t h e = role_grant_there g t h e
  name_there c (item.RoleAdmin g) t h e = role_grant_there g t h.0 e
  name_there c (item.Held r) t h e = right_there r t h e
  name_there c (item.Grantable r) t h e = right_there r t h.0 e
  name_there c _ t h e = absurd e

  first_there : (path : List (List ℕ)) (t : Topic) → Has s (IsFirstSchema path) → IsFirstTopic path t → HasParts s t
  first_there [] t h e = absurd e
  first_there (schema ∷ names) t h e = at t (on.schema schema) h e

  far_right_there : (r : Right) (t : Topic) → RightStands s r → IsFarRightTopic r t → HasParts s t
  far_right_there r t h (inl e) = first_there r.need.on t h.1 e
  far_right_there r t h (inr (inl e)) = auth_there r.grantee t h.2 e
  far_right_there r t h (inr (inr e)) = grantor_there r.grantor t h.3 e

  far_there : (c : List Item) (x : Item) (t : Topic) → PartsStand c s x → IsFarTopic x t → HasParts s t
  far_there c (item.Column k) t h e = at t (on.schema k.table.schema) h.0 e
  far_there c (item.Held r) t h e = far_right_there r t h e
  far_there c (item.Grantable r) t h e = far_right_there r t h.0 e
  far_there c _ t h e = absurd e

  option_there : (c : List Item) (x : Item) (t : Topic) → PartsStand c s x → IsOptionTopic x t → HasParts s t
  option_there c (item.Grantable r) t h e = at t (on.held r) (item.Held r, h.1, refl) e
  option_there c (item.RoleAdmin g) t h e = at t (on.role_auth g) (item.RoleAuth g, h.1, refl) e
  option_there c _ t h e = absurd e

-- ---- what it needs stands

module _ (c added u : List Item) (columns : (k : Column) → Contains u (item.Column k) → Contains c (item.Column k) ⊎ Contains added (item.Column k)) (all : AllStand c added) where
  usage_stands : (domain : Option Object) (need : Need) → DomainStands (c ++ added) domain → IsUsageOf domain need → Stands (c ++ added) need
  usage_stands None need h is = absurd is
  usage_stands (Some d) need h is = subst (Stands (c ++ added)) (sym is) (h, tt)

  -- all columns of an added table are added
  column_needs : (o : Object) (need : Need) → HasNewColumns c (c ++ added) o → (y : Item) → Contains u y → HasUsage o need y → Stands (c ++ added) need
  column_needs o need new (item.Column k) inside is =
      elim (columns k inside) [
        | inl old ↦ absurd (new.1 (item.Column k, old, is.0))
        | inr young ↦ usage_stands k.domain need (All-contains (PartsStand c (c ++ added)) added (item.Column k) all young).2 is.1
      ]
  column_needs o need new _ inside is = absurd is

  right_need : (r : Right) (by : Auth) (need : Need) → Stands (c ++ added) r.need → GrantorStands (c ++ added) by → IsRightNeed u r by need → Stands (c ++ added) need
  right_need r System need stands h is = absurd h
  right_need r Public need stands h is = subst (Stands (c ++ added)) (sym is) stands
  right_need r (Named name) need stands h is = subst (Stands (c ++ added)) (sym is) stands

  need_stands : (x : Item) (need : Need) → PartsStand c (c ++ added) x → IsNeedOf u x need → Stands (c ++ added) need
  need_stands (item.Table o) need h is = column_needs o need h.1 is.0 is.1 is.2
  need_stands (item.View v) need h is = All-contains (Stands (c ++ added)) v.needs need h.1 is
  need_stands (item.Column k) need h is = usage_stands k.domain need h.2 is
  need_stands (item.DomainCheck d) need h is = All-contains (Stands (c ++ added)) d.needs need h.1.1 is
  need_stands (item.Foreign f) need h is =
      subst (Stands (c ++ added)) (sym is.2) (base_table_there (c ++ added) f.target h.1, All-contains (λ name. Has (c ++ added) (IsColumn (path_of f.target) name)) f.target_columns is.0 h.2 is.1)
  need_stands (item.Check k) need h is = All-contains (Stands (c ++ added)) k.needs need h.1 is
  need_stands (item.Assertion z) need h is = All-contains (Stands (c ++ added)) z.needs need h.1 is
  need_stands (item.Routine r) need h is = All-contains (Stands (c ++ added)) r.needs need h.1 is
  need_stands (item.Held r) need h is = right_need r r.grantor need h.0 h.3 is
  need_stands (item.Grantable r) need h is = right_need r r.grantor need h.0.0 h.0.3 is
  need_stands _ need h is = absurd is

  asked_there : (x : Item) (t : Topic) → PartsStand c (c ++ added) x → Asks u x t → HasParts (c ++ added) t
  asked_there x t h (asks.by_name e) = name_there (c ++ added) c x t h e
  asked_there x t h (asks.by_far e) = far_there (c ++ added) c x t h e
  asked_there x t h (asks.by_option e) = option_there (c ++ added) c x t h e
  asked_there x t h (asks.of_need need sought e) = stands_there (c ++ added) need t (need_stands x need h sought) e
  asked_there x t h (asks.of_supply need a g sought acts way e) = at (c ++ added) t (on.supply need g) (need_stands x need h sought) e
  asked_there x t h (asks.of_edges a name seeks way e) = at (c ++ added) t (on.edges name) tt e
  asked_there x t h (asks.of_admins a role name grants acts way e) = at (c ++ added) t (on.admins role name) tt e

-- ---- over all that is spoken of

module _ (c edited u : List Item) (edit : Edit) (spoken : (x : Item) → Contains u x ↔ IsSpokenOf c edit edited x) where
  column_of : (k : Column) → Contains u (item.Column k) → Contains c (item.Column k) ⊎ Contains edit.added (item.Column k)
  column_of k inside = elim ((spoken (item.Column k)).0 inside) [
    | inl old ↦ inl old
    | inr (inl young) ↦ inr young
    | inr (inr right) ↦ absurd right
  ]

  within : IsWithin (c ++ edit.added) u
  within y inside = elim (Contains-append_cases c edit.added y inside) [
    | inl old ↦ (spoken y).1 (inl old)
    | inr young ↦ (spoken y).1 (inr (inl young))
  ]

  pub nothing_missing : AllStand c edit.added → (x : Item) (t : Topic) → Contains edit.added x → Asks u x t → HasParts u t
  nothing_missing all x t inside asked =
      parts_more (c ++ edit.added) u within t (asked_there c edit.added u column_of all x t (All-contains (PartsStand c (c ++ edit.added)) edit.added x all inside) asked)
