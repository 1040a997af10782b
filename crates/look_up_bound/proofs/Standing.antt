-- What a supported item depends on stands.
use Rattle.std.proofs.Common.{◌≡◌, ◌⊎◌, inl, inr, Bool, true, false, List, [], ◌∷◌, Option, Some, None, ap, sym, refl, subst, ◌∙◌}
use Rattle.std.specs.Prelude.{◌≢◌, ◌-◌, ℕ, map, slice_get}
use Rattle.std.specs.List.{Contains}
use Rattle.std.proofs.lemmas.List.Elements.{All-contains}
use Rattle.finite_chains.specs.Chains.{IsWithin}
use Rattle.finite_chains.proofs.Members.{Contains-head}
use Rattle.sql_names.specs.declared.object.Object.{Object}
use Rattle.sql_tree.specs.declared.rights.Action.{Action}
use Rattle.sql_tree.specs.declared.rights.Action.TheVariants as action
use Rattle.sql_tree.specs.declared.body.Security.{Security}
use Rattle.sql_tree.specs.declared.body.Security.TheVariants.{Definer, Invoker}
use Rattle.cat_items.specs.declared.need.Auth.{Auth}
use Rattle.cat_items.specs.declared.need.Auth.TheVariants.{System, Public, Named}
use Rattle.cat_items.specs.declared.need.Need.{Need}
use Rattle.cat_items.specs.declared.item.Column.{Column}
use Rattle.cat_items.specs.declared.item.View.{View}
use Rattle.cat_items.specs.declared.item.Routine.{Routine}
use Rattle.cat_items.specs.declared.item.RoleGrant.{RoleGrant}
use Rattle.cat_items.specs.declared.item.Right.{Right}
use Rattle.cat_items.specs.declared.item.Item.{Item}
use Rattle.cat_items.specs.declared.item.Item.TheVariants as item
use Rattle.cat_items.specs.Reach.{Has}
use Rattle.cat_items.specs.Rights.{path_of, IsSchema, IsObject, IsColumn, HasColumn, Stands, MetBy, Met, MeetsAll, usage, reference}
use Rattle.cat_items.specs.Relevant.{IsBaseNeed, IsNeedOnColumn, IsBaseColumnNeed, IsUsageOf, IsNeedOf, IsRightNeed}
use Rattle.cat_items.specs.Shape.{HasDerivedFields, HasShape, NameSet, name_of, tables, columns}
use Rattle.cat_items.specs.Survivors.{AreSurvivors}
use Rattle.cat_items.specs.Supported.{HasColumns, RestsOnDomain, Keeps, RoutineRests, MayGrantRole, RoleGrantRests, IsGrantee, MayGrant, RightRests, Supported}
use Rattle.cat_items.specs.SystemRights.{MetOnBase, MetOnBaseColumn, IsUpdatable, IsViewRow, IsSystemRow, IsSystemSchema, security_of}
use Rattle.cat_items.specs.Good.{IsGood}
use Rattle.support_laws.proofs.Monotone.{has_more, stands_more}
use Rattle.support_laws.proofs.Ordinary.{IsOrdinary}
use Rattle.cascade_laws.specs.Topics.{Topic, IsUnder, IsObjectTopic, IsNeedTopic, IsAuthTopic, IsPartyTopic, IsRightTopic, IsColumnTopic, IsOptionalDomainTopic, IsRoleGrantTopic, IsNameTopic, IsOptionTopic, IsUpdateNeed, IsUpdateNeedOn, IsOwnRightNeed, IsOwnNeed, DependsOn, by_name, by_option, of_need, of_supply, of_edges, of_role, of_admins}
use Rattle.cascade_laws.specs.Topics as on
use Rattle.look_up_bound.specs.PossibleRights.{IsBySystem}
use Rattle.cascade_laws.specs.Asks.{Asks, IsFarTopic}
use Rattle.cascade_laws.specs.Asks as asks
use Rattle.look_up_bound.specs.TopicParts.{HasParts, IsOfNeed, MayLackParts, by_object, by_column, by_system}
use Rattle.look_up_bound.proofs.Counting.{Contains-map}
use Rattle.look_up_bound.proofs.Survivor.{survivor_supported, survivor_closed}
use Rattle.look_up_bound.proofs.OrdinaryNeeds.{tree_needs_ordinary}

met_stands : (s : List Item) (grantable : Bool) (a : Auth) (need : Need) (by : Action) → by ≢ action.Admin → MetBy grantable s a need by → Stands s need
met_stands s grantable a need action.Admin other h = absurd (other refl)
met_stands s grantable a need _ other h = h.0

-- ---- what the system's rights to change a plain view go by, where items have names of their own
module _ (s : List Item) (names : (x y : Item) (name : NameSet × List (List ℕ)) → Contains s x → Contains s y → name_of x ≡ Some name → name_of y ≡ Some name → x ≡ y) where
  module _ (grantable : Bool) (owner : Auth) (need : Need) where
    on_base : (by : Action) → by ≢ action.Admin → (base : Option Object) → MetOnBase grantable s owner by base → IsBaseNeed by base None need → Stands s need
    on_base by other None h is = absurd h
    on_base by other (Some base) h is = subst (Stands s) (sym is) (met_stands s grantable owner (record { action = by; on = path_of base; column = None }) by other h)

    on_base_column : (by : Action) → by ≢ action.Admin → (base : Option Object) (column : Option (List ℕ)) → MetOnBaseColumn grantable s owner by base column → IsNeedOnColumn by base column need → Stands s need
    on_base_column by other None column h is = absurd h
    on_base_column by other (Some base) None h is = absurd h
    on_base_column by other (Some base) (Some name) h is = subst (Stands s) (sym is) (met_stands s grantable owner (record { action = by; on = path_of base; column = Some name }) by other h)

    on_column : (v : View) (by : Action) (name : List ℕ) → by ≢ action.Admin → Has s (IsUpdatable grantable s owner v by name) → Has s (IsBaseColumnNeed v by name need) → Stands s need
    on_column v by name other h k = at_both h.0 k.0 h.1 k.1 h.2 k.2
      where
        at_both : (y z : Item) → Contains s y → Contains s z → IsUpdatable grantable s owner v by name y → IsBaseColumnNeed v by name need z → Stands s need
        at_both (item.Column a) (item.Column b) inside there is sought =
            let of_a : name_of (item.Column a) ≡ Some (columns v.view, name ∷ []) = cc (is.0, is.1) in
            let of_b : name_of (item.Column b) ≡ Some (columns v.view, name ∷ []) = cc (sought.0, sought.1) in
            let one : item.Column a ≡ item.Column b = names (item.Column a) (item.Column b) (columns v.view, name ∷ []) inside there of_a of_b in
            let same : a ≡ b = cc one in
            on_base_column by other v.base (slice_get v.base_columns (b.place - 1)) (subst (λ k. MetOnBaseColumn grantable s owner by v.base (slice_get v.base_columns (k.place - 1))) same is.2) sought.2
        at_both (item.Column a) _ inside there is sought = absurd sought
        at_both _ z inside there is sought = absurd is

    update_there : (v : View) (by : Action) (column : Option (List ℕ)) → IsViewRow grantable s owner v by column → IsUpdateNeed s v by column need → Stands s need
    update_there v action.Insert None row is = on_base action.Insert (λ e. cc) v.base row is
    update_there v action.Update None row is = on_base action.Update (λ e. cc) v.base row is
    update_there v action.Delete None row is = on_base action.Delete (λ e. cc) v.base row is
    update_there v action.Insert (Some name) row is = on_column v action.Insert name (λ e. cc) row is
    update_there v action.Update (Some name) row is = on_column v action.Update name (λ e. cc) row is
    update_there v action.Delete (Some name) row is = absurd is
    update_there v action.Select column row is = absurd is
    update_there v action.References column row is = absurd is
    update_there v action.Usage column row is = absurd is
    update_there v action.Execute column row is = absurd is
    update_there v action.Admin column row is = absurd is

    module _ (r : Right) (schema : List ℕ) where
      one_view : (v : View) → Contains s (item.View v) → r.need.on ≡ path_of v.view → IsUpdateNeed s v r.need.action r.need.column need → (y : Item) → Contains s y → IsSystemRow grantable s schema owner r.need y → Stands s need
      one_view v inside path is (item.Table o) there row =
          let of_table : name_of (item.Table o) ≡ Some (tables, path_of v.view) = ap (λ (p : List (List ℕ)). Some (tables, p)) (sym row.1 ∙ path) in
          let one : item.Table o ≡ item.View v = names (item.Table o) (item.View v) (tables, path_of v.view) there inside of_table refl in
          absurd (cc one)
      one_view v inside path is (item.View w) there row =
          let of_view : name_of (item.View w) ≡ Some (tables, path_of v.view) = ap (λ (p : List (List ℕ)). Some (tables, p)) (sym row.1 ∙ path) in
          let one : item.View w ≡ item.View v = names (item.View w) (item.View v) (tables, path_of v.view) there inside of_view refl in
          let same : w ≡ v = cc one in
          update_there v r.need.action r.need.column (subst (λ z. IsViewRow grantable s owner z r.need.action r.need.column) same row.2) is
      one_view v inside path is (item.Domain d) there row = absurd (subst (λ (n : Need). IsUpdateNeed s v n.action n.column need) row.1 is)
      one_view v inside path is (item.Routine z) there row = absurd (subst (λ (n : Need). IsUpdateNeed s v n.action n.column need) row.1 is)
      one_view v inside path is _ there row = absurd row

  system_needs : (grantable : Bool) (r : Right) (need : Need) → Has s (IsSystemSchema grantable s r) → Has s (IsUpdateNeedOn s r need) → Stands s need
  system_needs grantable r need h sought = by h.0 sought.0 sought.1 h.2 sought.2
    where
      by : (z y : Item) → Contains s y → IsSystemSchema grantable s r z → IsUpdateNeedOn s r need y → Stands s need
      by (item.Schema z) (item.View v) there is own = let row = is.1 in one_view grantable (Named z.owner) need r z.name v there own.0 own.1 row.0 row.1 row.2
      by (item.Schema z) _ there is own = absurd own
      by _ y there is own = absurd is

-- s has each column of `all` that keeps a table of s
module _ (all s : List Item) (kept : (o : Object) (k : Column) → Contains s (item.Table o) → Contains all (item.Column k) → Keeps s o (item.Column k) → Contains s (item.Column k)) where
  at : (t r : Topic) → HasParts s r → t ≡ r → HasParts s t
  at t r h e = subst (HasParts s) (sym e) h

  -- ---- needs that are met stand

  schema_there : (schema : List ℕ) (needs : List Need) → Has s (MeetsAll false s schema needs) → Has s (IsSchema schema)
  schema_there schema needs h = (h.0, h.1, by h.0 h.2)
    where
      by : (y : Item) → MeetsAll false s schema needs y → IsSchema schema y
      by (item.Schema z) is = is.0
      by _ is = absurd is

  need_stands : (schema : List ℕ) (needs : List Need) → Has s (MeetsAll false s schema needs) → (need : Need) → Contains needs need → IsOrdinary need → Stands s need
  need_stands schema needs h need inside ordinary = by h.0 h.2
    where
      by : (y : Item) → MeetsAll false s schema needs y → Stands s need
      by (item.Schema z) is = met_stands s false (Named z.owner) need need.action ordinary (All-contains (Met false s (Named z.owner)) needs need is.1 inside)
      by _ is = absurd is

  usage_stands : (schema : List ℕ) (domain : Option Object) → RestsOnDomain s schema domain → (need : Need) → IsUsageOf domain need → Stands s need
  usage_stands schema None h need is = absurd is
  usage_stands schema (Some d) h need is = subst (Stands s) (sym is) (need_stands schema (usage d ∷ []) h.1 (usage d) (Contains-head (usage d) []) (λ e. cc))

  -- ---- topics of needs and names

  object_there : (by : Action) (path : List (List ℕ)) (t : Topic) → Has s (IsObject by path) → IsObjectTopic by path t → HasParts s t
  object_there action.Usage path t h e = at t (on.domain path) h e
  object_there action.Execute path t h e = at t (on.routine path) h e
  object_there action.Admin path t h e = absurd e
  object_there action.Select path t h e = at t (on.table path) h e
  object_there action.Insert path t h e = at t (on.table path) h e
  object_there action.Update path t h e = at t (on.table path) h e
  object_there action.Delete path t h e = at t (on.table path) h e
  object_there action.References path t h e = at t (on.table path) h e

  pub need_there : (need : Need) (t : Topic) → Stands s need → IsNeedTopic need t → HasParts s t
  need_there need t h (inl e) = object_there need.action need.on t h.0 e
  need_there need t h (inr e) = at t (on.column need.on e.0) (subst (HasColumn s need.on) e.1 h.1) e.2

  columns_there : (o : Object) (named : List (List ℕ)) (t : Topic) → HasColumns s o named → IsColumnTopic o named t → HasParts s t
  columns_there o named t h e = at t (on.column (path_of o) e.0) (All-contains (λ name. Has s (IsColumn (path_of o) name)) named e.0 h e.1) e.2

  domain_there : (schema : List ℕ) (domain : Option Object) (t : Topic) → RestsOnDomain s schema domain → IsOptionalDomainTopic domain t → HasParts s t
  domain_there schema None t h e = absurd e
  domain_there schema (Some d) t h e = at t (on.domain (path_of d)) h.0 e

  role_grantor_there : (role : List ℕ) (a : Auth) (t : Topic) → MayGrantRole s role a → IsAuthTopic a t → HasParts s t
  role_grantor_there role (Named name) t h e = at t (on.authorization name) h.0 e
  role_grantor_there role System t h e = absurd e
  role_grantor_there role Public t h e = absurd e

  role_grant_there : (g : RoleGrant) (t : Topic) → RoleGrantRests s g → IsRoleGrantTopic g t → HasParts s t
  role_grant_there g t h (inl e) = at t (on.role_named g.role) h.0 e
  role_grant_there g t h (inr (inl e)) = at t (on.authorization g.grantee) h.1 e
  role_grant_there g t h (inr (inr e)) = role_grantor_there g.role g.grantor t h.2 e

  grantee_there : (a : Auth) (t : Topic) → IsGrantee s a → IsAuthTopic a t → HasParts s t
  grantee_there (Named name) t h e = at t (on.authorization name) h e
  grantee_there System t h e = absurd e
  grantee_there Public t h e = absurd e

  parties_there : (grantable : Bool) (r : Right) (by to : Auth) (t : Topic) → MayGrant grantable s r by → IsGrantee s to → IsPartyTopic by to t → HasParts s t
  parties_there grantable r System to t h k e = absurd e
  parties_there grantable r Public to t h k e = absurd h
  parties_there grantable r (Named name) to t h k (inl e) = at t (on.authorization name) h.0 e
  parties_there grantable r (Named name) to t h k (inr e) = grantee_there to t k e

  right_there : (grantable : Bool) (r : Right) (t : Topic) → RightRests grantable s r → IsRightTopic r t → HasParts s t
  right_there grantable r t h (inl e) = need_there r.need t h.1 e
  right_there grantable r t h (inr e) = parties_there grantable r r.grantor r.grantee t h.3 h.2 e

  table_column : (o : Object) → Contains s (item.Table o) → Has all (Keeps s o) → HasParts s (on.columns o)
  table_column o there h = by h.0 h.1 h.2
    where
      by : (y : Item) → Contains all y → Keeps s o y → HasParts s (on.columns o)
      by (item.Column k) inside is = (item.Column k, kept o k there inside is, is.0)
      by _ inside is = absurd is

  routine_schema : (r : Routine) (by : Security) → RoutineRests s r by → Has s (IsSchema r.routine.schema)
  routine_schema r Definer h = schema_there r.routine.schema r.needs h
  routine_schema r Invoker h = h.0

  name_there : (x : Item) (t : Topic) → Contains s x → Supported all s x → IsNameTopic x t → HasParts s t
  name_there (item.Schema z) t there h e = at t (on.authorization z.owner) h e
  name_there (item.Table o) t there h (inl e) = at t (on.schema o.schema) h.0 e
  name_there (item.Table o) t there h (inr e) = at t (on.columns o) (table_column o there h.1) e
  name_there (item.View v) t there h e = at t (on.schema v.view.schema) (schema_there v.view.schema v.needs h) e
  name_there (item.Column k) t there h (inl e) = at t (on.table (path_of k.table)) h.1 e
  name_there (item.Column k) t there h (inr e) = domain_there k.table.schema k.domain t h.2 e
  name_there (item.Domain d) t there h e = at t (on.schema d.domain.schema) h e
  name_there (item.DomainCheck d) t there h (inl e) = at t (on.schema d.name.schema) (schema_there d.name.schema d.needs h.1) e
  name_there (item.DomainCheck d) t there h (inr e) = at t (on.domain (path_of d.domain)) h.0 e
  name_there (item.Key k) t there h (inl e) = at t (on.schema k.name.schema) h.0 e
  name_there (item.Key k) t there h (inr (inl e)) = at t (on.base_table k.table) h.1 e
  name_there (item.Key k) t there h (inr (inr e)) = columns_there k.table k.columns t h.2 e
  name_there (item.Foreign f) t there h (inl e) = at t (on.schema f.name.schema) (schema_there f.name.schema (map (reference f.target) f.target_columns) h.5) e
  name_there (item.Foreign f) t there h (inr (inl e)) = at t (on.base_table f.table) h.0 e
  name_there (item.Foreign f) t there h (inr (inr (inl e))) = columns_there f.table f.columns t h.1 e
  name_there (item.Foreign f) t there h (inr (inr (inr (inl e)))) = at t (on.base_table f.target) h.2 e
  name_there (item.Foreign f) t there h (inr (inr (inr (inr (inl e))))) = columns_there f.target f.target_columns t h.3 e
  name_there (item.Foreign f) t there h (inr (inr (inr (inr (inr e))))) = at t (on.key f.key) h.4 e
  name_there (item.Check k) t there h (inl e) = at t (on.schema k.name.schema) (schema_there k.name.schema k.needs h.2) e
  name_there (item.Check k) t there h (inr (inl e)) = at t (on.base_table k.table) h.0 e
  name_there (item.Check k) t there h (inr (inr e)) = columns_there k.table k.columns t h.1 e
  name_there (item.Assertion z) t there h e = at t (on.schema z.name.schema) (schema_there z.name.schema z.needs h) e
  name_there (item.Routine r) t there h e = at t (on.schema r.routine.schema) (routine_schema r (security_of r.body) h) e
  name_there (item.RoleAuth g) t there h e = role_grant_there g t h e
  name_there (item.RoleAdmin g) t there h e = role_grant_there g t h.0 e
  name_there (item.Held r) t there h e = right_there false r t h e
  name_there (item.Grantable r) t there h e = right_there true r t h.0 e
  name_there _ t there h e = absurd e

  option_there : (x : Item) (t : Topic) → Supported all s x → IsOptionTopic x t → HasParts s t
  option_there (item.Grantable r) t h e = at t (on.held r) h.1 e
  option_there (item.RoleAdmin g) t h e = at t (on.role_auth g) h.1 e
  option_there _ t h e = absurd e

  -- ---- own needs stand

  right_need : (grantable : Bool) (r : Right) (a : Auth) (need : Need) → (r.grantor ≡ System → HasShape s) → r.grantor ≡ a → Stands s r.need → MayGrant grantable s r a → IsOwnRightNeed s r a need → Stands s need
  right_need grantable r System need shape e stands h is = system_needs s (shape e).names grantable r need h is
  right_need grantable r Public need shape e stands h is = absurd h
  right_need grantable r (Named name) need shape e stands h is = subst (Stands s) (sym is) stands

  routine_need : (r : Routine) (by : Security) → RoutineRests s r by → (need : Need) → IsOrdinary need → Contains r.needs need → Stands s need
  routine_need r Definer h need ordinary is = need_stands r.routine.schema r.needs h need is ordinary
  routine_need r Invoker h need ordinary is = All-contains (Stands s) r.needs need h.1 is

  own_stands : (x : Item) → (IsBySystem x → HasShape s) → HasDerivedFields x → Supported all s x → (need : Need) → IsOwnNeed s x need → Stands s need
  own_stands (item.View v) shape d h need is = need_stands v.view.schema v.needs h need is (tree_needs_ordinary (item.View v) d need is)
  own_stands (item.Column k) shape d h need is = usage_stands k.table.schema k.domain h.2 need is
  own_stands (item.DomainCheck k) shape d h need is = need_stands k.name.schema k.needs h.1 need is (tree_needs_ordinary (item.DomainCheck k) d need is)
  own_stands (item.Foreign f) shape d h need is =
      subst (Stands s) (sym is.2) (need_stands f.name.schema (map (reference f.target) f.target_columns) h.5 (reference f.target is.0) (Contains-map (reference f.target) f.target_columns is.0 is.1) (λ e. cc))
  own_stands (item.Check k) shape d h need is = need_stands k.name.schema k.needs h.2 need is (tree_needs_ordinary (item.Check k) d need is)
  own_stands (item.Assertion z) shape d h need is = need_stands z.name.schema z.needs h need is (tree_needs_ordinary (item.Assertion z) d need is)
  own_stands (item.Routine r) shape d h need is = routine_need r (security_of r.body) h need (tree_needs_ordinary (item.Routine r) d need is) is
  own_stands (item.Held r) shape d h need is = right_need false r r.grantor need shape refl h.1 h.3 is
  own_stands (item.Grantable r) shape d h need is = right_need true r r.grantor need shape refl h.0.1 h.0.3 is
  own_stands _ shape d h need is = absurd is

  depended_stands : (x : Item) → Contains s x → (IsBySystem x → HasShape s) → HasDerivedFields x → Supported all s x → (t : Topic) → DependsOn s x t → HasParts s t
  depended_stands x there shape d h t (by_name e) = name_there x t there h e
  depended_stands x there shape d h t (by_option e) = option_there x t h e
  depended_stands x there shape d h t (of_need need own e) = need_there need t (own_stands x shape d h need own) e
  depended_stands x there shape d h t (of_supply need a g own acts way e) = at t (on.supply need g) (own_stands x shape d h need own) e
  depended_stands x there shape d h t (of_edges need a name own acts way e) = at t (on.edges name) tt e
  depended_stands x there shape d h t (of_role a name grants acts way e) = at t (on.edges name) tt e
  depended_stands x there shape d h t (of_admins a role name grants acts way e) = at t (on.admins role name) tt e

  -- ---- what is asked for stands, but where the item can do without

  abbrev CanDoWithout : Item → Type 0
  CanDoWithout x = IsBySystem x ⊎ ((table : Object) × (x ≡ item.Table table))

  right_need_there : (grantable : Bool) (r : Right) (a : Auth) → r.grantor ≡ a → Stands s r.need → MayGrant grantable s r a → (need : Need) → IsRightNeed s r a need → Stands s need ⊎ (r.grantor ≡ System)
  right_need_there grantable r System e stands may need is = inr e
  right_need_there grantable r Public e stands may need is = absurd may
  right_need_there grantable r (Named name) e stands may need is = inl (subst (Stands s) (sym is) stands)

  pub sought_stands : (x : Item) → HasDerivedFields x → Supported all s x → (need : Need) → IsNeedOf s x need → Stands s need ⊎ CanDoWithout x
  sought_stands (item.Table o) d h need is = inr (inr (o, refl))
  sought_stands (item.Held r) d h need is = elim (right_need_there false r r.grantor refl h.1 h.3 need is) [ inl stands ↦ inl stands | inr system ↦ inr (inl system) ]
  sought_stands (item.Grantable r) d h need is = elim (right_need_there true r r.grantor refl h.0.1 h.0.3 need is) [ inl stands ↦ inl stands | inr system ↦ inr (inl system) ]
  sought_stands (item.View v) d h need is = inl (own_stands (item.View v) (λ none. absurd none) d h need is)
  sought_stands (item.Column k) d h need is = inl (own_stands (item.Column k) (λ none. absurd none) d h need is)
  sought_stands (item.DomainCheck k) d h need is = inl (own_stands (item.DomainCheck k) (λ none. absurd none) d h need is)
  sought_stands (item.Foreign k) d h need is = inl (own_stands (item.Foreign k) (λ none. absurd none) d h need is)
  sought_stands (item.Check k) d h need is = inl (own_stands (item.Check k) (λ none. absurd none) d h need is)
  sought_stands (item.Assertion z) d h need is = inl (own_stands (item.Assertion z) (λ none. absurd none) d h need is)
  sought_stands (item.Routine z) d h need is = inl (own_stands (item.Routine z) (λ none. absurd none) d h need is)
  sought_stands _ d h need is = absurd is

  without : (x : Item) (need : Need) (t : Topic) → IsNeedOf s x need → IsOfNeed need t → CanDoWithout x → MayLackParts s x t
  without x need t is of (inl system) = by_system system need is of
  without x need t is of (inr table) = by_column table.0 table.1 need is of

  far_there : (x : Item) (t : Topic) → Supported all s x → IsFarTopic x t → HasParts s t ⊎ MayLackParts s x t
  far_there (item.Column k) t h e = inl (at t (on.schema k.table.schema) h.0 e)
  far_there (item.Held r) t h e = inr (by_object tt e)
  far_there (item.Grantable r) t h e = inr (by_object tt e)
  far_there _ t h e = absurd e

  pub asked_stands : (x : Item) → Contains s x → HasDerivedFields x → Supported all s x → (t : Topic) → Asks s x t → HasParts s t ⊎ MayLackParts s x t
  asked_stands x there d h t (asks.by_name e) = inl (name_there x t there h e)
  asked_stands x there d h t (asks.by_far e) = far_there x t h e
  asked_stands x there d h t (asks.by_option e) = inl (option_there x t h e)
  asked_stands x there d h t (asks.of_need need sought e) =
      elim (sought_stands x d h need sought) [ inl stands ↦ inl (need_there need t stands e) | inr can ↦ inr (without x need t sought (inl e) can) ]
  asked_stands x there d h t (asks.of_supply need a g sought acts way e) =
      elim (sought_stands x d h need sought) [ inl stands ↦ inl (at t (on.supply need g) stands e) | inr can ↦ inr (without x need t sought (inr (g, e)) can) ]
  asked_stands x there d h t (asks.of_edges a name seeks way e) = inl (at t (on.edges name) tt e)
  asked_stands x there d h t (asks.of_admins a role name grants acts way e) = inl (at t (on.admins role name) tt e)

pub parts_more : (c u : List Item) → IsWithin c u → (t : Topic) → HasParts c t → HasParts u t
parts_more c u within (on.supply need g) h = stands_more c u within need h
parts_more c u within (on.edges name) h = h
parts_more c u within (on.admins role name) h = h
parts_more c u within t h = has_more c u within (IsUnder t) h

-- ---- among survivors

module _ (f n : List Item) (survivors : AreSurvivors f n) where
  pub column_kept : (o : Object) (k : Column) → Contains n (item.Table o) → Contains f (item.Column k) → Keeps n o (item.Column k) → Contains n (item.Column k)
  column_kept o k there inside is =
      let table = survivor_supported f n survivors (item.Table o) there in
      survivor_closed f n survivors (item.Column k) inside (subst (λ (t : Object). Has n (IsSchema t.schema)) (sym is.0) table.0, (item.Table o, there, ap path_of is.0), subst (λ (t : Object). RestsOnDomain n t.schema k.domain) (sym is.0) is.1)

  pub depended_there : (u : List Item) → IsWithin n u → ((x : Item) → Contains n x → HasDerivedFields x) → (x : Item) (t : Topic) → Contains n x → (IsBySystem x → HasShape n) → DependsOn n x t → HasParts u t
  depended_there u within derived x t there shape d = parts_more n u within t (depended_stands f n column_kept x there shape (derived x there) (survivor_supported f n survivors x there) t d)

pub depended_good : (c u : List Item) → IsGood c → IsWithin c u → (x : Item) (t : Topic) → Contains c x → DependsOn c x t → HasParts u t
depended_good c u good within x t there d = depended_there good.all c good.survivors u within good.shape.derived x t there (λ is. good.shape) d
