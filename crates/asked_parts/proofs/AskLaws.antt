-- What a suspect asks for: more over a longer part, and topics that have keys of their own but for what its option adds to.
use Rattle.std.proofs.Common.{◌≡◌, ◌⊎◌, inl, inr, ℕ, List, [], ◌∷◌, Option, Some, None, refl, sym, subst}
use Rattle.finite_chains.specs.Chains.{IsWithin}
use Rattle.sql_names.specs.declared.object.Object.{Object}
use Rattle.sql_tree.specs.declared.rights.Action.{Action}
use Rattle.sql_tree.specs.declared.rights.Action.TheVariants as action
use Rattle.sql_tree.specs.declared.rights.Action.TheVariants.{Usage, Execute, Admin}
use Rattle.cat_items.specs.declared.need.Auth.{Auth}
use Rattle.cat_items.specs.declared.need.Auth.TheVariants.{System, Public, Named}
use Rattle.cat_items.specs.declared.need.Need.{Need}
use Rattle.cat_items.specs.declared.item.View.{View}
use Rattle.cat_items.specs.declared.item.Right.{Right}
use Rattle.cat_items.specs.declared.item.RoleGrant.{RoleGrant}
use Rattle.cat_items.specs.declared.item.Item.{Item}
use Rattle.cat_items.specs.declared.item.Item.TheVariants as item
use Rattle.std.specs.List.{Contains}
use Rattle.cat_items.specs.Ranges.{IsRoleAuthorization}
use Rattle.cat_items.specs.Reach.{GrantsRole, Has, Leads, Reaches}
use Rattle.cat_items.specs.Relevant.{ActsInRight, HasUsage, IsActor, IsBaseColumnNeed, IsNeedOf, IsObjectNeed, IsOwnedSchema, IsRightNeed, IsUsageOf, IsViewNeed, Owns, OwnsPath}
use Rattle.cat_items.specs.Rights.{path_of}
use Rattle.cascade_laws.specs.Asks.{Asks, IsFarTopic, IsFirstTopic, IsFarRightTopic, by_name, by_far, by_option, of_need, of_supply, of_edges, of_admins}
use Rattle.cascade_laws.specs.Concerns.{Seeks}
use Rattle.cascade_laws.specs.Topics.{Topic, IsAuthTopic, IsColumnTopic, IsNameTopic, IsNeedTopic, IsObjectTopic, IsOptionTopic, IsOptionalDomainTopic, IsPartyTopic, IsRightTopic, IsRoleGrantTopic, IsUnder, authorization, role_named, schema, table, base_table, columns, column, domain, routine, key, supply, edges, admins, held, role_auth}
use Rattle.board_graph.specs.Boards.{IsOwnTopic}
use Rattle.asked_parts.specs.Parts.{IsAskedBy}
use Rattle.asked_parts.specs.Rounds.{IsBased, IsGiven, IsGiver, Tells, TellsTo, option_of}

-- ---- over a list that has all that tells what is asked for

usage_based : (domain : Option Object) (need : Need) → IsUsageOf domain need → IsBased domain
usage_based None need is = absurd is
usage_based (Some o) need is = tt

module _ (l : List Item) where
  owned_tells : (name : List ℕ) (a : Auth) (y : Item) → IsOwnedSchema name a y → Tells l y
  owned_tells name a (item.Schema z) is = tt
  owned_tells name a _ is = absurd is

  usage_tells : (o : Object) (need : Need) (y : Item) → HasUsage o need y → Tells l y
  usage_tells o need (item.Column k) is = inl (usage_based k.domain need is.1)
  usage_tells o need _ is = absurd is

  base_tells : (v : View) → Contains l (item.View v) → (by : Action) (name : List ℕ) (need : Need) (y : Item) → IsBaseColumnNeed v by name need y → Tells l y
  base_tells v here by name need (item.Column k) is = inr (item.View v, here, sym is.0)
  base_tells v here by name need _ is = absurd is

  object_tells : (r : Right) (need : Need) (y : Item) → IsObjectNeed l r need y → Tells l y
  object_tells r need (item.View v) is = tt
  object_tells r need (item.Routine z) is = tt
  object_tells r need _ is = absurd is

  grant_tells : (role grantee : List ℕ) (y : Item) → GrantsRole role grantee y → Tells l y
  grant_tells role grantee (item.RoleAuth g) is = tt
  grant_tells role grantee _ is = absurd is

module _ (l m : List Item) (within : (y : Item) → Contains l y → Tells l y → Contains m y) where
  has_told : (P Q : Item → Type 0) → ((y : Item) → P y → Tells l y) → ((y : Item) → Contains l y → P y → Q y) → Has l P → Has m Q
  has_told P Q tells f h = (h.0, within h.0 h.1 (tells h.0 h.2), f h.0 h.1 h.2)

  owns_more : (name : List ℕ) (a : Auth) → Owns l name a → Owns m name a
  owns_more name a is = has_told (IsOwnedSchema name a) (IsOwnedSchema name a) (owned_tells l name a) (λ y _ p. p) is

  owns_path_more : (path : List (List ℕ)) (a : Auth) → OwnsPath l path a → OwnsPath m path a
  owns_path_more [] a is = is
  owns_path_more (name ∷ names) a is = owns_more name a is

  in_right_more : (r : Right) (by a : Auth) → ActsInRight l r by a → ActsInRight m r by a
  in_right_more r System a is = owns_path_more r.need.on a is
  in_right_more r Public a is = is
  in_right_more r (Named name) a is = is

  actor_more : (x : Item) (a : Auth) → IsActor l x a → IsActor m x a
  actor_more (item.Table t) a is = owns_more t.schema a is
  actor_more (item.View v) a is = owns_more v.view.schema a is
  actor_more (item.Column k) a is = owns_more k.table.schema a is
  actor_more (item.Domain d) a is = owns_more d.domain.schema a is
  actor_more (item.DomainCheck d) a is = owns_more d.name.schema a is
  actor_more (item.Key k) a is = owns_more k.name.schema a is
  actor_more (item.Foreign f) a is = owns_more f.name.schema a is
  actor_more (item.Check k) a is = owns_more k.name.schema a is
  actor_more (item.Assertion z) a is = owns_more z.name.schema a is
  actor_more (item.Routine r) a is = owns_more r.routine.schema a is
  actor_more (item.RoleAuth g) a is = is
  actor_more (item.RoleAdmin g) a is = is
  actor_more (item.Held r) a is = in_right_more r r.grantor a is
  actor_more (item.Grantable r) a is = in_right_more r r.grantor a is
  actor_more _ a is = absurd is

  leads_more : (from : List ℕ) (roles : List (List ℕ)) (to : List ℕ) → Leads l from roles to → Leads m from roles to
  leads_more from [] to is = is
  leads_more from (role ∷ roles) to is = (has_told (GrantsRole role from) (GrantsRole role from) (grant_tells l role from) (λ y _ p. p) is.0, leads_more role roles to is.1)

  reach_more : (a g : Auth) → Reaches l a g → Reaches m a g
  reach_more a Public is = is
  reach_more (Named from) (Named to) is = (is.0, leads_more from is.0 to is.1)
  reach_more System System is = is
  reach_more System (Named to) is = absurd is
  reach_more Public (Named to) is = absurd is
  reach_more Public System is = absurd is
  reach_more (Named from) System is = absurd is

  view_need_more : (v : View) → Contains l (item.View v) → (by : Action) (at : Option (List ℕ)) (need : Need) → IsViewNeed l v by at need → IsViewNeed m v by at need
  view_need_more v here action.Select at need is = is
  view_need_more v here action.Insert None need is = is
  view_need_more v here action.Update None need is = is
  view_need_more v here action.Delete None need is = is
  view_need_more v here action.Insert (Some name) need is = has_told (IsBaseColumnNeed v action.Insert name need) (IsBaseColumnNeed v action.Insert name need) (base_tells l v here action.Insert name need) (λ y _ p. p) is
  view_need_more v here action.Update (Some name) need is = has_told (IsBaseColumnNeed v action.Update name need) (IsBaseColumnNeed v action.Update name need) (base_tells l v here action.Update name need) (λ y _ p. p) is
  view_need_more v here action.Delete (Some name) need is = absurd is
  view_need_more v here action.References at need is = absurd is
  view_need_more v here action.Usage at need is = absurd is
  view_need_more v here action.Execute at need is = absurd is
  view_need_more v here action.Admin at need is = absurd is

  object_need_more : (r : Right) (need : Need) (y : Item) → Contains l y → IsObjectNeed l r need y → IsObjectNeed m r need y
  object_need_more r need (item.View v) here is = (is.0, view_need_more v here r.need.action r.need.column need is.1)
  object_need_more r need (item.Routine x) here is = is
  object_need_more r need _ here is = absurd is

  right_need_more : (r : Right) (a : Auth) (need : Need) → IsRightNeed l r a need → IsRightNeed m r a need
  right_need_more r System need is = has_told (IsObjectNeed l r need) (IsObjectNeed m r need) (object_tells l r need) (object_need_more r need) is
  right_need_more r Public need is = is
  right_need_more r (Named name) need is = is

  need_more : (x : Item) (need : Need) → IsNeedOf l x need → IsNeedOf m x need
  need_more (item.Table t) need is = has_told (HasUsage t need) (HasUsage t need) (usage_tells l t need) (λ y _ p. p) is
  need_more (item.View v) need is = is
  need_more (item.Column k) need is = is
  need_more (item.DomainCheck d) need is = is
  need_more (item.Foreign f) need is = is
  need_more (item.Check k) need is = is
  need_more (item.Assertion z) need is = is
  need_more (item.Routine r) need is = is
  need_more (item.Held r) need is = right_need_more r r.grantor need is
  need_more (item.Grantable r) need is = right_need_more r r.grantor need is
  need_more _ need is = absurd is

  seeks_more : (x : Item) (a : Auth) → Seeks l x a → Seeks m x a
  seeks_more x a is = (actor_more x a is.0, elim is.1 [ inl needs ↦ inl (needs.0, need_more x needs.0 needs.1) | inr grants ↦ inr grants ])

  asks_told : (x : Item) (t : Topic) → Asks l x t → Asks m x t
  asks_told x t (by_name e) = by_name e
  asks_told x t (by_far e) = by_far e
  asks_told x t (by_option e) = by_option e
  asks_told x t (of_need need needed e) = of_need need (need_more x need needed) e
  asks_told x t (of_supply need a g needed acts way e) = of_supply need a g (need_more x need needed) (actor_more x a acts) (reach_more a g way) e
  asks_told x t (of_edges a name seeks way e) = of_edges a name (seeks_more x a seeks) (reach_more a (Named name) way) e
  asks_told x t (of_admins a role name grants acts way e) = of_admins a role name grants (actor_more x a acts) (reach_more a (Named name) way) e

-- ---- what was given asks by role authorizations alone

role_tells : (role grantee : List ℕ) (y : Item) → GrantsRole role grantee y → IsRoleAuthorization y
role_tells role grantee (item.RoleAuth g) is = tt
role_tells role grantee _ is = absurd is

module _ (l m : List Item) (within : (y : Item) → Contains l y → IsRoleAuthorization y → Contains m y) where
  leads_still : (from : List ℕ) (roles : List (List ℕ)) (to : List ℕ) → Leads l from roles to → Leads m from roles to
  leads_still from [] to is = is
  leads_still from (role ∷ roles) to is = ((is.0.0, within is.0.0 is.0.1 (role_tells role from is.0.0 is.0.2), is.0.2), leads_still role roles to is.1)

  reach_still : (a g : Auth) → Reaches l a g → Reaches m a g
  reach_still a Public is = is
  reach_still (Named from) (Named to) is = (is.0, leads_still from is.0 to is.1)
  reach_still System System is = is
  reach_still System (Named to) is = absurd is
  reach_still Public (Named to) is = absurd is
  reach_still Public System is = absurd is
  reach_still (Named from) System is = absurd is

  in_right_still : (r : Right) (by a : Auth) → IsGiver by → ActsInRight l r by a → ActsInRight m r by a
  in_right_still r System a given is = absurd given
  in_right_still r Public a given is = is
  in_right_still r (Named name) a given is = is

  actor_still : (x : Item) (a : Auth) → IsGiven x → IsActor l x a → IsActor m x a
  actor_still (item.RoleAuth g) a given is = is
  actor_still (item.RoleAdmin g) a given is = is
  actor_still (item.Held r) a given is = in_right_still r r.grantor a given is
  actor_still (item.Grantable r) a given is = in_right_still r r.grantor a given is
  actor_still _ a given is = absurd given

  right_need_still : (r : Right) (by : Auth) (need : Need) → IsGiver by → IsRightNeed l r by need → IsRightNeed m r by need
  right_need_still r System need given is = absurd given
  right_need_still r Public need given is = is
  right_need_still r (Named name) need given is = is

  need_still : (x : Item) (need : Need) → IsGiven x → IsNeedOf l x need → IsNeedOf m x need
  need_still (item.RoleAuth g) need given is = absurd is
  need_still (item.RoleAdmin g) need given is = absurd is
  need_still (item.Held r) need given is = right_need_still r r.grantor need given is
  need_still (item.Grantable r) need given is = right_need_still r r.grantor need given is
  need_still _ need given is = absurd given

  seeks_still : (x : Item) (a : Auth) → IsGiven x → Seeks l x a → Seeks m x a
  seeks_still x a given is = (actor_still x a given is.0, elim is.1 [ inl needs ↦ inl (needs.0, need_still x needs.0 given needs.1) | inr grants ↦ inr grants ])

  asks_still : (x : Item) (t : Topic) → IsGiven x → Asks l x t → Asks m x t
  asks_still x t given (by_name e) = by_name e
  asks_still x t given (by_far e) = by_far e
  asks_still x t given (by_option e) = by_option e
  asks_still x t given (of_need need needed e) = of_need need (need_still x need given needed) e
  asks_still x t given (of_supply need a g needed acts way e) = of_supply need a g (need_still x need given needed) (actor_still x a given acts) (reach_still a g way) e
  asks_still x t given (of_edges a name seeks way e) = of_edges a name (seeks_still x a given seeks) (reach_still a (Named name) way) e
  asks_still x t given (of_admins a role name grants acts way e) = of_admins a role name grants (actor_still x a given acts) (reach_still a (Named name) way) e

giver_or_not : (a : Auth) → IsGiver a ⊎ (¬ (IsGiver a))
giver_or_not System = inr (λ h. h)
giver_or_not Public = inl tt
giver_or_not (Named name) = inl tt

given_or_not : (x : Item) → IsGiven x ⊎ (¬ (IsGiven x))
given_or_not (item.Held r) = giver_or_not r.grantor
given_or_not (item.Grantable r) = giver_or_not r.grantor
given_or_not (item.RoleAuth g) = inl tt
given_or_not (item.RoleAdmin g) = inl tt
given_or_not _ = inr (λ h. h)

-- ---- over a part that has all that tells to the suspects

pub asked_by_told : (l m suspects : List Item) → ((x y : Item) → Contains suspects x → Contains l y → TellsTo l x y → Contains m y) → (k : Item) → IsAskedBy l suspects k → IsAskedBy m suspects k
asked_by_told l m suspects within k (x, here, (t, (asks, own_topic), keyed)) = (x, here, (t, (still, own_topic), keyed))
  where
    still : Asks m x t
    still = elim (given_or_not x) [
      | inl given ↦ asks_still l m (λ y c is. within x y here c (inl is)) x t given asks
      | inr not ↦ asks_told l m (λ y c tells. within x y here c (inr (tells, not))) x t asks
    ]

-- so over a longer part

pub asks_more : (l m : List Item) (within : IsWithin l m) (x : Item) (t : Topic) → Asks l x t → Asks m x t
asks_more l m within x t asks = asks_told l m (λ y c _. within y c) x t asks

pub asked_by_more : (l m : List Item) (within : IsWithin l m) (suspects : List Item) (k : Item) → IsAskedBy l suspects k → IsAskedBy m suspects k
asked_by_more l m within suspects k h = asked_by_told l m suspects (λ x y _ c _. within y c) k h

-- ---- topics that have keys of their own

own : (t s : Topic) → t ≡ s → IsOwnTopic s → IsOwnTopic t
own t s e h = subst IsOwnTopic (sym e) h

own_auth : (a : Auth) (t : Topic) → IsAuthTopic a t → IsOwnTopic t
own_auth (Named name) t e = own t (authorization name) e tt
own_auth System t e = absurd e
own_auth Public t e = absurd e

own_columns : (o : Object) (names : List (List ℕ)) (t : Topic) → IsColumnTopic o names t → IsOwnTopic t
own_columns o names t h = own t (column (path_of o) h.0) h.2 tt

own_domain : (d : Option Object) (t : Topic) → IsOptionalDomainTopic d t → IsOwnTopic t
own_domain None t e = absurd e
own_domain (Some o) t e = own t (domain (path_of o)) e tt

own_object : (action : Action) (path : List (List ℕ)) (t : Topic) → IsObjectTopic action path t → IsOwnTopic t
own_object Usage path t e = own t (domain path) e tt
own_object Execute path t e = own t (routine path) e tt
own_object Admin path t e = absurd e
own_object action path t e = own t (table path) e tt

own_need : (need : Need) (t : Topic) → IsNeedTopic need t → IsOwnTopic t
own_need need t (inl e) = own_object need.action need.on t e
own_need need t (inr h) = own t (column need.on h.0) h.2 tt

own_party : (grantor grantee : Auth) (t : Topic) → IsPartyTopic grantor grantee t → IsOwnTopic t
own_party System grantee t e = absurd e
own_party Public grantee t (inl e) = absurd e
own_party Public grantee t (inr e) = own_auth grantee t e
own_party (Named name) grantee t (inl e) = own_auth (Named name) t e
own_party (Named name) grantee t (inr e) = own_auth grantee t e

own_right : (r : Right) (t : Topic) → IsRightTopic r t → IsOwnTopic t
own_right r t (inl e) = own_need r.need t e
own_right r t (inr e) = own_party r.grantor r.grantee t e

own_grant : (g : RoleGrant) (t : Topic) → IsRoleGrantTopic g t → IsOwnTopic t
own_grant g t (inl e) = own t (role_named g.role) e tt
own_grant g t (inr (inl e)) = own t (authorization g.grantee) e tt
own_grant g t (inr (inr e)) = own_auth g.grantor t e

own_name : (x : Item) (t : Topic) → IsNameTopic x t → IsOwnTopic t
own_name (item.Schema x) t e = own t (authorization x.owner) e tt
own_name (item.Table o) t (inl e) = own t (schema o.schema) e tt
own_name (item.Table o) t (inr e) = own t (columns o) e tt
own_name (item.View v) t e = own t (schema v.view.schema) e tt
own_name (item.Column c) t (inl e) = own t (table (path_of c.table)) e tt
own_name (item.Column c) t (inr e) = own_domain c.domain t e
own_name (item.Domain d) t e = own t (schema d.domain.schema) e tt
own_name (item.DomainCheck d) t (inl e) = own t (schema d.name.schema) e tt
own_name (item.DomainCheck d) t (inr e) = own t (domain (path_of d.domain)) e tt
own_name (item.Key k) t (inl e) = own t (schema k.name.schema) e tt
own_name (item.Key k) t (inr (inl e)) = own t (base_table k.table) e tt
own_name (item.Key k) t (inr (inr e)) = own_columns k.table k.columns t e
own_name (item.Foreign f) t (inl e) = own t (schema f.name.schema) e tt
own_name (item.Foreign f) t (inr (inl e)) = own t (base_table f.table) e tt
own_name (item.Foreign f) t (inr (inr (inl e))) = own_columns f.table f.columns t e
own_name (item.Foreign f) t (inr (inr (inr (inl e)))) = own t (base_table f.target) e tt
own_name (item.Foreign f) t (inr (inr (inr (inr (inl e))))) = own_columns f.target f.target_columns t e
own_name (item.Foreign f) t (inr (inr (inr (inr (inr e))))) = own t (key f.key) e tt
own_name (item.Check k) t (inl e) = own t (schema k.name.schema) e tt
own_name (item.Check k) t (inr (inl e)) = own t (base_table k.table) e tt
own_name (item.Check k) t (inr (inr e)) = own_columns k.table k.columns t e
own_name (item.Assertion a) t e = own t (schema a.name.schema) e tt
own_name (item.Routine r) t e = own t (schema r.routine.schema) e tt
own_name (item.RoleAuth g) t e = own_grant g t e
own_name (item.RoleAdmin g) t e = own_grant g t e
own_name (item.Held r) t e = own_right r t e
own_name (item.Grantable r) t e = own_right r t e
own_name x t e = absurd e

own_first : (path : List (List ℕ)) (t : Topic) → IsFirstTopic path t → IsOwnTopic t
own_first [] t e = absurd e
own_first (name ∷ names) t e = own t (schema name) e tt

own_far_right : (r : Right) (t : Topic) → IsFarRightTopic r t → IsOwnTopic t
own_far_right r t (inl e) = own_first r.need.on t e
own_far_right r t (inr (inl e)) = own_auth r.grantee t e
own_far_right r t (inr (inr e)) = own_auth r.grantor t e

own_far : (x : Item) (t : Topic) → IsFarTopic x t → IsOwnTopic t
own_far (item.Column c) t e = own t (schema c.table.schema) e tt
own_far (item.Held r) t e = own_far_right r t e
own_far (item.Grantable r) t e = own_far_right r t e
own_far x t e = absurd e

pub own_or_option : (l : List Item) (x : Item) (t : Topic) → Asks l x t → IsOwnTopic t ⊎ IsOptionTopic x t
own_or_option l x t (by_name e) = inl (own_name x t e)
own_or_option l x t (by_far e) = inl (own_far x t e)
own_or_option l x t (by_option e) = inr e
own_or_option l x t (of_need need needed e) = inl (own_need need t e)
own_or_option l x t (of_supply need a g needed acts way e) = inl (own t (supply need g) e tt)
own_or_option l x t (of_edges a name seeks way e) = inl (own t (edges name) e tt)
own_or_option l x t (of_admins a role name grants acts way e) = inl (own t (admins role name) e tt)

-- ---- options

-- what stands under the topic of an option is what the option adds to
pub under_option : (x : Item) (t : Topic) (y : Item) → IsOptionTopic x t → IsUnder t y → option_of x ≡ Some y
under_option (item.Grantable r) t y e is = by y (subst (λ s. IsUnder s y) e is)
  where
    by : (y : Item) → IsUnder (held r) y → Some (item.Held r) ≡ Some y
    by (item.Held other) same = cc
    by _ same = absurd same
under_option (item.RoleAdmin g) t y e is = by y (subst (λ s. IsUnder s y) e is)
  where
    by : (y : Item) → IsUnder (role_auth g) y → Some (item.RoleAuth g) ≡ Some y
    by (item.RoleAuth other) same = cc
    by _ same = absurd same
under_option _ t y e is = absurd e

-- and stands under a topic that is asked for
pub option_under : (x y : Item) → option_of x ≡ Some y → (t : Topic) × IsOptionTopic x t × IsUnder t y
option_under (item.Grantable r) y e = let is : item.Held r ≡ y = cc in (held r, refl, subst (IsUnder (held r)) is refl)
option_under (item.RoleAdmin g) y e = let is : item.RoleAuth g ≡ y = cc in (role_auth g, refl, subst (IsUnder (role_auth g)) is refl)
option_under _ y e = absurd (none y e)
  where
    none : (y : Item) → None ≡ Some y → ⊥
    none y e = cc
