-- An item depends on the same topics by a part of a list, where of the list the part has all that concerns the item.
use Rattle.std.proofs.Common.{◌≡◌, inl, inr, List, [], ◌∷◌, Option, Some, None, ap, sym, refl, subst, ◌∙◌}
use Rattle.std.specs.Prelude.{ℕ}
use Rattle.std.specs.List.{Contains}
use Rattle.sql_tree.specs.declared.rights.Action.{Action}
use Rattle.sql_tree.specs.declared.rights.Action.TheVariants as action
use Rattle.cat_items.specs.declared.need.Auth.{Auth}
use Rattle.cat_items.specs.declared.need.Auth.TheVariants.{System, Public, Named}
use Rattle.cat_items.specs.declared.need.Need.{Need}
use Rattle.cat_items.specs.declared.item.View.{View}
use Rattle.cat_items.specs.declared.item.Right.{Right}
use Rattle.cat_items.specs.declared.item.Item.{Item}
use Rattle.cat_items.specs.declared.item.Item.TheVariants as item
use Rattle.cat_items.specs.Reach.{Has, GrantsRole, Leads, Reaches}
use Rattle.cat_items.specs.Rights.{path_of, IsSchema}
use Rattle.cat_items.specs.Relevant.{Owns, OwnsPath, IsOwnedSchema, ActsInRight, IsActor, IsBaseColumnNeed, IsFirstSchema, RightNames, Names}
use Rattle.cascade_laws.specs.Concerns.{Concerns, Seeks, IsRoleGrant, named, role_for}
use Rattle.cascade_laws.specs.Topics.{Topic, IsGrantOf, IsUpdateNeed, IsUpdateNeedOn, IsOwnRightNeed, IsOwnNeed, DependsOn, by_name, by_option, of_need, of_supply, of_edges, of_role, of_admins}
use Rattle.cascade_laws.proofs.Spread.{view_need_object, one_more}
use Rattle.part_topics.proofs.More.{view_need, own_is_needed}

grant_of : (role : List ℕ) (y : Item) → IsGrantOf role y → IsRoleGrant y
grant_of role (item.RoleAuth g) is = tt
grant_of role (item.RoleAdmin g) is = tt
grant_of role _ is = absurd is

module _ (all part : List Item) (x : Item) (kept : (y : Item) → Contains all y → Concerns all y x → Contains part y) where
  by_names : (y : Item) → Contains all y → Names x y → Contains part y
  by_names y h is = kept y h (named is)

  names_of : (y : Item) → x ≡ y → (z : Item) → Names y z → Names x z
  names_of y e z is = subst (λ w. Names w z) (sym e) is

  -- ---- the actor

  owns_kept : (name : List ℕ) → ((z : Item) → IsSchema name z → Names x z) → (a : Auth) → Owns all name a → Owns part name a
  owns_kept name e a h = by h.0 h.1 h.2
    where
      by : (z : Item) → Contains all z → IsOwnedSchema name a z → Owns part name a
      by (item.Schema z) inside is = (item.Schema z, by_names (item.Schema z) inside (e (item.Schema z) is.0), is)
      by _ inside is = absurd is

  owns_path_kept : (path : List (List ℕ)) → ((z : Item) → IsFirstSchema path z → Names x z) → (a : Auth) → OwnsPath all path a → OwnsPath part path a
  owns_path_kept [] e a h = absurd h
  owns_path_kept (name ∷ names) e a h = owns_kept name e a h

  in_right_kept : (r : Right) → ((z : Item) → RightNames r z → Names x z) → (by a : Auth) → ActsInRight all r by a → ActsInRight part r by a
  in_right_kept r e System a h = owns_path_kept r.need.on (λ z is. e z (inr (inl is))) a h
  in_right_kept r e Public a h = h
  in_right_kept r e (Named name) a h = h

  actor_kept : (y : Item) → x ≡ y → (a : Auth) → IsActor all y a → IsActor part y a
  actor_kept (item.Table o) e a h = owns_kept o.schema (λ z is. names_of (item.Table o) e z (inl is)) a h
  actor_kept (item.View v) e a h = owns_kept v.view.schema (names_of (item.View v) e) a h
  actor_kept (item.Column k) e a h = owns_kept k.table.schema (λ z is. names_of (item.Column k) e z (inl is)) a h
  actor_kept (item.Domain d) e a h = owns_kept d.domain.schema (names_of (item.Domain d) e) a h
  actor_kept (item.DomainCheck d) e a h = owns_kept d.name.schema (λ z is. names_of (item.DomainCheck d) e z (inl is)) a h
  actor_kept (item.Key k) e a h = owns_kept k.name.schema (λ z is. names_of (item.Key k) e z (inl is)) a h
  actor_kept (item.Foreign f) e a h = owns_kept f.name.schema (λ z is. names_of (item.Foreign f) e z (inl is)) a h
  actor_kept (item.Check k) e a h = owns_kept k.name.schema (λ z is. names_of (item.Check k) e z (inl is)) a h
  actor_kept (item.Assertion z) e a h = owns_kept z.name.schema (names_of (item.Assertion z) e) a h
  actor_kept (item.Routine r) e a h = owns_kept r.routine.schema (names_of (item.Routine r) e) a h
  actor_kept (item.RoleAuth g) e a h = h
  actor_kept (item.RoleAdmin g) e a h = h
  actor_kept (item.Held r) e a h = in_right_kept r (names_of (item.Held r) e) r.grantor a h
  actor_kept (item.Grantable r) e a h = in_right_kept r (names_of (item.Grantable r) e) r.grantor a h
  actor_kept _ e a h = absurd h

  -- ---- own needs

  module _ (r : Right) (names : (z : Item) → RightNames r z → Names x z) where
    column_kept : (v : View) (by : Action) (name : List ℕ) → r.need.on ≡ path_of v.view → r.need.column ≡ Some name → (need : Need) → Has all (IsBaseColumnNeed v by name need) → Has part (IsBaseColumnNeed v by name need)
    column_kept v by name path column need h = at h.0 h.1 h.2
      where
        at : (y : Item) → Contains all y → IsBaseColumnNeed v by name need y → Has part (IsBaseColumnNeed v by name need)
        at (item.Column k) inside is = (item.Column k, by_names (item.Column k) inside (names (item.Column k) (inl (inr (path ∙ ap path_of (sym is.0), column ∙ ap Some (sym is.1))))), is)
        at _ inside is = absurd is

    update_kept : (v : View) → r.need.on ≡ path_of v.view → (by : Action) (column : Option (List ℕ)) → r.need.column ≡ column → (need : Need) → IsUpdateNeed all v by column need → IsUpdateNeed part v by column need
    update_kept v path action.Insert None e need is = is
    update_kept v path action.Update None e need is = is
    update_kept v path action.Delete None e need is = is
    update_kept v path action.Insert (Some name) e need is = column_kept v action.Insert name path e need is
    update_kept v path action.Update (Some name) e need is = column_kept v action.Update name path e need is
    update_kept v path action.Delete (Some name) e need is = absurd is
    update_kept v path action.Select column e need is = absurd is
    update_kept v path action.References column e need is = absurd is
    update_kept v path action.Usage column e need is = absurd is
    update_kept v path action.Execute column e need is = absurd is
    update_kept v path action.Admin column e need is = absurd is

    update_on_kept : (need : Need) (y : Item) → Contains all y → IsUpdateNeedOn all r need y → Has part (IsUpdateNeedOn part r need)
    update_on_kept need (item.View v) inside is =
        let sought = view_need all v r.need.action r.need.column need is.1 in
        let object = view_need_object all v r.need.action r.need.column need r.need.on is.0 sought in
        (item.View v, by_names (item.View v) inside (names (item.View v) (inl (inl object))), (is.0, update_kept v is.0 r.need.action r.need.column refl need is.1))
    update_on_kept need _ inside is = absurd is

    own_right_kept : (a : Auth) (need : Need) → IsOwnRightNeed all r a need → IsOwnRightNeed part r a need
    own_right_kept System need h = update_on_kept need h.0 h.1 h.2
    own_right_kept Public need h = h
    own_right_kept (Named name) need h = h

  own_kept : (y : Item) → x ≡ y → (need : Need) → IsOwnNeed all y need → IsOwnNeed part y need
  own_kept (item.View v) e need h = h
  own_kept (item.Column k) e need h = h
  own_kept (item.DomainCheck d) e need h = h
  own_kept (item.Foreign f) e need h = h
  own_kept (item.Check k) e need h = h
  own_kept (item.Assertion z) e need h = h
  own_kept (item.Routine r) e need h = h
  own_kept (item.Held r) e need h = own_right_kept r (names_of (item.Held r) e) r.grantor need h
  own_kept (item.Grantable r) e need h = own_right_kept r (names_of (item.Grantable r) e) r.grantor need h
  own_kept _ e need h = absurd h

  -- ---- reach: the way so far is one of the list and of the part

  lead_kept : (from : List ℕ) → Seeks all x (Named from) → (mid : List ℕ) (before : List (List ℕ)) → Leads all from before mid → (behind : List (List ℕ)) → Leads part from behind mid
      → (roles : List (List ℕ)) (to : List ℕ) → Leads all mid roles to → Reaches part (Named from) (Named to)
  lead_kept from seeks mid before led behind way [] to e = (behind, subst (Leads part from behind) e way)
  lead_kept from seeks mid before led behind way (role ∷ roles) to h = by (λ longer led2 other way2. lead_kept from seeks role longer led2 other way2 roles to h.1) h.0.0 h.0.1 h.0.2
    where
      by : ((longer : List (List ℕ)) → Leads all from longer role → (other : List (List ℕ)) → Leads part from other role → Reaches part (Named from) (Named to))
          → (y : Item) → Contains all y → GrantsRole role mid y → Reaches part (Named from) (Named to)
      by next (item.RoleAuth g) inside is =
          let reached = subst (λ n. Reaches all (Named from) (Named n)) (sym is.1) (before, led) in
          let in_part = kept (item.RoleAuth g) inside (role_for (Named from) seeks reached) in
          let one = one_more all from before mid role led (item.RoleAuth g, inside, is) in
          let two = one_more part from behind mid role way (item.RoleAuth g, in_part, is) in
          next one.0 one.1 two.0 two.1
      by next _ inside is = absurd is

  reach_kept : (a : Auth) → Seeks all x a → (g : Auth) → Reaches all a g → Reaches part a g
  reach_kept a seeks Public h = tt
  reach_kept (Named from) seeks (Named to) h = lead_kept from seeks from [] refl [] refl h.0 to h.1
  reach_kept System seeks System h = tt
  reach_kept System seeks (Named to) h = absurd h
  reach_kept Public seeks (Named to) h = absurd h
  reach_kept Public seeks System h = absurd h
  reach_kept (Named from) seeks System h = absurd h

  -- ---- topics

  for_need : (need : Need) (a : Auth) → IsOwnNeed all x need → IsActor all x a → Seeks all x a
  for_need need a own acts = (acts, inl (need, own_is_needed all x need own))

  pub depends_kept : (t : Topic) → DependsOn all x t → DependsOn part x t
  depends_kept t (by_name e) = by_name e
  depends_kept t (by_option e) = by_option e
  depends_kept t (of_need need own e) = of_need need (own_kept x refl need own) e
  depends_kept t (of_supply need a g own acts way e) = of_supply need a g (own_kept x refl need own) (actor_kept x refl a acts) (reach_kept a (for_need need a own acts) g way) e
  depends_kept t (of_edges need a name own acts way e) = of_edges need a name (own_kept x refl need own) (actor_kept x refl a acts) (reach_kept a (for_need need a own acts) (Named name) way) e
  depends_kept t (of_role a name grants acts way e) = of_role a name grants (actor_kept x refl a acts) (reach_kept a (acts, inr grants) (Named name) way) e
  depends_kept t (of_admins a role name grants acts way e) = of_admins a role name grants (actor_kept x refl a acts) (reach_kept a (acts, inr (grant_of role x grants)) (Named name) way) e
