-- What the items of a part need to have at hand: where all that stands under the topics that they ask for is there, all that concerns them is there.
use Rattle.std.proofs.Common.{◌≡◌, ◌⊎◌, inl, inr, List, [], ◌∷◌, Option, Some, None, ap, sym, refl, subst, ◌∙◌}
use Rattle.std.specs.Prelude.{ℕ}
use Rattle.std.specs.List.{Contains}
use Rattle.sql_names.specs.declared.object.Object.{Object}
use Rattle.sql_tree.specs.declared.rights.Action.{Action}
use Rattle.sql_tree.specs.declared.rights.Action.TheVariants as action
use Rattle.cat_items.specs.declared.need.Auth.{Auth}
use Rattle.cat_items.specs.declared.need.Auth.TheVariants.{System, Public, Named}
use Rattle.cat_items.specs.declared.need.Need.{Need}
use Rattle.cat_items.specs.declared.item.View.{View}
use Rattle.cat_items.specs.declared.item.Right.{Right}
use Rattle.cat_items.specs.declared.item.Item.{Item}
use Rattle.cat_items.specs.declared.item.Item.TheVariants as item
use Rattle.cat_items.specs.Reach.{Has, GrantsRole, Leads, Reaches}
use Rattle.cat_items.specs.Rights.{path_of, IsSchema, IsObject}
use Rattle.cat_items.specs.Fit.{IsRight}
use Rattle.cat_items.specs.Relevant.{Owns, OwnsPath, IsOwnedSchema, ActsInRight, IsActor, HasUsage, IsBaseColumnNeed, IsViewNeed, IsPartOfNeed, IsFirstSchema, RightNames, Names, IsRightOf, IsRoleFor, IsOptionOn, IsNeedOf, IsObjectNeed, IsRightNeed}
use Rattle.cat_items.specs.Relevant as relevant
use Rattle.cascade_laws.specs.Concerns.{Concerns, Seeks, IsRoleGrant, named, on_need, right_of, role_for, admin_for, without}
use Rattle.cascade_laws.specs.Topics.{Topic, IsUnder, IsSupply, IsGrantOf, IsOptionTopic, IsNameTopic, IsRightTopic, IsPartyTopic}
use Rattle.cascade_laws.specs.Topics as on
use Rattle.cascade_laws.specs.Asks.{Asks, IsFarTopic, IsFarRightTopic, IsFirstTopic, by_name, by_far, by_option, of_need, of_supply, of_edges, of_admins}
use Rattle.cascade_laws.proofs.Spread.{part_topic, auth_topic, among_topic, optional_domain_topic, role_grant_topic, view_need_object, one_more}

under_first : (path : List (List ℕ)) (y : Item) → IsFirstSchema path y → (t : Topic) × IsFirstTopic path t × IsUnder t y
under_first (name ∷ names) y is = (on.schema name, refl, is)
under_first [] y is = absurd is

right_asked : (r : Right) (y : Item) → RightNames r y → (t : Topic) × (IsRightTopic r t ⊎ IsFarRightTopic r t) × IsUnder t y
right_asked r y (inl is) = let t = part_topic r.need y is in (t.0, inl (inl t.1), t.2)
right_asked r y (inr (inl is)) = let t = under_first r.need.on y is in (t.0, inr (inl t.1), t.2)
right_asked r y (inr (inr (inl is))) = let t = auth_topic r.grantee y is in (t.0, inr (inr (inl t.1)), t.2)
right_asked r y (inr (inr (inr is))) = let t = auth_topic r.grantor y is in (t.0, inr (inr (inr t.1)), t.2)

named_or_far : (x : Item) (t : Topic) → IsNameTopic x t ⊎ IsFarTopic x t → (l : List Item) → Asks l x t
named_or_far x t (inl e) l = by_name e
named_or_far x t (inr e) l = by_far e

-- all names of an item are asked for
name_asked : (x y : Item) → Names x y → (t : Topic) × (IsNameTopic x t ⊎ IsFarTopic x t) × IsUnder t y
name_asked (item.Schema z) y is = (on.authorization z.owner, inl refl, is)
name_asked (item.Table o) y (inl is) = (on.schema o.schema, inl (inl refl), is)
name_asked (item.Table o) y (inr is) = (on.columns o, inl (inr refl), is)
name_asked (item.View v) y is = (on.schema v.view.schema, inl refl, is)
name_asked (item.Column k) y (inl is) = (on.schema k.table.schema, inr refl, is)
name_asked (item.Column k) y (inr (inl is)) = (on.table (path_of k.table), inl (inl refl), is)
name_asked (item.Column k) y (inr (inr is)) = let t = optional_domain_topic k.domain y is in (t.0, inl (inr t.1), t.2)
name_asked (item.Domain d) y is = (on.schema d.domain.schema, inl refl, is)
name_asked (item.DomainCheck d) y (inl is) = (on.schema d.name.schema, inl (inl refl), is)
name_asked (item.DomainCheck d) y (inr is) = (on.domain (path_of d.domain), inl (inr refl), is)
name_asked (item.Key k) y (inl is) = (on.schema k.name.schema, inl (inl refl), is)
name_asked (item.Key k) y (inr (inl is)) = (on.base_table k.table, inl (inr (inl refl)), is)
name_asked (item.Key k) y (inr (inr is)) = let t = among_topic k.table k.columns y is in (t.0, inl (inr (inr t.1)), t.2)
name_asked (item.Foreign f) y (inl is) = (on.schema f.name.schema, inl (inl refl), is)
name_asked (item.Foreign f) y (inr (inl is)) = (on.base_table f.table, inl (inr (inl refl)), is)
name_asked (item.Foreign f) y (inr (inr (inl is))) = let t = among_topic f.table f.columns y is in (t.0, inl (inr (inr (inl t.1))), t.2)
name_asked (item.Foreign f) y (inr (inr (inr (inl is)))) = (on.base_table f.target, inl (inr (inr (inr (inl refl)))), is)
name_asked (item.Foreign f) y (inr (inr (inr (inr (inl is))))) = let t = among_topic f.target f.target_columns y is in (t.0, inl (inr (inr (inr (inr (inl t.1))))), t.2)
name_asked (item.Foreign f) y (inr (inr (inr (inr (inr is))))) = (on.key f.key, inl (inr (inr (inr (inr (inr refl))))), is)
name_asked (item.Check k) y (inl is) = (on.schema k.name.schema, inl (inl refl), is)
name_asked (item.Check k) y (inr (inl is)) = (on.base_table k.table, inl (inr (inl refl)), is)
name_asked (item.Check k) y (inr (inr is)) = let t = among_topic k.table k.columns y is in (t.0, inl (inr (inr t.1)), t.2)
name_asked (item.Assertion z) y is = (on.schema z.name.schema, inl refl, is)
name_asked (item.Routine r) y is = (on.schema r.routine.schema, inl refl, is)
name_asked (item.RoleAuth g) y is = let t = role_grant_topic g y is in (t.0, inl t.1, t.2)
name_asked (item.RoleAdmin g) y is = let t = role_grant_topic g y is in (t.0, inl t.1, t.2)
name_asked (item.Held r) y is = right_asked r y is
name_asked (item.Grantable r) y is = right_asked r y is
name_asked _ y is = absurd is

-- f is what survivors are taken of, `part` a part of it, and x an item of that part: of f all that counts is there that stands under a topic that x asks for
module _ (f part : List Item) (x : Item) (Counts : Item → Type 0) (others_count : (y : Item) → Contains f y → (¬ (IsRight y)) → Counts y)
    (there : (y : Item) (t : Topic) → Contains f y → Counts y → Asks part x t → IsUnder t y → Contains part y) where
  other : (y : Item) → Contains f y → (¬ (IsRight y)) → Names x y → Contains part y
  other y h none is = let t = name_asked x y is in there y t.0 h (others_count y h none) (named_or_far x t.0 t.1 part) t.2

  by_names : (y : Item) → Contains f y → Counts y → Names x y → Contains part y
  by_names y h counts is = let t = name_asked x y is in there y t.0 h counts (named_or_far x t.0 t.1 part) t.2

  -- ---- the part has what the topics of needs are made of

  owns_there : (name : List ℕ) → ((z : Item) → IsSchema name z → Names x z) → (a : Auth) → Owns f name a → Owns part name a
  owns_there name e a h = by h.0 h.1 h.2
    where
      by : (z : Item) → Contains f z → IsOwnedSchema name a z → Owns part name a
      by (item.Schema z) inside is = (item.Schema z, other (item.Schema z) inside (λ none. none) (e (item.Schema z) is.0), is)
      by _ inside is = absurd is

  owns_path_there : (path : List (List ℕ)) → ((z : Item) → IsFirstSchema path z → Names x z) → (a : Auth) → OwnsPath f path a → OwnsPath part path a
  owns_path_there [] e a h = absurd h
  owns_path_there (name ∷ names) e a h = owns_there name e a h

  in_right_there : (r : Right) → ((z : Item) → RightNames r z → Names x z) → (by a : Auth) → ActsInRight f r by a → ActsInRight part r by a
  in_right_there r e System a h = owns_path_there r.need.on (λ z is. e z (inr (inl is))) a h
  in_right_there r e Public a h = h
  in_right_there r e (Named name) a h = h

  names_of : (y : Item) → x ≡ y → (z : Item) → Names y z → Names x z
  names_of y e z is = subst (λ w. Names w z) (sym e) is

  actor_there : (y : Item) → x ≡ y → (a : Auth) → IsActor f y a → IsActor part y a
  actor_there (item.Table t) e a h = owns_there t.schema (λ z is. names_of (item.Table t) e z (inl is)) a h
  actor_there (item.View v) e a h = owns_there v.view.schema (names_of (item.View v) e) a h
  actor_there (item.Column k) e a h = owns_there k.table.schema (λ z is. names_of (item.Column k) e z (inl is)) a h
  actor_there (item.Domain d) e a h = owns_there d.domain.schema (names_of (item.Domain d) e) a h
  actor_there (item.DomainCheck d) e a h = owns_there d.name.schema (λ z is. names_of (item.DomainCheck d) e z (inl is)) a h
  actor_there (item.Key k) e a h = owns_there k.name.schema (λ z is. names_of (item.Key k) e z (inl is)) a h
  actor_there (item.Foreign k) e a h = owns_there k.name.schema (λ z is. names_of (item.Foreign k) e z (inl is)) a h
  actor_there (item.Check k) e a h = owns_there k.name.schema (λ z is. names_of (item.Check k) e z (inl is)) a h
  actor_there (item.Assertion z) e a h = owns_there z.name.schema (names_of (item.Assertion z) e) a h
  actor_there (item.Routine r) e a h = owns_there r.routine.schema (names_of (item.Routine r) e) a h
  actor_there (item.RoleAuth g) e a h = h
  actor_there (item.RoleAdmin g) e a h = h
  actor_there (item.Held r) e a h = in_right_there r (names_of (item.Held r) e) r.grantor a h
  actor_there (item.Grantable r) e a h = in_right_there r (names_of (item.Grantable r) e) r.grantor a h
  actor_there _ e a h = absurd h

  module _ (r : Right) (names : (z : Item) → RightNames r z → Names x z) where
    column_there : (v : View) (by : Action) (name : List ℕ) → r.need.on ≡ path_of v.view → r.need.column ≡ Some name → (need : Need) → Has f (IsBaseColumnNeed v by name need) → Has part (IsBaseColumnNeed v by name need)
    column_there v by name path column need h = at h.0 h.1 h.2
      where
        at : (y : Item) → Contains f y → IsBaseColumnNeed v by name need y → Has part (IsBaseColumnNeed v by name need)
        at (item.Column k) inside is = (item.Column k, other (item.Column k) inside (λ none. none) (names (item.Column k) (inl (inr (path ∙ ap path_of (sym is.0), column ∙ ap Some (sym is.1))))), is)
        at _ inside is = absurd is

    view_need_there : (v : View) → r.need.on ≡ path_of v.view → (by : Action) (column : Option (List ℕ)) → r.need.column ≡ column → (need : Need) → IsViewNeed f v by column need → IsViewNeed part v by column need
    view_need_there v path action.Select column e need is = is
    view_need_there v path action.Insert None e need is = is
    view_need_there v path action.Update None e need is = is
    view_need_there v path action.Delete None e need is = is
    view_need_there v path action.Insert (Some name) e need is = column_there v action.Insert name path e need is
    view_need_there v path action.Update (Some name) e need is = column_there v action.Update name path e need is
    view_need_there v path action.Delete (Some name) e need is = absurd is
    view_need_there v path action.References column e need is = absurd is
    view_need_there v path action.Usage column e need is = absurd is
    view_need_there v path action.Execute column e need is = absurd is
    view_need_there v path action.Admin column e need is = absurd is

    sought_on_there : (need : Need) (y : Item) → Contains f y → IsObjectNeed f r need y → Has part (IsObjectNeed part r need)
    sought_on_there need (item.View v) inside is = (
      item.View v,
      other (item.View v) inside (λ none. none) (names (item.View v) (inl (inl (view_need_object f v r.need.action r.need.column need r.need.on is.0 is.1)))),
      (is.0, view_need_there v is.0 r.need.action r.need.column refl need is.1),
    )
    sought_on_there need (item.Routine z) inside is =
        (item.Routine z, other (item.Routine z) inside (λ none. none) (names (item.Routine z) (inl (inl (subst (λ (n : Need). IsObject n.action n.on (item.Routine z)) (sym is.0) refl)))), is)
    sought_on_there need _ inside is = absurd is

    right_there : (a : Auth) (need : Need) → IsRightNeed f r a need → IsRightNeed part r a need
    right_there System need h = sought_on_there need h.0 h.1 h.2
    right_there Public need h = h
    right_there (Named name) need h = h

  usage_there : (t : Object) → ((k : Item) → relevant.Names (item.Table t) k → Names x k) → (need : Need) (k : Item) → Contains f k → HasUsage t need k → Has part (HasUsage t need)
  usage_there t names need (item.Column k) inside is = (item.Column k, other (item.Column k) inside (λ none. none) (names (item.Column k) (inr is.0)), is)
  usage_there t names need _ inside is = absurd is

  sought_there : (y : Item) → x ≡ y → (need : Need) → IsNeedOf f y need → IsNeedOf part y need
  sought_there (item.Table t) e need h = usage_there t (names_of (item.Table t) e) need h.0 h.1 h.2
  sought_there (item.View v) e need h = h
  sought_there (item.Column k) e need h = h
  sought_there (item.DomainCheck d) e need h = h
  sought_there (item.Foreign k) e need h = h
  sought_there (item.Check k) e need h = h
  sought_there (item.Assertion z) e need h = h
  sought_there (item.Routine r) e need h = h
  sought_there (item.Held r) e need h = right_there r (names_of (item.Held r) e) r.grantor need h
  sought_there (item.Grantable r) e need h = right_there r (names_of (item.Grantable r) e) r.grantor need h
  sought_there _ e need h = absurd h

  seeks_there : (a : Auth) → Seeks f x a → Seeks part x a
  seeks_there a (acts, inl need) = (actor_there x refl a acts, inl (need.0, sought_there x refl need.0 need.1))
  seeks_there a (acts, inr grants) = (actor_there x refl a acts, inr grants)

  -- ---- reach

  lead_there : (from : List ℕ) → Seeks part x (Named from) → (mid : List ℕ) (before : List (List ℕ)) → Leads part from before mid → (roles : List (List ℕ)) (to : List ℕ) → Leads f mid roles to → Reaches part (Named from) (Named to)
  lead_there from seeks mid before led [] to e = (before, subst (Leads part from before) e led)
  lead_there from seeks mid before led (role ∷ roles) to h = by (λ longer way. lead_there from seeks role longer way roles to h.1) h.0.0 h.0.1 h.0.2
    where
      by : ((longer : List (List ℕ)) → Leads part from longer role → Reaches part (Named from) (Named to)) → (y : Item) → Contains f y → GrantsRole role mid y → Reaches part (Named from) (Named to)
      by next (item.RoleAuth g) inside is =
          let in_part = there (item.RoleAuth g) (on.edges mid) inside (others_count (item.RoleAuth g) inside (λ none. none)) (of_edges (Named from) mid seeks (before, led) refl) is.1 in
          let longer = one_more part from before mid role led (item.RoleAuth g, in_part, is) in
          next longer.0 longer.1
      by next _ inside is = absurd is

  reach_there : (a : Auth) → Seeks part x a → (g : Auth) → Reaches f a g → Reaches part a g
  reach_there a seeks Public h = tt
  reach_there (Named from) seeks (Named to) h = lead_there from seeks from [] refl h.0 to h.1
  reach_there System seeks System h = tt
  reach_there System seeks (Named to) h = absurd h
  reach_there Public seeks (Named to) h = absurd h
  reach_there Public seeks System h = absurd h
  reach_there (Named from) seeks System h = absurd h

  -- ---- what concerns an item is there

  supply_there : (need : Need) (a g : Auth) → IsNeedOf f x need → IsActor f x a → Reaches f a g → (y : Item) → Contains f y → Counts y → IsSupply need g y → Contains part y
  supply_there need a g sought acts way y h counts is =
      let sought_here = sought_there x refl need sought in
      let acts_here = actor_there x refl a acts in
      there y (on.supply need g) h counts (of_supply need a g sought_here acts_here (reach_there a (acts_here, inl (need, sought_here)) g way) refl) is

  right_of_there : (need : Need) (a : Auth) → IsNeedOf f x need → IsActor f x a → (y : Item) → Contains f y → Counts y → IsRightOf f a need y → Contains part y
  right_of_there need a sought acts (item.Held r) h counts is = supply_there need a r.grantee sought acts is.1 (item.Held r) h counts (is.0, refl)
  right_of_there need a sought acts (item.Grantable r) h counts is = supply_there need a r.grantee sought acts is.1 (item.Grantable r) h counts (is.0, refl)
  right_of_there need a sought acts _ h counts is = absurd is

  role_for_there : (a : Auth) → Seeks f x a → (y : Item) → Contains f y → Counts y → IsRoleFor f a y → Contains part y
  role_for_there a seeks (item.RoleAuth g) h counts is =
      let here = seeks_there a seeks in
      there (item.RoleAuth g) (on.edges g.grantee) h counts (of_edges a g.grantee here (reach_there a here (Named g.grantee) is) refl) refl
  role_for_there a seeks _ h counts is = absurd is

  admin_topic : (z : Item) (a : Auth) (y : Item) → relevant.IsAdminForGrant f a z y → (role name : List ℕ) × IsGrantOf role z × IsRoleGrant z × IsUnder (on.admins role name) y × Reaches f a (Named name)
  admin_topic (item.RoleAuth g) a (item.RoleAdmin h) is = (g.role, h.grantee, refl, tt, (is.0, refl), is.1)
  admin_topic (item.RoleAdmin g) a (item.RoleAdmin h) is = (g.role, h.grantee, refl, tt, (is.0, refl), is.1)
  admin_topic (item.RoleAuth g) a _ is = absurd is
  admin_topic (item.RoleAdmin g) a _ is = absurd is
  admin_topic _ a y is = absurd is

  admin_there : (a : Auth) → IsActor f x a → (y : Item) → Contains f y → Counts y → relevant.IsAdminForGrant f a x y → Contains part y
  admin_there a acts y h counts is =
      let t = admin_topic x a y is in
      let here = actor_there x refl a acts in
      there y (on.admins t.0 t.1) h counts (of_admins a t.0 t.1 t.2 here (reach_there a (here, inr t.3) (Named t.1) t.5) refl) t.4

  other_there : (z : Item) → x ≡ z → (y : Item) → Contains f y → Counts y → IsOptionOn z y → Contains part y
  other_there (item.Grantable r) e y h counts is = there y (on.held r) h counts (by_option (subst (λ z. IsOptionTopic z (on.held r)) (sym e) refl)) is
  other_there (item.RoleAdmin g) e y h counts is = there y (on.role_auth g) h counts (by_option (subst (λ z. IsOptionTopic z (on.role_auth g)) (sym e) refl)) is
  other_there _ e y h counts is = absurd is

  pub gathered_all : (y : Item) → Contains f y → Counts y → Concerns f y x → Contains part y
  gathered_all y h counts (named is) = by_names y h counts is
  gathered_all y h counts (on_need need sought is) = let t = part_topic need y is in there y t.0 h counts (of_need need (sought_there x refl need sought) t.1) t.2
  gathered_all y h counts (right_of need a sought acts is) = right_of_there need a sought acts y h counts is
  gathered_all y h counts (role_for a seeks is) = role_for_there a seeks y h counts is
  gathered_all y h counts (admin_for a acts is) = admin_there a acts y h counts is
  gathered_all y h counts (without is) = other_there x refl y h counts is
