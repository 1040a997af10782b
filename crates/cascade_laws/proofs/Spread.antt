-- Where suspicion spreads over topics, it spreads over all that concerns an item.
use Rattle.std.proofs.Common.{◌≡◌, ◌⊎◌, inl, inr, Bool, true, false, List, [], ◌∷◌, Option, Some, None, ap, sym, refl, subst, ◌∙◌}
use Rattle.std.specs.Prelude.{ℕ}
use Rattle.std.specs.List.{Contains}
use Rattle.sql_names.specs.declared.object.Object.{Object}
use Rattle.sql_tree.specs.declared.rights.Action.{Action}
use Rattle.sql_tree.specs.declared.rights.Action.TheVariants as action
use Rattle.sql_tree.specs.declared.body.Security.{Security}
use Rattle.sql_tree.specs.declared.body.Security.TheVariants.{Definer, Invoker}
use Rattle.cat_items.specs.declared.need.Auth.{Auth}
use Rattle.cat_items.specs.declared.need.Auth.TheVariants.{System, Public, Named}
use Rattle.cat_items.specs.declared.need.Need.{Need}
use Rattle.cat_items.specs.declared.item.Schema.{Schema}
use Rattle.cat_items.specs.declared.item.Column.{Column}
use Rattle.cat_items.specs.declared.item.View.{View}
use Rattle.cat_items.specs.declared.item.Routine.{Routine}
use Rattle.cat_items.specs.declared.item.RoleGrant.{RoleGrant}
use Rattle.cat_items.specs.declared.item.Right.{Right}
use Rattle.cat_items.specs.declared.item.Item.{Item}
use Rattle.cat_items.specs.declared.item.Item.TheVariants as item
use Rattle.cat_items.specs.Reach.{Has, GrantsRole, Leads, Reaches}
use Rattle.cat_items.specs.Rights.{path_of, IsAuthorization, IsSchema, IsTable, IsObject}
use Rattle.cat_items.specs.SystemRights.{IsTableRow, IsSystemRow, IsSystemSchema, security_of}
use Rattle.cat_items.specs.Supported.{MayGrant, Supported}
use Rattle.cat_items.specs.Survivors.{MayBeViewRow, MayBeSystemRow, MayBeSystemSchema, MayBeSystemRight, IsSystemRight}
use Rattle.cat_items.specs.Fit.{IsRight}
use Rattle.cat_items.specs.Relevant.{Owns, OwnsPath, IsOwnedSchema, ActsInRight, IsActor, IsUsageOf, HasUsage, IsBaseNeed, IsNeedOnColumn, IsBaseColumnNeed, IsViewNeed, IsRoutineNeed, IsAuth, IsColumnAmong, IsColumnOfNeed, IsPartOfNeed, IsFirstSchema, IsOptionalDomain, RoleGrantNames, RightNames, Names, IsRightOf, IsRoleFor, IsAdminOf, IsOptionOn, IsNeedOf, IsObjectNeed, IsRightNeed}
use Rattle.cat_items.specs.Relevant as relevant
use Rattle.cascade_laws.specs.Concerns.{Concerns, IsRoleGrant, named, on_need, right_of, role_for, admin_for, without}
use Rattle.cascade_laws.specs.Topics.{Topic, IsUnder, IsSupply, IsObjectTopic, IsNeedTopic, IsAuthTopic, IsPartyTopic, IsRightTopic, IsColumnTopic, IsOptionalDomainTopic, IsRoleGrantTopic, IsNameTopic, IsOptionTopic, IsUpdateNeed, IsUpdateNeedOn, IsOwnRightNeed, IsOwnNeed, IsGrantOf, DependsOn, by_name, by_option, of_need, of_supply, of_edges, of_role, of_admins}
use Rattle.cascade_laws.specs.Topics as on

-- an item that stands, or a right that the system could grant
abbrev pub IsKnown : List Item → Item → Type 0
IsKnown c x = Contains c x ⊎ IsSystemRight c x

-- the name that a path begins with
abbrev pub IsFirst : List (List ℕ) → List ℕ → Type 0
IsFirst [] name = ⊥
IsFirst (first ∷ names) name = first ≡ name

-- the schema of an item
abbrev pub IsInSchema : Item → List ℕ → Type 0
IsInSchema (item.Table t) name = t.schema ≡ name
IsInSchema (item.View v) name = v.view.schema ≡ name
IsInSchema (item.Column c) name = c.table.schema ≡ name
IsInSchema (item.Domain d) name = d.domain.schema ≡ name
IsInSchema (item.DomainCheck d) name = d.name.schema ≡ name
IsInSchema (item.Key k) name = k.name.schema ≡ name
IsInSchema (item.Foreign f) name = f.name.schema ≡ name
IsInSchema (item.Check c) name = c.name.schema ≡ name
IsInSchema (item.Assertion a) name = a.name.schema ≡ name
IsInSchema (item.Routine r) name = r.routine.schema ≡ name
IsInSchema (item.Held r) name = IsFirst r.need.on name
IsInSchema (item.Grantable r) name = IsFirst r.need.on name
IsInSchema x name = ⊥

pub first_schema : (path : List (List ℕ)) (name : List ℕ) (y : Item) → IsFirst path name → IsSchema name y → IsFirstSchema path y
first_schema (first ∷ names) name y e is = subst (λ n. IsSchema n y) (sym e) is
first_schema [] name y e is = absurd e

pub first_name : (path : List (List ℕ)) (y : Item) → IsFirstSchema path y → (name : List ℕ) × IsFirst path name × IsSchema name y
first_name (first ∷ names) y is = (first, refl, is)
first_name [] y is = absurd is

-- the topic of the object of a need
pub object_topic : (by : Action) (path : List (List ℕ)) (o : Item) → IsObject by path o → (t : Topic) × IsObjectTopic by path t × IsUnder t o
object_topic action.Usage path o is = (on.domain path, refl, is)
object_topic action.Execute path o is = (on.routine path, refl, is)
object_topic action.Admin path o is = absurd is
object_topic _ path o is = (on.table path, refl, is)

pub part_topic : (need : Need) (y : Item) → IsPartOfNeed need y → (t : Topic) × IsNeedTopic need t × IsUnder t y
part_topic need y (inl is) = let o = object_topic need.action need.on y is in (o.0, inl o.1, o.2)
part_topic need (item.Column c) (inr is) = (on.column need.on c.name, inr (c.name, is.1, refl), (is.0, refl))
part_topic need _ (inr is) = absurd is

pub among_topic : (table : Object) (names : List (List ℕ)) (y : Item) → IsColumnAmong table names y → (t : Topic) × IsColumnTopic table names t × IsUnder t y
among_topic table names (item.Column c) is = (on.column (path_of table) c.name, (c.name, is.1, refl), (ap path_of (sym is.0), refl))
among_topic table names _ is = absurd is

pub optional_domain_topic : (d : Option Object) (y : Item) → IsOptionalDomain d y → (t : Topic) × IsOptionalDomainTopic d t × IsUnder t y
optional_domain_topic None y is = absurd is
optional_domain_topic (Some o) y is = (on.domain (path_of o), refl, is)

pub auth_topic : (a : Auth) (y : Item) → IsAuth a y → (t : Topic) × IsAuthTopic a t × IsUnder t y
auth_topic (Named name) y is = (on.authorization name, refl, is)
auth_topic System y is = absurd is
auth_topic Public y is = absurd is

pub role_grant_topic : (g : RoleGrant) (y : Item) → RoleGrantNames g y → (t : Topic) × IsRoleGrantTopic g t × IsUnder t y
role_grant_topic g y (inl is) = (on.role_named g.role, inl refl, is)
role_grant_topic g y (inr (inl is)) = (on.authorization g.grantee, inr (inl refl), is)
role_grant_topic g y (inr (inr is)) = let t = auth_topic g.grantor y is in (t.0, inr (inr t.1), t.2)

-- an object on which the system has a row is the object of this action
table_is_object : (by : Action) (column : Option (List ℕ)) (path : List (List ℕ)) (o : Object) → path ≡ path_of o → IsTableRow by column → IsObject by path (item.Table o)
table_is_object action.Select column path o e row = e
table_is_object action.Insert column path o e row = e
table_is_object action.Update column path o e row = e
table_is_object action.References column path o e row = e
table_is_object action.Delete column path o e row = e
table_is_object action.Usage column path o e row = absurd row
table_is_object action.Execute column path o e row = absurd row
table_is_object action.Admin column path o e row = absurd row

view_is_object : (by : Action) (column : Option (List ℕ)) (path : List (List ℕ)) (v : View) → path ≡ path_of v.view → MayBeViewRow by column v.base → IsObject by path (item.View v)
view_is_object action.Select column path v e row = e
view_is_object action.Insert column path v e row = e
view_is_object action.Update column path v e row = e
view_is_object action.Delete column path v e row = e
view_is_object action.References column path v e row = absurd row
view_is_object action.Usage column path v e row = absurd row
view_is_object action.Execute column path v e row = absurd row
view_is_object action.Admin column path v e row = absurd row

pub row_object : (schema : List ℕ) (need : Need) (o : Item) → MayBeSystemRow schema need o → IsObject need.action need.on o × IsFirst need.on schema
row_object schema need (item.Table o) is = (table_is_object need.action need.column need.on o is.1 is.2, subst (λ path. IsFirst path schema) (sym is.1) is.0)
row_object schema need (item.View v) is = (view_is_object need.action need.column need.on v is.1 is.2, subst (λ path. IsFirst path schema) (sym is.1) is.0)
row_object schema need (item.Domain d) is = (subst (λ (n : Need). IsObject n.action n.on (item.Domain d)) (sym is.1) refl, subst (λ (n : Need). IsFirst n.on schema) (sym is.1) is.0)
row_object schema need (item.Routine r) is = (subst (λ (n : Need). IsObject n.action n.on (item.Routine r)) (sym is.1) refl, subst (λ (n : Need). IsFirst n.on schema) (sym is.1) is.0)
row_object schema need _ is = absurd is

row_first : (grantable : Bool) (s : List Item) (schema : List ℕ) (owner : Auth) (need : Need) (o : Item) → IsSystemRow grantable s schema owner need o → IsFirst need.on schema
row_first grantable s schema owner need (item.Table o) is = subst (λ path. IsFirst path schema) (sym is.1) is.0
row_first grantable s schema owner need (item.View v) is = subst (λ path. IsFirst path schema) (sym is.1) is.0
row_first grantable s schema owner need (item.Domain d) is = subst (λ (n : Need). IsFirst n.on schema) (sym is.1) is.0
row_first grantable s schema owner need (item.Routine r) is = subst (λ (n : Need). IsFirst n.on schema) (sym is.1) is.0
row_first grantable s schema owner need _ is = absurd is

-- a plain view's need by its action
update_need : (c : List Item) (v : View) (by : Action) (column : Option (List ℕ)) (need : Need) → IsViewNeed c v by column need → Contains v.needs need ⊎ IsUpdateNeed c v by column need
update_need c v action.Select column need is = inl is
update_need c v action.Insert None need is = inr is
update_need c v action.Update None need is = inr is
update_need c v action.Delete None need is = inr is
update_need c v action.Insert (Some name) need is = inr is
update_need c v action.Update (Some name) need is = inr is
update_need c v action.Delete (Some name) need is = absurd is
update_need c v action.References column need is = absurd is
update_need c v action.Usage column need is = absurd is
update_need c v action.Execute column need is = absurd is
update_need c v action.Admin column need is = absurd is

pub view_need_object : (c : List Item) (v : View) (by : Action) (column : Option (List ℕ)) (need : Need) (path : List (List ℕ)) → path ≡ path_of v.view → IsViewNeed c v by column need → IsObject by path (item.View v)
view_need_object c v action.Select column need path e is = e
view_need_object c v action.Insert column need path e is = e
view_need_object c v action.Update column need path e is = e
view_need_object c v action.Delete (Some name) need path e is = absurd is
view_need_object c v action.Delete None need path e is = e
view_need_object c v action.References column need path e is = absurd is
view_need_object c v action.Usage column need path e is = absurd is
view_need_object c v action.Execute column need path e is = absurd is
view_need_object c v action.Admin column need path e is = absurd is

routine_need : (z : Routine) (by : Security) (need : Need) → IsRoutineNeed z by need → Contains z.needs need
routine_need z Definer need is = is
routine_need z Invoker need is = absurd is

-- one more role at the end of a way
pub one_more : (u : List Item) (from : List ℕ) (before : List (List ℕ)) (mid role : List ℕ) → Leads u from before mid → Has u (GrantsRole role mid) → (roles : List (List ℕ)) × Leads u from roles role
one_more u from [] mid role led edge = (role ∷ [], (subst (λ n. Has u (GrantsRole role n)) (sym led) edge, refl))
one_more u from (first ∷ before) mid role led edge =
    let rest = one_more u first before mid role led.1 edge in
    (first ∷ rest.0, (led.0, rest.1))

-- c holds what it supports, `all` has its tables' columns; u has all items that are spoken of; suspicion spreads over topics
module _ (c all u : List Item) (S : Item → Type 0) (supported : (x : Item) → Contains c x → Supported all c x)
    (known : (z : Item) → Contains u z → (¬ (IsRight z)) → Contains c z ⊎ S z)
    (close : (y x : Item) (t : Topic) → S y → IsKnown c x → IsUnder t y → DependsOn c x t → S x) where
  touch_all : (x : Item) → IsKnown c x → (y : Item) → S y → ((t : Topic) × IsNameTopic x t × IsUnder t y) → S x
  touch_all x gx y sy h = close y x h.0 sy gx h.2 (by_name h.1)

  -- ---- schemas

  object_by_schema : (by : Action) (path : List (List ℕ)) (name : List ℕ) → IsFirst path name → (o : Item) → Contains c o → IsObject by path o → (z : Item) → IsSchema name z → S z → S o
  object_by_schema by path name first o inside is z is_schema sz = by_kind by is
    where
      at_table : (o : Item) → Contains c o → IsTable path o → S o
      at_table (item.Table t) inside e = close z (item.Table t) (on.schema t.schema) sz (inl inside) (first_schema (path_of t) name z (subst (λ p. IsFirst p name) e first) is_schema) (by_name (inl refl))
      at_table (item.View v) inside e = close z (item.View v) (on.schema v.view.schema) sz (inl inside) (first_schema (path_of v.view) name z (subst (λ p. IsFirst p name) e first) is_schema) (by_name refl)
      at_table _ inside e = absurd e

      at_domain : (o : Item) → Contains c o → relevant.IsOptionalDomain None o ⊎ IsObject action.Usage path o → S o
      at_domain (item.Domain d) inside (inr e) = close z (item.Domain d) (on.schema d.domain.schema) sz (inl inside) (first_schema (path_of d.domain) name z (subst (λ p. IsFirst p name) e first) is_schema) (by_name refl)
      at_domain _ inside (inr e) = absurd e
      at_domain o inside (inl e) = absurd e

      at_routine : (o : Item) → Contains c o → IsObject action.Execute path o → S o
      at_routine (item.Routine r) inside e = close z (item.Routine r) (on.schema r.routine.schema) sz (inl inside) (first_schema (path_of r.routine) name z (subst (λ p. IsFirst p name) e first) is_schema) (by_name refl)
      at_routine _ inside e = absurd e

      by_kind : (by : Action) → IsObject by path o → S o
      by_kind action.Usage e = at_domain o inside (inr e)
      by_kind action.Execute e = at_routine o inside e
      by_kind action.Admin e = absurd e
      by_kind _ e = at_table o inside e

  -- ---- rights

  -- the object of a right, and for one by the system the schema whose owner has it
  abbrev OfSystem : Right → Auth → Type 0
  OfSystem r System = (z : Schema) × Contains c (item.Schema z) × (r.grantee ≡ Named z.owner) × IsFirst r.need.on z.name
  OfSystem r a = Unit {0}

  abbrev HasPlace : Right → Type 0
  HasPlace r = Has c (IsObject r.need.action r.need.on) × OfSystem r r.grantor

  of_grant : (grantable : Bool) (r : Right) (a : Auth) → MayGrant grantable c r a → OfSystem r a
  of_grant grantable r System h = by h.0 h.1 h.2
    where
      by : (y : Item) → Contains c y → IsSystemSchema grantable c r y → OfSystem r System
      by (item.Schema z) inside is = (z, inside, is.0, row_first grantable c z.name (Named z.owner) r.need is.1.0 is.1.2)
      by _ inside is = absurd is
  of_grant grantable r Public h = absurd h
  of_grant grantable r (Named name) h = tt

  place_of_possible : (r : Right) → MayBeSystemRight c r → HasPlace r
  place_of_possible r is = by is.2.0 is.2.1 is.2.2
    where
      by : (y : Item) → Contains c y → MayBeSystemSchema c r y → HasPlace r
      by (item.Schema z) inside h =
          let row = row_object z.name r.need h.1.0 h.1.2 in
          ((h.1.0, h.1.1, row.0), subst (OfSystem r) (sym is.0) (z, inside, h.0, row.1))
      by _ inside h = absurd h

  place_of_held : (r : Right) → IsKnown c (item.Held r) → HasPlace r
  place_of_held r (inl inside) = let s = supported (item.Held r) inside in (s.1.0, of_grant false r r.grantor s.3)
  place_of_held r (inr is) = place_of_possible r is

  place_of_grantable : (r : Right) → IsKnown c (item.Grantable r) → HasPlace r
  place_of_grantable r (inl inside) = let s = supported (item.Grantable r) inside in (s.0.1.0, of_grant true r r.grantor s.0.3)
  place_of_grantable r (inr is) = place_of_possible r is

  module _ (x : Item) (r : Right) (gx : IsKnown c x) (place : HasPlace r) (topics : (t : Topic) → IsRightTopic r t → IsNameTopic x t) where
    right_by_object : (o : Item) → IsObject r.need.action r.need.on o → S o → S x
    right_by_object o is so =
        let t = object_topic r.need.action r.need.on o is in
        touch_all x gx o so (t.0, topics t.0 (inl (inl t.1)), t.2)

    right_by_part : (y : Item) → IsPartOfNeed r.need y → S y → S x
    right_by_part y is sy =
        let t = part_topic r.need y is in
        touch_all x gx y sy (t.0, topics t.0 (inl t.1), t.2)

    right_by_schema : (z : Item) (name : List ℕ) → IsFirst r.need.on name → IsSchema name z → S z → S x
    right_by_schema z name first is sz = right_by_object place.0.0 place.0.2 (object_by_schema r.need.action r.need.on name first place.0.0 place.0.1 place.0.2 z is sz)

    -- the grantee of a right by the system owns the schema
    right_by_party : (a : Auth) → OfSystem r a → r.grantor ≡ a → (y : Item) → IsAuth r.grantee y ⊎ IsAuth r.grantor y → S y → S x
    right_by_party System of e y (inl is) sy =
        let owner : IsAuthorization of.0.owner y = subst (λ g. IsAuth g y) of.2 is in
        right_by_schema (item.Schema of.0) of.0.name of.3 refl (close y (item.Schema of.0) (on.authorization of.0.owner) sy (inl of.1) owner (by_name refl))
    right_by_party System of e y (inr is) sy = absurd (subst (λ g. IsAuth g y) e is)
    right_by_party Public of e y (inl is) sy =
        let t = auth_topic r.grantee y is in
        touch_all x gx y sy (t.0, topics t.0 (inr (subst (λ g. IsPartyTopic g r.grantee t.0) (sym e) (inr t.1))), t.2)
    right_by_party Public of e y (inr is) sy = absurd (subst (λ g. IsAuth g y) e is)
    right_by_party (Named name) of e y (inl is) sy =
        let t = auth_topic r.grantee y is in
        touch_all x gx y sy (t.0, topics t.0 (inr (subst (λ g. IsPartyTopic g r.grantee t.0) (sym e) (inr t.1))), t.2)
    right_by_party (Named name) of e y (inr is) sy =
        let t = auth_topic (Named name) y (subst (λ g. IsAuth g y) e is) in
        touch_all x gx y sy (t.0, topics t.0 (inr (subst (λ g. IsPartyTopic g r.grantee t.0) (sym e) (inl t.1))), t.2)

    right_by_name : (y : Item) → RightNames r y → S y → S x
    right_by_name y (inl is) sy = right_by_part y is sy
    right_by_name y (inr (inl is)) sy = let name = first_name r.need.on y is in right_by_schema y name.0 name.1 name.2 sy
    right_by_name y (inr (inr (inl is))) sy = right_by_party r.grantor place.1 refl y (inl is) sy
    right_by_name y (inr (inr (inr is))) sy = right_by_party r.grantor place.1 refl y (inr is) sy

  -- ---- names

  column_by_schema : (k : Column) → Contains c (item.Column k) → (z : Item) → IsSchema k.table.schema z → S z → S (item.Column k)
  column_by_schema k inside z is sz =
      let o = (supported (item.Column k) inside).1 in
      close o.0 (item.Column k) (on.table (path_of k.table))
      (object_by_schema action.Select (path_of k.table) k.table.schema refl o.0 o.1 o.2 z is sz) (inl inside) o.2 (by_name (inl refl))

  by_names : (x : Item) → IsKnown c x → (y : Item) → Names x y → S y → S x
  by_names (item.Schema z) gx y is sy = touch_all (item.Schema z) gx y sy (on.authorization z.owner, refl, is)
  by_names (item.Table o) gx y (inl is) sy = touch_all (item.Table o) gx y sy (on.schema o.schema, inl refl, is)
  by_names (item.Table o) gx y (inr is) sy = touch_all (item.Table o) gx y sy (on.columns o, inr refl, is)
  by_names (item.View v) gx y is sy = touch_all (item.View v) gx y sy (on.schema v.view.schema, refl, is)
  by_names (item.Column k) (inl inside) y (inl is) sy = column_by_schema k inside y is sy
  by_names (item.Column k) (inr possible) y (inl is) sy = absurd possible
  by_names (item.Column k) gx y (inr (inl is)) sy = touch_all (item.Column k) gx y sy (on.table (path_of k.table), inl refl, is)
  by_names (item.Column k) gx y (inr (inr is)) sy = let t = optional_domain_topic k.domain y is in touch_all (item.Column k) gx y sy (t.0, inr t.1, t.2)
  by_names (item.Domain d) gx y is sy = touch_all (item.Domain d) gx y sy (on.schema d.domain.schema, refl, is)
  by_names (item.DomainCheck d) gx y (inl is) sy = touch_all (item.DomainCheck d) gx y sy (on.schema d.name.schema, inl refl, is)
  by_names (item.DomainCheck d) gx y (inr is) sy = touch_all (item.DomainCheck d) gx y sy (on.domain (path_of d.domain), inr refl, is)
  by_names (item.Key k) gx y (inl is) sy = touch_all (item.Key k) gx y sy (on.schema k.name.schema, inl refl, is)
  by_names (item.Key k) gx y (inr (inl is)) sy = touch_all (item.Key k) gx y sy (on.base_table k.table, inr (inl refl), is)
  by_names (item.Key k) gx y (inr (inr is)) sy = let t = among_topic k.table k.columns y is in touch_all (item.Key k) gx y sy (t.0, inr (inr t.1), t.2)
  by_names (item.Foreign f) gx y (inl is) sy = touch_all (item.Foreign f) gx y sy (on.schema f.name.schema, inl refl, is)
  by_names (item.Foreign f) gx y (inr (inl is)) sy = touch_all (item.Foreign f) gx y sy (on.base_table f.table, inr (inl refl), is)
  by_names (item.Foreign f) gx y (inr (inr (inl is))) sy = let t = among_topic f.table f.columns y is in touch_all (item.Foreign f) gx y sy (t.0, inr (inr (inl t.1)), t.2)
  by_names (item.Foreign f) gx y (inr (inr (inr (inl is)))) sy = touch_all (item.Foreign f) gx y sy (on.base_table f.target, inr (inr (inr (inl refl))), is)
  by_names (item.Foreign f) gx y (inr (inr (inr (inr (inl is))))) sy = let t = among_topic f.target f.target_columns y is in touch_all (item.Foreign f) gx y sy (t.0, inr (inr (inr (inr (inl t.1)))), t.2)
  by_names (item.Foreign f) gx y (inr (inr (inr (inr (inr is))))) sy = touch_all (item.Foreign f) gx y sy (on.key f.key, inr (inr (inr (inr (inr refl)))), is)
  by_names (item.Check k) gx y (inl is) sy = touch_all (item.Check k) gx y sy (on.schema k.name.schema, inl refl, is)
  by_names (item.Check k) gx y (inr (inl is)) sy = touch_all (item.Check k) gx y sy (on.base_table k.table, inr (inl refl), is)
  by_names (item.Check k) gx y (inr (inr is)) sy = let t = among_topic k.table k.columns y is in touch_all (item.Check k) gx y sy (t.0, inr (inr t.1), t.2)
  by_names (item.Assertion a) gx y is sy = touch_all (item.Assertion a) gx y sy (on.schema a.name.schema, refl, is)
  by_names (item.Routine r) gx y is sy = touch_all (item.Routine r) gx y sy (on.schema r.routine.schema, refl, is)
  by_names (item.RoleAuth g) gx y is sy = let t = role_grant_topic g y is in touch_all (item.RoleAuth g) gx y sy (t.0, t.1, t.2)
  by_names (item.RoleAdmin g) gx y is sy = let t = role_grant_topic g y is in touch_all (item.RoleAdmin g) gx y sy (t.0, t.1, t.2)
  by_names (item.Held r) gx y is sy = right_by_name (item.Held r) r gx (place_of_held r gx) (λ t h. h) y is sy
  by_names (item.Grantable r) gx y is sy = right_by_name (item.Grantable r) r gx (place_of_grantable r gx) (λ t h. h) y is sy
  by_names _ gx y is sy = absurd is

  -- the schema of an item concerns it
  pub by_schema : (x : Item) → IsKnown c x → (name : List ℕ) → IsInSchema x name → (z : Item) → IsSchema name z → S z → S x
  by_schema (item.Table t) gx name e z is sz = by_names (item.Table t) gx z (inl (subst (λ n. IsSchema n z) (sym e) is)) sz
  by_schema (item.View v) gx name e z is sz = by_names (item.View v) gx z (subst (λ n. IsSchema n z) (sym e) is) sz
  by_schema (item.Column k) gx name e z is sz = by_names (item.Column k) gx z (inl (subst (λ n. IsSchema n z) (sym e) is)) sz
  by_schema (item.Domain d) gx name e z is sz = by_names (item.Domain d) gx z (subst (λ n. IsSchema n z) (sym e) is) sz
  by_schema (item.DomainCheck d) gx name e z is sz = by_names (item.DomainCheck d) gx z (inl (subst (λ n. IsSchema n z) (sym e) is)) sz
  by_schema (item.Key k) gx name e z is sz = by_names (item.Key k) gx z (inl (subst (λ n. IsSchema n z) (sym e) is)) sz
  by_schema (item.Foreign f) gx name e z is sz = by_names (item.Foreign f) gx z (inl (subst (λ n. IsSchema n z) (sym e) is)) sz
  by_schema (item.Check k) gx name e z is sz = by_names (item.Check k) gx z (inl (subst (λ n. IsSchema n z) (sym e) is)) sz
  by_schema (item.Assertion a) gx name e z is sz = by_names (item.Assertion a) gx z (subst (λ n. IsSchema n z) (sym e) is) sz
  by_schema (item.Routine r) gx name e z is sz = by_names (item.Routine r) gx z (subst (λ n. IsSchema n z) (sym e) is) sz
  by_schema (item.Held r) gx name e z is sz = by_names (item.Held r) gx z (inr (inl (first_schema r.need.on name z e is))) sz
  by_schema (item.Grantable r) gx name e z is sz = by_names (item.Grantable r) gx z (inr (inl (first_schema r.need.on name z e is))) sz
  by_schema _ gx name e z is sz = absurd e

  -- ---- actors

  owns_settled : (x : Item) → IsKnown c x → (name : List ℕ) → IsInSchema x name → (a : Auth) → Owns u name a → Owns c name a ⊎ S x
  owns_settled x gx name e a h = by h.0 h.1 h.2
    where
      by : (z : Item) → Contains u z → IsOwnedSchema name a z → Owns c name a ⊎ S x
      by (item.Schema z) inside is =
          elim (known (item.Schema z) inside (λ no. no)) [
            | inl old ↦ inl (item.Schema z, old, is)
            | inr sz ↦ inr (by_schema x gx name e (item.Schema z) is.0 sz)
          ]
      by _ inside is = absurd is

  owns_path_settled : (x : Item) → IsKnown c x → (path : List (List ℕ)) → ((name : List ℕ) → IsFirst path name → IsInSchema x name) → (a : Auth) → OwnsPath u path a → OwnsPath c path a ⊎ S x
  owns_path_settled x gx [] e a h = absurd h
  owns_path_settled x gx (name ∷ names) e a h = owns_settled x gx name (e name refl) a h

  in_right_settled : (x : Item) → IsKnown c x → (r : Right) → ((name : List ℕ) → IsFirst r.need.on name → IsInSchema x name) → (by a : Auth) → ActsInRight u r by a → ActsInRight c r by a ⊎ S x
  in_right_settled x gx r e System a h = owns_path_settled x gx r.need.on e a h
  in_right_settled x gx r e Public a h = inl h
  in_right_settled x gx r e (Named name) a h = inl h

  actor_settled : (x : Item) → IsKnown c x → (a : Auth) → IsActor u x a → IsActor c x a ⊎ S x
  actor_settled (item.Table t) gx a h = owns_settled (item.Table t) gx t.schema refl a h
  actor_settled (item.View v) gx a h = owns_settled (item.View v) gx v.view.schema refl a h
  actor_settled (item.Column k) gx a h = owns_settled (item.Column k) gx k.table.schema refl a h
  actor_settled (item.Domain d) gx a h = owns_settled (item.Domain d) gx d.domain.schema refl a h
  actor_settled (item.DomainCheck d) gx a h = owns_settled (item.DomainCheck d) gx d.name.schema refl a h
  actor_settled (item.Key k) gx a h = owns_settled (item.Key k) gx k.name.schema refl a h
  actor_settled (item.Foreign f) gx a h = owns_settled (item.Foreign f) gx f.name.schema refl a h
  actor_settled (item.Check k) gx a h = owns_settled (item.Check k) gx k.name.schema refl a h
  actor_settled (item.Assertion z) gx a h = owns_settled (item.Assertion z) gx z.name.schema refl a h
  actor_settled (item.Routine r) gx a h = owns_settled (item.Routine r) gx r.routine.schema refl a h
  actor_settled (item.RoleAuth g) gx a h = inl h
  actor_settled (item.RoleAdmin g) gx a h = inl h
  actor_settled (item.Held r) gx a h = in_right_settled (item.Held r) gx r (λ name e. e) r.grantor a h
  actor_settled (item.Grantable r) gx a h = in_right_settled (item.Grantable r) gx r (λ name e. e) r.grantor a h
  actor_settled _ gx a h = absurd h

  -- ---- reach

  lead_settled : (x : Item) → IsKnown c x → (from : List ℕ) → ((name : List ℕ) → Reaches c (Named from) (Named name) → DependsOn c x (on.edges name))
      → (mid : List ℕ) (before : List (List ℕ)) → Leads c from before mid → (roles : List (List ℕ)) (to : List ℕ) → Leads u mid roles to → Reaches c (Named from) (Named to) ⊎ S x
  lead_settled x gx from walk mid before led [] to e = inl (before, subst (Leads c from before) e led)
  lead_settled x gx from walk mid before led (role ∷ roles) to h = by (λ longer way. lead_settled x gx from walk role longer way roles to h.1) h.0.0 h.0.1 h.0.2
    where
      by : ((longer : List (List ℕ)) → Leads c from longer role → Reaches c (Named from) (Named to) ⊎ S x) → (y : Item) → Contains u y → GrantsRole role mid y → Reaches c (Named from) (Named to) ⊎ S x
      by next (item.RoleAuth g) inside is =
          elim (known (item.RoleAuth g) inside (λ no. no)) [
            | inl old ↦ (let longer = one_more c from before mid role led (item.RoleAuth g, old, is) in next longer.0 longer.1)
            | inr sy ↦ inr (close (item.RoleAuth g) x (on.edges mid) sy gx is.1 (walk mid (before, led)))
          ]
      by next _ inside is = absurd is

  reach_settled : (x : Item) → IsKnown c x → (a : Auth) → ((name : List ℕ) → Reaches c a (Named name) → DependsOn c x (on.edges name)) → (g : Auth) → Reaches u a g → Reaches c a g ⊎ S x
  reach_settled x gx a walk Public h = inl tt
  reach_settled x gx (Named from) walk (Named to) h = lead_settled x gx from walk from [] refl h.0 to h.1
  reach_settled x gx System walk System h = inl tt
  reach_settled x gx System walk (Named to) h = absurd h
  reach_settled x gx Public walk (Named to) h = absurd h
  reach_settled x gx Public walk System h = absurd h
  reach_settled x gx (Named from) walk System h = absurd h

  -- ---- needs

  -- the need is the item's own, or that of an item which stands and concerns it, for the same actor
  abbrev Carries : Item → Need → Item → Type 0
  Carries x need z = Contains c z × IsOwnNeed c z need × ((a : Auth) → IsActor c x a → IsActor c z a) × (S z → S x)

  abbrev IsSettled : Item → Need → Type 0
  IsSettled x need = IsOwnNeed c x need ⊎ (((z : Item) × Carries x need z) ⊎ S x)

  table_settled : (t : Object) → IsKnown c (item.Table t) → (need : Need) → (y : Item) → Contains u y → HasUsage t need y → IsSettled (item.Table t) need
  table_settled t gx need (item.Column k) inside is =
      elim (known (item.Column k) inside (λ no. no)) [
        | inl old ↦ inr (inl (item.Column k, (old, is.1, (λ a h. subst (λ (o : Object). Owns c o.schema a) (sym is.0) h), (λ sz. by_names (item.Table t) gx (item.Column k) (inr is.0) sz))))
        | inr sy ↦ inr (inr (by_names (item.Table t) gx (item.Column k) (inr is.0) sy))
      ]
  table_settled t gx need _ inside is = absurd is

  module _ (x : Item) (r : Right) (gx : IsKnown c x) (place : HasPlace r) (topics : (t : Topic) → IsRightTopic r t → IsNameTopic x t)
      (own : (need : Need) → IsOwnRightNeed c r r.grantor need → IsOwnNeed c x need) (actor : (a : Auth) → IsActor c x a → ActsInRight c r r.grantor a) where
    column_settled : (v : View) (by : Action) (name : List ℕ) → r.need.on ≡ path_of v.view → r.need.column ≡ Some name → (need : Need) → Has u (IsBaseColumnNeed v by name need) → Has c (IsBaseColumnNeed v by name need) ⊎ S x
    column_settled v by name path column need h = at h.0 h.1 h.2
      where
        at : (y : Item) → Contains u y → IsBaseColumnNeed v by name need y → Has c (IsBaseColumnNeed v by name need) ⊎ S x
        at (item.Column k) inside is =
            elim (known (item.Column k) inside (λ no. no)) [
              | inl old ↦ inl (item.Column k, old, is)
              | inr sy ↦ inr (right_by_part x r gx place topics (item.Column k) (inr (path ∙ ap path_of (sym is.0), column ∙ ap Some (sym is.1))) sy)
            ]
        at _ inside is = absurd is

    view_need_settled : (v : View) → r.need.on ≡ path_of v.view → (by : Action) (column : Option (List ℕ)) → r.need.column ≡ column → (need : Need) → IsViewNeed u v by column need → IsViewNeed c v by column need ⊎ S x
    view_need_settled v path action.Select column e need is = inl is
    view_need_settled v path action.Insert None e need is = inl is
    view_need_settled v path action.Update None e need is = inl is
    view_need_settled v path action.Delete None e need is = inl is
    view_need_settled v path action.Insert (Some name) e need is = column_settled v action.Insert name path e need is
    view_need_settled v path action.Update (Some name) e need is = column_settled v action.Update name path e need is
    view_need_settled v path action.Delete (Some name) e need is = absurd is
    view_need_settled v path action.References column e need is = absurd is
    view_need_settled v path action.Usage column e need is = absurd is
    view_need_settled v path action.Execute column e need is = absurd is
    view_need_settled v path action.Admin column e need is = absurd is

    module _ (by_system : r.grantor ≡ System) where
      owner_of_path : (o : Object) → r.need.on ≡ path_of o → (a : Auth) → IsActor c x a → Owns c o.schema a
      owner_of_path o path a acts =
          let h : OwnsPath c r.need.on a = subst (λ g. ActsInRight c r g a) by_system (actor a acts) in
          subst (λ p. OwnsPath c p a) path h

      sought_settled : (need : Need) (y : Item) → Contains u y → IsObjectNeed u r need y → IsSettled x need
      sought_settled need (item.View v) inside is =
          let touched : S (item.View v) → S x = λ sz. right_by_object x r gx place topics (item.View v) (view_need_object u v r.need.action r.need.column need r.need.on is.0 is.1) sz in
          elim (known (item.View v) inside (λ no. no)) [
            | inr sy ↦ inr (inr (touched sy))
            | inl old ↦ (elim (view_need_settled v is.0 r.need.action r.need.column refl need is.1) [
              | inr sx ↦ inr (inr sx)
              | inl now ↦ (elim (update_need c v r.need.action r.need.column need now) [
                | inl listed ↦ inr (inl (item.View v, (old, listed, owner_of_path v.view is.0, touched)))
                | inr updates ↦ inl (own need (subst (λ g. IsOwnRightNeed c r g need) (sym by_system) (item.View v, old, (is.0, updates))))
              ])
            ])
          ]
      sought_settled need (item.Routine z) inside is =
          let touched : S (item.Routine z) → S x = λ sz. right_by_object x r gx place topics (item.Routine z) (subst (λ (n : Need). IsObject n.action n.on (item.Routine z)) (sym is.0) refl) sz in
          elim (known (item.Routine z) inside (λ no. no)) [
            | inr sy ↦ inr (inr (touched sy))
            | inl old ↦ inr (inl (item.Routine z, (old, routine_need z (security_of z.body) need is.1, owner_of_path z.routine (ap (λ (n : Need). n.on) is.0), touched)))
          ]
      sought_settled need _ inside is = absurd is

    right_settled : (need : Need) (g : Auth) → r.grantor ≡ g → IsRightNeed u r g need → IsSettled x need
    right_settled need System e h = sought_settled e need h.0 h.1 h.2
    right_settled need Public e h = inl (own need (subst (λ g. IsOwnRightNeed c r g need) (sym e) h))
    right_settled need (Named name) e h = inl (own need (subst (λ g. IsOwnRightNeed c r g need) (sym e) h))

  need_settled : (x : Item) → IsKnown c x → (need : Need) → IsNeedOf u x need → IsSettled x need
  need_settled (item.Table t) gx need h = table_settled t gx need h.0 h.1 h.2
  need_settled (item.View v) gx need h = inl h
  need_settled (item.Column k) gx need h = inl h
  need_settled (item.DomainCheck d) gx need h = inl h
  need_settled (item.Foreign f) gx need h = inl h
  need_settled (item.Check k) gx need h = inl h
  need_settled (item.Assertion a) gx need h = inl h
  need_settled (item.Routine r) gx need h = inl h
  need_settled (item.Held r) gx need h = right_settled (item.Held r) r gx (place_of_held r gx) (λ t i. i) (λ n i. i) (λ a i. i) need r.grantor refl h
  need_settled (item.Grantable r) gx need h = right_settled (item.Grantable r) r gx (place_of_grantable r gx) (λ t i. i) (λ n i. i) (λ a i. i) need r.grantor refl h
  need_settled _ gx need h = absurd h

  -- ---- what concerns an item

  own_part : (x : Item) → IsKnown c x → (need : Need) → IsOwnNeed c x need → (y : Item) → IsPartOfNeed need y → S y → S x
  own_part x gx need own y is sy = let t = part_topic need y is in close y x t.0 sy gx t.2 (of_need need own t.1)

  own_edge : (x : Item) → IsKnown c x → (need : Need) → IsOwnNeed c x need → (a : Auth) → IsActor c x a → (y : Item) → IsRoleFor u a y → S y → S x
  own_edge x gx need own a acts (item.RoleAuth g) is sy =
      elim (reach_settled x gx a (λ name way. of_edges need a name own acts way refl) (Named g.grantee) is) [
        | inl way ↦ close (item.RoleAuth g) x (on.edges g.grantee) sy gx refl (of_edges need a g.grantee own acts way refl)
        | inr sx ↦ sx
      ]
  own_edge x gx need own a acts _ is sy = absurd is

  grant_edge : (x : Item) → IsKnown c x → IsRoleGrant x → (a : Auth) → IsActor c x a → (y : Item) → IsRoleFor u a y → S y → S x
  grant_edge x gx grants a acts (item.RoleAuth g) is sy =
      elim (reach_settled x gx a (λ name way. of_role a name grants acts way refl) (Named g.grantee) is) [
        | inl way ↦ close (item.RoleAuth g) x (on.edges g.grantee) sy gx refl (of_role a g.grantee grants acts way refl)
        | inr sx ↦ sx
      ]
  grant_edge x gx grants a acts _ is sy = absurd is

  own_supply : (x : Item) → IsKnown c x → (need : Need) → IsOwnNeed c x need → (a : Auth) → IsActor c x a → (g : Auth) → Reaches u a g → (y : Item) → IsSupply need g y → S y → S x
  own_supply x gx need own a acts g reached y is sy =
      elim (reach_settled x gx a (λ name way. of_edges need a name own acts way refl) g reached) [
        | inl way ↦ close y x (on.supply need g) sy gx is (of_supply need a g own acts way refl)
        | inr sx ↦ sx
      ]

  own_right : (x : Item) → IsKnown c x → (need : Need) → IsOwnNeed c x need → (a : Auth) → IsActor c x a → (y : Item) → IsRightOf u a need y → S y → S x
  own_right x gx need own a acts (item.Held r) is sy = own_supply x gx need own a acts r.grantee is.1 (item.Held r) (is.0, refl) sy
  own_right x gx need own a acts (item.Grantable r) is sy = own_supply x gx need own a acts r.grantee is.1 (item.Grantable r) (is.0, refl) sy
  own_right x gx need own a acts _ is sy = absurd is

  -- what holds of an item's own needs holds of those that another carries for it
  by_need : (x : Item) → IsKnown c x → (need : Need) → IsNeedOf u x need → ((z : Item) → IsKnown c z → IsOwnNeed c z need → ((a : Auth) → IsActor c x a → IsActor c z a) → S z) → S x
  by_need x gx need sought f =
      elim (need_settled x gx need sought) [
        | inl own ↦ f x gx own (λ a h. h)
        | inr (inl z) ↦ z.1.3 (f z.0 (inl z.1.0) z.1.1 z.1.2)
        | inr (inr sx) ↦ sx
      ]

  admin_topic : (x : Item) (a : Auth) (y : Item) → relevant.IsAdminForGrant u a x y → (role name : List ℕ) × IsGrantOf role x × IsRoleGrant x × IsUnder (on.admins role name) y × Reaches u a (Named name)
  admin_topic (item.RoleAuth g) a (item.RoleAdmin h) is = (g.role, h.grantee, refl, tt, (is.0, refl), is.1)
  admin_topic (item.RoleAdmin g) a (item.RoleAdmin h) is = (g.role, h.grantee, refl, tt, (is.0, refl), is.1)
  admin_topic (item.RoleAuth g) a _ is = absurd is
  admin_topic (item.RoleAdmin g) a _ is = absurd is
  admin_topic _ a y is = absurd is

  by_admin : (x : Item) → IsKnown c x → (a : Auth) → IsActor c x a → (y : Item) → relevant.IsAdminForGrant u a x y → S y → S x
  by_admin x gx a acts y is sy =
      let t = admin_topic x a y is in
      elim (reach_settled x gx a (λ name way. of_role a name t.3 acts way refl) (Named t.1) t.5) [
        | inl way ↦ close y x (on.admins t.0 t.1) sy gx t.4 (of_admins a t.0 t.1 t.2 acts way refl)
        | inr sx ↦ sx
      ]

  by_other : (x : Item) → IsKnown c x → (y : Item) → IsOptionOn x y → S y → S x
  by_other (item.Grantable r) gx y is sy = close y (item.Grantable r) (on.held r) sy gx is (by_option refl)
  by_other (item.RoleAdmin g) gx y is sy = close y (item.RoleAdmin g) (on.role_auth g) sy gx is (by_option refl)
  by_other _ gx y is sy = absurd is

  with_actor : (x : Item) → IsKnown c x → (a : Auth) → IsActor u x a → (IsActor c x a → S x) → S x
  with_actor x gx a acts f = elim (actor_settled x gx a acts) [ inl now ↦ f now | inr sx ↦ sx ]

  pub spreads_to : (y x : Item) → IsKnown c x → Concerns u y x → S y → S x
  spreads_to y x gx (named is) sy = by_names x gx y is sy
  spreads_to y x gx (on_need need sought part) sy = by_need x gx need sought (λ z gz own same. own_part z gz need own y part sy)
  spreads_to y x gx (right_of need a sought acts is) sy = with_actor x gx a acts (λ now. by_need x gx need sought (λ z gz own same. own_right z gz need own a (same a now) y is sy))
  spreads_to y x gx (role_for a (acts, inl sought) is) sy = with_actor x gx a acts (λ now. by_need x gx sought.0 sought.1 (λ z gz own same. own_edge z gz sought.0 own a (same a now) y is sy))
  spreads_to y x gx (role_for a (acts, inr grants) is) sy = with_actor x gx a acts (λ now. grant_edge x gx grants a now y is sy)
  spreads_to y x gx (admin_for a acts is) sy = with_actor x gx a acts (λ now. by_admin x gx a now y is sy)
  spreads_to y x gx (without is) sy = by_other x gx y is sy
