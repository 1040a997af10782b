-- What a good catalogue gives: the parts that its items rest on stand in it.
use Rattle.std.proofs.Common.{◌≡◌, ◌≢◌, ◌⊎◌, inl, inr, ℕ, false, true, List, [], ◌∷◌, subst}
use Rattle.std.specs.List.{Contains}
use Rattle.finite_chains.specs.Chains.{IsWithin, IsChain, IsMonotone}
use Rattle.finite_chains.proofs.Members.{Contains-nil, Contains-tail, Contains-cases}
use Rattle.sql_names.specs.declared.object.Object.{Object}
use Rattle.sql_tree.specs.declared.rights.Action.TheVariants as action
use Rattle.cat_items.specs.declared.need.Need.{Need}
use Rattle.cat_items.specs.declared.item.Column.{Column}
use Rattle.cat_items.specs.declared.item.Domain.{Domain}
use Rattle.cat_items.specs.declared.item.Check.{Check}
use Rattle.cat_items.specs.declared.item.Foreign.{Foreign}
use Rattle.cat_items.specs.declared.item.Key.{Key}
use Rattle.cat_items.specs.declared.item.Right.{Right}
use Rattle.cat_items.specs.declared.item.RoleGrant.{RoleGrant}
use Rattle.cat_items.specs.declared.item.Schema.{Schema}
use Rattle.cat_items.specs.declared.item.View.{View}
use Rattle.cat_items.specs.declared.item.Item.{Item}
use Rattle.cat_items.specs.declared.item.Item.TheVariants as item
use Rattle.cat_items.specs.Catalogues.{IsInOrder}
use Rattle.cat_items.specs.Good.{IsGood}
use Rattle.cat_items.specs.Reach.{Has}
use Rattle.cat_items.specs.Rights.{path_of, IsAuthorization, IsRole, IsSchema, IsBaseTable, IsTable, Stands, MeetsAll}
use Rattle.cat_items.specs.Supported.{HasColumns, Keeps, IsKey, IsHeld, IsRoleAuth, IsGrantee, MayGrant, Supported}
use Rattle.cat_items.specs.Survivors.{IsSystemRight}
use Rattle.support_laws.proofs.Monotone.{has_some, supported_monotone}

-- the items of a chain support each of them
chain_supports : (sup : List Item → Item → Type 0) → IsMonotone sup → (c chain : List Item) → IsChain sup c chain → (x : Item) → Contains chain x → sup chain x
chain_supports sup mono c [] p x h = absurd (Contains-nil x h)
chain_supports sup mono c (y ∷ chain) p x h = by (Contains-cases y chain x h) (λ later. chain_supports sup mono c chain p.2 x later)
  where
    longer : IsWithin chain (y ∷ chain)
    longer z is = Contains-tail y chain z is

    by : (y ≡ x) ⊎ Contains chain x → (Contains chain x → sup chain x) → sup (y ∷ chain) x
    by (inl e) more = mono.more chain (y ∷ chain) x longer (subst (sup chain) e p.1)
    by (inr later) more = mono.more chain (y ∷ chain) x longer (more later)

module _ (c : List Item) (good : IsGood c) where
  -- it is in order
  pub good_order : IsInOrder c
  good_order = good.survivors.order

  -- it supports each of its items; a table's columns are among it and the rights that the system could grant
  pub good_supports : (x : Item) → Contains c x → Supported good.all c x
  good_supports x is =
      let s = (good.survivors.members x).0 is in
      (supported_monotone good.all).more s.0 c x (λ y h. (good.survivors.members y).1 (s.0, s.1, h)) (chain_supports (Supported good.all) (supported_monotone good.all) good.all s.0 s.1 x s.2)

  -- what is among it and those rights, and is no right, is an item of it
  no_system_right : (x : Item) → ((d : List Item) → ¬ (IsSystemRight d x)) → Contains good.all x → Contains c x
  no_system_right x apart h = elim ((good.with_system.members x).0 h) [ inl old ↦ old | inr right ↦ absurd (apart c right) ]

  in_schema : (schema : List ℕ) (needs : List Need) → Has c (MeetsAll false c schema needs) → Has c (IsSchema schema)
  in_schema schema needs h = has_some c c (MeetsAll false c schema needs) (IsSchema schema) (λ y z. z) met h
    where
      met : (y : Item) → MeetsAll false c schema needs y → IsSchema schema y
      met (item.Schema x) z = z.0
      met _ z = absurd z

  -- ---- what stands for an item of it

  pub owner_stands : (x : Schema) → Contains c (item.Schema x) → Has c (IsAuthorization x.owner)
  owner_stands x is = good_supports (item.Schema x) is

  pub table_schema_stands : (t : Object) → Contains c (item.Table t) → Has c (IsSchema t.schema)
  table_schema_stands t is = (good_supports (item.Table t) is).0

  -- a table keeps a column
  pub table_column_stands : (t : Object) → Contains c (item.Table t) → Has c (Keeps c t)
  table_column_stands t is = by (good_supports (item.Table t) is).1
    where
      column : (y : Item) → Keeps c t y → Contains good.all y → Contains c y
      column (item.Column x) keeps h = no_system_right (item.Column x) (λ d z. z) h
      column _ keeps h = absurd keeps

      by : Has good.all (Keeps c t) → Has c (Keeps c t)
      by h = (h.0, column h.0 h.2 h.1, h.2)

  pub view_schema_stands : (v : View) → Contains c (item.View v) → Has c (IsSchema v.view.schema)
  view_schema_stands v is = in_schema v.view.schema v.needs (good_supports (item.View v) is)

  pub column_schema_stands : (x : Column) → Contains c (item.Column x) → Has c (IsSchema x.table.schema)
  column_schema_stands x is = (good_supports (item.Column x) is).0

  pub column_table_stands : (x : Column) → Contains c (item.Column x) → Has c (IsTable (path_of x.table))
  column_table_stands x is = (good_supports (item.Column x) is).1

  pub domain_schema_stands : (d : Domain) → Contains c (item.Domain d) → Has c (IsSchema d.domain.schema)
  domain_schema_stands d is = good_supports (item.Domain d) is

  pub key_schema_stands : (k : Key) → Contains c (item.Key k) → Has c (IsSchema k.name.schema)
  key_schema_stands k is = (good_supports (item.Key k) is).0

  pub key_table_stands : (k : Key) → Contains c (item.Key k) → Has c (IsBaseTable k.table)
  key_table_stands k is = (good_supports (item.Key k) is).1

  pub key_columns_stand : (k : Key) → Contains c (item.Key k) → HasColumns c k.table k.columns
  key_columns_stand k is = (good_supports (item.Key k) is).2

  pub foreign_table_stands : (f : Foreign) → Contains c (item.Foreign f) → Has c (IsBaseTable f.table)
  foreign_table_stands f is = (good_supports (item.Foreign f) is).0

  pub foreign_columns_stand : (f : Foreign) → Contains c (item.Foreign f) → HasColumns c f.table f.columns
  foreign_columns_stand f is = (good_supports (item.Foreign f) is).1

  pub foreign_target_stands : (f : Foreign) → Contains c (item.Foreign f) → Has c (IsBaseTable f.target)
  foreign_target_stands f is = (good_supports (item.Foreign f) is).2

  pub foreign_key_stands : (f : Foreign) → Contains c (item.Foreign f) → Has c (IsKey f.key)
  foreign_key_stands f is = (good_supports (item.Foreign f) is).4

  pub check_table_stands : (x : Check) → Contains c (item.Check x) → Has c (IsBaseTable x.table)
  check_table_stands x is = (good_supports (item.Check x) is).0

  pub role_of_auth_stands : (g : RoleGrant) → Contains c (item.RoleAuth g) → Has c (IsRole g.role)
  role_of_auth_stands g is = (good_supports (item.RoleAuth g) is).0

  pub grantee_of_auth_stands : (g : RoleGrant) → Contains c (item.RoleAuth g) → Has c (IsAuthorization g.grantee)
  grantee_of_auth_stands g is = (good_supports (item.RoleAuth g) is).1

  auth_by : (g : RoleGrant) (y : Item) → Contains c y → IsRoleAuth g y → Contains c (item.RoleAuth g)
  auth_by g (item.RoleAuth other) here e = subst (λ o. Contains c (item.RoleAuth o)) e here
  auth_by g _ here e = absurd e

  -- the role authorization of an admin option
  pub auth_of_admin_stands : (g : RoleGrant) → Contains c (item.RoleAdmin g) → Contains c (item.RoleAuth g)
  auth_of_admin_stands g is = let h = (good_supports (item.RoleAdmin g) is).1 in auth_by g h.0 h.1 h.2

  -- ---- rights

  -- no right is ADMIN
  pub held_is_no_admin : (r : Right) → Contains c (item.Held r) → r.need.action ≢ action.Admin
  held_is_no_admin r is = (good_supports (item.Held r) is).0

  -- the object of a right, and its column
  pub held_need_stands : (r : Right) → Contains c (item.Held r) → Stands c r.need
  held_need_stands r is = (good_supports (item.Held r) is).1

  pub held_grantee_stands : (r : Right) → Contains c (item.Held r) → IsGrantee c r.grantee
  held_grantee_stands r is = (good_supports (item.Held r) is).2

  pub held_is_granted : (r : Right) → Contains c (item.Held r) → MayGrant false c r r.grantor
  held_is_granted r is = (good_supports (item.Held r) is).3

  pub grantable_is_granted : (r : Right) → Contains c (item.Grantable r) → MayGrant true c r r.grantor
  grantable_is_granted r is = (good_supports (item.Grantable r) is).0.3

  held_by : (r : Right) (y : Item) → Contains c y → IsHeld r y → Contains c (item.Held r)
  held_by r (item.Held other) here e = subst (λ o. Contains c (item.Held o)) e here
  held_by r _ here e = absurd e

  -- the privilege of a grant option
  pub held_of_grantable_stands : (r : Right) → Contains c (item.Grantable r) → Contains c (item.Held r)
  held_of_grantable_stands r is = let h = (good_supports (item.Grantable r) is).1 in held_by r h.0 h.1 h.2
