-- What supports an item goes on to support it where there are more items.
use Rattle.std.proofs.Common.{Bool, true, false, List, [], ◌∷◌, Option, Some, None}
use Rattle.std.specs.Prelude.{ℕ, ◌-◌, All, slice_get}
use Rattle.std.specs.List.{Contains}
use Rattle.std.proofs.lemmas.List.Elements.{All-contains}
use Rattle.finite_chains.specs.Chains.{IsWithin, IsMonotone}
use Rattle.finite_chains.proofs.Members.{All-from_contains}
use Rattle.sql_names.specs.declared.object.Object.{Object}
use Rattle.sql_tree.specs.declared.rights.Action.{Action}
use Rattle.sql_tree.specs.declared.rights.Action.TheVariants as action
use Rattle.sql_tree.specs.declared.body.Security.{Security}
use Rattle.sql_tree.specs.declared.body.Security.TheVariants.{Definer, Invoker}
use Rattle.cat_items.specs.declared.need.Auth.{Auth}
use Rattle.cat_items.specs.declared.need.Auth.TheVariants.{System, Public, Named}
use Rattle.cat_items.specs.declared.need.Need.{Need}
use Rattle.cat_items.specs.declared.item.View.{View}
use Rattle.cat_items.specs.declared.item.Routine.{Routine}
use Rattle.cat_items.specs.declared.item.RoleGrant.{RoleGrant}
use Rattle.cat_items.specs.declared.item.Right.{Right}
use Rattle.cat_items.specs.declared.item.Item.{Item}
use Rattle.cat_items.specs.declared.item.Item.TheVariants as item
use Rattle.cat_items.specs.Reach.{Has, GrantsRole, Leads, Reaches}
use Rattle.cat_items.specs.Rights.{IsObject, IsColumn, HasColumn, Stands, IsRightFor, IsAdminFor, MetBy, Met, MeetsAll, usage, admin, path_of}
use Rattle.cat_items.specs.SystemRights.{MetWithOption, MetOnBase, MetOnBaseColumn, IsUpdatable, IsViewRow, IsRoutineRow, IsSystemRow, IsSystemSchema, SystemGrants, security_of}
use Rattle.cat_items.specs.Supported.{HasColumns, RestsOnDomain, Keeps, RoutineRests, MayGrantRole, RoleGrantRests, IsGrantee, MayGrant, RightRests, Supported}

-- some item of the list is so, and each that is so is so too
pub has_some : (s t : List Item) (P Q : Item → Type 0) → IsWithin s t → ((y : Item) → P y → Q y) → Has s P → Has t Q
has_some s t P Q within f h = (h.0, within h.0 h.1, f h.0 h.2)

pub all_in : {X : Type 0} (P Q : X → Type 0) (xs : List X) → ((x : X) → Contains xs x → P x → Q x) → All P xs → All Q xs
all_in P Q xs f all = All-from_contains Q xs (λ x is. f x is (All-contains P xs x all is))

all_of : {X : Type 0} (P Q : X → Type 0) (xs : List X) → ((x : X) → P x → Q x) → All P xs → All Q xs
all_of P Q xs f all = all_in P Q xs (λ x is. f x) all

module _ (s t : List Item) (within : IsWithin s t) where
  -- the same things of the larger list
  pub has_more : (P : Item → Type 0) → Has s P → Has t P
  has_more P h = has_some s t P P within (λ y p. p) h

  has_also : (P Q : Item → Type 0) → ((y : Item) → P y → Q y) → Has s P → Has t Q
  has_also P Q f h = has_some s t P Q within f h

  pub leads_more : (from : List ℕ) (roles : List (List ℕ)) (to : List ℕ) → Leads s from roles to → Leads t from roles to
  leads_more from [] to is = is
  leads_more from (role ∷ roles) to is = (has_more (GrantsRole role from) is.0, leads_more role roles to is.1)

  pub reaches_more : (a g : Auth) → Reaches s a g → Reaches t a g
  reaches_more a Public is = is
  reaches_more (Named from) (Named to) is = (is.0, leads_more from is.0 to is.1)
  reaches_more System System is = is
  reaches_more System (Named to) is = absurd is
  reaches_more Public (Named to) is = absurd is
  reaches_more Public System is = absurd is
  reaches_more (Named from) System is = absurd is

  has_column_more : (path : List (List ℕ)) (column : Option (List ℕ)) → HasColumn s path column → HasColumn t path column
  has_column_more path None is = is
  has_column_more path (Some name) is = has_more (IsColumn path name) is

  pub stands_more : (need : Need) → Stands s need → Stands t need
  stands_more need is = (has_more (IsObject need.action need.on) is.0, has_column_more need.on need.column is.1)

  right_more : (grantable : Bool) (a : Auth) (need : Need) (y : Item) → IsRightFor grantable s a need y → IsRightFor grantable t a need y
  right_more false a need (item.Held r) is = (is.0, reaches_more a r.grantee is.1)
  right_more true a need (item.Grantable r) is = (is.0, reaches_more a r.grantee is.1)
  right_more false a need _ is = absurd is
  right_more true a need _ is = absurd is

  admin_more : (a : Auth) (path : List (List ℕ)) (y : Item) → IsAdminFor s a path y → IsAdminFor t a path y
  admin_more a path (item.RoleAdmin g) is = (is.0, reaches_more a (Named g.grantee) is.1)
  admin_more a path _ is = absurd is

  met_by_more : (grantable : Bool) (a : Auth) (need : Need) (by : Action) → MetBy grantable s a need by → MetBy grantable t a need by
  met_by_more grantable a need action.Admin is = has_also (IsAdminFor s a need.on) (IsAdminFor t a need.on) (admin_more a need.on) is
  met_by_more grantable a need _ is = (stands_more need is.0, has_also (IsRightFor grantable s a need) (IsRightFor grantable t a need) (right_more grantable a need) is.1)

  pub met_more : (grantable : Bool) (a : Auth) (need : Need) → Met grantable s a need → Met grantable t a need
  met_more grantable a need is = met_by_more grantable a need need.action is

  meets_more : (grantable : Bool) (schema : List ℕ) (needs : List Need) (y : Item) → MeetsAll grantable s schema needs y → MeetsAll grantable t schema needs y
  meets_more grantable schema needs (item.Schema x) is = (is.0, all_of (Met grantable s (Named x.owner)) (Met grantable t (Named x.owner)) needs (met_more grantable (Named x.owner)) is.1)
  meets_more grantable schema needs _ is = absurd is

  pub meets_all_more : (grantable : Bool) (schema : List ℕ) (needs : List Need) → Has s (MeetsAll grantable s schema needs) → Has t (MeetsAll grantable t schema needs)
  meets_all_more grantable schema needs is = has_also (MeetsAll grantable s schema needs) (MeetsAll grantable t schema needs) (meets_more grantable schema needs) is

  -- ---- the system's rights

  with_option_more : (grantable : Bool) (owner : Auth) (needs : List Need) → MetWithOption grantable s owner needs → MetWithOption grantable t owner needs
  with_option_more false owner needs is = is
  with_option_more true owner needs is = all_of (Met true s owner) (Met true t owner) needs (met_more true owner) is

  on_base_more : (grantable : Bool) (owner : Auth) (by : Action) (base : Option Object) → MetOnBase grantable s owner by base → MetOnBase grantable t owner by base
  on_base_more grantable owner by None is = is
  on_base_more grantable owner by (Some base) is = met_more grantable owner (record { action = by; on = path_of base; column = None }) is

  on_base_column_more : (grantable : Bool) (owner : Auth) (by : Action) (base : Option Object) (column : Option (List ℕ)) → MetOnBaseColumn grantable s owner by base column
      → MetOnBaseColumn grantable t owner by base column
  on_base_column_more grantable owner by (Some base) (Some column) is = met_more grantable owner (record { action = by; on = path_of base; column = Some column }) is
  on_base_column_more grantable owner by None column is = absurd is
  on_base_column_more grantable owner by (Some base) None is = absurd is

  updatable_more : (grantable : Bool) (owner : Auth) (v : View) (by : Action) (name : List ℕ) (y : Item) → IsUpdatable grantable s owner v by name y → IsUpdatable grantable t owner v by name y
  updatable_more grantable owner v by name (item.Column c) is = (is.0, is.1, on_base_column_more grantable owner by v.base (slice_get v.base_columns (c.place - 1)) is.2)
  updatable_more grantable owner v by name _ is = absurd is

  view_row_more : (grantable : Bool) (owner : Auth) (v : View) (by : Action) (column : Option (List ℕ)) → IsViewRow grantable s owner v by column → IsViewRow grantable t owner v by column
  view_row_more grantable owner v action.Select column is = with_option_more grantable owner v.needs is
  view_row_more grantable owner v action.Insert None is = on_base_more grantable owner action.Insert v.base is
  view_row_more grantable owner v action.Update None is = on_base_more grantable owner action.Update v.base is
  view_row_more grantable owner v action.Delete None is = on_base_more grantable owner action.Delete v.base is
  view_row_more grantable owner v action.Insert (Some column) is = has_also _ _ (updatable_more grantable owner v action.Insert column) is
  view_row_more grantable owner v action.Update (Some column) is = has_also _ _ (updatable_more grantable owner v action.Update column) is
  view_row_more grantable owner v action.Delete (Some column) is = absurd is
  view_row_more grantable owner v action.References column is = absurd is
  view_row_more grantable owner v action.Usage column is = absurd is
  view_row_more grantable owner v action.Execute column is = absurd is
  view_row_more grantable owner v action.Admin column is = absurd is

  routine_row_more : (grantable : Bool) (owner : Auth) (r : Routine) (security : Security) → IsRoutineRow grantable s owner r security → IsRoutineRow grantable t owner r security
  routine_row_more grantable owner r Definer is = with_option_more grantable owner r.needs is
  routine_row_more grantable owner r Invoker is = is

  system_row_more : (grantable : Bool) (schema : List ℕ) (owner : Auth) (need : Need) (y : Item) → IsSystemRow grantable s schema owner need y → IsSystemRow grantable t schema owner need y
  system_row_more grantable schema owner need (item.Table x) is = is
  system_row_more grantable schema owner need (item.View v) is = (is.0, is.1, view_row_more grantable owner v need.action need.column is.2)
  system_row_more grantable schema owner need (item.Domain d) is = is
  system_row_more grantable schema owner need (item.Routine r) is = (is.0, is.1, routine_row_more grantable owner r (security_of r.body) is.2)
  system_row_more grantable schema owner need _ is = absurd is

  system_schema_more : (grantable : Bool) (r : Right) (y : Item) → IsSystemSchema grantable s r y → IsSystemSchema grantable t r y
  system_schema_more grantable r (item.Schema x) is = (is.0, has_also _ _ (system_row_more grantable x.name (Named x.owner) r.need) is.1)
  system_schema_more grantable r _ is = absurd is

  system_grants_more : (grantable : Bool) (r : Right) → SystemGrants grantable s r → SystemGrants grantable t r
  system_grants_more grantable r is = has_also _ _ (system_schema_more grantable r) is

  -- ---- what items rest on

  has_columns_more : (table : Object) (columns : List (List ℕ)) → HasColumns s table columns → HasColumns t table columns
  has_columns_more table columns is = all_of (λ name. Has s (IsColumn (path_of table) name)) (λ name. Has t (IsColumn (path_of table) name)) columns (λ name h. has_more (IsColumn (path_of table) name) h) is

  pub rests_on_domain_more : (schema : List ℕ) (domain : Option Object) → RestsOnDomain s schema domain → RestsOnDomain t schema domain
  rests_on_domain_more schema None is = is
  rests_on_domain_more schema (Some domain) is = (has_more _ is.0, meets_all_more false schema (usage domain ∷ []) is.1)

  keeps_more : (table : Object) (y : Item) → Keeps s table y → Keeps t table y
  keeps_more table (item.Column c) is = (is.0, rests_on_domain_more table.schema c.domain is.1)
  keeps_more table _ is = absurd is

  routine_rests_more : (r : Routine) (security : Security) → RoutineRests s r security → RoutineRests t r security
  routine_rests_more r Definer is = meets_all_more false r.routine.schema r.needs is
  routine_rests_more r Invoker is = (has_more _ is.0, all_of (Stands s) (Stands t) r.needs stands_more is.1)

  may_grant_role_more : (role : List ℕ) (a : Auth) → MayGrantRole s role a → MayGrantRole t role a
  may_grant_role_more role System is = is
  may_grant_role_more role Public is = is
  may_grant_role_more role (Named name) is = (has_more _ is.0, met_more false (Named name) (admin role) is.1)

  role_grant_more : (g : RoleGrant) → RoleGrantRests s g → RoleGrantRests t g
  role_grant_more g is = (has_more _ is.0, has_more _ is.1, may_grant_role_more g.role g.grantor is.2)

  grantee_more : (a : Auth) → IsGrantee s a → IsGrantee t a
  grantee_more System is = is
  grantee_more Public is = is
  grantee_more (Named name) is = has_more _ is

  may_grant_more : (grantable : Bool) (r : Right) (a : Auth) → MayGrant grantable s r a → MayGrant grantable t r a
  may_grant_more grantable r System is = system_grants_more grantable r is
  may_grant_more grantable r Public is = is
  may_grant_more grantable r (Named name) is = (has_more _ is.0, met_more true (Named name) r.need is.1)

  right_rests_more : (grantable : Bool) (r : Right) → RightRests grantable s r → RightRests grantable t r
  right_rests_more grantable r is = (is.0, stands_more r.need is.1, grantee_more r.grantee is.2, may_grant_more grantable r r.grantor is.3)

  module _ (c : List Item) where
    pub supported_more : (x : Item) → Supported c s x → Supported c t x
    supported_more (item.User n) is = is
    supported_more (item.Role n) is = is
    supported_more (item.Schema x) is = has_more _ is
    supported_more (item.Table o) is = (has_more _ is.0, has_some c c _ _ (λ y m. m) (keeps_more o) is.1)
    supported_more (item.View v) is = meets_all_more false v.view.schema v.needs is
    supported_more (item.Column x) is = (has_more _ is.0, has_more _ is.1, rests_on_domain_more x.table.schema x.domain is.2)
    supported_more (item.Domain d) is = has_more _ is
    supported_more (item.DomainCheck d) is = (has_more _ is.0, meets_all_more false d.name.schema d.needs is.1)
    supported_more (item.Key k) is = (has_more _ is.0, has_more _ is.1, has_columns_more k.table k.columns is.2)
    supported_more (item.Foreign f) is = (
      has_more _ is.0,
      has_columns_more f.table f.columns is.1,
      has_more _ is.2,
      has_columns_more f.target f.target_columns is.3,
      has_more _ is.4,
      meets_all_more false f.name.schema _ is.5,
    )
    supported_more (item.Check x) is = (has_more _ is.0, has_columns_more x.table x.columns is.1, meets_all_more false x.name.schema x.needs is.2)
    supported_more (item.Assertion a) is = meets_all_more false a.name.schema a.needs is
    supported_more (item.Routine r) is = routine_rests_more r (security_of r.body) is
    supported_more (item.RoleAuth g) is = role_grant_more g is
    supported_more (item.RoleAdmin g) is = (role_grant_more g is.0, has_more _ is.1)
    supported_more (item.Held r) is = right_rests_more false r is
    supported_more (item.Grantable r) is = (right_rests_more true r is.0, has_more _ is.1)

-- support of a list is monotone in what supports
pub supported_monotone : (c : List Item) → IsMonotone (Supported c)
supported_monotone c = record { more = λ s t x within is. supported_more s t within c x is }
