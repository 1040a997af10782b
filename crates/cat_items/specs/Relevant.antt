-- What is relevant to an item: all that its support can depend on.
use Rattle.std.specs.Prelude.{◌≡◌, ◌⊎◌, ◌-◌, List, [], ◌∷◌, Option, Some, None, slice_get}
use Rattle.std.specs.List.{Contains}
use Rattle.sql_names.specs.NameBytes.{NameBytes, PathNames}
use Rattle.sql_names.specs.declared.object.Object.{Object}
use Rattle.sql_tree.specs.declared.rights.Action.{Action}
use Rattle.sql_tree.specs.declared.rights.Action.TheVariants.{Select, Insert, Update, Delete}
use Rattle.sql_tree.specs.declared.body.Security.{Security}
use Rattle.sql_tree.specs.declared.body.Security.TheVariants.{Definer, Invoker}
use Rattle.cat_items.specs.declared.need.Auth.{Auth}
use Rattle.cat_items.specs.declared.need.Auth.TheVariants.{System, Named}
use Rattle.cat_items.specs.declared.need.Need.{Need}
use Rattle.cat_items.specs.declared.item.View.{View}
use Rattle.cat_items.specs.declared.item.Routine.{Routine}
use Rattle.cat_items.specs.declared.item.RoleGrant.{RoleGrant}
use Rattle.cat_items.specs.declared.item.Right.{Right}
use Rattle.cat_items.specs.declared.item.Item.{Item}
use Rattle.cat_items.specs.declared.item.Item.TheVariants as item
use Rattle.cat_items.specs.Reach.{Has, Reaches}
use Rattle.cat_items.specs.Rights.{path_of, IsAuthorization, IsRole, IsSchema, IsBaseTable, IsTable, IsDomain, IsObject, usage, execute, reference}
use Rattle.cat_items.specs.Supported.{IsKey, IsRoleAuth, IsHeld}
use Rattle.cat_items.specs.SystemRights.{security_of}
use Rattle.cat_items.specs.Shape.{IsColumnOf}

-- the schema of this name, whose owner this is
abbrev pub IsOwnedSchema : NameBytes → Auth → Item → Type 0
IsOwnedSchema name owner (item.Schema x) = (x.name ≡ name) × (owner ≡ Named x.owner)
IsOwnedSchema name owner x = ⊥

abbrev pub Owns : List Item → NameBytes → Auth → Type 0
Owns u schema owner = Has u (IsOwnedSchema schema owner)

-- the owner of the schema that a path begins with
abbrev pub OwnsPath : List Item → PathNames → Auth → Type 0
OwnsPath u [] owner = ⊥
OwnsPath u (schema ∷ names) owner = Owns u schema owner

-- who acts in a right: its grantor, or for a right by the system the owner of its object
abbrev pub ActsInRight : List Item → Right → Auth → Auth → Type 0
ActsInRight u r System actor = OwnsPath u r.need.on actor
ActsInRight u r grantor actor = actor ≡ grantor

-- for whom the needs of an item are to be met
abbrev pub IsActor : List Item → Item → Auth → Type 0
IsActor u (item.Table t) a = Owns u t.schema a
IsActor u (item.View v) a = Owns u v.view.schema a
IsActor u (item.Column c) a = Owns u c.table.schema a
IsActor u (item.Domain d) a = Owns u d.domain.schema a
IsActor u (item.DomainCheck d) a = Owns u d.name.schema a
IsActor u (item.Key k) a = Owns u k.name.schema a
IsActor u (item.Foreign f) a = Owns u f.name.schema a
IsActor u (item.Check c) a = Owns u c.name.schema a
IsActor u (item.Assertion x) a = Owns u x.name.schema a
IsActor u (item.Routine r) a = Owns u r.routine.schema a
IsActor u (item.RoleAuth g) a = a ≡ g.grantor
IsActor u (item.RoleAdmin g) a = a ≡ g.grantor
IsActor u (item.Held r) a = ActsInRight u r r.grantor a
IsActor u (item.Grantable r) a = ActsInRight u r r.grantor a
IsActor u x a = ⊥

-- a column of the table that is based on a domain on which this is USAGE
abbrev pub IsUsageOf : Option Object → Need → Type 0
IsUsageOf None need = ⊥
IsUsageOf (Some domain) need = need ≡ usage domain

abbrev pub HasUsage : Object → Need → Item → Type 0
HasUsage table need (item.Column c) = (c.table ≡ table) × IsUsageOf c.domain need
HasUsage table need x = ⊥

-- the need of the same action on the base of a plain view, or on its column
abbrev pub IsBaseNeed : Action → Option Object → Option NameBytes → Need → Type 0
IsBaseNeed action None column need = ⊥
IsBaseNeed action (Some base) column need = need ≡ record { action = action; on = path_of base; column = column }

abbrev pub IsNeedOnColumn : Action → Option Object → Option NameBytes → Need → Type 0
IsNeedOnColumn action base None need = ⊥
IsNeedOnColumn action base (Some column) need = IsBaseNeed action base (Some column) need

-- the view's column of this name, and the need on the column of the base at its place
abbrev pub IsBaseColumnNeed : View → Action → NameBytes → Need → Item → Type 0
IsBaseColumnNeed v action name need (item.Column c) = (c.table ≡ v.view) × (c.name ≡ name) × IsNeedOnColumn action v.base (slice_get v.base_columns (c.place - 1)) need
IsBaseColumnNeed v action name need x = ⊥

-- the needs that the system's rights on a view go by
abbrev pub IsViewNeed : List Item → View → Action → Option NameBytes → Need → Type 0
IsViewNeed u v Select column need = Contains v.needs need
IsViewNeed u v Insert None need = IsBaseNeed Insert v.base None need
IsViewNeed u v Update None need = IsBaseNeed Update v.base None need
IsViewNeed u v Delete None need = IsBaseNeed Delete v.base None need
IsViewNeed u v Insert (Some column) need = Has u (IsBaseColumnNeed v Insert column need)
IsViewNeed u v Update (Some column) need = Has u (IsBaseColumnNeed v Update column need)
IsViewNeed u v action column need = ⊥

-- those on a routine
abbrev pub IsRoutineNeed : Routine → Security → Need → Type 0
IsRoutineNeed r Definer need = Contains r.needs need
IsRoutineNeed r Invoker need = ⊥

-- the object of a right by the system, and a need that this right goes by
abbrev pub IsObjectNeed : List Item → Right → Need → Item → Type 0
IsObjectNeed u r need (item.View v) = (r.need.on ≡ path_of v.view) × IsViewNeed u v r.need.action r.need.column need
IsObjectNeed u r need (item.Routine x) = (r.need ≡ execute x.routine) × IsRoutineNeed x (security_of x.body) need
IsObjectNeed u r need x = ⊥

abbrev pub IsRightNeed : List Item → Right → Auth → Need → Type 0
IsRightNeed u r System need = Has u (IsObjectNeed u r need)
IsRightNeed u r grantor need = need ≡ r.need

-- the needs that the support of an item speaks of
abbrev pub IsNeedOf : List Item → Item → Need → Type 0
IsNeedOf u (item.Table t) need = Has u (HasUsage t need)
IsNeedOf u (item.View v) need = Contains v.needs need
IsNeedOf u (item.Column c) need = IsUsageOf c.domain need
IsNeedOf u (item.DomainCheck d) need = Contains d.needs need
IsNeedOf u (item.Foreign f) need = (name : NameBytes) × Contains f.target_columns name × (need ≡ reference f.target name)
IsNeedOf u (item.Check c) need = Contains c.needs need
IsNeedOf u (item.Assertion a) need = Contains a.needs need
IsNeedOf u (item.Routine r) need = Contains r.needs need
IsNeedOf u (item.Held r) need = IsRightNeed u r r.grantor need
IsNeedOf u (item.Grantable r) need = IsRightNeed u r r.grantor need
IsNeedOf u x need = ⊥

-- the user or role of this name
abbrev pub IsAuth : Auth → Item → Type 0
IsAuth (Named name) y = IsAuthorization name y
IsAuth a y = ⊥

-- one of these columns of the table
abbrev pub IsColumnAmong : Object → List NameBytes → Item → Type 0
IsColumnAmong table names (item.Column c) = (c.table ≡ table) × Contains names c.name
IsColumnAmong table names y = ⊥

-- the column where one is named
abbrev pub IsColumnOfNeed : Need → Item → Type 0
IsColumnOfNeed need (item.Column c) = (need.on ≡ path_of c.table) × (need.column ≡ Some c.name)
IsColumnOfNeed need y = ⊥

abbrev pub IsPartOfNeed : Need → Item → Type 0
IsPartOfNeed need y = IsObject need.action need.on y ⊎ IsColumnOfNeed need y

abbrev pub IsFirstSchema : PathNames → Item → Type 0
IsFirstSchema [] y = ⊥
IsFirstSchema (schema ∷ names) y = IsSchema schema y

abbrev pub IsOptionalDomain : Option Object → Item → Type 0
IsOptionalDomain None y = ⊥
IsOptionalDomain (Some domain) y = IsDomain (path_of domain) y

abbrev pub RoleGrantNames : RoleGrant → Item → Type 0
RoleGrantNames g y = IsRole g.role y ⊎ (IsAuthorization g.grantee y ⊎ IsAuth g.grantor y)

abbrev pub RightNames : Right → Item → Type 0
RightNames r y = IsPartOfNeed r.need y ⊎ (IsFirstSchema r.need.on y ⊎ (IsAuth r.grantee y ⊎ IsAuth r.grantor y))

-- the item names y, as its container, its owner, a table, a column, a domain or a key; a table's columns are named by it
abbrev pub Names : Item → Item → Type 0
Names (item.Schema x) y = IsAuthorization x.owner y
Names (item.Table t) y = IsSchema t.schema y ⊎ IsColumnOf t y
Names (item.View v) y = IsSchema v.view.schema y
Names (item.Column c) y = IsSchema c.table.schema y ⊎ (IsTable (path_of c.table) y ⊎ IsOptionalDomain c.domain y)
Names (item.Domain d) y = IsSchema d.domain.schema y
Names (item.DomainCheck d) y = IsSchema d.name.schema y ⊎ IsDomain (path_of d.domain) y
Names (item.Key k) y = IsSchema k.name.schema y ⊎ (IsBaseTable k.table y ⊎ IsColumnAmong k.table k.columns y)
Names (item.Foreign f) y = IsSchema f.name.schema y ⊎ (IsBaseTable f.table y ⊎ (IsColumnAmong f.table f.columns y
    ⊎ (IsBaseTable f.target y ⊎ (IsColumnAmong f.target f.target_columns y ⊎ IsKey f.key y))))
Names (item.Check c) y = IsSchema c.name.schema y ⊎ (IsBaseTable c.table y ⊎ IsColumnAmong c.table c.columns y)
Names (item.Assertion a) y = IsSchema a.name.schema y
Names (item.Routine r) y = IsSchema r.routine.schema y
Names (item.RoleAuth g) y = RoleGrantNames g y
Names (item.RoleAdmin g) y = RoleGrantNames g y
Names (item.Held r) y = RightNames r y
Names (item.Grantable r) y = RightNames r y
Names x y = ⊥

-- y is a right of this need, held or with grant option, whose grantee is reached
abbrev pub IsRightOf : List Item → Auth → Need → Item → Type 0
IsRightOf u a need (item.Held r) = (r.need ≡ need) × Reaches u a r.grantee
IsRightOf u a need (item.Grantable r) = (r.need ≡ need) × Reaches u a r.grantee
IsRightOf u a need y = ⊥

-- y is a role authorization whose grantee is reached
abbrev pub IsRoleFor : List Item → Auth → Item → Type 0
IsRoleFor u a (item.RoleAuth g) = Reaches u a (Named g.grantee)
IsRoleFor u a y = ⊥

abbrev pub IsAdminOf : List Item → Auth → RoleGrant → Item → Type 0
IsAdminOf u a granted (item.RoleAdmin g) = (g.role ≡ granted.role) × Reaches u a (Named g.grantee)
IsAdminOf u a granted y = ⊥

-- x grants a role, and y is an admin option of that role whose grantee is reached
abbrev pub IsAdminForGrant : List Item → Auth → Item → Item → Type 0
IsAdminForGrant u a (item.RoleAuth g) y = IsAdminOf u a g y
IsAdminForGrant u a (item.RoleAdmin g) y = IsAdminOf u a g y
IsAdminForGrant u a x y = ⊥

-- y is what x adds an option to
abbrev pub IsOptionOn : Item → Item → Type 0
IsOptionOn (item.Grantable r) y = IsHeld r y
IsOptionOn (item.RoleAdmin g) y = IsRoleAuth g y
IsOptionOn x y = ⊥

-- y is relevant to x, where u has all items that are spoken of
pub data Relevant (u : List Item) (y x : Item) : Type 0 where
  named : Names x y → Relevant u y x
  acting : (a : Auth) → IsActor u x a → IsAuth a y → Relevant u y x
  on_need : (need : Need) → IsNeedOf u x need → IsPartOfNeed need y → Relevant u y x
  right_of : (need : Need) (a : Auth) → IsNeedOf u x need → IsActor u x a → IsRightOf u a need y → Relevant u y x
  role_for : (a : Auth) → IsActor u x a → IsRoleFor u a y → Relevant u y x
  admin_for : (a : Auth) → IsActor u x a → IsAdminForGrant u a x y → Relevant u y x
  without : IsOptionOn x y → Relevant u y x
