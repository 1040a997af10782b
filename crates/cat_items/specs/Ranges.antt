-- Ranges: descriptors that stand together in a catalogue.
use Rattle.std.specs.Prelude.{◌≡◌, ◌<◌, ◌≤◌, ℕ, true, false, List, Option, Some, None, cond, nat_eq, length, slice_index_or}
use Rattle.std.specs.Ordering.{is_le, is_lt, nat_cmp}
use Rattle.std.specs.List.Sorted.{IsPartitionPoint}
use Rattle.std.specs.declared.cmp.Ordering.{Ordering}
use Rattle.sql_names.specs.NameBytes.{NameBytes, PathNames}
use Rattle.sql_tree.specs.declared.rights.Action.{Action}
use Rattle.cat_items.specs.declared.need.Need.{Need}
use Rattle.cat_items.specs.declared.item.Item.{Item}
use Rattle.cat_items.specs.declared.item.Item.TheVariants as item
use Rattle.cat_items.specs.declared.ranges.ObjectKind.{ObjectKind}
use Rattle.cat_items.specs.declared.ranges.ObjectKind.TheVariants as object
use Rattle.cat_items.specs.declared.ranges.Part.{Part}
use Rattle.cat_items.specs.declared.ranges.Part.TheVariants.{Objects, User, Role, Schema, Table, View, Columns, Domain, Key, Routine, RoleAuthorizations, RoleGrants, AdminOptions, Held, HeldOn, Grantable, GrantableOn}
use Rattle.sql_names.specs.declared.object.Object.{Object}
use Rattle.cat_items.specs.Keys.{object_of, path_in, need_of}
use Rattle.cat_items.specs.Order.{name_cmp, object_cmp, need_cmp, target_cmp, kind_of}
use Rattle.cat_items.specs.Rights.{IsRole, IsSchema, IsBaseTable}
use Rattle.cat_items.specs.Shape.{IsColumnOf}
use Rattle.cat_items.specs.Supported.{IsKey}

-- the places from the first to before the second are exactly those of items that are so
pub record IsRange (items : List Item) (from to : ℕ) (P : Item → Type 0) : Type 0 where
  pub ordered : from ≤ to
  pub within : to ≤ length items
  pub inside : (k : ℕ) (d : Item) → from ≤ k → k < to → P (slice_index_or items k d)
  pub outside : (k : ℕ) (d : Item) → k < length items → P (slice_index_or items k d) → (from ≤ k) × (k < to)

abbrev pub number_of : ObjectKind → ℕ
number_of object.Table = 4
number_of object.View = 5
number_of object.Column = 6
number_of object.Domain = 7
number_of object.DomainCheck = 8
number_of object.Key = 9
number_of object.Foreign = 10
number_of object.Check = 11
number_of object.Assertion = 12
number_of object.Routine = 13

-- the schema that an object is in
abbrev pub schema_in : Item → Option NameBytes
schema_in (item.Table t) = Some t.schema
schema_in (item.View v) = Some v.view.schema
schema_in (item.Column c) = Some c.table.schema
schema_in (item.Domain d) = Some d.domain.schema
schema_in (item.DomainCheck d) = Some d.name.schema
schema_in (item.Key k) = Some k.name.schema
schema_in (item.Foreign f) = Some f.name.schema
schema_in (item.Check x) = Some x.name.schema
schema_in (item.Assertion a) = Some a.name.schema
schema_in (item.Routine r) = Some r.routine.schema
schema_in x = None

-- an object of this kind in this schema
abbrev pub IsObjectIn : ObjectKind → NameBytes → Item → Type 0
IsObjectIn kind schema x = (kind_of x ≡ number_of kind) × (schema_in x ≡ Some schema)

-- the user of this name
abbrev pub IsUser : NameBytes → Item → Type 0
IsUser name (item.User n) = n ≡ name
IsUser name x = ⊥

abbrev pub IsView : Object → Item → Type 0
IsView o (item.View v) = v.view ≡ o
IsView o x = ⊥

-- the domain of this name
abbrev pub IsDomainOf : Object → Item → Type 0
IsDomainOf o (item.Domain d) = d.domain ≡ o
IsDomainOf o x = ⊥

-- the routine of this name
abbrev pub IsRoutineOf : Object → Item → Type 0
IsRoutineOf o (item.Routine r) = r.routine ≡ o
IsRoutineOf o x = ⊥

abbrev pub IsRoleAuthorization : Item → Type 0
IsRoleAuthorization (item.RoleAuth g) = Unit {0}
IsRoleAuthorization x = ⊥

-- a role authorization of this role
abbrev pub IsGrantOf : NameBytes → Item → Type 0
IsGrantOf role (item.RoleAuth g) = g.role ≡ role
IsGrantOf role x = ⊥

-- an admin option of this role
abbrev pub IsAdminOptionOf : NameBytes → Item → Type 0
IsAdminOptionOf role (item.RoleAdmin g) = g.role ≡ role
IsAdminOptionOf role x = ⊥

-- a privilege of this need
abbrev pub IsHeldOf : Need → Item → Type 0
IsHeldOf need (item.Held r) = r.need ≡ need
IsHeldOf need x = ⊥

-- a privilege of this action on this object, or on a column of it
abbrev pub IsHeldOn : Action → PathNames → Item → Type 0
IsHeldOn action on (item.Held r) = (r.need.action ≡ action) × (r.need.on ≡ on)
IsHeldOn action on x = ⊥

-- a grant option of this need
abbrev pub IsGrantableOf : Need → Item → Type 0
IsGrantableOf need (item.Grantable r) = r.need ≡ need
IsGrantableOf need x = ⊥

-- a grant option of this action on this object, or on a column of it
abbrev pub IsGrantableOn : Action → PathNames → Item → Type 0
IsGrantableOn action on (item.Grantable r) = (r.need.action ≡ action) × (r.need.on ≡ on)
IsGrantableOn action on x = ⊥

abbrev pub IsIn : Part → Item → Type 0
IsIn (Objects kind schema) x = IsObjectIn kind schema.now x
IsIn (User name) x = IsUser name.now x
IsIn (Role name) x = IsRole name.now x
IsIn (Schema name) x = IsSchema name.now x
IsIn (Table key) x = IsBaseTable (object_of key) x
IsIn (View key) x = IsView (object_of key) x
IsIn (Columns key) x = IsColumnOf (object_of key) x
IsIn (Domain key) x = IsDomainOf (object_of key) x
IsIn (Key key) x = IsKey (object_of key) x
IsIn (Routine key) x = IsRoutineOf (object_of key) x
IsIn RoleAuthorizations x = IsRoleAuthorization x
IsIn (RoleGrants role) x = IsGrantOf role.now x
IsIn (AdminOptions role) x = IsAdminOptionOf role.now x
IsIn (Held need) x = IsHeldOf (need_of need) x
IsIn (HeldOn action on) x = IsHeldOn action (path_in on) x
IsIn (Grantable need) x = IsGrantableOf (need_of need) x
IsIn (GrantableOn action on) x = IsGrantableOn action (path_in on) x

-- the kind of the items of a part
abbrev pub kind_in : Part → ℕ
kind_in (Objects kind schema) = number_of kind
kind_in (User name) = 1
kind_in (Role name) = 2
kind_in (Schema name) = 3
kind_in (Table key) = 4
kind_in (View key) = 5
kind_in (Columns key) = 6
kind_in (Domain key) = 7
kind_in (Key key) = 9
kind_in (Routine key) = 13
kind_in RoleAuthorizations = 14
kind_in (RoleGrants role) = 14
kind_in (AdminOptions role) = 15
kind_in (Held need) = 16
kind_in (HeldOn action on) = 16
kind_in (Grantable need) = 17
kind_in (GrantableOn action on) = 17

abbrev pub object_place : ℕ → NameBytes → ℕ → Option NameBytes → Ordering
object_place number schema kind None = nat_cmp kind number
object_place number schema kind (Some own) = cond (nat_eq kind number) (name_cmp own schema) (nat_cmp kind number)

-- before the part, in it, or behind it
abbrev pub place_in : Part → Item → Ordering
place_in (Objects kind schema) x = object_place (number_of kind) schema.now (kind_of x) (schema_in x)
place_in (User name) (item.User n) = name_cmp n name.now
place_in (Role name) (item.Role n) = name_cmp n name.now
place_in (Schema name) (item.Schema s) = name_cmp s.name name.now
place_in (Table key) (item.Table t) = object_cmp t (object_of key)
place_in (View key) (item.View v) = object_cmp v.view (object_of key)
place_in (Columns key) (item.Column c) = object_cmp c.table (object_of key)
place_in (Domain key) (item.Domain d) = object_cmp d.domain (object_of key)
place_in (Key key) (item.Key k) = object_cmp k.name (object_of key)
place_in (Routine key) (item.Routine r) = object_cmp r.routine (object_of key)
place_in (RoleGrants role) (item.RoleAuth g) = name_cmp g.role role.now
place_in (AdminOptions role) (item.RoleAdmin g) = name_cmp g.role role.now
place_in (Held need) (item.Held r) = need_cmp r.need (need_of need)
place_in (HeldOn action on) (item.Held r) = target_cmp r.need action (path_in on)
place_in (Grantable need) (item.Grantable r) = need_cmp r.need (need_of need)
place_in (GrantableOn action on) (item.Grantable r) = target_cmp r.need action (path_in on)
place_in part x = nat_cmp (kind_of x) (kind_in part)

-- before the place stand the items that come before the part, and no others
abbrev pub IsStartOf : Part → List Item → ℕ → Type 0
IsStartOf part items at = IsPartitionPoint (λ x. is_lt (place_in part x) ≡ true) (λ x. is_lt (place_in part x) ≡ false) items at

-- before the place stand the items that come before the part or are in it, and no others
abbrev pub IsEndOf : Part → List Item → ℕ → Type 0
IsEndOf part items at = IsPartitionPoint (λ x. is_le (place_in part x) ≡ true) (λ x. is_le (place_in part x) ≡ false) items at
