-- The order of items: by kind, and then by key fields.
use Rattle.std.specs.Prelude.{ℕ}
use Rattle.std.specs.declared.cmp.Ordering.{Ordering}
use Rattle.std.specs.declared.cmp.Ordering.TheVariants.{Equal}
use Rattle.std.specs.Ordering.{nat_cmp, ordering_then}
use Rattle.std.specs.Cmp.Lexicographic.{slice_cmp}
use Rattle.std.specs.Option.{option_cmp}
use Rattle.sql_names.specs.NameBytes.{NameBytes, PathNames}
use Rattle.sql_names.specs.declared.object.Object.{Object}
use Rattle.sql_tree.specs.declared.rights.Action.{Action}
use Rattle.sql_tree.specs.declared.rights.Action.TheVariants.{Select, Insert, Update, Delete, References, Usage, Execute, Admin}
use Rattle.cat_items.specs.declared.need.Auth.{Auth}
use Rattle.cat_items.specs.declared.need.Auth.TheVariants.{System, Public, Named}
use Rattle.cat_items.specs.declared.need.Need.{Need}
use Rattle.cat_items.specs.declared.item.Right.{Right}
use Rattle.cat_items.specs.declared.item.RoleGrant.{RoleGrant}
use Rattle.cat_items.specs.declared.item.Item.{Item}
use Rattle.cat_items.specs.declared.item.Item.TheVariants.{User, Role, Schema, Table, View, Column, Domain, DomainCheck, Key, Foreign, Check, Assertion, Routine, RoleAuth, RoleAdmin, Held, Grantable}

-- by bytes, a proper prefix first
abbrev pub name_cmp : NameBytes → NameBytes → Ordering
name_cmp = slice_cmp nat_cmp

abbrev pub object_cmp : Object → Object → Ordering
object_cmp a b = ordering_then (name_cmp a.schema b.schema) (name_cmp a.name b.name)

-- the system, everyone, and then the names
abbrev pub auth_rank : Auth → ℕ
auth_rank System = 0
auth_rank Public = 1
auth_rank (Named n) = 2

abbrev pub auth_cmp : Auth → Auth → Ordering
auth_cmp (Named a) (Named b) = name_cmp a b
auth_cmp a b = nat_cmp (auth_rank a) (auth_rank b)

abbrev pub action_number : Action → ℕ
action_number Select = 1
action_number Insert = 2
action_number Update = 3
action_number Delete = 4
action_number References = 5
action_number Usage = 6
action_number Execute = 7
action_number Admin = 8

-- by action, place and column, of which none comes first
abbrev pub need_cmp : Need → Need → Ordering
need_cmp a b =
    ordering_then (nat_cmp (action_number a.action) (action_number b.action))
    (ordering_then (slice_cmp name_cmp a.on b.on) (option_cmp name_cmp a.column b.column))

-- by action and place alone
abbrev pub target_cmp : Need → Action → PathNames → Ordering
target_cmp need action on = ordering_then (nat_cmp (action_number need.action) (action_number action)) (slice_cmp name_cmp need.on on)

abbrev pub right_cmp : Right → Right → Ordering
right_cmp a b =
    ordering_then (need_cmp a.need b.need)
    (ordering_then (auth_cmp a.grantor b.grantor) (auth_cmp a.grantee b.grantee))

abbrev pub role_grant_cmp : RoleGrant → RoleGrant → Ordering
role_grant_cmp a b =
    ordering_then (name_cmp a.role b.role)
    (ordering_then (auth_cmp a.grantor b.grantor) (name_cmp a.grantee b.grantee))

-- the number of an item's kind
abbrev pub kind_of : Item → ℕ
kind_of (User n) = 1
kind_of (Role n) = 2
kind_of (Schema s) = 3
kind_of (Table t) = 4
kind_of (View v) = 5
kind_of (Column c) = 6
kind_of (Domain d) = 7
kind_of (DomainCheck d) = 8
kind_of (Key k) = 9
kind_of (Foreign f) = 10
kind_of (Check c) = 11
kind_of (Assertion a) = 12
kind_of (Routine r) = 13
kind_of (RoleAuth r) = 14
kind_of (RoleAdmin r) = 15
kind_of (Held r) = 16
kind_of (Grantable r) = 17

-- the key fields of two items of one kind
abbrev pub key_cmp : Item → Item → Ordering
key_cmp (User a) (User b) = name_cmp a b
key_cmp (Role a) (Role b) = name_cmp a b
key_cmp (Schema a) (Schema b) = name_cmp a.name b.name
key_cmp (Table a) (Table b) = object_cmp a b
key_cmp (View a) (View b) = object_cmp a.view b.view
key_cmp (Column a) (Column b) = ordering_then (object_cmp a.table b.table) (nat_cmp a.place b.place)
key_cmp (Domain a) (Domain b) = object_cmp a.domain b.domain
key_cmp (DomainCheck a) (DomainCheck b) = object_cmp a.name b.name
key_cmp (Key a) (Key b) = object_cmp a.name b.name
key_cmp (Foreign a) (Foreign b) = object_cmp a.name b.name
key_cmp (Check a) (Check b) = object_cmp a.name b.name
key_cmp (Assertion a) (Assertion b) = object_cmp a.name b.name
key_cmp (Routine a) (Routine b) = object_cmp a.routine b.routine
key_cmp (RoleAuth a) (RoleAuth b) = role_grant_cmp a b
key_cmp (RoleAdmin a) (RoleAdmin b) = role_grant_cmp a b
key_cmp (Held a) (Held b) = right_cmp a b
key_cmp (Grantable a) (Grantable b) = right_cmp a b
key_cmp a b = Equal

-- by kind, and then by key fields
abbrev pub item_cmp : Item → Item → Ordering
item_cmp a b = ordering_then (nat_cmp (kind_of a) (kind_of b)) (key_cmp a b)
