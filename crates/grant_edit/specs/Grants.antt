-- GRANT of privileges: what can be granted, and what is (grant privilege statement, SQL:2003 part 2, 12.2).
use Rattle.std.specs.Prelude.{◌≡◌, ◌⊎◌, ◌↔◌, Bool, true, false, List, [], IsTrue}
use Rattle.std.specs.List.{Contains}
use Rattle.sql_names.specs.NameBytes.{NameBytes}
use Rattle.sql_names.specs.declared.object.Object.{Object}
use Rattle.sql_tree.specs.declared.rights.Action.{Action}
use Rattle.sql_tree.specs.declared.rights.Action.TheVariants as actions
use Rattle.sql_tree.specs.declared.rights.Privileges.{Privileges}
use Rattle.sql_tree.specs.declared.rights.Privileges.TheVariants.{All, Listed}
use Rattle.cat_items.specs.declared.edit.Refusal.{Refusal}
use Rattle.cat_items.specs.declared.edit.Refusal.TheVariants.{NoPrivilege}
use Rattle.cat_items.specs.declared.item.Item.{Item}
use Rattle.cat_items.specs.declared.item.Item.TheVariants as item
use Rattle.cat_items.specs.declared.item.Right.{Right}
use Rattle.cat_items.specs.declared.need.Auth.{Auth}
use Rattle.cat_items.specs.declared.need.Auth.TheVariants.{Named}
use Rattle.cat_items.specs.declared.need.Need.{Need}
use Rattle.cat_items.specs.Needs.{object_need, column_need}
use Rattle.cat_items.specs.Rights.{Met}
use Rattle.edit_rules.specs.Privileges.{IsLeastNeed}
use Rattle.grant_edit.specs.declared.grants.Granted.{Granted}

-- a privilege of which a grant option stands whose grantee the grantor reaches
abbrev pub CanGrant : List Item → NameBytes → Need → Type 0
CanGrant c grantor need = Met true c (Named grantor) need

-- actions that are granted on columns too
abbrev pub IsOnColumns : Action → Type 0
IsOnColumns actions.Select = Unit {0}
IsOnColumns actions.Insert = Unit {0}
IsOnColumns actions.Update = Unit {0}
IsOnColumns actions.References = Unit {0}
IsOnColumns action = ⊥

-- a privilege on a column, where the same on the whole table or view is named and can be granted
abbrev pub GoesAlong : List Item → NameBytes → Object → List Need → Need → Type 0
GoesAlong c grantor object named need = (name : NameBytes) × (need ≡ column_need need.action object name) × IsOnColumns need.action
    × Contains named (object_need need.action object) × CanGrant c grantor (object_need need.action object)

-- what is granted: of what is named and what goes along, that which can be
abbrev pub IsToBeGranted : List Item → NameBytes → Object → List Need → Need → Type 0
IsToBeGranted c grantor object named need = (Contains named need ⊎ GoesAlong c grantor object named need) × CanGrant c grantor need

-- a privilege of the grantor to one of these
abbrev pub IsGrantTo : (Need → Type 0) → NameBytes → List Auth → Right → Type 0
IsGrantTo granted grantor grantees r = granted r.need × (r.grantor ≡ Named grantor) × Contains grantees r.grantee

-- it is held by each of them, and with WITH GRANT OPTION with grant option
abbrev pub IsGrant : (Need → Type 0) → NameBytes → List Auth → Bool → Item → Type 0
IsGrant granted grantor grantees option (item.Held r) = IsGrantTo granted grantor grantees r
IsGrant granted grantor grantees option (item.Grantable r) = IsTrue option × IsGrantTo granted grantor grantees r
IsGrant granted grantor grantees option x = ⊥

-- nothing that is named can be granted; the least of it is told
abbrev pub no_privilege_to_grant : List Item → NameBytes → List Need → Refusal → Type 0
no_privilege_to_grant c grantor named refusal = ((need : Need) → Contains named need → ¬ (CanGrant c grantor need))
    × ((need : Need) × IsLeastNeed (Contains named) need × (refusal ≡ NoPrivilege need))

-- one of these that can be granted, and one that can't
abbrev pub GrantsSome : List Item → NameBytes → List Need → Type 0
GrantsSome c grantor named = ((need : Need) × Contains named need × CanGrant c grantor need) × ((need : Need) × Contains named need × (¬ (CanGrant c grantor need)))

-- not all that the statement names is granted; ALL PRIVILEGES asks for no more than can be
abbrev pub IsPartial : List Item → NameBytes → Privileges → List Need → Type 0
IsPartial c grantor All named = ⊥
IsPartial c grantor (Listed all) named = GrantsSome c grantor named

-- whether all of these can be granted
abbrev pub AllGranted : List Item → NameBytes → List Need → Bool → Type 0
AllGranted c grantor named true = (need : Need) → Contains named need → CanGrant c grantor need
AllGranted c grantor named false = (need : Need) × Contains named need × (¬ (CanGrant c grantor need))

-- a privilege on one of the columns of the object, by its item
abbrev pub IsColumnGrant : List Item → NameBytes → Object → Action → Item → Need → Type 0
IsColumnGrant c grantor object action (item.Column x) need = (need ≡ column_need action object x.name) × CanGrant c grantor need
IsColumnGrant c grantor object action x need = ⊥

-- a right, held or with WITH GRANT OPTION with grant option too
abbrev pub IsOfRight : Right → Bool → Item → Type 0
IsOfRight right option (item.Held r) = r ≡ right
IsOfRight right option (item.Grantable r) = IsTrue option × (r ≡ right)
IsOfRight right option x = ⊥

-- a privilege on one of the columns of the object that can be granted
abbrev pub IsColumnPrivilege : List Item → NameBytes → Object → Action → Need → Type 0
IsColumnPrivilege c grantor object action need = (name : NameBytes) × (need ≡ column_need action object name) × CanGrant c grantor need

-- what a grantor grants of what is named: something can be granted, or nothing is named
pub record IsGrantedBy (c : List Item) (grantor : NameBytes) (object : Object) (named : List Need) (granted : Granted) : Type 0 where
  pub members : (need : Need) → Contains granted.needs.items need ↔ IsToBeGranted c grantor object named need
  pub all : AllGranted c grantor named granted.all
  pub some : ((need : Need) × Contains named need × CanGrant c grantor need) ⊎ ((need : Need) → ¬ (Contains named need))
