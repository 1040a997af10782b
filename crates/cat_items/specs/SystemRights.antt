-- Which privileges the system grants to the owner of a schema for its objects.
use Rattle.std.specs.Prelude.{◌≡◌, ◌-◌, Bool, true, false, List, All, Option, Some, None, slice_get}
use Rattle.sql_names.specs.NameBytes.{NameBytes}
use Rattle.sql_names.specs.declared.object.Object.{Object}
use Rattle.sql_tree.specs.declared.rights.Action.{Action}
use Rattle.sql_tree.specs.declared.rights.Action.TheVariants.{Select, Insert, Update, Delete, References, Usage, Execute}
use Rattle.sql_tree.specs.declared.body.Body.{Body}
use Rattle.sql_tree.specs.declared.body.Body.TheVariants.{Return, Atomic}
use Rattle.sql_tree.specs.declared.body.Security.{Security}
use Rattle.sql_tree.specs.declared.body.Security.TheVariants.{Definer, Invoker}
use Rattle.cat_items.specs.declared.need.Auth.{Auth}
use Rattle.cat_items.specs.declared.need.Auth.TheVariants.{Named}
use Rattle.cat_items.specs.declared.need.Need.{Need}
use Rattle.cat_items.specs.declared.item.View.{View}
use Rattle.cat_items.specs.declared.item.Routine.{Routine}
use Rattle.cat_items.specs.declared.item.Right.{Right}
use Rattle.cat_items.specs.declared.item.Item.{Item}
use Rattle.cat_items.specs.declared.item.Item.TheVariants as item
use Rattle.cat_items.specs.Reach.{Has}
use Rattle.cat_items.specs.Rights.{path_of, Met}

abbrev pub security_of : Body → Security
security_of (Return security expr) = security
security_of (Atomic security acts) = security

-- the actions on a base table, and on one of its columns
abbrev pub IsTableRow : Action → Option NameBytes → Type 0
IsTableRow Select column = Unit {0}
IsTableRow Insert column = Unit {0}
IsTableRow Update column = Unit {0}
IsTableRow References column = Unit {0}
IsTableRow Delete None = Unit {0}
IsTableRow action column = ⊥

-- all needs are met grantably, where it is the grant option that is asked for
abbrev pub MetWithOption : Bool → List Item → Auth → List Need → Type 0
MetWithOption false s owner needs = Unit {0}
MetWithOption true s owner needs = All (Met true s owner) needs

-- the same action on the base of a plain view is met
abbrev pub MetOnBase : Bool → List Item → Auth → Action → Option Object → Type 0
MetOnBase grantable s owner action None = ⊥
MetOnBase grantable s owner action (Some base) = Met grantable s owner (record { action = action; on = path_of base; column = None })

-- the same action on one column of the base is met
abbrev pub MetOnBaseColumn : Bool → List Item → Auth → Action → Option Object → Option NameBytes → Type 0
MetOnBaseColumn grantable s owner action (Some base) (Some column) = Met grantable s owner (record { action = action; on = path_of base; column = Some column })
MetOnBaseColumn grantable s owner action base column = ⊥

-- a view's column of this name, whose column of the base, the one at its place, meets the action
abbrev pub IsUpdatable : Bool → List Item → Auth → View → Action → NameBytes → Item → Type 0
IsUpdatable grantable s owner v action name (item.Column c) = (c.table ≡ v.view) × (c.name ≡ name)
    × MetOnBaseColumn grantable s owner action v.base (slice_get v.base_columns (c.place - 1))
IsUpdatable grantable s owner v action name x = ⊥

-- the actions on a view, and on one of its columns
abbrev pub IsViewRow : Bool → List Item → Auth → View → Action → Option NameBytes → Type 0
IsViewRow grantable s owner v Select column = MetWithOption grantable s owner v.needs
IsViewRow grantable s owner v Insert None = MetOnBase grantable s owner Insert v.base
IsViewRow grantable s owner v Update None = MetOnBase grantable s owner Update v.base
IsViewRow grantable s owner v Delete None = MetOnBase grantable s owner Delete v.base
IsViewRow grantable s owner v Insert (Some column) = Has s (IsUpdatable grantable s owner v Insert column)
IsViewRow grantable s owner v Update (Some column) = Has s (IsUpdatable grantable s owner v Update column)
IsViewRow grantable s owner v action column = ⊥

-- EXECUTE on a routine; what an invoker's routine needs is its caller's affair
abbrev pub IsRoutineRow : Bool → List Item → Auth → Routine → Security → Type 0
IsRoutineRow grantable s owner r Definer = MetWithOption grantable s owner r.needs
IsRoutineRow grantable s owner r Invoker = Unit {0}

-- the object, in this schema, on which the system grants this to the owner
abbrev pub IsSystemRow : Bool → List Item → NameBytes → Auth → Need → Item → Type 0
IsSystemRow grantable s schema owner need (item.Table t) = (t.schema ≡ schema) × (need.on ≡ path_of t) × IsTableRow need.action need.column
IsSystemRow grantable s schema owner need (item.View v) = (v.view.schema ≡ schema) × (need.on ≡ path_of v.view) × IsViewRow grantable s owner v need.action need.column
IsSystemRow grantable s schema owner need (item.Domain d) = (d.domain.schema ≡ schema) × (need ≡ record { action = Usage; on = path_of d.domain; column = None })
IsSystemRow grantable s schema owner need (item.Routine r) = (r.routine.schema ≡ schema) × (need ≡ record { action = Execute; on = path_of r.routine; column = None })
    × IsRoutineRow grantable s owner r (security_of r.body)
IsSystemRow grantable s schema owner need x = ⊥

-- the schema whose owner is the grantee, and in which the system grants this
abbrev pub IsSystemSchema : Bool → List Item → Right → Item → Type 0
IsSystemSchema grantable s r (item.Schema x) = (r.grantee ≡ Named x.owner) × Has s (IsSystemRow grantable s x.name (Named x.owner) r.need)
IsSystemSchema grantable s r x = ⊥

-- the system grants the right, held or with grant option
abbrev pub SystemGrants : Bool → List Item → Right → Type 0
SystemGrants grantable s r = Has s (IsSystemSchema grantable s r)
