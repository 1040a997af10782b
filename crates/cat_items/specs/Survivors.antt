-- What survives of a list, and what an edit makes of a catalogue.
use Rattle.std.specs.Prelude.{◌≡◌, ◌↔◌, ◌⊎◌, List, Option, None, Some}
use Rattle.std.specs.List.{Contains}
use Rattle.sql_names.specs.NameBytes.{NameBytes}
use Rattle.sql_names.specs.declared.object.Object.{Object}
use Rattle.sql_tree.specs.declared.rights.Action.{Action}
use Rattle.sql_tree.specs.declared.rights.Action.TheVariants.{Select, Insert, Update, Delete, Usage, Execute}
use Rattle.finite_chains.specs.Chains.{HasSurvivors}
use Rattle.cat_items.specs.declared.need.Auth.TheVariants.{System, Named}
use Rattle.cat_items.specs.declared.need.Need.{Need}
use Rattle.cat_items.specs.declared.item.Right.{Right}
use Rattle.cat_items.specs.declared.item.Item.{Item}
use Rattle.cat_items.specs.declared.item.Item.TheVariants as item
use Rattle.cat_items.specs.Reach.{Has}
use Rattle.cat_items.specs.Catalogues.{IsInOrder}
use Rattle.cat_items.specs.Rights.{path_of, HasColumn}
use Rattle.cat_items.specs.SystemRights.{IsTableRow}
use Rattle.cat_items.specs.Supported.{Supported}

-- the actions that the system could grant on a view, or where it is plain (it has a base)
abbrev pub MayBeViewRow : Action → Option NameBytes → Option Object → Type 0
MayBeViewRow Select column base = Unit {0}
MayBeViewRow Insert column (Some base) = Unit {0}
MayBeViewRow Update column (Some base) = Unit {0}
MayBeViewRow Delete None (Some base) = Unit {0}
MayBeViewRow action column base = ⊥

-- the object, in this schema, on which the system could grant this
abbrev pub MayBeSystemRow : NameBytes → Need → Item → Type 0
MayBeSystemRow schema need (item.Table t) = (t.schema ≡ schema) × (need.on ≡ path_of t) × IsTableRow need.action need.column
MayBeSystemRow schema need (item.View v) = (v.view.schema ≡ schema) × (need.on ≡ path_of v.view) × MayBeViewRow need.action need.column v.base
MayBeSystemRow schema need (item.Domain d) = (d.domain.schema ≡ schema) × (need ≡ record { action = Usage; on = path_of d.domain; column = None })
MayBeSystemRow schema need (item.Routine r) = (r.routine.schema ≡ schema) × (need ≡ record { action = Execute; on = path_of r.routine; column = None })
MayBeSystemRow schema need x = ⊥

-- the schema whose owner is the grantee, and which has such an object in the list
abbrev pub MayBeSystemSchema : List Item → Right → Item → Type 0
MayBeSystemSchema c r (item.Schema x) = (r.grantee ≡ Named x.owner) × Has c (MayBeSystemRow x.name r.need)
MayBeSystemSchema c r x = ⊥

abbrev pub MayBeSystemRight : List Item → Right → Type 0
MayBeSystemRight c r = (r.grantor ≡ System) × HasColumn c r.need.on r.need.column × Has c (MayBeSystemSchema c r)

-- a right that the system could grant for the objects of the list, whether or not its conditions hold
abbrev pub IsSystemRight : List Item → Item → Type 0
IsSystemRight c (item.Held r) = MayBeSystemRight c r
IsSystemRight c (item.Grantable r) = MayBeSystemRight c r
IsSystemRight c x = ⊥

-- the sorted list of the items of the list and those rights
pub record IsWithSystem (c all : List Item) : Type 0 where
  pub order : IsInOrder all
  pub members : (x : Item) → Contains all x ↔ (Contains c x ⊎ IsSystemRight c x)

-- the sorted list of what survives of a list by finite chains
pub record AreSurvivors (c survivors : List Item) : Type 0 where
  pub order : IsInOrder survivors
  pub members : HasSurvivors (Supported c) c survivors
