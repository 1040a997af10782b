-- Where what is of a table or a view stands.
use Rattle.std.specs.Prelude.{◌≡◌, List}
use Rattle.sql_names.specs.declared.object.Object.{Object}
use Rattle.sql_tree.specs.declared.rights.Action.{Action}
use Rattle.sql_tree.specs.declared.rights.Action.TheVariants.{Select, Insert, Update, Delete, References}
use Rattle.cat_items.specs.declared.item.Item.{Item}
use Rattle.cat_items.specs.declared.item.Item.TheVariants as item
use Rattle.cat_items.specs.declared.item.Right.{Right}
use Rattle.cat_items.specs.declared.ranges.Part.{Part}
use Rattle.cat_items.specs.Rights.{path_of}
use Rattle.cat_items.specs.Shape.{HasAllowedName}
use Rattle.chosen_parts.specs.Parts.{LiesIn}

-- the actions on tables and views
abbrev pub IsTableAction : Action → Type 0
IsTableAction Select = Unit {0}
IsTableAction Insert = Unit {0}
IsTableAction Update = Unit {0}
IsTableAction Delete = Unit {0}
IsTableAction References = Unit {0}
IsTableAction action = ⊥

-- a right on the table or view, or on a column of it
abbrev pub IsOnTable : Object → Right → Type 0
IsOnTable o r = IsTableAction r.need.action × (r.need.on ≡ path_of o)

-- the table or view itself, a column or a constraint of it, or a right on it
abbrev pub IsOfTable : Object → Item → Type 0
IsOfTable o (item.Table t) = t ≡ o
IsOfTable o (item.View v) = v.view ≡ o
IsOfTable o (item.Column x) = x.table ≡ o
IsOfTable o (item.Key k) = k.table ≡ o
IsOfTable o (item.Foreign f) = f.table ≡ o
IsOfTable o (item.Check x) = x.table ≡ o
IsOfTable o (item.Held r) = IsOnTable o r
IsOfTable o (item.Grantable r) = IsOnTable o r
IsOfTable o x = ⊥

-- of what is of the table or view, each item with an allowed name is in one of these parts
abbrev pub HoldTable : Object → List Part → Type 0
HoldTable o parts = (x : Item) → HasAllowedName x → IsOfTable o x → LiesIn parts x
