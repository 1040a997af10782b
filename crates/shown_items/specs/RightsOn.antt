-- Rights of a session on an object or a column, action by action.
use Rattle.std.specs.Prelude.{◌⊎◌, List, Some}
use Rattle.sql_names.specs.NameBytes.{PathNames}
use Rattle.sql_tree.specs.declared.rights.Action.{Action}
use Rattle.sql_tree.specs.declared.rights.Action.TheVariants.{Select, Insert, Update, Delete, References}
use Rattle.cat_items.specs.declared.item.Column.{Column}
use Rattle.cat_items.specs.declared.item.Item.{Item}
use Rattle.cat_items.specs.declared.need.Need.{Need}
use Rattle.cat_items.specs.Ranges.{IsHeldOf, IsHeldOn}
use Rattle.cat_items.specs.Reach.{Has}
use Rattle.cat_items.specs.Rights.{path_of}
use Rattle.schema_tables.specs.Sight.{Session}
use Rattle.shown_items.specs.Viewers.{HasOwnGrantee}

-- on an object, or on a column of it
abbrev pub HasAction : List Item → Session → Action → PathNames → Type 0
HasAction c s action on = Has c (λ x. IsHeldOn action on x × HasOwnGrantee s x)

abbrev pub HasTableAction : List Item → Session → PathNames → Type 0
HasTableAction c s on = HasAction c s Select on ⊎ (HasAction c s Insert on ⊎ (HasAction c s Update on ⊎ (HasAction c s Delete on ⊎ HasAction c s References on)))

abbrev pub column_need : Action → Column → Need
column_need action x = record { action = action; on = path_of x.table; column = Some x.name }

abbrev pub HasOnColumn : List Item → Session → Action → Column → Type 0
HasOnColumn c s action x = Has c (λ y. IsHeldOf (column_need action x) y × HasOwnGrantee s y)

abbrev pub HasColumnAction : List Item → Session → Column → Type 0
HasColumnAction c s x = HasOnColumn c s Select x ⊎ (HasOnColumn c s Insert x ⊎ (HasOnColumn c s Update x ⊎ (HasOnColumn c s Delete x ⊎ HasOnColumn c s References x)))
