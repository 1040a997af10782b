-- What is added, piece by piece: columns that are put back, and rights action by action.
use Rattle.std.specs.Prelude.{◌≡◌, true, List, [], ◌∷◌, Some}
use Rattle.std.specs.List.{Contains}
use Rattle.sql_names.specs.NameBytes.{NameBytes}
use Rattle.sql_names.specs.declared.object.Object.{Object}
use Rattle.sql_tree.specs.declared.rights.Action.{Action}
use Rattle.cat_items.specs.declared.item.Item.{Item}
use Rattle.cat_items.specs.declared.item.Item.TheVariants as item
use Rattle.cat_items.specs.declared.item.Right.{Right}
use Rattle.cat_items.specs.declared.need.Need.{Need}
use Rattle.cat_items.specs.Rights.{path_of}
use Rattle.table_additions.specs.Additions.{on_whole}

-- a column with NOT NULL
abbrev pub with_not_null : Item → List Item
with_not_null (item.Column x) = item.Column (record x { not_null = true }) ∷ []
with_not_null x = []

-- the same right on a column of its object
abbrev pub on_column : NameBytes → Right → Right
on_column name r = record { need = record { action = r.need.action; on = r.need.on; column = Some name }; grantor = r.grantor; grantee = r.grantee }

abbrev pub right_on_column : NameBytes → Item → List Item
right_on_column name (item.Held r) = item.Held (on_column name r) ∷ []
right_on_column name (item.Grantable r) = item.Grantable (on_column name r) ∷ []
right_on_column name x = []

-- a privilege of this action on the column
abbrev pub IsBy : Object → NameBytes → Action → Need → Type 0
IsBy table name action need = (need.action ≡ action) × (need.on ≡ path_of table) × (need.column ≡ Some name)

-- a right by this action on the column, where the same stands on the whole table
abbrev pub IsRightBy : List Item → Object → NameBytes → Action → Item → Type 0
IsRightBy c table name action (item.Held r) = IsBy table name action r.need × Contains c (item.Held (on_whole r))
IsRightBy c table name action (item.Grantable r) = IsBy table name action r.need × Contains c (item.Grantable (on_whole r))
IsRightBy c table name action x = ⊥
