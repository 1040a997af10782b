-- Rights by the system to SELECT on one object: by way of it they look for the same.
use Rattle.std.specs.Prelude.{◌≡◌, List, Option, Some, None}
use Rattle.std.specs.List.{Contains}
use Rattle.sql_names.specs.NameBytes.{PathNames}
use Rattle.sql_tree.specs.declared.rights.Action.{Action}
use Rattle.sql_tree.specs.declared.rights.Action.TheVariants.{Select}
use Rattle.cat_items.specs.declared.need.Auth.{Auth}
use Rattle.cat_items.specs.declared.need.Auth.TheVariants.{System}
use Rattle.cat_items.specs.declared.need.Need.{Need}
use Rattle.cat_items.specs.declared.item.Item.{Item}
use Rattle.cat_items.specs.declared.item.Item.TheVariants as item
use Rattle.topic_keys.specs.Lists.{IsKeyWhere}
use Rattle.topic_lists.specs.Sought.{IsAskedFor}

abbrev pub select_on : Action → PathNames → Option PathNames
select_on Select on = Some on
select_on action on = None

abbrev pub selected_by : Auth → Need → Option PathNames
selected_by System need = select_on need.action need.on
selected_by grantor need = None

-- the object on which an item is a right by the system to SELECT
abbrev pub selected : Item → Option PathNames
selected (item.Held r) = selected_by r.grantor r.need
selected (item.Grantable r) = selected_by r.grantor r.need
selected x = None

abbrev pub AreBeside : Item → Item → Type 0
AreBeside x y = (on : PathNames) × (selected x ≡ Some on) × (selected y ≡ Some on)

-- the one before, if any, is such a right on the same object
abbrev pub IsBeside : Item → Option Item → Type 0
IsBeside x None = ⊥
IsBeside x (Some y) = AreBeside x y

-- the keys of all that the one before asks for, if there is one, are there
abbrev pub HasAskedBefore : List Item → Option Item → List Item → Type 0
HasAskedBefore l None keys = Unit {0}
HasAskedBefore l (Some y) keys = (k : Item) → IsKeyWhere (IsAskedFor l y) k → Contains keys k
