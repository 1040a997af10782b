-- The needs that an item looks for, by itself and by way of others.
use Rattle.std.specs.Prelude.{◌≡◌, ◌-◌, List, slice_get}
use Rattle.std.specs.List.{Contains}
use Rattle.sql_names.specs.NameBytes.{NameBytes}
use Rattle.sql_names.specs.declared.object.Object.{Object}
use Rattle.sql_tree.specs.declared.rights.Action.{Action}
use Rattle.sql_tree.specs.declared.rights.Action.TheVariants.{Select}
use Rattle.cat_items.specs.declared.need.Auth.{Auth}
use Rattle.cat_items.specs.declared.need.Auth.TheVariants.{System}
use Rattle.cat_items.specs.declared.need.Need.{Need}
use Rattle.cat_items.specs.declared.item.View.{View}
use Rattle.cat_items.specs.declared.item.Right.{Right}
use Rattle.cat_items.specs.declared.item.Item.{Item}
use Rattle.cat_items.specs.declared.item.Item.TheVariants as item
use Rattle.cat_items.specs.Reach.{Has}
use Rattle.cat_items.specs.Relevant.{HasUsage, IsNeedOnColumn, IsRoutineNeed, IsUsageOf}
use Rattle.cat_items.specs.Rights.{path_of, execute, reference}
use Rattle.cat_items.specs.SystemRights.{security_of}
use Rattle.cascade_laws.specs.Topics.{IsUpdateNeed}

-- REFERENCES on one of these columns of a table
abbrev pub IsReferenceTo : Object → List NameBytes → Need → Type 0
IsReferenceTo target names need = (name : NameBytes) × Contains names name × (need ≡ reference target name)

-- what the system's right to change a view by a column of this name goes by
abbrev pub IsNeedBehind : View → Action → NameBytes → Item → Need → Type 0
IsNeedBehind v action name (item.Column c) need = (c.name ≡ name) × IsNeedOnColumn action v.base (slice_get v.base_columns (c.place - 1)) need
IsNeedBehind v action name y need = ⊥

-- what the system's right of this need goes by, where it is one to change this view
abbrev pub IsUpdateNeedBy : List Item → Need → Item → Need → Type 0
IsUpdateNeedBy l by (item.View v) need = IsUpdateNeed l v by.action by.column need
IsUpdateNeedBy l by y need = ⊥

-- the needs of a view, a column or a definer's routine, which others look for by way of it
abbrev pub IsCarriedBy : Item → Need → Type 0
IsCarriedBy (item.View v) need = Contains v.needs need
IsCarriedBy (item.Column c) need = IsUsageOf c.domain need
IsCarriedBy (item.Routine r) need = IsRoutineNeed r (security_of r.body) need
IsCarriedBy y need = ⊥

-- the object of the system's right of this need, SELECT on a view or EXECUTE on a routine, and a need that this right looks for by way of it
abbrev pub IsFarNeedOn : Need → Need → Item → Type 0
IsFarNeedOn by need (item.View v) = (by.on ≡ path_of v.view) × (by.action ≡ Select) × Contains v.needs need
IsFarNeedOn by need (item.Routine r) = (by ≡ execute r.routine) × IsRoutineNeed r (security_of r.body) need
IsFarNeedOn by need y = ⊥

abbrev pub IsFarRightNeed : List Item → Right → Auth → Need → Type 0
IsFarRightNeed l r System need = Has l (IsFarNeedOn r.need need)
IsFarRightNeed l r grantor need = ⊥

-- the needs that an item looks for by way of a column, a view or a routine
abbrev pub IsFarNeed : List Item → Item → Need → Type 0
IsFarNeed l (item.Table t) need = Has l (HasUsage t need)
IsFarNeed l (item.Held r) need = IsFarRightNeed l r r.grantor need
IsFarNeed l (item.Grantable r) need = IsFarRightNeed l r r.grantor need
IsFarNeed l x need = ⊥
