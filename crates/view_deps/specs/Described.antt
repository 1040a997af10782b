-- What the descriptors of a catalogue say of names.
use Rattle.std.specs.Prelude.{Bool, false, ◌||◌, if◌then◌else◌, List, [], ◌∷◌, Option, Some, None, flat_map}
use Rattle.std.specs.List.{list_any}
use Rattle.sql_names.specs.declared.object.Object.{Object}
use Rattle.sql_names.specs.declared.sort.Param.{Param}
use Rattle.name_scopes.specs.declared.scope.Signature.{Signature}
use Rattle.name_scopes.specs.Known.{Known, same_object}
use Rattle.cat_items.specs.declared.item.Routine.{Routine}
use Rattle.cat_items.specs.declared.item.Item.{Item}
use Rattle.cat_items.specs.declared.item.Item.TheVariants as item

abbrev pub is_base_table : Object → Item → Bool
is_base_table o (item.Table t) = same_object t o
is_base_table o x = false

abbrev pub is_view : Object → Item → Bool
is_view o (item.View v) = same_object v.view o
is_view o x = false

-- the column of this table or view that a descriptor is of
abbrev pub columns_in : Object → Item → List Param
columns_in o (item.Column c) = if same_object c.table o then record { name = c.name; sort = c.sort } ∷ [] else []
columns_in o x = []

abbrev pub signature_of : Routine → Signature
signature_of r = record { routine = r.routine; params = r.params; returns = r.returns }

-- the routine of this name that a descriptor is of
abbrev pub routines_in : Object → Item → List Signature
routines_in o (item.Routine r) = if same_object r.routine o then signature_of r ∷ [] else []
routines_in o x = []

abbrev pub first_of : {A : Type 0} → List A → Option A
first_of [] = None
first_of (x ∷ xs) = Some x

abbrev pub known_of : List Item → Known
known_of items = record {
  columns = λ o. if list_any (is_view o) items || list_any (is_base_table o) items then Some (flat_map (columns_in o) items) else None;
  is_view = λ o. list_any (is_view o) items;
  routine = λ o. first_of (flat_map (routines_in o) items);
}
