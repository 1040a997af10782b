-- The parts of the base of a plain view.
use Rattle.std.specs.Prelude.{Bool, true, ◌&&◌, not, List, [], ◌∷◌, Option, Some, None, bytes_eq}
use Rattle.std.specs.List.{list_any}
use Rattle.sql_names.specs.NameBytes.{NameBytes}
use Rattle.sql_names.specs.declared.object.Object.{Object}
use Rattle.cat_items.specs.Plain.{Base}
use Rattle.plain_views.specs.declared.plain.Found.{Found}

abbrev pub base_found : Found → Base
base_found f = record { table = f.table; columns = f.columns }

-- the table of a FROM that has one
abbrev pub only_table : List (Option Object) → Option Object
only_table (table ∷ []) = table
only_table tables = None

abbrev pub only_member : {A : Type 0} → List A → Option A
only_member (x ∷ []) = Some x
only_member xs = None

-- no two of them are one
abbrev pub differ : List NameBytes → Bool
differ [] = true
differ (name ∷ names) = not (list_any (bytes_eq name) names) && differ names
