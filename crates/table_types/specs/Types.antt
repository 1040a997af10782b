-- Types of columns, of their defaults, and of the columns of foreign keys.
use Rattle.std.specs.Prelude.{◌≡◌, ◌≢◌, ◌<◌, ◌+◌, ℕ, List, [], ◌∷◌, Some, length, slice_get}
use Rattle.std.specs.List.{Any}
use Rattle.sql_names.specs.NameBytes.{NameBytes}
use Rattle.sql_names.specs.declared.object.Object.{Object}
use Rattle.sql_names.specs.declared.sort.Param.{Param}
use Rattle.sql_tree.specs.declared.table.References.{References}
use Rattle.cat_items.specs.declared.edit.Refusal.{Refusal}
use Rattle.cat_items.specs.declared.edit.Refusal.TheVariants.{CatalogFull}
use Rattle.cat_items.specs.declared.edit.Who.{Who}
use Rattle.cat_items.specs.declared.item.Item.{Item}
use Rattle.cat_items.specs.declared.item.Key.{Key}
use Rattle.table_parts.specs.declared.classes.Class.{Class}
use Rattle.table_parts.specs.declared.parts.Part.{Part}
use Rattle.table_parts.specs.declared.parts.Part.TheVariants as parts
use Rattle.table_parts.specs.Classes.{class_of, IsMisfit}
use Rattle.table_parts.specs.Columns.{default_in}
use Rattle.table_parts.specs.Parts.{columns_of}
use Rattle.table_work.specs.declared.work.Work.{Work}
use Rattle.table_work.specs.Columns.{sort_of}
use Rattle.table_work.specs.Keys.{IsMeant}
use Rattle.table_work.specs.Seen.{columns_seen, keys_seen}
use Rattle.table_names.specs.Given.{target_of}

-- a column with a default of another class than its type, or that of its domain
abbrev pub HasMisfit : List Item → Who → Part → Type 0
HasMisfit c who (parts.Column d) = IsMisfit (default_in d.options) (sort_of c who d.sort)
HasMisfit c who (parts.Constraint k) = ⊥

-- a column of this name, and of another class
abbrev pub IsAnother : NameBytes → Class → Param → Type 0
IsAnother name class y = (y.name ≡ name) × (class_of y.sort ≢ class)

-- a column of the first name, where one of the others has the second and another class
abbrev pub DiffersFrom : List Param → NameBytes → NameBytes → Param → Type 0
DiffersFrom others column name x = (x.name ≡ column) × Any (IsAnother name (class_of x.sort)) others

-- columns of these names are of two classes
abbrev pub AreOfTwoClasses : List Param → List Param → NameBytes → NameBytes → Type 0
AreOfTwoClasses own others column name = Any (DiffersFrom others column name) own

-- the columns at this place of two lists are
abbrev pub DifferAt : List Param → List Param → List NameBytes → List NameBytes → ℕ → Type 0
DifferAt own others columns names at = (column name : NameBytes) × (slice_get columns at ≡ Some column) × (slice_get names at ≡ Some name) × AreOfTwoClasses own others column name

-- those at one place are
abbrev pub AreOfTwoClassesAt : List Param → List Param → List NameBytes → List NameBytes → Type 0
AreOfTwoClassesAt own others columns names = (at : ℕ) × DifferAt own others columns names at

-- the columns that REFERENCES means: those that are written, else those of the primary key
abbrev pub AreMeant : List Key → List NameBytes → List NameBytes → Type 0
AreMeant keys [] names = (k : Key) × IsMeant keys [] k × (names ≡ k.columns)
AreMeant keys (name ∷ written) names = names ≡ name ∷ written

-- as many columns as are meant, two of which are of two classes
abbrev pub AreMisfits : List Param → List Param → List Key → List NameBytes → List NameBytes → Type 0
AreMisfits own others keys columns written = (names : List NameBytes) × AreMeant keys written names × (length names ≡ length columns) × AreOfTwoClassesAt own others columns names

abbrev pub IsForeignMisfit : List Item → Who → Work → List NameBytes → References → Type 0
IsForeignMisfit c who w columns references =
    AreMisfits w.columns (columns_seen c w (target_of who references)) (keys_seen c w (target_of who references)) columns references.columns

abbrev pub greatest_place : ℕ
greatest_place = 4294967295

-- a column would have a greater place, behind this one
abbrev pub too_many_places : ℕ → List Part → Refusal → Type 0
too_many_places last all refusal = (greatest_place < last + length (columns_of all)) × (refusal ≡ CatalogFull greatest_place)
