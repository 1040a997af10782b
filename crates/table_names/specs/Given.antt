-- Names that CREATE TABLE gives to constraints, and the table that REFERENCES names.
use Rattle.std.specs.Prelude.{◌≢◌, List, []}
use Rattle.std.specs.List.{flat_map}
use Rattle.std.specs.Option.{option_to_list}
use Rattle.sql_names.specs.NameBytes.{NameBytes}
use Rattle.sql_names.specs.declared.object.Object.{Object}
use Rattle.sql_tree.specs.declared.table.References.{References}
use Rattle.cat_items.specs.declared.edit.Refusal.{Refusal}
use Rattle.cat_items.specs.declared.edit.Who.{Who}
use Rattle.cat_items.specs.declared.item.Item.{Item}
use Rattle.edit_rules.specs.Names.{object_in, unknown_base_table}
use Rattle.table_parts.specs.declared.parts.Part.{Part}
use Rattle.table_parts.specs.declared.parts.Part.TheVariants as parts

-- the names that are given to constraints
abbrev pub given_name : Part → List NameBytes
given_name (parts.Column d) = []
given_name (parts.Constraint k) = option_to_list k.name

abbrev pub given_names : List Part → List NameBytes
given_names all = flat_map given_name all

-- a target that is neither the table that is made nor a base table
abbrev pub unknown_referenced_table : List Item → Object → Object → Refusal → Type 0
unknown_referenced_table c made table refusal = (table ≢ made) × unknown_base_table c table refusal

-- the table that REFERENCES names
abbrev pub target_of : Who → References → Object
target_of who references = object_in who.schema references.table
