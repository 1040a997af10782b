-- Refusals of CREATE TABLE by names that come twice or are taken.
use Rattle.std.specs.Prelude.{◌≡◌, List, [], ◌∷◌, map}
use Rattle.sql_names.specs.NameBytes.{NameBytes, PathNames}
use Rattle.sql_names.specs.declared.object.Object.{Object}
use Rattle.cat_items.specs.declared.edit.Refusal.{Refusal}
use Rattle.cat_items.specs.declared.edit.Refusal.TheVariants.{Repeated}
use Rattle.cat_items.specs.declared.item.Item.{Item}
use Rattle.cat_items.specs.Rights.{path_of}
use Rattle.edit_rules.specs.Names.{constraint_exists, table_exists}
use Rattle.table_parts.specs.declared.marks.Mark.{Mark}
use Rattle.table_parts.specs.declared.marks.Mark.TheVariants as marks
use Rattle.table_parts.specs.declared.parts.Part.{Part}
use Rattle.table_parts.specs.Marks.{IsRepeated, marks_in}
use Rattle.table_names.specs.Given.{given_names}

-- what is told of something that comes twice: its name, and of a second PRIMARY KEY the table
abbrev pub told : Object → Mark → PathNames
told made (marks.Column name) = name ∷ []
told made (marks.Constraint name) = name ∷ []
told made marks.Primary = path_of made
told made (marks.Own at name) = name ∷ []
told made (marks.Target at name) = name ∷ []

abbrev pub repeated_name : Object → List Part → Refusal → Type 0
repeated_name made parts refusal = (mark : Mark) × IsRepeated (marks_in parts) mark × (refusal ≡ Repeated (told made mark))

-- a constraint or an assertion of the schema has the name
abbrev pub exists_in : List Item → NameBytes → NameBytes → Refusal → Type 0
exists_in c schema name = constraint_exists c (record { schema = schema; name = name })

-- taken names: the table, and then its constraints
abbrev pub taken_names : List Item → Object → List Part → List (Refusal → Type 0)
taken_names c made parts = table_exists c made ∷ map (exists_in c made.schema) (given_names parts)
