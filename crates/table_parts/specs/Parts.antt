-- The columns and constraints of CREATE TABLE in reading order (table definition, SQL:2003 part 2, 11.3).
use Rattle.std.specs.Prelude.{◌≡◌, List, [], ◌∷◌}
use Rattle.std.specs.List.{flat_map}
use Rattle.sql_names.specs.NameBytes.{NameBytes}
use Rattle.sql_tree.specs.declared.table.ColumnConstraint.{ColumnConstraint}
use Rattle.sql_tree.specs.declared.table.ColumnConstraint.TheVariants as own
use Rattle.sql_tree.specs.declared.table.ColumnDefinition.{ColumnDefinition}
use Rattle.sql_tree.specs.declared.table.ColumnOption.{ColumnOption}
use Rattle.sql_tree.specs.declared.table.ColumnOption.TheVariants as options
use Rattle.sql_tree.specs.declared.table.TableConstraint.{TableConstraint}
use Rattle.sql_tree.specs.declared.table.TableConstraintKind.{TableConstraintKind}
use Rattle.sql_tree.specs.declared.table.TableConstraintKind.TheVariants as kinds
use Rattle.sql_tree.specs.declared.table.TableElement.{TableElement}
use Rattle.sql_tree.specs.declared.table.TableElement.TheVariants as elements
use Rattle.table_parts.specs.declared.parts.Part.{Part}
use Rattle.table_parts.specs.declared.parts.Part.TheVariants as parts

-- a constraint of one column, as a constraint of the table
abbrev pub own_kind : NameBytes → ColumnConstraint → TableConstraintKind
own_kind column own.PrimaryKey = kinds.PrimaryKey (column ∷ [])
own_kind column own.Unique = kinds.Unique (column ∷ [])
own_kind column (own.References references) = kinds.ForeignKey (column ∷ []) references
own_kind column (own.Check condition) = kinds.Check condition

-- the constraint that stands among a column's options
abbrev pub option_parts : NameBytes → ColumnOption → List Part
option_parts column (options.Constraint name constraint) = parts.Constraint (record { name = name; kind = own_kind column constraint }) ∷ []
option_parts column option = []

-- a column comes before its constraints
abbrev pub column_parts : ColumnDefinition → List Part
column_parts c = parts.Column c ∷ flat_map (option_parts c.column) c.options

abbrev pub element_parts : TableElement → List Part
element_parts (elements.Column c) = column_parts c
element_parts (elements.Constraint k) = parts.Constraint k ∷ []

abbrev pub parts_in : List TableElement → List Part
parts_in elements = flat_map element_parts elements

-- the constraints alone
abbrev pub constraint_of : Part → List TableConstraint
constraint_of (parts.Column c) = []
constraint_of (parts.Constraint k) = k ∷ []

abbrev pub constraints_of : List Part → List TableConstraint
constraints_of all = flat_map constraint_of all

-- the columns alone
abbrev pub column_of : Part → List ColumnDefinition
column_of (parts.Column c) = c ∷ []
column_of (parts.Constraint k) = []

abbrev pub columns_of : List Part → List ColumnDefinition
columns_of all = flat_map column_of all

-- the column of this name
abbrev pub DefinesColumn : NameBytes → Part → Type 0
DefinesColumn name (parts.Column c) = c.column ≡ name
DefinesColumn name (parts.Constraint k) = ⊥
