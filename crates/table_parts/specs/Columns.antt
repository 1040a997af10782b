-- What a column's definition and the constraints say of a column.
use Rattle.std.specs.Prelude.{◌⊎◌, List, [], ◌∷◌, Option, None, Some}
use Rattle.std.specs.List.{Any, Contains}
use Rattle.sql_names.specs.NameBytes.{NameBytes}
use Rattle.sql_names.specs.declared.sort.Default.{Default}
use Rattle.sql_tree.specs.declared.table.ColumnDefinition.{ColumnDefinition}
use Rattle.sql_tree.specs.declared.table.ColumnOption.{ColumnOption}
use Rattle.sql_tree.specs.declared.table.ColumnOption.TheVariants.{Default as DefaultOption, NotNull}
use Rattle.sql_tree.specs.declared.table.TableConstraintKind.{TableConstraintKind}
use Rattle.sql_tree.specs.declared.table.TableConstraintKind.TheVariants.{PrimaryKey}
use Rattle.table_parts.specs.declared.parts.Part.{Part}
use Rattle.table_parts.specs.declared.parts.Part.TheVariants.{Constraint}

-- the DEFAULT among a column's options
abbrev pub default_in : List ColumnOption → Option Default
default_in [] = None
default_in (DefaultOption default ∷ options) = Some default
default_in (option ∷ options) = default_in options

abbrev pub IsPrimaryOf : NameBytes → TableConstraintKind → Type 0
IsPrimaryOf name (PrimaryKey columns) = Contains columns name
IsPrimaryOf name kind = ⊥

-- a PRIMARY KEY with this column
abbrev pub IsPrimaryWith : NameBytes → Part → Type 0
IsPrimaryWith name (Constraint k) = IsPrimaryOf name k.kind
IsPrimaryWith name part = ⊥

-- NOT NULL is written, or the column is in a PRIMARY KEY
abbrev pub IsNotNull : List Part → ColumnDefinition → Type 0
IsNotNull parts c = Contains c.options NotNull ⊎ Any (IsPrimaryWith c.column) parts
