-- What the grammar gives of the parts of CREATE TABLE beyond their types.
use Rattle.std.specs.Prelude.{◌<◌, List, length}
use Rattle.std.specs.List.{Contains}
use Rattle.sql_tree.specs.declared.table.ColumnType.{ColumnType}
use Rattle.sql_tree.specs.declared.table.ColumnType.TheVariants as bases
use Rattle.sql_tree.specs.declared.table.TableConstraintKind.{TableConstraintKind}
use Rattle.sql_tree.specs.declared.table.TableConstraintKind.TheVariants as kinds
use Rattle.sql_tree.specs.declared.table.TableElement.{TableElement}
use Rattle.cat_items.specs.Pieces.{AreResolved, IsType, default_pieces}
use Rattle.table_parts.specs.declared.parts.Part.{Part}
use Rattle.table_parts.specs.declared.parts.Part.TheVariants as parts
use Rattle.table_parts.specs.Columns.{default_in}
use Rattle.table_parts.specs.Parts.{parts_in}

-- the numbers of a data type are in their ranges
abbrev pub HasProperSort : ColumnType → Type 0
HasProperSort (bases.Type sort) = IsType sort
HasProperSort (bases.Domain name) = Unit {0}

-- a list of columns has one
abbrev pub HasProperColumns : TableConstraintKind → Type 0
HasProperColumns (kinds.PrimaryKey columns) = 0 < length columns
HasProperColumns (kinds.Unique columns) = 0 < length columns
HasProperColumns (kinds.ForeignKey columns references) = 0 < length columns
HasProperColumns (kinds.Check condition) = Unit {0}

-- so are its type and its default, or its list of columns
abbrev pub IsProperPart : Part → Type 0
IsProperPart (parts.Column d) = HasProperSort d.sort × AreResolved (default_pieces (default_in d.options))
IsProperPart (parts.Constraint k) = HasProperColumns k.kind

abbrev pub HasTableForms : List TableElement → Type 0
HasTableForms elements = (part : Part) → Contains (parts_in elements) part → IsProperPart part
