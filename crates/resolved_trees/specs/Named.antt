-- When the names of a tree are resolved: all of a resolved tree but where its GROUP BY refers to, which is a rule of types.
use Rattle.std.specs.Prelude.{◌≡◌, ◌<◌, List, Some, length}
use Rattle.sql_names.specs.declared.object.Object.{Object}
use Rattle.sql_names.specs.declared.column.Reference.TheVariants as references
use Rattle.sql_names.specs.declared.sort.Param.{Param}
use Rattle.name_scopes.specs.Known.{Known}
use Rattle.cat_items.specs.Pieces.{Piece, IsResolved, of_reference, of_group}

abbrev pub IsNamed : Piece → Type 0
IsNamed (of_group reference) = IsResolved (of_reference reference)
IsNamed piece = IsResolved piece

-- each table and view has a column
abbrev pub HaveColumns : Known → Type 0
HaveColumns k = (o : Object) (columns : List Param) → k.columns o ≡ Some columns → 0 < length columns

-- a GROUP BY refers to the FROM of its own SELECT
abbrev pub IsGrouped : Piece → Type 0
IsGrouped (of_group (references.Cell up at qualifier name)) = Unit {0}
IsGrouped (of_group reference) = ⊥
IsGrouped piece = Unit {0}
