-- What may not come twice in CREATE TABLE: a column, a constraint's name, a name in a list of columns, and PRIMARY KEY.
use Rattle.std.specs.Prelude.{◌≡◌, ◌≢◌, ℕ, suc, List, [], ◌∷◌, ◌++◌, map, Option, None, Some}
use Rattle.std.specs.List.{AllPairs, Contains}
use Rattle.sql_names.specs.NameBytes.{NameBytes}
use Rattle.sql_tree.specs.declared.table.TableConstraintKind.{TableConstraintKind}
use Rattle.sql_tree.specs.declared.table.TableConstraintKind.TheVariants as kinds
use Rattle.table_parts.specs.declared.marks.Mark.{Mark}
use Rattle.table_parts.specs.declared.marks.Mark.TheVariants as marks
use Rattle.table_parts.specs.declared.parts.Part.{Part}
use Rattle.table_parts.specs.declared.parts.Part.TheVariants as parts

-- a constraint's name stands before what it says
abbrev pub name_marks : Option NameBytes → List Mark
name_marks None = []
name_marks (Some name) = marks.Constraint name ∷ []

-- the own columns of the part at this place, and those of its target
abbrev pub kind_marks : ℕ → TableConstraintKind → List Mark
kind_marks at (kinds.PrimaryKey columns) = marks.Primary ∷ map (marks.Own at) columns
kind_marks at (kinds.Unique columns) = map (marks.Own at) columns
kind_marks at (kinds.ForeignKey columns references) = map (marks.Own at) columns ++ map (marks.Target at) references.columns
kind_marks at (kinds.Check condition) = []

abbrev pub part_marks : ℕ → Part → List Mark
part_marks at (parts.Column c) = marks.Column c.column ∷ []
part_marks at (parts.Constraint k) = name_marks k.name ++ kind_marks at k.kind

-- the marks of parts, of which the first has this place
abbrev pub marks_from : ℕ → List Part → List Mark
marks_from at [] = []
marks_from at (part ∷ others) = part_marks at part ++ marks_from (suc at) others

abbrev pub marks_in : List Part → List Mark
marks_in all = marks_from 0 all

abbrev pub MarksDiffer : List Mark → Type 0
MarksDiffer all = AllPairs (λ a b. a ≢ b) all

-- the first mark that equals an earlier one
pub record IsRepeated (all : List Mark) (mark : Mark) : Type 0 where
  pub before : List Mark
  pub after : List Mark
  pub parts : all ≡ before ++ mark ∷ after
  pub differ : MarksDiffer before
  pub again : Contains before mark
