-- What differs in CREATE TABLE where no mark comes twice.
use Rattle.std.proofs.Common.{◌≡◌, ◌≢◌, ℕ, suc, List, [], ◌∷◌, map, Option, Some, ap, subst, sym, refl, inl, inr}
use Rattle.std.specs.List.{AllPairs, Contains}
use Rattle.std.proofs.lemmas.List.Elements.{Contains-append_left, Contains-append_right}
use Rattle.finite_chains.proofs.Members.{Contains-nil, Contains-head, Contains-tail, Contains-cases}
use Rattle.sql_tree.specs.declared.table.ColumnDefinition.{ColumnDefinition}
use Rattle.sql_tree.specs.declared.table.References.{References}
use Rattle.sql_tree.specs.declared.table.TableConstraint.{TableConstraint}
use Rattle.sql_tree.specs.declared.table.TableConstraintKind.{TableConstraintKind}
use Rattle.sql_tree.specs.declared.table.TableConstraintKind.TheVariants as kinds
use Rattle.table_parts.specs.declared.marks.Mark.{Mark}
use Rattle.table_parts.specs.declared.marks.Mark.TheVariants as marks
use Rattle.table_parts.specs.declared.parts.Part.{Part}
use Rattle.table_parts.specs.declared.parts.Part.TheVariants as parts
use Rattle.table_parts.specs.Marks.{MarksDiffer, kind_marks, marks_from, marks_in, name_marks, part_marks}
use Rattle.table_parts.specs.Parts.{columns_of, constraints_of}
use Rattle.table_parts.proofs.Pairs.{WithLater, with_later, all_pairs, later_left, later_right, later_across, differ_before}

abbrev Apart : Mark → Mark → Type 0
Apart a b = a ≢ b

-- ---- marks of members

-- a constraint's name is a mark
named_mark : (at : ℕ) (k : TableConstraint) (name : List ℕ) → k.name ≡ Some name → Contains (part_marks at (parts.Constraint k)) (marks.Constraint name)
named_mark at k name e =
    Contains-append_left (name_marks k.name) (kind_marks at k.kind) (marks.Constraint name)
    (subst (λ (o : Option (List ℕ)). Contains (name_marks o) (marks.Constraint name)) (sym e) (Contains-head (marks.Constraint name) []))

pub name_marked : (at : ℕ) (all : List Part) (k : TableConstraint) (name : List ℕ) → Contains (constraints_of all) k → k.name ≡ Some name → Contains (marks_from at all) (marks.Constraint name)
name_marked at [] k name h e = absurd (Contains-nil k h)
name_marked at (parts.Column d ∷ all) k name h e = Contains-append_right (part_marks at (parts.Column d)) (marks_from (suc at) all) (marks.Constraint name) (name_marked (suc at) all k name h e)
name_marked at (parts.Constraint x ∷ all) k name h e =
    elim (Contains-cases x (constraints_of all) k h) [
      | inl is ↦ Contains-append_left (part_marks at (parts.Constraint x)) (marks_from (suc at) all) (marks.Constraint name)
          (subst (λ (y : TableConstraint). Contains (part_marks at (parts.Constraint y)) (marks.Constraint name)) (sym is) (named_mark at k name e))
      | inr more ↦ Contains-append_right (part_marks at (parts.Constraint x)) (marks_from (suc at) all) (marks.Constraint name) (name_marked (suc at) all k name more e)
    ]

-- a column's name is a mark
pub column_marked : (at : ℕ) (all : List Part) (d : ColumnDefinition) → Contains (columns_of all) d → Contains (marks_from at all) (marks.Column d.column)
column_marked at [] d h = absurd (Contains-nil d h)
column_marked at (parts.Column x ∷ all) d h =
    elim (Contains-cases x (columns_of all) d h) [
      | inl is ↦ subst (λ (y : ColumnDefinition). Contains (marks.Column x.column ∷ marks_from (suc at) all) (marks.Column y.column)) is (Contains-head (marks.Column x.column) (marks_from (suc at) all))
      | inr more ↦ Contains-tail (marks.Column x.column) (marks_from (suc at) all) (marks.Column d.column) (column_marked (suc at) all d more)
    ]
column_marked at (parts.Constraint k ∷ all) d h = Contains-append_right (part_marks at (parts.Constraint k)) (marks_from (suc at) all) (marks.Column d.column) (column_marked (suc at) all d h)

-- a PRIMARY KEY
abbrev pub IsPrimary : TableConstraintKind → Type 0
IsPrimary (kinds.PrimaryKey columns) = Unit {0}
IsPrimary kind = ⊥

primary_mark : (at : ℕ) (kind : TableConstraintKind) → IsPrimary kind → Contains (kind_marks at kind) marks.Primary
primary_mark at (kinds.PrimaryKey columns) is = Contains-head marks.Primary (map (marks.Own at) columns)
primary_mark at kind is = absurd is

pub primary_marked : (at : ℕ) (all : List Part) (k : TableConstraint) → Contains (constraints_of all) k → IsPrimary k.kind → Contains (marks_from at all) marks.Primary
primary_marked at [] k h is = absurd (Contains-nil k h)
primary_marked at (parts.Column d ∷ all) k h is = Contains-append_right (part_marks at (parts.Column d)) (marks_from (suc at) all) marks.Primary (primary_marked (suc at) all k h is)
primary_marked at (parts.Constraint x ∷ all) k h is =
    elim (Contains-cases x (constraints_of all) k h) [
      | inl e ↦ Contains-append_left (part_marks at (parts.Constraint x)) (marks_from (suc at) all) marks.Primary
          (Contains-append_right (name_marks x.name) (kind_marks at x.kind) marks.Primary (primary_mark at x.kind (subst (λ (y : TableConstraint). IsPrimary y.kind) (sym e) is)))
      | inr more ↦ Contains-append_right (part_marks at (parts.Constraint x)) (marks_from (suc at) all) marks.Primary (primary_marked (suc at) all k more is)
    ]

-- ---- names that differ

abbrev pub HaveOtherNames : TableConstraint → TableConstraint → Type 0
HaveOtherNames k m = (name : List ℕ) → k.name ≡ Some name → m.name ≡ Some name → ⊥

other_names : (at : ℕ) (all : List Part) → WithLater Apart (marks_from at all) → WithLater HaveOtherNames (constraints_of all)
other_names at [] later = tt
other_names at (parts.Column d ∷ all) later = other_names (suc at) all (later_right Apart (part_marks at (parts.Column d)) (marks_from (suc at) all) later)
other_names at (parts.Constraint k ∷ all) later = (
  λ m h name e f. later_across Apart (part_marks at (parts.Constraint k)) (marks_from (suc at) all) (marks.Constraint name) (marks.Constraint name) later
      (named_mark at k name e) (name_marked (suc at) all m name h f) refl,
  other_names (suc at) all (later_right Apart (part_marks at (parts.Constraint k)) (marks_from (suc at) all) later),
)

-- no two constraints are given one name
pub constraint_names : (all : List Part) → MarksDiffer (marks_in all) → AllPairs HaveOtherNames (constraints_of all)
constraint_names all differ = all_pairs HaveOtherNames (constraints_of all) (other_names 0 all (with_later Apart (marks_in all) differ))

abbrev pub AreOtherColumns : ColumnDefinition → ColumnDefinition → Type 0
AreOtherColumns a b = a.column ≢ b.column

other_columns : (at : ℕ) (all : List Part) → WithLater Apart (marks_from at all) → WithLater AreOtherColumns (columns_of all)
other_columns at [] later = tt
other_columns at (parts.Column d ∷ all) later = (λ x h e. later.0 (marks.Column x.column) (column_marked (suc at) all x h) (ap marks.Column e), other_columns (suc at) all later.1)
other_columns at (parts.Constraint k ∷ all) later = other_columns (suc at) all (later_right Apart (part_marks at (parts.Constraint k)) (marks_from (suc at) all) later)

-- no two columns have one name
pub column_names : (all : List Part) → MarksDiffer (marks_in all) → AllPairs AreOtherColumns (columns_of all)
column_names all differ = all_pairs AreOtherColumns (columns_of all) (other_columns 0 all (with_later Apart (marks_in all) differ))

-- ---- one PRIMARY KEY

abbrev pub AreNotBothPrimary : TableConstraint → TableConstraint → Type 0
AreNotBothPrimary k m = IsPrimary k.kind → IsPrimary m.kind → ⊥

not_both : (at : ℕ) (all : List Part) → WithLater Apart (marks_from at all) → WithLater AreNotBothPrimary (constraints_of all)
not_both at [] later = tt
not_both at (parts.Column d ∷ all) later = not_both (suc at) all (later_right Apart (part_marks at (parts.Column d)) (marks_from (suc at) all) later)
not_both at (parts.Constraint k ∷ all) later = (
  λ m h one two. later_across Apart (part_marks at (parts.Constraint k)) (marks_from (suc at) all) marks.Primary marks.Primary later
      (Contains-append_right (name_marks k.name) (kind_marks at k.kind) marks.Primary (primary_mark at k.kind one)) (primary_marked (suc at) all m h two) refl,
  not_both (suc at) all (later_right Apart (part_marks at (parts.Constraint k)) (marks_from (suc at) all) later),
)

pub one_primary : (all : List Part) → MarksDiffer (marks_in all) → AllPairs AreNotBothPrimary (constraints_of all)
one_primary all differ = all_pairs AreNotBothPrimary (constraints_of all) (not_both 0 all (with_later Apart (marks_in all) differ))

-- ---- lists of columns

-- the marks of a constraint at some place differ
kind_apart : (at : ℕ) (all : List Part) (k : TableConstraint) → WithLater Apart (marks_from at all) → Contains (constraints_of all) k → (place : ℕ) × WithLater Apart (kind_marks place k.kind)
kind_apart at [] k later h = absurd (Contains-nil k h)
kind_apart at (parts.Column d ∷ all) k later h = kind_apart (suc at) all k (later_right Apart (part_marks at (parts.Column d)) (marks_from (suc at) all) later) h
kind_apart at (parts.Constraint x ∷ all) k later h =
    elim (Contains-cases x (constraints_of all) k h) [
      | inl e ↦ (
        at,
        subst (λ (y : TableConstraint). WithLater Apart (kind_marks at y.kind)) e
            (later_right Apart (name_marks x.name) (kind_marks at x.kind) (later_left Apart (part_marks at (parts.Constraint x)) (marks_from (suc at) all) later)),
      )
      | inr more ↦ kind_apart (suc at) all k (later_right Apart (part_marks at (parts.Constraint x)) (marks_from (suc at) all) later) more
    ]

abbrev pub own_list : TableConstraintKind → List (List ℕ)
own_list (kinds.PrimaryKey columns) = columns
own_list (kinds.Unique columns) = columns
own_list (kinds.ForeignKey columns references) = columns
own_list (kinds.Check condition) = []

own_apart : (place : ℕ) (kind : TableConstraintKind) → WithLater Apart (kind_marks place kind) → WithLater (λ a b. a ≢ b) (own_list kind)
own_apart place (kinds.PrimaryKey columns) later = differ_before (marks.Own place) columns later.1
own_apart place (kinds.Unique columns) later = differ_before (marks.Own place) columns later
own_apart place (kinds.ForeignKey columns references) later = differ_before (marks.Own place) columns (later_left Apart (map (marks.Own place) columns) (map (marks.Target place) references.columns) later)
own_apart place (kinds.Check condition) later = tt

-- the own columns of a constraint differ
pub own_columns : (all : List Part) (k : TableConstraint) → MarksDiffer (marks_in all) → Contains (constraints_of all) k → AllPairs (λ a b. a ≢ b) (own_list k.kind)
own_columns all k differ h =
    let here = kind_apart 0 all k (with_later Apart (marks_in all) differ) h in
    all_pairs (λ a b. a ≢ b) (own_list k.kind) (own_apart here.0 k.kind here.1)

target_apart : (place : ℕ) (columns : List (List ℕ)) (references : References) → WithLater Apart (kind_marks place (kinds.ForeignKey columns references)) → WithLater (λ a b. a ≢ b) references.columns
target_apart place columns references later =
    differ_before (marks.Target place) references.columns (later_right Apart (map (marks.Own place) columns) (map (marks.Target place) references.columns) later)

-- the columns that REFERENCES names differ
pub target_columns : (all : List Part) (k : TableConstraint) (columns : List (List ℕ)) (references : References) → MarksDiffer (marks_in all) → Contains (constraints_of all) k → k.kind ≡ kinds.ForeignKey columns references
    → AllPairs (λ a b. a ≢ b) references.columns
target_columns all k columns references differ h e =
    let here = kind_apart 0 all k (with_later Apart (marks_in all) differ) h in
    all_pairs (λ a b. a ≢ b) references.columns (target_apart here.0 columns references (subst (λ (kind : TableConstraintKind). WithLater Apart (kind_marks here.0 kind)) e here.1))
