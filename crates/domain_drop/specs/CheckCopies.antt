-- Copies of a domain's checks for the columns that outlive it: each is a CHECK of the column's table, with the column in each place of VALUE, and is made
-- where the owner of the table has all privileges that it needs (SQL:2003 part 2, 11.30 and 11.9).
use Rattle.std.specs.Prelude.{◌≡◌, ◌⊎◌, false, List, [], ◌∷◌, ◌++◌, Some, flat_map}
use Rattle.std.specs.List.{Any, Contains}
use Rattle.sql_names.specs.NameBytes.{NameBytes}
use Rattle.sql_names.specs.declared.object.Object.{Object}
use Rattle.sql_tree.specs.declared.expr.Expr.{Expr}
use Rattle.cat_items.specs.declared.item.Check.{Check}
use Rattle.cat_items.specs.declared.item.Column.{Column}
use Rattle.cat_items.specs.declared.item.DomainCheck.{DomainCheck}
use Rattle.cat_items.specs.declared.item.Item.{Item}
use Rattle.cat_items.specs.declared.item.Item.TheVariants as item
use Rattle.cat_items.specs.declared.need.Auth.TheVariants.{Named}
use Rattle.cat_items.specs.declared.need.Need.{Need}
use Rattle.cat_items.specs.Needs.{AreNeeds, NeededByCondition}
use Rattle.cat_items.specs.Reach.{Has}
use Rattle.cat_items.specs.Rights.{Met}
use Rattle.cat_items.specs.Shape.{AreOwnColumns}
use Rattle.edit_rules.specs.Names.{IsConstraint}
use Rattle.table_names.specs.Named.{IsSystemName}
use Rattle.value_columns.specs.Replaced.{with_column}

-- ---- what is copied

-- a column and a check of a domain
pub record Pair : Type 0 where
  pub column : Column
  pub check : DomainCheck

abbrev pub IsDomainCheck : Item → Type 0
IsDomainCheck (item.DomainCheck d) = Unit {0}
IsDomainCheck x = ⊥

abbrev pub pairs_with : Column → Item → List Pair
pairs_with x (item.DomainCheck d) = record { column = x; check = d } ∷ []
pairs_with x y = []

abbrev pub pairs_here : List Item → Item → List Pair
pairs_here checks (item.Column x) = flat_map (pairs_with x) checks
pairs_here checks y = []

-- for columns in their order, each check in their order
abbrev pub pairs_of : List Item → List Item → List Pair
pairs_of columns checks = flat_map (pairs_here checks) columns

-- the check with the column in each place of VALUE
abbrev pub condition_of : Pair → Expr
condition_of p = with_column p.column.table p.column.name p.check.cond

-- the schema of the table, whose owner has each privilege that the copy needs
abbrev pub IsMeeting : List Item → Pair → Item → Type 0
IsMeeting c p (item.Schema s) = (s.name ≡ p.column.table.schema) × ((need : Need) → NeededByCondition (condition_of p) need → Met false c (Named s.owner) need)
IsMeeting c p x = ⊥

-- a check of the column's own domain whose copy can be made
abbrev pub IsToCopy : List Item → Pair → Type 0
IsToCopy c p = (p.column.domain ≡ Some p.check.domain) × Has c (IsMeeting c p)

-- ---- copies

abbrev pub IsCalled : Object → Check → Type 0
IsCalled name x = x.name ≡ name

-- a name that no constraint of the schema has, and none of these
abbrev pub IsFreeName : List Item → List Check → NameBytes → NameBytes → Type 0
IsFreeName c before schema name = (¬ (Has c (IsConstraint (record { schema = schema; name = name })))) × (¬ (Any (IsCalled (record { schema = schema; name = name })) before))

-- the copy behind those, with the first free name of the system
pub record IsCopy (c : List Item) (before : List Check) (p : Pair) (x : Check) : Type 0 where
  pub schema : x.name.schema ≡ p.column.table.schema
  pub name : IsSystemName (IsFreeName c before p.column.table.schema) x.name.name
  pub table : x.table ≡ p.column.table
  pub condition : x.cond ≡ condition_of p
  pub columns : AreOwnColumns x.table x.cond x.columns
  pub needs : AreNeeds x.needs (NeededByCondition x.cond)

-- the copies that can be made, behind those; one that can't takes no name
abbrev pub AreCopies : List Item → List Check → List Pair → List Check → Type 0
AreCopies c before [] copies = copies ≡ []
AreCopies c before (p ∷ ps) copies =
    (IsToCopy c p × ((x : Check) × (others : List Check) × (copies ≡ x ∷ others) × IsCopy c before p x × AreCopies c (before ++ x ∷ []) ps others))
    ⊎ ((¬ (IsToCopy c p)) × AreCopies c before ps copies)

-- no two have one name
abbrev pub HaveOwnNames : List Check → Type 0
HaveOwnNames copies = (x y : Check) → Contains copies x → Contains copies y → x.name ≡ y.name → x ≡ y

-- a check of this condition, behind those, for a column
pub record IsMade (c : List Item) (before : List Check) (column : Column) (cond : Expr) (asked : List Need) (x : Check) : Type 0 where
  pub schema : x.name.schema ≡ column.table.schema
  pub name : IsSystemName (IsFreeName c before column.table.schema) x.name.name
  pub table : x.table ≡ column.table
  pub condition : x.cond ≡ cond
  pub columns : AreOwnColumns x.table x.cond x.columns
  pub needs : x.needs ≡ asked

-- these are made behind those
abbrev pub AddsCopies : List Item → List Pair → List Check → List Check → Type 0
AddsCopies c ps old new = (more : List Check) × (new ≡ old ++ more) × AreCopies c old ps more
