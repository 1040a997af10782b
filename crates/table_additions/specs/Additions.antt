-- ALTER TABLE ADD of a column and of a constraint: the refusals in order, and what is added (SQL:2003 part 2, 11.11 and 11.19).
use Rattle.std.specs.Prelude.{◌≡◌, ◌⊎◌, ◌+◌, ℕ, max, true, false, if◌then◌else◌, List, [], ◌∷◌, ◌++◌, map, None, Some}
use Rattle.std.specs.List.{Any, Contains}
use Rattle.sql_names.specs.NameBytes.{NameBytes}
use Rattle.sql_names.specs.declared.object.Object.{Object}
use Rattle.sql_tree.specs.declared.rights.Action.{Action}
use Rattle.sql_tree.specs.declared.rights.Action.TheVariants.{Select, Insert, Update, References}
use Rattle.cat_items.specs.declared.edit.Edit.{Edit}
use Rattle.cat_items.specs.declared.edit.Refusal.{Refusal}
use Rattle.cat_items.specs.declared.edit.Refusal.TheVariants.{NameExists, Repeated}
use Rattle.cat_items.specs.declared.edit.Who.{Who}
use Rattle.cat_items.specs.declared.item.Column.{Column}
use Rattle.cat_items.specs.declared.item.Item.{Item}
use Rattle.cat_items.specs.declared.item.Item.TheVariants as item
use Rattle.cat_items.specs.declared.item.Key.{Key}
use Rattle.cat_items.specs.declared.item.Right.{Right}
use Rattle.cat_items.specs.declared.need.Need.{Need}
use Rattle.cat_items.specs.Reach.{Has}
use Rattle.cat_items.specs.Rights.{path_of, IsColumn}
use Rattle.edit_rules.specs.First.{First, tests_of}
use Rattle.edit_rules.specs.Names.{unknown_base_table}
use Rattle.name_scopes.specs.Known.{same_object}
use Rattle.table_parts.specs.declared.parts.Part.{Part}
use Rattle.table_parts.specs.declared.parts.Part.TheVariants as parts
use Rattle.table_parts.specs.Columns.{IsPrimaryWith}
use Rattle.table_parts.specs.Parts.{columns_of}
use Rattle.table_names.specs.declared.named.NamedConstraint.{NamedConstraint}
use Rattle.table_names.specs.Given.{given_names}
use Rattle.table_names.specs.Named.{AreConstraints, for_constraints}
use Rattle.table_names.specs.Refusals.{exists_in, repeated_name}
use Rattle.table_work.specs.declared.work.Work.{Work}
use Rattle.table_work.specs.Columns.{columns_described, columns_from}
use Rattle.table_work.specs.Keys.{own_keys}
use Rattle.table_work.specs.Seen.{columns_in, keys_in}
use Rattle.table_needs.specs.Needs.{IsNeeded}
use Rattle.table_types.specs.Types.{too_many_places}
use Rattle.table_elements.specs.Names.{unknown_in_parts}
use Rattle.table_constraints.specs.Made.{IsConstraintMade}
use Rattle.table_constraints.specs.Rules.{no_such_key, type_mismatch}
use Rattle.statement_steps.specs.Steps.{MakesEdit, Nothing, Steps, where_it_is}

-- ---- columns

-- the place of a column of the table
abbrev pub place_here : Object → Item → ℕ
place_here table (item.Column x) = if same_object x.table table then x.place else 0
place_here table x = 0

-- the greatest place of a column of the table
abbrev pub last_place : List Item → Object → ℕ
last_place [] table = 0
last_place (x ∷ c) table = max (place_here table x) (last_place c table)

-- the columns that are added: one, or none where a constraint is added
abbrev pub added_columns : List Item → Who → Object → List Part → List Column
added_columns c who table all = columns_from c who table all (last_place c table + 1) (columns_of all)

-- the statement sees the columns that stand and the new one, and of keys those that stand
abbrev pub added_work : List Item → Who → Object → List Part → Work
added_work c who table all = record { table = table; columns = columns_in c table ++ columns_described c who all; keys = keys_in c table }

-- a column of the table that comes into a PRIMARY KEY and isn't NOT NULL yet
abbrev pub BecomesNotNull : Object → List Part → Column → Type 0
BecomesNotNull table all x = (x.table ≡ table) × Any (IsPrimaryWith x.name) all × (x.not_null ≡ false)

abbrev pub IsMadeNotNull : Object → List Part → Item → Type 0
IsMadeNotNull table all (item.Column x) = BecomesNotNull table all x
IsMadeNotNull table all x = ⊥

-- such a column with NOT NULL, and else as it was
abbrev pub IsNowNotNull : List Item → Object → List Part → Column → Type 0
IsNowNotNull c table all x = (old : Column) × Contains c (item.Column old) × BecomesNotNull table all old × (x ≡ record old { not_null = true })

-- ---- names that are taken

-- a column of the table has the name
abbrev pub column_exists : List Item → Object → NameBytes → Refusal → Type 0
column_exists c table name = where_it_is (Has c (IsColumn (path_of table) name)) (NameExists (table.schema ∷ table.name ∷ name ∷ []))

abbrev pub column_taken : List Item → Object → Part → List (Refusal → Type 0)
column_taken c table (parts.Column d) = column_exists c table d.column ∷ []
column_taken c table (parts.Constraint k) = []

-- ---- types, keys and places

abbrev pub IsPrimaryKey : Key → Type 0
IsPrimaryKey k = k.primary ≡ true

-- a PRIMARY KEY is added where there is one
abbrev pub second_primary : Object → List NamedConstraint → List Key → Refusal → Type 0
second_primary table named keys = where_it_is (Any IsPrimaryKey (own_keys table named) × Any IsPrimaryKey keys) (Repeated (path_of table))

abbrev pub addition_rules : List Item → Who → Object → List Part → List NamedConstraint → List (Refusal → Type 0)
addition_rules c who table all named =
    type_mismatch c who (added_work c who table all) all named
    ∷ no_such_key c who (added_work c who table all) named
    ∷ second_primary table named (keys_in c table)
    ∷ too_many_places (last_place c table) all
    ∷ []

-- ---- rights

-- the actions that may be granted on single columns
abbrev pub IsColumnAction : Action → Type 0
IsColumnAction Select = Unit {0}
IsColumnAction Insert = Unit {0}
IsColumnAction Update = Unit {0}
IsColumnAction References = Unit {0}
IsColumnAction action = ⊥

abbrev pub IsOnColumn : Object → NameBytes → Need → Type 0
IsOnColumn table name need = IsColumnAction need.action × (need.on ≡ path_of table) × (need.column ≡ Some name)

-- the same right on the whole table
abbrev pub on_whole : Right → Right
on_whole r = record { need = record { action = r.need.action; on = r.need.on; column = None }; grantor = r.grantor; grantee = r.grantee }

-- a right on a column, held or with grant option, where the same stands on the whole table
abbrev pub IsRightAsOnTable : List Item → Object → NameBytes → Item → Type 0
IsRightAsOnTable c table name (item.Held r) = IsOnColumn table name r.need × Contains c (item.Held (on_whole r))
IsRightAsOnTable c table name (item.Grantable r) = IsOnColumn table name r.need × Contains c (item.Grantable (on_whole r))
IsRightAsOnTable c table name x = ⊥

-- the same on the column of a part
abbrev pub IsRightOfPart : List Item → Object → Item → Part → Type 0
IsRightOfPart c table x (parts.Column d) = IsRightAsOnTable c table d.column x
IsRightOfPart c table x (parts.Constraint k) = ⊥

-- ---- the statement

-- the column, the columns that are put back with NOT NULL, the rights on the column, and the constraints
abbrev pub IsAdded : List Item → Who → Object → List Part → List NamedConstraint → Item → Type 0
IsAdded c who table all named (item.Column x) = Contains (added_columns c who table all) x ⊎ IsNowNotNull c table all x
IsAdded c who table all named (item.Held r) = Any (IsRightOfPart c table (item.Held r)) all
IsAdded c who table all named (item.Grantable r) = Any (IsRightOfPart c table (item.Grantable r)) all
IsAdded c who table all named x = IsConstraintMade c who (added_work c who table all) named x

abbrev pub IsNeededBy : List Item → Who → Object → List Part → List NamedConstraint → Need → Type 0
IsNeededBy c who table all named need = IsNeeded who table all (IsConstraintMade c who (added_work c who table all) named) need

abbrev pub AddsParts : List Item → Who → Object → List Part → List NamedConstraint → Edit → Type 0
AddsParts c who table all named edit = MakesEdit c (IsMadeNotNull table all) Nothing (IsAdded c who table all named) edit

abbrev pub steps_of_parts : List Item → Who → Object → List Part → Steps
steps_of_parts c who table all = record {
  by_tree = repeated_name table all ∷ [];
  names = unknown_base_table c table ∷ unknown_in_parts c who (added_work c who table all) all;
  schema = table.schema;
  taken = tests_of (column_taken c table) all ++ map (exists_in c table.schema) (given_names all);
  rules = for_constraints c table all (λ named. First (addition_rules c who table all named)) ∷ [];
  needs = λ need. (named : List NamedConstraint) × AreConstraints c table all named × IsNeededBy c who table all named need;
  edit = λ edit. (named : List NamedConstraint) × AreConstraints c table all named × AddsParts c who table all named edit;
}
