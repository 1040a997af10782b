-- Names that the columns and constraints of a table need, whether CREATE TABLE makes them or ALTER TABLE adds them, in reading order.
use Rattle.std.specs.Prelude.{List, [], ◌∷◌, ◌++◌, map}
use Rattle.std.specs.List.{Any}
use Rattle.sql_names.specs.NameBytes.{NameBytes}
use Rattle.sql_names.specs.declared.object.Object.{Object}
use Rattle.sql_names.specs.declared.sort.Param.{Param}
use Rattle.sql_tree.specs.declared.table.ColumnType.{ColumnType}
use Rattle.sql_tree.specs.declared.table.ColumnType.TheVariants as bases
use Rattle.sql_tree.specs.declared.table.References.{References}
use Rattle.sql_tree.specs.declared.table.TableConstraintKind.{TableConstraintKind}
use Rattle.sql_tree.specs.declared.table.TableConstraintKind.TheVariants as kinds
use Rattle.cat_items.specs.declared.edit.Refusal.{Refusal}
use Rattle.cat_items.specs.declared.edit.Refusal.TheVariants.{UnknownName}
use Rattle.cat_items.specs.declared.edit.Who.{Who}
use Rattle.cat_items.specs.declared.item.Item.{Item}
use Rattle.cat_items.specs.Reach.{Has}
use Rattle.cat_items.specs.Rights.{path_of, IsDomain}
use Rattle.edit_rules.specs.First.{tests_of}
use Rattle.edit_rules.specs.Names.{object_in}
use Rattle.statement_steps.specs.Resolving.{unresolved_name}
use Rattle.statement_steps.specs.Steps.{where_it_is}
use Rattle.table_parts.specs.declared.parts.Part.{Part}
use Rattle.table_parts.specs.declared.parts.Part.TheVariants as parts
use Rattle.table_names.specs.Given.{target_of, unknown_referenced_table}
use Rattle.table_work.specs.declared.work.Work.{Work}
use Rattle.table_work.specs.Seen.{IsCalled, columns_seen}
use Rattle.table_elements.specs.Conditions.{outcome_of}

-- none of the columns of a table has this name
abbrev pub unknown_among : List Param → Object → NameBytes → Refusal → Type 0
unknown_among columns table name = where_it_is (¬ (Any (IsCalled name) columns)) (UnknownName (table.schema ∷ table.name ∷ name ∷ []))

abbrev pub SeesColumn : List Item → Work → Object → NameBytes → Type 0
SeesColumn c w table name = Any (IsCalled name) (columns_seen c w table)

abbrev pub unknown_column : List Item → Work → Object → NameBytes → Refusal → Type 0
unknown_column c w table name = where_it_is (¬ (SeesColumn c w table name)) (UnknownName (table.schema ∷ table.name ∷ name ∷ []))

abbrev pub unknown_columns : List Item → Work → Object → List NameBytes → List (Refusal → Type 0)
unknown_columns c w table names = map (unknown_column c w table) names

-- the names of REFERENCES: the target, and then its columns
abbrev pub unknown_in_references : List Item → Who → Work → References → List (Refusal → Type 0)
unknown_in_references c who w references = unknown_referenced_table c w.table (target_of who references) ∷ unknown_columns c w (target_of who references) references.columns

-- the names of a constraint: own columns come before a target, a target before its columns
abbrev pub unknown_in_kind : List Item → Who → Work → TableConstraintKind → List (Refusal → Type 0)
unknown_in_kind c who w (kinds.PrimaryKey columns) = unknown_columns c w w.table columns
unknown_in_kind c who w (kinds.Unique columns) = unknown_columns c w w.table columns
unknown_in_kind c who w (kinds.ForeignKey columns references) = unknown_columns c w w.table columns ++ unknown_in_references c who w references
unknown_in_kind c who w (kinds.Check condition) = unresolved_name (outcome_of c who w condition) ∷ []

abbrev pub unknown_domain : List Item → Object → Refusal → Type 0
unknown_domain c domain = where_it_is (¬ (Has c (IsDomain (path_of domain)))) (UnknownName (path_of domain))

-- the domain that a column is based on
abbrev pub unknown_in_base : List Item → Who → ColumnType → List (Refusal → Type 0)
unknown_in_base c who (bases.Type sort) = []
unknown_in_base c who (bases.Domain name) = unknown_domain c (object_in who.schema name) ∷ []

abbrev pub unknown_in_part : List Item → Who → Work → Part → List (Refusal → Type 0)
unknown_in_part c who w (parts.Column d) = unknown_in_base c who d.sort
unknown_in_part c who w (parts.Constraint k) = unknown_in_kind c who w k.kind

abbrev pub unknown_in_parts : List Item → Who → Work → List Part → List (Refusal → Type 0)
unknown_in_parts c who w all = tests_of (unknown_in_part c who w) all
