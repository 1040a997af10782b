-- All that is asked of constraints.
use Rattle.std.specs.Prelude.{List}
use Rattle.cat_items.specs.declared.item.Item.{Item}
use Rattle.cat_items.specs.Good.{IsGood}
use Rattle.schema_tables.specs.declared.names.SchemaTable.{SchemaTable}
use Rattle.schema_tables.specs.Cells.{Row}
use Rattle.definition_schema.specs.Constraints.{ConstraintsHold}
use Rattle.definition_schema.specs.Definition.{AreDefinitionRows}
use Rattle.definition_schema.proofs.Checks as checks
use Rattle.definition_schema.proofs.ForeignKeys as keys
use Rattle.definition_schema.proofs.KeyColumns.{each_key_column_stands}
use Rattle.definition_schema.proofs.TableConstraints as tables

pub constraints_hold : (c : List Item) → IsGood c → (d : SchemaTable → List Row) → AreDefinitionRows c d → ConstraintsHold d
constraints_hold c good d are = record {
  table_constraint_names_differ = tables.table_names c good d are;
  domain_constraint_names_differ = checks.domain_names c good d are;
  assertion_names_differ = checks.assertion_names c good d are;
  no_table_constraint_is_of_a_domain = checks.table_domain c good d are;
  no_table_constraint_is_an_assertion = checks.table_assertion c good d are;
  no_domain_constraint_is_an_assertion = checks.domain_assertion c good d are;
  constrained_tables_are_base_tables = tables.constraint_tables c good d are;
  a_table_has_one_primary_key = tables.primary_keys c good d are;
  key_columns_stand = each_key_column_stands c good d are;
  only_keys_have_key_columns = keys.key_tables c good d are;
  key_columns_have_positions = keys.key_positions c good d are;
  each_key_has_key_columns = keys.keys_have_columns c good d are;
  foreign_key_names_differ = keys.foreign_key c good d are;
  foreign_keys_are_constraints = keys.foreign c good d are;
  constraints_of_type_foreign_key_are_foreign_keys = keys.all_foreign c good d are;
  foreign_keys_name_unique_constraints = keys.unique c good d are;
  foreign_keys_have_as_many_columns = keys.as_many c good d are;
  check_names_differ = checks.check_key c good d are;
  each_check_is_a_constraint = checks.checks c good d are;
  table_checks_are_checks = checks.table_checks c good d are;
  assertions_are_checks = checks.assertion_checks c good d are;
}
