-- All constraints together.
use Rattle.std.specs.Prelude.{List}
use Rattle.cat_items.specs.declared.item.Item.{Item}
use Rattle.cat_items.specs.Good.{IsGood}
use Rattle.schema_tables.specs.declared.names.SchemaTable.{SchemaTable}
use Rattle.schema_tables.specs.Cells.{Row}
use Rattle.definition_schema.specs.Constraints.{AllHold}
use Rattle.definition_schema.specs.Definition.{AreDefinitionRows}
use Rattle.definition_schema.proofs.Columns.{columns_hold}
use Rattle.definition_schema.proofs.ConstraintLaws.{constraints_hold}
use Rattle.definition_schema.proofs.Domains.{domains_hold}
use Rattle.definition_schema.proofs.Privileges.{privileges_hold}
use Rattle.definition_schema.proofs.RoleRows.{authorizations_hold, roles_hold}
use Rattle.definition_schema.proofs.Routines.{routines_hold}
use Rattle.definition_schema.proofs.TablesAndViews.{tables_hold}

pub all_hold : (c : List Item) (d : SchemaTable → List Row) → IsGood c → AreDefinitionRows c d → AllHold d
all_hold c d good are = record {
  authorizations = authorizations_hold c good d are;
  roles = roles_hold c good d are;
  tables = tables_hold c good d are;
  columns = columns_hold c good d are;
  domains = domains_hold c good d are;
  constraints = constraints_hold c good d are;
  routines = routines_hold c good d are;
  privileges = privileges_hold c good d are;
}
