use Rattle.definition_schema.proofs.DefinitionTables.{all_names, definition}
use Rattle.definition_schema.proofs.rows.tables.Goals as goal

pub tables_of-requires : goal.tables_of-requires
tables_of-requires c = all_names

pub returns : goal.returns
returns c = definition c.args.c.now.items c.in_ok-tables.tables.items c.in_ok-tables.ensures
