-- The text of the tables that were made is that of the Definition Schema.
use Rattle.std.proofs.Common.{◌≡◌, sym, ap, ◌∙◌, ℕ, List, flat_map}
use Rattle.std.proofs.lemmas.List.Folds.{flat_map-map}
use Rattle.cat_items.specs.declared.item.Item.{Item}
use Rattle.schema_tables.specs.declared.names.SchemaTable.{SchemaTable}
use Rattle.schema_tables.specs.Cells.{Row}
use Rattle.definition_schema.specs.declared.rows.DefTable.{DefTable}
use Rattle.definition_schema.specs.Tables.{IsDefinition, definition_names}
use Rattle.printed_tables.specs.TableTexts.{definition_text, table_text, tables_text}
use Rattle.printed_tables.specs.Written.{AreRowsOf}

abbrev Pair : Type 0
Pair = List ℕ × List Row

abbrev pair_text : Pair → List ℕ
pair_text p = table_text p.0 p.1

pub same_text : (c : List Item) (tables : List DefTable) (d : IsDefinition c tables) → tables_text tables ≡ definition_text d.rows
unfolding definition_text
same_text c tables d =
    sym (flat_map-map pair_text (λ (table : DefTable). (table.name, table.rows.items)) tables)
    ∙ (ap (flat_map pair_text) d.told ∙ flat_map-map pair_text (λ (entry : SchemaTable × List ℕ). (entry.1, d.rows entry.0)) definition_names)

pub rows_of : (c : List Item) (tables : List DefTable) (d : IsDefinition c tables) → AreRowsOf c d.rows
rows_of c tables d = record { are = d.are; hold = d.hold }
