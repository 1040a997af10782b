-- What was written of the Definition Schema of a catalogue.
use Rattle.std.specs.Prelude.{◌≡◌, ℕ, List, Option, Result, Ok, Err}
use Rattle.cat_items.specs.declared.item.Item.{Item}
use Rattle.cat_items.specs.Good.{IsGood}
use Rattle.schema_tables.specs.declared.names.SchemaTable.{SchemaTable}
use Rattle.schema_tables.specs.Cells.{Row}
use Rattle.definition_schema.specs.Constraints.{AllHold}
use Rattle.definition_schema.specs.Definition.{AreDefinitionRows}
use Rattle.svc_io.specs.Bytes.{Got, GotFront}
use Rattle.printed_tables.specs.TableTexts.{definition_text}
use Rattle.printed_tables.specs.declared.definition.Unwritten.{Unwritten}
use Rattle.printed_tables.specs.declared.definition.Unwritten.TheVariants.{Memory, Failed}

-- the rows of the tables of a catalogue; of a good one all constraints hold of them
pub record AreRowsOf (c : List Item) (rows : SchemaTable → List Row) : Type 0 where
  pub are : AreDefinitionRows c rows
  pub hold : IsGood c → AllHold rows

-- all tables were written, or a front of them where the sink failed; where memory ran out nothing was
abbrev pub IsWritten : {T : Type 0} → List Item → Option (List ℕ) → Option (List ℕ) → Result T Unwritten → Type 0
IsWritten c old new (Ok v) = (rows : SchemaTable → List Row) × AreRowsOf c rows × Got old (definition_text rows) new
IsWritten c old new (Err Failed) = (rows : SchemaTable → List Row) × AreRowsOf c rows × GotFront old (definition_text rows) new
IsWritten c old new (Err Memory) = new ≡ old
