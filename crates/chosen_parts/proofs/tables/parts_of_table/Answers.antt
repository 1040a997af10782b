use Rattle.std.proofs.Common.{refl}
use Rattle.chosen_parts.proofs.TableLemmas.{table_held}
use Rattle.chosen_parts.proofs.tables.parts_of_table.Goals as goal

pub returns : goal.returns
returns c = table_held c.args.object.now c.into-key.result _ c.into-key.ensures refl
