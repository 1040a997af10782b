use Rattle.std.proofs.Common.{◌∙◌}
use Rattle.table_additions.proofs.Places.{last_of_columns}
use Rattle.table_additions.proofs.columns.last_place.Goals as goal

pub returns : goal.returns
returns c = c.greatest_place.ensures ∙ last_of_columns c.args.c.now.items c.columns_of.result.now c.args.table.now c.columns_of.ensures.members
