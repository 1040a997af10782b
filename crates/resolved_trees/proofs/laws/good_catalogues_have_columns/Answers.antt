use Rattle.resolved_trees.proofs.Columns.{good_has_columns}
use Rattle.resolved_trees.proofs.laws.good_catalogues_have_columns.Goals as goal

pub returns : goal.returns
returns c = good_has_columns
