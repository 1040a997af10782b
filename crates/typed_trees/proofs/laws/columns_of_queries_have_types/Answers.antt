use Rattle.typed_trees.proofs.Columns.{columns_typed, has_column}
use Rattle.typed_trees.proofs.laws.columns_of_queries_have_types.Goals as goal

pub returns-clause-types : goal.returns-clause-types
returns-clause-types c = columns_typed

pub returns-clause-some : goal.returns-clause-some
returns-clause-some c = has_column
