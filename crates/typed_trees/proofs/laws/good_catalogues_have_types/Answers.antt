use Rattle.typed_trees.proofs.KnownTypes.{good_has_types}
use Rattle.typed_trees.proofs.laws.good_catalogues_have_types.Goals as goal

pub returns : goal.returns
returns c = good_has_types
