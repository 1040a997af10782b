use Rattle.added_parts.proofs.Missing.{nothing_missing}
use Rattle.added_parts.proofs.laws.what_stands_is_not_missing.Goals as goal

pub returns : goal.returns
returns c = nothing_missing
