use Rattle.look_up_bound.proofs.Paying.{column_pays_for_six}
use Rattle.look_up_bound.proofs.laws.a_column_pays_for_rights_on_it.Goals as goal

pub returns : goal.returns
returns c = λ old u part good within part_within relevant topics differ asked before after rights. column_pays_for_six old u part good within part_within relevant topics differ asked before after rights
