use Rattle.look_up_bound.proofs.Paying.{view_pays_for_eight}
use Rattle.look_up_bound.proofs.laws.a_view_pays_for_rights_on_it.Goals as goal

pub returns : goal.returns
returns c = λ old u part good within part_within relevant topics differ asked before after rights. view_pays_for_eight old u part good within part_within relevant topics differ asked before after rights
