use Rattle.look_up_bound.proofs.Paying.{routine_pays_for_two}
use Rattle.look_up_bound.proofs.laws.a_routine_pays_for_rights_on_it.Goals as goal

pub returns : goal.returns
returns c = λ old u part good within part_within relevant topics differ asked before after rights. routine_pays_for_two old u part good within part_within relevant topics differ asked before after rights
