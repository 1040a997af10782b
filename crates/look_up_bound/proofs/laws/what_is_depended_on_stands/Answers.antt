use Rattle.look_up_bound.proofs.Standing.{depended_there}
use Rattle.look_up_bound.proofs.laws.what_is_depended_on_stands.Goals as goal

pub returns : goal.returns
returns c = λ items survivors u are within derived. depended_there items survivors are u within derived
