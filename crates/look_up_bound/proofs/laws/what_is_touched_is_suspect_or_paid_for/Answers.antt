use Rattle.look_up_bound.proofs.Touching.{touched_is_suspect}
use Rattle.look_up_bound.proofs.laws.what_is_touched_is_suspect_or_paid_for.Goals as goal

pub returns : goal.returns
returns c = touched_is_suspect
