use Rattle.support_laws.proofs.Goodness.{is_good}
use Rattle.support_laws.proofs.laws.survivors_are_good.Goals as goal

pub returns : goal.returns
returns c = is_good
