use Rattle.support_laws.proofs.Settled.{new_is_good}
use Rattle.support_laws.proofs.laws.new_catalogues_are_good.Goals as goal

pub returns : goal.returns
returns c = new_is_good
