use Rattle.support_laws.proofs.Monotone.{supported_monotone}
use Rattle.support_laws.proofs.laws.support_is_monotone.Goals as goal

pub returns : goal.returns
returns c = supported_monotone
