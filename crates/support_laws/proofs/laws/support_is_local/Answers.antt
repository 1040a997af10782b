use Rattle.support_laws.proofs.Local.{supported_local}
use Rattle.support_laws.proofs.laws.support_is_local.Goals as goal

pub returns : goal.returns
returns c = supported_local
