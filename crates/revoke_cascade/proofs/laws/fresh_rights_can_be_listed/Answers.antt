use Rattle.revoke_cascade.proofs.Known.{fresh_rights}
use Rattle.revoke_cascade.proofs.laws.fresh_rights_can_be_listed.Goals as goal

pub returns : goal.returns
returns c = fresh_rights
