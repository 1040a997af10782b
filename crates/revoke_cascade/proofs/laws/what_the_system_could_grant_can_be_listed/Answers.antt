use Rattle.revoke_cascade.proofs.Rights.{with_system}
use Rattle.revoke_cascade.proofs.laws.what_the_system_could_grant_can_be_listed.Goals as goal

pub returns : goal.returns
returns c = with_system
