use Rattle.revoke_cascade.proofs.Known.{are_apart}
use Rattle.revoke_cascade.proofs.laws.suspects_are_apart_from_what_is_kept.Goals as goal

pub returns : goal.returns
returns c = are_apart
