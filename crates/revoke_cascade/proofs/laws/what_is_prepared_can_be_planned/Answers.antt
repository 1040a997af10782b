use Rattle.revoke_cascade.proofs.Judged.{can_plan, is_planned}
use Rattle.revoke_cascade.proofs.laws.what_is_prepared_can_be_planned.Goals as goal

pub returns : goal.returns
returns c = record { can = can_plan; planned = is_planned }
