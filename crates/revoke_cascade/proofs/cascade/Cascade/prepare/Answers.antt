use Rattle.std.proofs.Common.{◌≡◌, false, true}
use Rattle.revoke_cascade.proofs.cascade.Cascade.prepare.Goals as goal

pub unreachable-requires : goal.unreachable-requires
unreachable-requires g c =
    let to = rw c.in-Further.is at c.in_ok-cascade.ensures.tried in
    absurd (let odd : false ≡ true = to.1.0 in cc)
