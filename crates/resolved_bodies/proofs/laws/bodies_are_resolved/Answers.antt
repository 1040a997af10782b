use Rattle.resolved_bodies.proofs.ResolvedBodies.{body_resolved}
use Rattle.resolved_bodies.proofs.laws.bodies_are_resolved.Goals as goal

pub returns : goal.returns
returns c = body_resolved
