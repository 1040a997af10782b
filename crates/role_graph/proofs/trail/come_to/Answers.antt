use Rattle.std.proofs.Common.{arith}
use Rattle.role_graph.proofs.TrailLemmas.{IsTrail-push}
use Rattle.role_graph.proofs.trail.come_to.Goals as goal

pub returns-then-not-seen-at-clause-trail : goal.returns-then-not-seen-at-clause-trail
returns-then-not-seen-at-clause-trail c = rw c.push_in_room.ensures.items (IsTrail-push c.args.first c.args.at c.args.seen.now c.args.found.now.items c.requires.from (omega arith) c.if-not-seen-at.true c.requires.trail)
