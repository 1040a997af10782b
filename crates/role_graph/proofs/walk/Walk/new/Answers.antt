use Rattle.role_graph.proofs.TrailLemmas.{room_of_range}
use Rattle.role_graph.proofs.walk.Walk.new.Goals as goal

pub returns : goal.returns
returns c = room_of_range c.args.c.now.items c.role_authorizations-all.result.start c.role_authorizations-all.result.end _ c.role_authorizations-all.ensures c.in_ok-vec.ensures.len
