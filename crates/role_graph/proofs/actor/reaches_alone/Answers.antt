use Rattle.role_graph.proofs.AloneLemmas.{alone_named}
use Rattle.role_graph.proofs.actor.reaches_alone.Goals as goal

pub returns-in-Named-Named : goal.returns-in-Named-Named
returns-in-Named-Named c =
    let by = alone_named c.in-Named-Named.from.now c.in-Named-Named.to.now in
    rw (c.in-Named-Named.is-0, c.in-Named-Named.is-1) (λ yes. by.0 (c.same.ensures.0 yes), λ walk. c.same.ensures.1 (by.1 walk))
