use Rattle.std.proofs.lemmas.Bool.{both_ways}
use Rattle.std.specs.Option.{option_copied}
use Rattle.role_graph.specs.Marked.{counted}
use Rattle.role_graph.proofs.CycleLemmas.{reaches_named}
use Rattle.role_graph.proofs.walk.Walk.reaches_by.Goals as goal

pub returns-else-same-clause-answer : goal.returns-else-same-clause-answer
returns-else-same-clause-answer c =
    let by = reaches_named (counted c.args.c.now.items (option_copied c.args.marks)) c.in-Named-Named.from.now c.in-Named-Named.to.now (λ e. both_ways _ c.if-same.false (c.same.ensures.1 e)) in
    rw (c.in-Named-Named.is-0, c.in-Named-Named.is-1) (λ yes'. by.0 (c.leads.ensures.answer.0 yes'), λ walk. c.leads.ensures.answer.1 (by.1 walk))
