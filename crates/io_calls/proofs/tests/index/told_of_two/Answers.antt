use Rattle.io_calls.proofs.tests.index.told_of_two.Goals as goal

pub link-requires-clause-node : goal.link-requires-clause-node
link-requires-clause-node g c = (10, c.insert-second.ensures.kept c.insert-first.result 10 c.insert-first.ensures.key)

pub link-requires-clause-rests_on : goal.link-requires-clause-rests_on
link-requires-clause-rests_on g c = (20, c.insert-second.ensures.key)

pub rests-requires : goal.rests-requires
rests-requires g c = (10, rw c.link.ensures.graph (c.insert-second.ensures.kept c.insert-first.result 10 c.insert-first.ensures.key))

pub dependents-requires : goal.dependents-requires
dependents-requires g c = (20, rw c.link.ensures.graph c.insert-second.ensures.key)
