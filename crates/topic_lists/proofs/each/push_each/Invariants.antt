use Rattle.topic_keys.specs.Lists.{Gets}
use Rattle.topic_lists.proofs.Runs.{IsOfPlaces}
use Rattle.topic_lists.proofs.each.push_each.Given as goal

abbrev pub invariant-loop-at : goal.invariant-loop-at
invariant-loop-at g l = record { put : Gets (IsOfPlaces l.c.items (g.T.Carries.carries l.by) l.initial.at l.at) l.initial.needs.items l.needs.items }
