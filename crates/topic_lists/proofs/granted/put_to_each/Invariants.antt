use Rattle.topic_lists.specs.Granted.{IsToTopic}
use Rattle.topic_keys.specs.Lists.{Gets, IsKeyWhere}
use Rattle.topic_keys.proofs.Adding.{IsOfFirst}
use Rattle.topic_lists.proofs.granted.put_to_each.Given as goal

abbrev pub invariant-loop-to : goal.invariant-loop-to
invariant-loop-to l = record { put : Gets (IsOfFirst (λ a. IsKeyWhere (IsToTopic l.need a)) l.names l.to-index) l.initial.keys.items l.keys.items }
