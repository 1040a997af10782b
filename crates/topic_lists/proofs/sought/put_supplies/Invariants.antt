use Rattle.topic_lists.specs.Sought.{IsSupplyTopic}
use Rattle.topic_keys.specs.Lists.{Gets, IsKeyWhere}
use Rattle.topic_keys.proofs.Adding.{IsOfFirst}
use Rattle.topic_lists.proofs.sought.put_supplies.Given as goal

abbrev pub invariant-loop-grantee : goal.invariant-loop-grantee
invariant-loop-grantee l = record { put : Gets (IsOfFirst (λ a. IsKeyWhere (IsSupplyTopic l.need a)) l.reached l.grantee-index) l.initial.keys.items l.keys.items }
