use Rattle.topic_lists.specs.Sought.{IsNeedOrSupply}
use Rattle.topic_keys.specs.Lists.{Gets, IsKeyWhere}
use Rattle.topic_keys.proofs.Adding.{IsOfFirst}
use Rattle.topic_lists.proofs.sought.put_needs.Given as goal

abbrev pub invariant-loop-need : goal.invariant-loop-need
invariant-loop-need l = record { put : Gets (IsOfFirst (λ a. IsKeyWhere (IsNeedOrSupply l.reached a)) l.needs l.need-index) l.initial.keys.items l.keys.items }
