use Rattle.std.proofs.Common.{◌≡◌}
use Rattle.topic_keys.specs.Lists.{Gets}
use Rattle.topic_keys.proofs.Adding.{IsOfFirst}
use Rattle.topic_lists.proofs.pushing.push_listed.Given as goal

abbrev pub invariant-loop-need : goal.invariant-loop-need
invariant-loop-need l = record { put : Gets (IsOfFirst (λ a n. n ≡ a) l.listed l.need-index) l.initial.needs.items l.needs.items }
