use Rattle.std.specs.Option.{option_copied}
use Rattle.topic_keys.specs.Lists.{Gets, IsKeyWhere}
use Rattle.topic_keys.proofs.Adding.{IsOfFirst}
use Rattle.topic_lists.specs.Beside.{HasAskedBefore}
use Rattle.topic_lists.specs.Sought.{IsAskedFor}
use Rattle.asked_parts.proofs.asking.asked_by.Given as goal

abbrev pub invariant-loop-x : goal.invariant-loop-x
invariant-loop-x l = record {
  put : Gets (IsOfFirst (λ x. IsKeyWhere (IsAskedFor l.part.items x)) l.suspects l.x-index) l.initial.all.items l.all.items;
  asked : HasAskedBefore l.part.items (option_copied l.before) l.all.items;
}
