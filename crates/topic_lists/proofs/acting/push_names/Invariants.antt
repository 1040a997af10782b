use Rattle.std.proofs.Common.{◌≡◌}
use Rattle.cat_items.specs.declared.need.Auth.TheVariants.{Named}
use Rattle.topic_keys.specs.Lists.{Gets}
use Rattle.topic_keys.proofs.Adding.{IsOfFirst}
use Rattle.topic_lists.proofs.acting.push_names.Given as goal

abbrev pub invariant-loop-name : goal.invariant-loop-name
invariant-loop-name l = record { put : Gets (IsOfFirst (λ name g. g ≡ Named name) l.names l.name-index) l.initial.all.items l.all.items }
