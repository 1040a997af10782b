use Rattle.std.proofs.Common.{◌≡◌}
use Rattle.cat_items.specs.Rights.{reference}
use Rattle.topic_keys.specs.Lists.{Gets}
use Rattle.topic_keys.proofs.Adding.{IsOfFirst}
use Rattle.topic_lists.proofs.pushing.push_references.Given as goal

abbrev pub invariant-loop-name : goal.invariant-loop-name
invariant-loop-name l = record { put : Gets (IsOfFirst (λ name n. n ≡ reference l.target name) l.names l.name-index) l.initial.needs.items l.needs.items }
