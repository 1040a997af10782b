use Rattle.std.proofs.Common.{◌≡◌}
use Rattle.cat_items.specs.Rights.{path_of}
use Rattle.cascade_laws.specs.Topics.{column}
use Rattle.topic_keys.specs.Lists.{Gets, IsKeyWhere}
use Rattle.topic_keys.proofs.Adding.{IsOfFirst}
use Rattle.topic_keys.proofs.names.put_columns.Given as goal

abbrev pub invariant-loop-name : goal.invariant-loop-name
invariant-loop-name l = record { put : Gets (IsOfFirst (λ name. IsKeyWhere (λ t. t ≡ column (path_of l.table) name)) l.names l.name-index) l.initial.keys.items l.keys.items }
