use Rattle.std.proofs.Common.{subst}
use Rattle.std.specs.List.{Contains}
use Rattle.edit_rules.proofs.ItemKeys.{one_granted}
use Rattle.edit_parts.proofs.suspects.joined.Goals as goal

pub merged-requires-clause-known : goal.merged-requires-clause-known
merged-requires-clause-known c = λ x y h new e. one_granted x y (c.requires y (subst (λ l. Contains l y) c.items-2.ensures.items new)) e

pub returns-clause-members : goal.returns-clause-members
returns-clause-members c = rw (c.items.ensures.items, c.items-2.ensures.items) at c.in_ok-all.ensures.members
