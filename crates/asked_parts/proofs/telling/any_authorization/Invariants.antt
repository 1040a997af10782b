use Rattle.cat_items.specs.Ranges.{IsRoleAuthorization}
use Rattle.asked_parts.proofs.TellLaws.{NoneBelow}
use Rattle.asked_parts.proofs.telling.any_authorization.Given as goal

abbrev pub invariant-loop-item : goal.invariant-loop-item
invariant-loop-item l = record { none : NoneBelow IsRoleAuthorization l.items l.item-index }
