use Rattle.std.proofs.Common.{take}
use Rattle.role_edit.specs.GrantParts.{HoldGrantsOf}
use Rattle.role_edit.proofs.revokes.parts_of.Given as goal

abbrev pub invariant-loop-role : goal.invariant-loop-role
invariant-loop-role l = HoldGrantsOf (take l.role-index l.roles) l.parts.items
