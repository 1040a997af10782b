use Rattle.std.proofs.Common.{◌≡◌, map, take}
use Rattle.cat_items.specs.Rights.{admin}
use Rattle.role_edit.proofs.lists.admin_needs.Given as goal

abbrev pub invariant-loop-role : goal.invariant-loop-role
invariant-loop-role l = l.needs ≡ map admin (take l.role-index l.roles)
