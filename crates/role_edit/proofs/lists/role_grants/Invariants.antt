use Rattle.std.proofs.Common.{◌↔◌, take}
use Rattle.std.specs.List.{Contains}
use Rattle.cat_items.specs.declared.item.Item.{Item}
use Rattle.role_edit.specs.GrantedRoles.{IsGrantedRole}
use Rattle.role_edit.proofs.lists.role_grants.Given as goal

abbrev pub invariant-loop-role : goal.invariant-loop-role
invariant-loop-role l = (x : Item) → Contains l.added.items x ↔ IsGrantedRole l.grantor (take l.role-index l.roles) l.grantees l.option x
