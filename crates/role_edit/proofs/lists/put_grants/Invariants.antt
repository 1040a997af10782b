use Rattle.std.proofs.Common.{◌↔◌, ◌⊎◌, [], ◌∷◌, take}
use Rattle.std.specs.List.{Contains}
use Rattle.cat_items.specs.declared.item.Item.{Item}
use Rattle.role_edit.specs.GrantedRoles.{IsGrantedRole}
use Rattle.role_edit.proofs.lists.put_grants.Given as goal

abbrev pub invariant-loop-grantee : goal.invariant-loop-grantee
invariant-loop-grantee l = (x : Item) → Contains l.added.items x ↔ (Contains l.initial.added.items x ⊎ IsGrantedRole l.grantor (l.role ∷ []) (take l.grantee-index l.grantees) l.option x)
