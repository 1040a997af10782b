use Rattle.std.proofs.Common.{◌↔◌, ℕ, List, length, ◌≤◌, subst, sym, ◌∙◌}
use Rattle.std.specs.List.{Contains}
use Rattle.std.proofs.lemmas.List.{take_all}
use Rattle.cat_items.specs.declared.item.Item.{Item}
use Rattle.cat_items.specs.Catalogues.{IsInOrder}
use Rattle.role_edit.specs.GrantedRoles.{IsGrantedRole}
use Rattle.role_edit.proofs.RoleLists.{more_roles}
use Rattle.role_edit.proofs.lists.role_grants.Goals as goal

pub loop-role-preserved : goal.loop-role-preserved
loop-role-preserved c = more_roles c.args.grantor.now c.args.roles.now c.as_slice-role-items.result.now c.args.grantees.now c.args.option c.loop-role.added.items c.put_grants.new.added.items
    c.loop-role.role-index c.role-item.result c.as_slice-role-items.ensures c.loop-role-test.true c.role-item.is c.loop-role.invariant c.in_ok-put_grants.ensures

pub returns : goal.returns
returns c =
    let all : length c.args.roles.now ≤ c.loop-role.role-index = subst (λ (l : List (List ℕ)). length l ≤ c.loop-role.role-index) c.as_slice-role-items.ensures c.loop-role-test.false in
    record {
      order = subst IsInOrder (sym c.from_vec.ensures) c.into_items.ensures.order;
      members = subst (λ (found : List Item). (x : Item) → Contains found x ↔ IsGrantedRole c.args.grantor.now c.args.roles.now c.args.grantees.now c.args.option x) (sym (c.from_vec.ensures ∙ c.into_items.ensures.items))
          (subst (λ l. (x : Item) → Contains c.loop-role.added.items x ↔ IsGrantedRole c.args.grantor.now l c.args.grantees.now c.args.option x) (take_all c.loop-role.role-index c.args.roles.now all) c.loop-role.invariant);
    }
