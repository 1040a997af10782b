use Rattle.std.proofs.Common.{ℕ, List, [], ◌∷◌, length, ◌≤◌, subst}
use Rattle.std.proofs.lemmas.List.{take_all}
use Rattle.role_edit.specs.GrantedRoles.{IsGrantedRole}
use Rattle.role_edit.proofs.RoleLists.{Grows, more_grantees}
use Rattle.role_edit.proofs.lists.put_grants.Goals as goal

pub loop-grantee-preserved : goal.loop-grantee-preserved
loop-grantee-preserved c = more_grantees c.args.grantor.now (c.args.role.now ∷ []) c.args.grantees.now c.as_slice-grantee-items.result.now c.args.option c.args.added.now.items c.loop-grantee.added.items c.put_grant.new.added.items
    c.loop-grantee.grantee-index c.grantee-item.result c.as_slice-grantee-items.ensures c.loop-grantee-test.true c.grantee-item.is c.loop-grantee.invariant c.in_ok-put_grant.ensures

pub returns : goal.returns
returns c =
    let all : length c.args.grantees.now ≤ c.loop-grantee.grantee-index = subst (λ (l : List (List ℕ)). length l ≤ c.loop-grantee.grantee-index) c.as_slice-grantee-items.ensures c.loop-grantee-test.false in
    subst (λ l. Grows c.args.added.now.items c.loop-grantee.added.items (IsGrantedRole c.args.grantor.now (c.args.role.now ∷ []) l c.args.option)) (take_all c.loop-grantee.grantee-index c.args.grantees.now all) c.loop-grantee.invariant
