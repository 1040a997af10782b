use Rattle.std.proofs.Common.{◌≡◌, ℕ, ◌<◌, ◌≤◌, List, length, get_or, subst}
use Rattle.role_edit.proofs.GrantPlaces.{more_grants, all_grants}
use Rattle.role_edit.proofs.revokes.parts_of.Goals as goal

pub loop-role-preserved : goal.loop-role-preserved
loop-role-preserved c =
    let same = c.as_slice-role-items.ensures in
    let i = c.loop-role.role-index in
    let low : i < length c.args.roles.now = subst (λ (l : List (List ℕ)). i < length l) same c.loop-role-test.true in
    let is : c.role-item.result ≡ get_or c.args.roles.now i c.role-item.result = subst (λ (l : List (List ℕ)). c.role-item.result ≡ get_or l i c.role-item.result) same c.role-item.is in
    rw (c.in_ok-push-2.ensures.items, c.in_ok-push.ensures.items)
    (more_grants c.args.roles.now c.loop-role.parts.items i _ low is c.loop-role.invariant)

pub returns : goal.returns
returns c =
    let all : length c.args.roles.now ≤ c.loop-role.role-index = subst (λ (l : List (List ℕ)). length l ≤ c.loop-role.role-index) c.as_slice-role-items.ensures c.loop-role-test.false in
    all_grants c.args.roles.now c.loop-role.parts.items c.loop-role.role-index all c.loop-role.invariant
