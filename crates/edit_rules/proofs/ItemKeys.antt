-- Rights and role grants with one key are one: all their fields are key fields.
use Rattle.std.proofs.Common.{◌≡◌, ℕ, Some, None, refl, ap, sym, ◌∙◌, arith}
use Rattle.std.specs.Ordering.{nat_cmp, ordering_then, ordering_reverse}
use Rattle.std.specs.Option.{option_cmp}
use Rattle.std.specs.FinMap.{IsAntisymmetric, nat_cmp-IsAntisymmetric, slice_cmp-IsAntisymmetric}
use Rattle.std.specs.declared.cmp.Ordering.{Ordering}
use Rattle.std.specs.declared.cmp.Ordering.TheVariants.{Less, Equal, Greater}
use Rattle.sql_names.specs.Names.{name_cmp-IsAntisymmetric}
use Rattle.sql_tree.specs.declared.rights.Action.{Action}
use Rattle.sql_tree.specs.declared.rights.Action.TheVariants as action
use Rattle.cat_items.specs.declared.need.Auth.TheVariants.{System, Public, Named}
use Rattle.cat_items.specs.declared.item.Item.{Item}
use Rattle.cat_items.specs.declared.item.Item.TheVariants as item
use Rattle.cat_items.specs.Order.{name_cmp, need_cmp, auth_rank, auth_cmp, right_cmp, role_grant_cmp, action_number, kind_of, key_cmp, item_cmp}
use Rattle.cat_items.proofs.OrderLemmas.{item_cmp-total}
use Rattle.edit_rules.specs.Chosen.{IsRightOrRoleGrant}

action_number-is : (a b : Action) → action_number a ≡ action_number b → a ≡ b
action_number-is action.Select action.Select e = refl
action_number-is action.Insert action.Insert e = refl
action_number-is action.Update action.Update e = refl
action_number-is action.Delete action.Delete e = refl
action_number-is action.References action.References e = refl
action_number-is action.Usage action.Usage e = refl
action_number-is action.Execute action.Execute e = refl
action_number-is action.Admin action.Admin e = refl
action_number-is a b e = absurd (omega (arith, e))

both_equal : (a b : Ordering) → ordering_then a b ≡ Equal → (a ≡ Equal) × (b ≡ Equal)
both_equal Less b e = absurd (let odd : Less ≡ Equal = e in cc)
both_equal Equal b e = (refl, e)
both_equal Greater b e = absurd (let odd : Greater ≡ Equal = e in cc)

option_cmp-is : {K : Type 0} (R : K → K → Ordering) → IsAntisymmetric R → IsAntisymmetric (option_cmp R)
option_cmp-is R same None None e = refl
option_cmp-is R same None (Some b) e = absurd (let odd : Less ≡ Equal = e in cc)
option_cmp-is R same (Some a) None e = absurd (let odd : Greater ≡ Equal = e in cc)
option_cmp-is R same (Some a) (Some b) e = ap Some (same a b e)

pub need_cmp-is : IsAntisymmetric need_cmp
need_cmp-is a b e =
    let both = both_equal (nat_cmp (action_number a.action) (action_number b.action)) _ e in
    let rest = both_equal _ _ both.1 in
    let actions : a.action ≡ b.action = action_number-is a.action b.action (nat_cmp-IsAntisymmetric _ _ both.0) in
    let objects : a.on ≡ b.on = slice_cmp-IsAntisymmetric name_cmp-IsAntisymmetric a.on b.on rest.0 in
    let columns : a.column ≡ b.column = option_cmp-is name_cmp name_cmp-IsAntisymmetric a.column b.column rest.1 in
    λ i. record { action = actions i; on = objects i; column = columns i }

auth_cmp-is : IsAntisymmetric auth_cmp
auth_cmp-is (Named a) (Named b) e = ap Named (name_cmp-IsAntisymmetric a b e)
auth_cmp-is System System e = refl
auth_cmp-is Public Public e = refl
auth_cmp-is a b e = absurd (omega (arith, nat_cmp-IsAntisymmetric (auth_rank a) (auth_rank b) e))

right_cmp-is : IsAntisymmetric right_cmp
right_cmp-is a b e =
    let both = both_equal (need_cmp a.need b.need) _ e in
    let rest = both_equal _ _ both.1 in
    let needs : a.need ≡ b.need = need_cmp-is a.need b.need both.0 in
    let grantors : a.grantor ≡ b.grantor = auth_cmp-is a.grantor b.grantor rest.0 in
    let grantees : a.grantee ≡ b.grantee = auth_cmp-is a.grantee b.grantee rest.1 in
    λ i. record { need = needs i; grantor = grantors i; grantee = grantees i }

role_grant_cmp-is : IsAntisymmetric role_grant_cmp
role_grant_cmp-is a b e =
    let both = both_equal (name_cmp a.role b.role) _ e in
    let rest = both_equal _ _ both.1 in
    let roles : a.role ≡ b.role = name_cmp-IsAntisymmetric a.role b.role both.0 in
    let grantors : a.grantor ≡ b.grantor = auth_cmp-is a.grantor b.grantor rest.0 in
    let grantees : a.grantee ≡ b.grantee = name_cmp-IsAntisymmetric a.grantee b.grantee rest.1 in
    λ i. record { role = roles i; grantor = grantors i; grantee = grantees i }

one_kind : (x y : Item) → item_cmp x y ≡ Equal → kind_of x ≡ kind_of y
one_kind x y e = nat_cmp-IsAntisymmetric (kind_of x) (kind_of y) (both_equal (nat_cmp (kind_of x) (kind_of y)) (key_cmp x y) e).0

granted_is : (x y : Item) → kind_of x ≡ kind_of y → IsRightOrRoleGrant y → key_cmp x y ≡ Equal → x ≡ y
granted_is (item.Held a) (item.Held b) k w e = ap item.Held (right_cmp-is a b e)
granted_is (item.Grantable a) (item.Grantable b) k w e = ap item.Grantable (right_cmp-is a b e)
granted_is (item.RoleAuth a) (item.RoleAuth b) k w e = ap item.RoleAuth (role_grant_cmp-is a b e)
granted_is (item.RoleAdmin a) (item.RoleAdmin b) k w e = ap item.RoleAdmin (role_grant_cmp-is a b e)
granted_is x (item.Held b) k w e = absurd (omega (arith, k))
granted_is x (item.Grantable b) k w e = absurd (omega (arith, k))
granted_is x (item.RoleAuth b) k w e = absurd (omega (arith, k))
granted_is x (item.RoleAdmin b) k w e = absurd (omega (arith, k))
granted_is x y k w e = absurd w

-- an item with the key of a right or a role grant is that
pub one_granted : (x y : Item) → IsRightOrRoleGrant y → item_cmp x y ≡ Equal → x ≡ y
one_granted x y w e = granted_is x y (one_kind x y e) w (both_equal (nat_cmp (kind_of x) (kind_of y)) (key_cmp x y) e).1

-- and the other way round
pub only_granted : (x y : Item) → IsRightOrRoleGrant x → item_cmp x y ≡ Equal → x ≡ y
only_granted x y w e = sym (one_granted y x w (item_cmp-total.antisymm y x ∙ ap ordering_reverse e))
