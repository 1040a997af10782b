-- What the derived orders compute is the order that is stated.
use Rattle.std.proofs.Common.{◌≡◌, refl, ◌∙◌, ap, subst}
use Rattle.std.specs.Ordering.{nat_cmp, ordering_then}
use Rattle.std.specs.Cmp.Lexicographic.{slice_cmp}
use Rattle.std.specs.Option.{option_cmp}
use Rattle.sql_tree.specs.declared.rights.Action.{Action}
use Rattle.sql_tree.specs.declared.rights.Action.TheVariants.{Select, Insert, Update, Delete, References, Usage, Execute, Admin}
use Rattle.cat_items.specs.declared.need.Auth.{Auth}
use Rattle.cat_items.specs.declared.need.Auth.TheVariants.{System, Public, Named}
use Rattle.cat_items.specs.declared.need.Need.{Need}
use Rattle.cat_items.specs.declared.item.Right.{Right}
use Rattle.cat_items.specs.declared.item.RoleGrant.{RoleGrant}
use Rattle.cat_items.specs.declared.item.Item.{Item}
use Rattle.cat_items.specs.declared.item.Item.TheVariants.{User, Role, Schema, Table, View, Column, Domain, DomainCheck, Key, Foreign, Check, Assertion, Routine, RoleAuth, RoleAdmin, Held, Grantable}
use Rattle.cat_items.specs.Order.{name_cmp, auth_cmp, action_number, need_cmp, right_cmp, role_grant_cmp, item_cmp}
use Rattle.sql_tree.specs.contracts.rights.ActionOrd.TheImpl as action
use Rattle.cat_items.specs.contracts.need.AuthOrd.TheImpl as auth
use Rattle.cat_items.specs.contracts.need.NeedOrd.TheImpl as need
use Rattle.cat_items.specs.contracts.item.RightOrd.TheImpl as right
use Rattle.cat_items.specs.contracts.item.RoleGrantOrd.TheImpl as role_grant
use Rattle.cat_items.specs.contracts.item.ItemOrd.TheImpl as item
use Rattle.cat_items.specs.contracts.item.ItemOrd.TheImpl.Laws as laws
use Rattle.cat_items.specs.contracts.need.NeedOrd.TheImpl.Laws as need_laws
use Rattle.std.specs.Cmp.{IsTotalOrder}

pub same_action : (a b : Action) → action.ghosts.cmp a b ≡ nat_cmp (action_number a) (action_number b)
same_action Select Select = refl
same_action Insert Insert = refl
same_action Update Update = refl
same_action Delete Delete = refl
same_action References References = refl
same_action Usage Usage = refl
same_action Execute Execute = refl
same_action Admin Admin = refl
same_action a b = refl

same_auth : (a b : Auth) → auth.ghosts.cmp a b ≡ auth_cmp a b
same_auth System System = refl
same_auth Public Public = refl
same_auth (Named a) (Named b) = refl
same_auth a b = refl

pub same_need : (a b : Need) → need.ghosts.cmp a b ≡ need_cmp a b
same_need a b =
    ap (λ o. ordering_then o (ordering_then (slice_cmp name_cmp a.on b.on) (option_cmp name_cmp a.column b.column))) (same_action a.action b.action)

same_right : (a b : Right) → right.ghosts.cmp a b ≡ right_cmp a b
same_right a b =
    ap (λ o. ordering_then o (ordering_then (auth.ghosts.cmp a.grantor b.grantor) (auth.ghosts.cmp a.grantee b.grantee))) (same_need a.need b.need)
    ∙ ap (λ o. ordering_then (need_cmp a.need b.need) (ordering_then o (auth.ghosts.cmp a.grantee b.grantee))) (same_auth a.grantor b.grantor)
    ∙ ap (λ o. ordering_then (need_cmp a.need b.need) (ordering_then (auth_cmp a.grantor b.grantor) o)) (same_auth a.grantee b.grantee)

same_role_grant : (a b : RoleGrant) → role_grant.ghosts.cmp a b ≡ role_grant_cmp a b
same_role_grant a b =
    ap (λ o. ordering_then (name_cmp a.role b.role) (ordering_then o (name_cmp a.grantee b.grantee))) (same_auth a.grantor b.grantor)

pub same_order : (a b : Item) → item.ghosts.cmp a b ≡ item_cmp a b
same_order (User a) (User b) = refl
same_order (Role a) (Role b) = refl
same_order (Schema a) (Schema b) = refl
same_order (Table a) (Table b) = refl
same_order (View a) (View b) = refl
same_order (Column a) (Column b) = refl
same_order (Domain a) (Domain b) = refl
same_order (DomainCheck a) (DomainCheck b) = refl
same_order (Key a) (Key b) = refl
same_order (Foreign a) (Foreign b) = refl
same_order (Check a) (Check b) = refl
same_order (Assertion a) (Assertion b) = refl
same_order (Routine a) (Routine b) = refl
same_order (RoleAuth a) (RoleAuth b) = same_role_grant a b
same_order (RoleAdmin a) (RoleAdmin b) = same_role_grant a b
same_order (Held a) (Held b) = same_right a b
same_order (Grantable a) (Grantable b) = same_right a b
same_order a b = refl

-- the order of items is a total one
pub item_cmp-total : IsTotalOrder item_cmp
item_cmp-total = subst IsTotalOrder (λ i x y. same_order x y i) laws.total-law

-- so is that of needs
pub need_cmp-total : IsTotalOrder need_cmp
need_cmp-total = subst IsTotalOrder (λ i x y. same_need x y i) need_laws.total-law
