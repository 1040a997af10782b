-- Needs that compare as equal are one.
use Rattle.std.proofs.Common.{◌≡◌, Some, None, refl, ap, arith}
use Rattle.std.specs.Ordering.{nat_cmp, ordering_then}
use Rattle.std.specs.Option.{option_cmp}
use Rattle.std.specs.FinMap.{IsAntisymmetric, nat_cmp-IsAntisymmetric, slice_cmp-IsAntisymmetric}
use Rattle.std.specs.declared.cmp.Ordering.{Ordering}
use Rattle.std.specs.declared.cmp.Ordering.TheVariants.{Less, Equal, Greater}
use Rattle.sql_names.specs.Names.{name_cmp-IsAntisymmetric}
use Rattle.sql_tree.specs.declared.rights.Action.{Action}
use Rattle.sql_tree.specs.declared.rights.Action.TheVariants as action
use Rattle.cat_items.specs.Order.{name_cmp, need_cmp, action_number}

action_number-is : (a b : Action) → action_number a ≡ action_number b → a ≡ b
action_number-is action.Select action.Select e = refl
action_number-is action.Insert action.Insert e = refl
action_number-is action.Update action.Update e = refl
action_number-is action.Delete action.Delete e = refl
action_number-is action.References action.References e = refl
action_number-is action.Usage action.Usage e = refl
action_number-is action.Execute action.Execute e = refl
action_number-is action.Admin action.Admin e = refl
action_number-is a b e = absurd (omega (arith, e))

both_equal : (a b : Ordering) → ordering_then a b ≡ Equal → (a ≡ Equal) × (b ≡ Equal)
both_equal Less b e = absurd (let odd : Less ≡ Equal = e in cc)
both_equal Equal b e = (refl, e)
both_equal Greater b e = absurd (let odd : Greater ≡ Equal = e in cc)

option_cmp-is : {K : Type 0} (R : K → K → Ordering) → IsAntisymmetric R → IsAntisymmetric (option_cmp R)
option_cmp-is R same None None e = refl
option_cmp-is R same None (Some b) e = absurd (let odd : Less ≡ Equal = e in cc)
option_cmp-is R same (Some a) None e = absurd (let odd : Greater ≡ Equal = e in cc)
option_cmp-is R same (Some a) (Some b) e = ap Some (same a b e)

pub need_is : IsAntisymmetric need_cmp
need_is a b e =
    let both = both_equal (nat_cmp (action_number a.action) (action_number b.action)) _ e in
    let rest = both_equal _ _ both.1 in
    let actions : a.action ≡ b.action = action_number-is a.action b.action (nat_cmp-IsAntisymmetric _ _ both.0) in
    let objects : a.on ≡ b.on = slice_cmp-IsAntisymmetric name_cmp-IsAntisymmetric a.on b.on rest.0 in
    let columns : a.column ≡ b.column = option_cmp-is name_cmp name_cmp-IsAntisymmetric a.column b.column rest.1 in
    λ i. record { action = actions i; on = objects i; column = columns i }
