-- Rights with one key are one right, and a schema has one owner.
use Rattle.std.proofs.Common.{◌≡◌, ◌↔◌, ◌⊎◌, ℕ, ◌<◌, List, Some, None, length, get_or, refl, sym, ◌∙◌, ap, subst, inl, inr, arith}
use Rattle.std.specs.List.{Contains}
use Rattle.std.specs.Ordering.{nat_cmp, ordering_then}
use Rattle.std.specs.Option.{option_cmp}
use Rattle.std.specs.FinMap.{IsAntisymmetric, nat_cmp-IsAntisymmetric, slice_cmp-IsAntisymmetric}
use Rattle.std.specs.declared.cmp.Ordering.{Ordering}
use Rattle.std.specs.declared.cmp.Ordering.TheVariants.{Less, Equal, Greater}
use Rattle.std.proofs.lemmas.Bool.{cases_lt}
use Rattle.std.proofs.lemmas.List.{get_or_default}
use Rattle.sql_names.specs.Names.{name_cmp-IsAntisymmetric}
use Rattle.sql_tree.specs.declared.rights.Action.{Action}
use Rattle.sql_tree.specs.declared.rights.Action.TheVariants as action
use Rattle.cat_items.specs.declared.need.Auth.TheVariants.{System, Public, Named}
use Rattle.cat_items.specs.declared.item.Schema.{Schema}
use Rattle.cat_items.specs.declared.item.Item.{Item}
use Rattle.cat_items.specs.declared.item.Item.TheVariants as item
use Rattle.cat_items.specs.Order.{name_cmp, need_cmp, auth_rank, auth_cmp, right_cmp, action_number, kind_of, key_cmp, item_cmp}
use Rattle.cat_items.specs.Catalogues.{IsInOrder, HasKeyAt, OwnsSchema}
use Rattle.cat_items.proofs.KeyLemmas.{same_key}
use Rattle.system_rights.specs.Layers.{IsRightWhere}

action_number-is : (a b : Action) → action_number a ≡ action_number b → a ≡ b
action_number-is action.Select action.Select e = refl
action_number-is action.Insert action.Insert e = refl
action_number-is action.Update action.Update e = refl
action_number-is action.Delete action.Delete e = refl
action_number-is action.References action.References e = refl
action_number-is action.Usage action.Usage e = refl
action_number-is action.Execute action.Execute e = refl
action_number-is action.Admin action.Admin e = refl
action_number-is a b e = absurd (omega (arith, e))

both_equal : (a b : Ordering) → ordering_then a b ≡ Equal → (a ≡ Equal) × (b ≡ Equal)
both_equal Less b e = absurd (let odd : Less ≡ Equal = e in cc)
both_equal Equal b e = (refl, e)
both_equal Greater b e = absurd (let odd : Greater ≡ Equal = e in cc)

option_cmp-is : {K : Type 0} (R : K → K → Ordering) → IsAntisymmetric R → IsAntisymmetric (option_cmp R)
option_cmp-is R same None None e = refl
option_cmp-is R same None (Some b) e = absurd (let odd : Less ≡ Equal = e in cc)
option_cmp-is R same (Some a) None e = absurd (let odd : Greater ≡ Equal = e in cc)
option_cmp-is R same (Some a) (Some b) e = ap Some (same a b e)

need_cmp-is : IsAntisymmetric need_cmp
need_cmp-is a b e =
    let both = both_equal (nat_cmp (action_number a.action) (action_number b.action)) _ e in
    let rest = both_equal _ _ both.1 in
    let actions : a.action ≡ b.action = action_number-is a.action b.action (nat_cmp-IsAntisymmetric _ _ both.0) in
    let objects : a.on ≡ b.on = slice_cmp-IsAntisymmetric name_cmp-IsAntisymmetric a.on b.on rest.0 in
    let columns : a.column ≡ b.column = option_cmp-is name_cmp name_cmp-IsAntisymmetric a.column b.column rest.1 in
    λ i. record { action = actions i; on = objects i; column = columns i }

auth_cmp-is : IsAntisymmetric auth_cmp
auth_cmp-is (Named a) (Named b) e = ap Named (name_cmp-IsAntisymmetric a b e)
auth_cmp-is System System e = refl
auth_cmp-is Public Public e = refl
auth_cmp-is a b e = absurd (omega (arith, nat_cmp-IsAntisymmetric (auth_rank a) (auth_rank b) e))

right_cmp-is : IsAntisymmetric right_cmp
right_cmp-is a b e =
    let both = both_equal (need_cmp a.need b.need) _ e in
    let rest = both_equal _ _ both.1 in
    let needs : a.need ≡ b.need = need_cmp-is a.need b.need both.0 in
    let grantors : a.grantor ≡ b.grantor = auth_cmp-is a.grantor b.grantor rest.0 in
    let grantees : a.grantee ≡ b.grantee = auth_cmp-is a.grantee b.grantee rest.1 in
    λ i. record { need = needs i; grantor = grantors i; grantee = grantees i }

one_kind : (x y : Item) → item_cmp x y ≡ Equal → kind_of x ≡ kind_of y
one_kind x y e = nat_cmp-IsAntisymmetric (kind_of x) (kind_of y) (both_equal (nat_cmp (kind_of x) (kind_of y)) (key_cmp x y) e).0

right_is : (x y : Item) → kind_of x ≡ kind_of y → IsRightWhere (λ r. Unit {0}) y → key_cmp x y ≡ Equal → x ≡ y
right_is (item.Held a) (item.Held b) k w e = ap item.Held (right_cmp-is a b e)
right_is (item.Grantable a) (item.Grantable b) k w e = ap item.Grantable (right_cmp-is a b e)
right_is x (item.Held b) k w e = absurd (omega (arith, k))
right_is x (item.Grantable b) k w e = absurd (omega (arith, k))
right_is x y k w e = absurd w

-- the right that is found is the right
pub found_right : (items : List Item) (k : ℕ) (right : Item) → IsRightWhere (λ r. Unit {0}) right → HasKeyAt items k right → (x : Item) → Contains items x ↔ (Contains items x ⊎ (x ≡ right))
found_right items k right w has x =
    let e : item_cmp (get_or items k right) right ≡ Equal = has.1 right in
    let is : get_or items k right ≡ right = right_is (get_or items k right) right (one_kind (get_or items k right) right e) w (both_equal (nat_cmp (kind_of (get_or items k right)) (kind_of right)) (key_cmp (get_or items k right) right) e).1 in (
      λ c. inl c,
      λ h. elim h [
        | inl c ↦ c
        | inr same ↦ subst (Contains items) (sym same) (k, has.0, is)
      ],
    )

-- a schema has one owner
pub one_owner : (items : List Item) → IsInOrder items → (s : Schema) (name owner : List ℕ) → Contains items (item.Schema s) → s.name ≡ name → OwnsSchema items name owner → s.owner ≡ owner
one_owner items order s name owner mine named owns =
    elim (cases_lt mine.0 owns.0) [
      | inl before ↦ absurd (unlike mine.0 owns.0 before owns.1 mine.2 owns.2)
      | inr from ↦ elim (cases_lt owns.0 mine.0) [
        | inl behind ↦ absurd (unlike_back owns.0 mine.0 behind mine.1 owns.2 mine.2)
        | inr until ↦
            let here : mine.0 ≡ owns.0 = omega (arith, from, until) in
            let d : Item = item.Schema s in
            let o : Item = item.Schema (record { name = name; owner = owner }) in
            let whole : d ≡ o = sym mine.2 ∙ get_or_default items mine.0 d o mine.1 ∙ ap (λ k. get_or items k o) here ∙ owns.2 in
            let fields : s ≡ record { name = name; owner = owner } = cc in
            ap (λ (t : Schema). t.owner) fields
      ]
    ]
  where
    equal : item_cmp (item.Schema s) (item.Schema (record { name = name; owner = owner })) ≡ Equal
    equal = subst (λ n. item_cmp (item.Schema s) (item.Schema (record { name = n; owner = owner })) ≡ Equal) named (same_key (item.Schema s))

    back : item_cmp (item.Schema (record { name = name; owner = owner })) (item.Schema s) ≡ Equal
    back = subst (λ n. item_cmp (item.Schema (record { name = n; owner = owner })) (item.Schema s) ≡ Equal) named (same_key (item.Schema s))

    unlike : (i j : ℕ) → i < j → j < length items → get_or items i (item.Schema s) ≡ item.Schema s → get_or items j (item.Schema (record { name = name; owner = owner })) ≡ item.Schema (record { name = name; owner = owner }) → ⊥
    unlike i j below within at_i at_j =
        let d : Item = item.Schema s in
        let o : Item = item.Schema (record { name = name; owner = owner }) in
        let there : get_or items j d ≡ o = get_or_default items j d o within ∙ at_j in
        let less : item_cmp (get_or items i d) (get_or items j d) ≡ Less = order i j d below within in
        let odd : item_cmp d o ≡ Less = sym (ap (λ z. item_cmp z (get_or items j d)) at_i ∙ ap (λ z. item_cmp d z) there) ∙ less in
        let clash : Less ≡ Equal = sym odd ∙ equal in cc

    unlike_back : (i j : ℕ) → i < j → j < length items → get_or items i (item.Schema (record { name = name; owner = owner })) ≡ item.Schema (record { name = name; owner = owner }) → get_or items j (item.Schema s) ≡ item.Schema s → ⊥
    unlike_back i j below within at_i at_j =
        let d : Item = item.Schema s in
        let o : Item = item.Schema (record { name = name; owner = owner }) in
        let there : get_or items j o ≡ d = get_or_default items j o d within ∙ at_j in
        let less : item_cmp (get_or items i o) (get_or items j o) ≡ Less = order i j o below within in
        let odd : item_cmp o d ≡ Less = sym (ap (λ z. item_cmp z (get_or items j o)) at_i ∙ ap (λ z. item_cmp o z) there) ∙ less in
        let clash : Less ≡ Equal = sym odd ∙ back in cc
