-- Edits of rights alone leave a good catalogue good.
use Rattle.std.proofs.Common.{◌≡◌, ◌⊎◌, inl, inr, ℕ, Bool, List, [], ap, sym, subst, ◌∙◌}
use Rattle.std.specs.List.{Contains}
use Rattle.std.specs.Ordering.{ordering_reverse}
use Rattle.std.specs.declared.cmp.Ordering.TheVariants.{Equal}
use Rattle.finite_chains.specs.Chains.{IsWithin}
use Rattle.finite_chains.proofs.Members.{Contains-nil}
use Rattle.sql_names.specs.declared.object.Object.{Object}
use Rattle.cat_items.specs.declared.need.Auth.{Auth}
use Rattle.cat_items.specs.declared.need.Need.{Need}
use Rattle.cat_items.specs.declared.edit.Edit.{Edit}
use Rattle.cat_items.specs.declared.item.Item.{Item}
use Rattle.cat_items.specs.declared.item.Item.TheVariants as item
use Rattle.cat_items.specs.Fit.{IsRight, HasNewKey}
use Rattle.cat_items.specs.Good.{IsGood}
use Rattle.cat_items.specs.Order.{item_cmp}
use Rattle.cat_items.specs.Shape.{IsColumnOf}
use Rattle.cat_items.proofs.OrderLemmas.{item_cmp-total}
use Rattle.edit_laws.specs.Sound.{IsSound}
use Rattle.edit_laws.specs.Additions.{HasNoShape}
use Rattle.edit_laws.specs.Kinds.{adding, taking, IsBySystem}
use Rattle.edit_laws.proofs.Fits.{edited_of_taking, fit_of_adding, fit_of_taking, gone_without_system}
use Rattle.edit_laws.proofs.GoodCatalogues.{good_order}
use Rattle.edit_laws.proofs.Shapes.{keeps_without_columns, plain_derived, right_is_no_column, shape_of_plain, shape_of_taking}
use Rattle.edit_rules.specs.Chosen.{IsAdding, IsTaking}
use Rattle.grant_edit.specs.Revokes.{IsIdentifiedRight, Revoked}
use Rattle.grant_edit.proofs.RightLemmas.{same_right}

right_has_no_shape : (x : Item) → IsRight x → HasNoShape x
right_has_no_shape (item.Held r) h = tt
right_has_no_shape (item.Grantable r) h = tt
right_has_no_shape _ h = absurd h

right_is_new : (c : List Item) (x : Item) → IsRight x → HasNewKey c x
right_is_new c (item.Held r) h = tt
right_is_new c (item.Grantable r) h = tt
right_is_new c _ h = absurd h

-- rights that are added
pub adding_is_sound : (c : List Item) (P : Item → Type 0) (edit : Edit) → IsGood c → IsAdding P edit → ((x : Item) → P x → IsRight x) → IsSound c edit
adding_is_sound c P edit good adds right =
    let rights : (x : Item) → Contains edit.added x → IsRight x = λ x h. right x ((adds.added.members x).0 h) in
    let fit = fit_of_adding c edit.added (good_order c good) adds.added.order
    (λ x y h k e. sym (same_right x y (rights x h) (flip x y e)))
    (λ x h. right_is_new c x (rights x h))
    (λ x h. plain_derived x (right_has_no_shape x (rights x h))) in
    let keeps = keeps_without_columns c (adding edit.added) (λ x h t of. elim h [ inl none ↦ Contains-nil x none | inr none ↦ Contains-nil x none ]) in
    let shape = shape_of_plain c (adding edit.added) fit.0 good.shape fit.1.is_edited (λ x h. right_has_no_shape x (rights x h)) keeps in
    let same : adding edit.added ≡ edit = whole in
    subst (IsSound c) same (record { edited = fit.0; fit = fit.1; shape = shape })
  where
    flip : (x y : Item) → item_cmp x y ≡ Equal → item_cmp y x ≡ Equal
    flip x y e = item_cmp-total.antisymm y x ∙ ap ordering_reverse e

    whole : adding edit.added ≡ edit
    whole = λ i. record { target = sym adds.target i; changed = sym adds.changed i; added = edit.added }

identified_right : (k : Revoked) (x : Item) → IsIdentifiedRight k x → IsRight x
identified_right k (item.Held r) h = tt
identified_right k (item.Grantable r) h = tt
identified_right k _ h = absurd h

identified_by : (k : Revoked) (x : Item) → IsIdentifiedRight k x → ¬ (IsBySystem x)
identified_by k (item.Held r) h e = let by = h.1.1 in cc
identified_by k (item.Grantable r) h e = let by = h.1 in cc
identified_by k _ h e = h

-- rights by a named grantor that are destroyed
pub taking_is_sound : (c : List Item) (k : Revoked) (edit : Edit) → IsGood c → IsTaking c (IsIdentifiedRight k) edit → IsSound c edit
taking_is_sound c k edit good takes =
    let within : IsWithin edit.target c = λ x h. ((takes.target.members x).0 h).0 in
    let edited = edited_of_taking c edit.target (good_order c good) within in
    let fit = fit_of_taking c edit.target edited.0 takes.target.order within edited.1
    (λ x h. gone_without_system edited.0 x (identified_by k x ((takes.target.members x).0 h).1)) in
    let keeps = keeps_without_columns c (taking edit.target) columns in
    let shape = shape_of_taking c edit.target edited.0 good.shape edited.1 keeps in
    subst (IsSound c) whole (record { edited = edited.0; fit = fit; shape = shape })
  where
    columns : (x : Item) → Contains edit.target x ⊎ Contains [] x → (t : Object) → ¬ (IsColumnOf t x)
    columns x (inl h) t = right_is_no_column x (identified_right k x ((takes.target.members x).0 h).1) t
    columns x (inr none) t = absurd (Contains-nil x none)

    whole : taking edit.target ≡ edit
    whole = λ i. record { target = edit.target; changed = sym takes.changed i; added = sym takes.added i }
