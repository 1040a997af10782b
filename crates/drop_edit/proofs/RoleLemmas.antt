-- A role goes soundly with the grants of it and to it, and the privileges that were granted to it.
use Rattle.std.proofs.Common.{◌≡◌, inl, inr, ℕ, List, [], ◌∷◌, Some, refl, sym, subst, ap, ◌∙◌}
use Rattle.std.specs.List.{Contains}
use Rattle.finite_chains.proofs.Members.{Contains-nil}
use Rattle.sql_names.specs.declared.object.Object.{Object}
use Rattle.cat_items.specs.declared.edit.Edit.{Edit}
use Rattle.cat_items.specs.declared.item.Item.{Item}
use Rattle.cat_items.specs.declared.item.Item.TheVariants as item
use Rattle.cat_items.specs.declared.need.Auth.{Auth}
use Rattle.cat_items.specs.declared.need.Auth.TheVariants.{Named}
use Rattle.cat_items.specs.Edits.{IsEdited}
use Rattle.cat_items.specs.Fit.{IsSystemRightGone}
use Rattle.cat_items.specs.Good.{IsGood}
use Rattle.cat_items.specs.Reach.{Has}
use Rattle.cat_items.specs.Rights.{IsAuthorization, IsRole}
use Rattle.cat_items.specs.Shape.{IsColumnOf, authorizations}
use Rattle.cat_items.specs.Supported.{IsGrantee}
use Rattle.edit_laws.specs.Kinds.{taking}
use Rattle.edit_laws.specs.Sound.{IsSound}
use Rattle.edit_laws.proofs.Fits.{held_gone, grantable_gone}
use Rattle.edit_laws.proofs.Taking.{sound_of_taking}
use Rattle.edit_rules.specs.Chosen.{IsTaking}
use Rattle.edit_rules.proofs.SettledEdits.{chosen_within, taking_is}
use Rattle.drop_edit.specs.DroppedRoles.{IsOfRole}

role_no_column : (role : List ℕ) (x : Item) → IsOfRole role x → (t : Object) → ¬ (IsColumnOf t x)
role_no_column role (item.Role n) is t h = h
role_no_column role (item.RoleAuth g) is t h = h
role_no_column role (item.RoleAdmin g) is t h = h
role_no_column role (item.Held r) is t h = h
role_no_column role (item.Grantable r) is t h = h
role_no_column role _ is t h = is

module _ (c : List Item) (role : List ℕ) (edit : Edit) (good : IsGood c) (stands : ¬ (¬ (Has c (IsRole role)))) (is : IsTaking c (IsOfRole role) edit) where
  -- no user is called like the role
  no_user : (n : List ℕ) → Contains c (item.User n) → n ≡ role → ⊥
  no_user n here same = stands (λ h. clash h.0 h.1 h.2)
    where
      clash : (y : Item) → Contains c y → IsRole role y → ⊥
      clash (item.Role m) there e =
          let one : item.User n ≡ item.Role m = good.shape.names (item.User n) (item.Role m) _ here there refl (ap (λ k. Some (authorizations, k ∷ [])) (e ∙ sym same)) in cc
      clash _ there e = e

  gone_role : (edited : List Item) → IsEdited c (taking edit.target) edited → ¬ (Has edited (IsAuthorization role))
  gone_role edited e h = by h.0 h.1 h.2
    where
      left : (y : Item) → Contains edited y → Contains c y × (¬ (Contains edit.target y))
      left y here = elim ((e.members y).0 here) [ inl k ↦ (k.0, k.1) | inr none ↦ absurd (Contains-nil y none) ]

      by : (y : Item) → Contains edited y → IsAuthorization role y → ⊥
      by (item.User n) here same = no_user n (left (item.User n) here).0 same
      by (item.Role n) here same = let k = left (item.Role n) here in k.1 ((is.target.members (item.Role n)).1 (k.0, same))
      by _ here same = same

  no_grantee : (edited : List Item) → IsEdited c (taking edit.target) edited → (grantee : Auth) → grantee ≡ Named role → ¬ (IsGrantee edited grantee)
  no_grantee edited e grantee same h = gone_role edited e (subst (IsGrantee edited) same h)

  gone : (edited : List Item) → IsEdited c (taking edit.target) edited → (x : Item) → IsOfRole role x → IsSystemRightGone edited x
  gone edited e (item.Role n) of = tt
  gone edited e (item.RoleAuth g) of = tt
  gone edited e (item.RoleAdmin g) of = tt
  gone edited e (item.Held r) of = held_gone edited r (inl (no_grantee edited e r.grantee of))
  gone edited e (item.Grantable r) of = grantable_gone edited r (inl (no_grantee edited e r.grantee of))
  gone edited e _ of = absurd of

  pub sound_of_dropping : IsSound c edit
  sound_of_dropping =
      subst (IsSound c) (sym (taking_is c (IsOfRole role) edit is))
      (sound_of_taking c edit.target good is.target.order (chosen_within c (IsOfRole role) edit.target is.target)
      (λ x h t. role_no_column role x ((is.target.members x).0 h).1 t)
      (λ edited e x h. gone edited e x ((is.target.members x).0 h).1))
