-- What becomes of the items of an edit that fits.
use Rattle.std.proofs.Common.{◌≡◌, ◌≢◌, ◌⊎◌, ℕ, List, [], ◌∷◌, Option, Some, None, sym, ◌∙◌, ap, subst, refl, inl, inr}
use Rattle.std.specs.List.{Contains}
use Rattle.std.specs.Ordering.{ordering_reverse}
use Rattle.std.specs.declared.cmp.Ordering.{Ordering}
use Rattle.std.specs.declared.cmp.Ordering.TheVariants.{Less, Equal, Greater}
use Rattle.finite_chains.specs.Chains.{IsWithin, IsChain}
use Rattle.finite_chains.proofs.Chains.{IsChain-within}
use Rattle.finite_chains.proofs.Members.{Contains-nil, Contains-cases}
use Rattle.sql_tree.specs.declared.rights.Action.{Action}
use Rattle.sql_tree.specs.declared.rights.Action.TheVariants as action
use Rattle.cat_items.specs.declared.edit.Edit.{Edit}
use Rattle.cat_items.specs.declared.item.Right.{Right}
use Rattle.cat_items.specs.declared.item.Item.{Item}
use Rattle.cat_items.specs.declared.item.Item.TheVariants as item
use Rattle.cat_items.specs.declared.need.Auth.{Auth}
use Rattle.cat_items.specs.declared.need.Auth.TheVariants.{System, Public, Named}
use Rattle.cat_items.specs.Catalogues.{IsInOrder}
use Rattle.cat_items.specs.Edits.{IsFurther}
use Rattle.cat_items.specs.Fit.{IsRight, LacksPart, LacksPartBy, IsSystemRightGone}
use Rattle.cat_items.specs.Order.{item_cmp}
use Rattle.cat_items.specs.Reach.{Has}
use Rattle.cat_items.specs.Rights.{IsAuthorization, IsObject, IsColumn, HasColumn, Stands}
use Rattle.cat_items.specs.Supported.{Supported, IsGrantee}
use Rattle.cat_items.specs.Survivors.{IsSystemRight}
use Rattle.cat_items.proofs.CatalogueLemmas.{same_in_order}
use Rattle.cat_items.proofs.OrderLemmas.{item_cmp-total}
use Rattle.new_catalogues.specs.Further.{IsLeastFurther}
use Rattle.new_catalogues.proofs.Joins.{one_by_key}
use Rattle.catalogue_changes.specs.declared.effects.Effects.{Effects}
use Rattle.catalogue_changes.specs.Effects.{IsMadeBy}
use Rattle.catalogue_changes.proofs.Keys.{in_part}

-- ---- a right is no part of another

pub right_by_system : (c : List Item) (x : Item) → IsSystemRight c x → IsRight x
right_by_system c (item.Held r) h = tt
right_by_system c (item.Grantable r) h = tt
right_by_system c x h = absurd h

no_authorization : (name : List ℕ) (x : Item) → IsRight x → IsAuthorization name x → ⊥
no_authorization name (item.Held r) h p = p
no_authorization name (item.Grantable r) h p = p
no_authorization name x h p = absurd h

no_column : (path : List (List ℕ)) (name : List ℕ) (x : Item) → IsRight x → IsColumn path name x → ⊥
no_column path name (item.Held r) h p = p
no_column path name (item.Grantable r) h p = p
no_column path name x h p = absurd h

no_object : (by : Action) (path : List (List ℕ)) (x : Item) → IsRight x → IsObject by path x → ⊥
no_object action.Select path (item.Held r) h p = p
no_object action.Insert path (item.Held r) h p = p
no_object action.Update path (item.Held r) h p = p
no_object action.Delete path (item.Held r) h p = p
no_object action.References path (item.Held r) h p = p
no_object action.Usage path (item.Held r) h p = p
no_object action.Execute path (item.Held r) h p = p
no_object action.Admin path (item.Held r) h p = p
no_object action.Select path (item.Grantable r) h p = p
no_object action.Insert path (item.Grantable r) h p = p
no_object action.Update path (item.Grantable r) h p = p
no_object action.Delete path (item.Grantable r) h p = p
no_object action.References path (item.Grantable r) h p = p
no_object action.Usage path (item.Grantable r) h p = p
no_object action.Execute path (item.Grantable r) h p = p
no_object action.Admin path (item.Grantable r) h p = p
no_object by path x h p = absurd h

-- A right by the system whose support stands beside other rights by the system doesn't lack a part.
module _ (c s : List Item) (within : (y : Item) → Contains s y → Contains c y ⊎ IsSystemRight c y) where
  has_before : (P : Item → Type 0) → ((x : Item) → IsRight x → P x → ⊥) → Has s P → Has c P
  has_before P none h =
      elim (within h.0 h.1) [
        | inl here ↦ (h.0, here, h.2)
        | inr right ↦ absurd (none h.0 (right_by_system c h.0 right) h.2)
      ]

  column_before : (path : List (List ℕ)) (column : Option (List ℕ)) → HasColumn s path column → HasColumn c path column
  column_before path None h = tt
  column_before path (Some name) h = has_before (IsColumn path name) (no_column path name) h

  grantee_before : (a : Auth) → IsGrantee s a → IsGrantee c a
  grantee_before System h = absurd h
  grantee_before Public h = tt
  grantee_before (Named name) h = has_before (IsAuthorization name) (no_authorization name) h

  lacks_none : (r : Right) → LacksPart c r → Stands s r.need → IsGrantee s r.grantee → ⊥
  lacks_none r lacks stands grantee =
      elim lacks [
        | inl none ↦ none (grantee_before r.grantee grantee)
        | inr part ↦ elim part [
          | inl none ↦ none (has_before (IsObject r.need.action r.need.on) (no_object r.need.action r.need.on) stands.0)
          | inr none ↦ none (column_before r.need.on r.need.column stands.1)
        ]
      ]

  pub not_gone : (all : List Item) (x : Item) → IsSystemRight c x → Supported all s x → IsSystemRightGone c x → ⊥
  not_gone all (item.Held r) right rests gone = lacks_none r (subst (λ a. LacksPartBy a c r) right.0 gone) rests.1 rests.2
  not_gone all (item.Grantable r) right rests gone = lacks_none r (subst (λ a. LacksPartBy a c r) right.0 gone) rests.0.1 rests.0.2
  not_gone all x right rests gone = absurd right

-- what survives is supported by some of the list
pub chain_support : (support : List Item → Item → Type 0) (c chain : List Item) → IsChain support c chain → (x : Item) → Contains chain x → (s : List Item) × IsWithin s c × support s x
chain_support support c [] p x h = absurd (Contains-nil x h)
chain_support support c (y ∷ chain) p x h =
    elim (Contains-cases y chain x h) [
      | inl e ↦ (chain, IsChain-within support c chain p.2, subst (support chain) e p.1)
      | inr later ↦ chain_support support c chain p.2 x later
    ]

-- ---- the items of an edit

module _ (c edited : List Item) (edit : Edit) (new : List Item) (effects : Effects) (made : IsMadeBy c edited edit new effects) where
  abbrev all : List Item
  all = made.is_new.all

  same_edited : made.is_new.edited ≡ edited
  same_edited =
      let a = made.is_new.is_edited in
      let b = made.fit.is_edited in
      same_in_order made.is_new.edited edited a.order b.order (λ x. (λ h. (b.members x).1 ((a.members x).0 h), λ h. (a.members x).1 ((b.members x).0 h)))

  in_all : (x : Item) → Contains all x → Contains edited x ⊎ IsSystemRight edited x
  in_all x h = subst (λ l. Contains l x ⊎ IsSystemRight l x) same_edited ((made.is_new.with_system.members x).0 h)

  edited_in : (x : Item) → Contains edited x → Contains all x
  edited_in x h = (made.is_new.with_system.members x).1 (inl (subst (λ l. Contains l x) (sym same_edited) h))

  new_in : IsWithin new all
  new_in x h = let s = (made.is_new.survivors.members x).0 h in IsChain-within (Supported all) all s.0 s.1 x s.2

  pub new_order : IsInOrder new
  new_order = made.is_new.survivors.order

  -- an item of the edited catalogue stands or doesn't
  pub stands_or_not : (x : Item) → Contains edited x → Contains new x ⊎ (¬ (Contains new x))
  stands_or_not x h = in_part new all new_in made.is_new.with_system.order x (edited_in x h)

  -- where something that stands comes from
  pub comes_from : (x : Item) → Contains new x → Contains edited x ⊎ IsSystemRight edited x
  comes_from x h = in_all x (new_in x h)

  -- a changed item doesn't stand
  pub changed_goes : (x : Item) → Contains edit.changed x → Contains new x → ⊥
  changed_goes x changed h =
      let apart = made.fit.apart x changed in
      elim (comes_from x h) [
        | inl there ↦ elim ((made.fit.is_edited.members x).0 there) [ inl old ↦ old.2 changed | inr added ↦ apart.1 added ]
        | inr right ↦ apart.2 (right_by_system edited x right)
      ]

  -- an item of the target stands only where it is added
  pub target_goes : (x : Item) → Contains edit.target x → Contains new x → Contains edit.added x
  target_goes x target h =
      elim (comes_from x h) [
        | inl there ↦ elim ((made.fit.is_edited.members x).0 there) [ inl old ↦ absurd (old.1 target) | inr added ↦ added ]
        | inr right ↦
            let s = (made.is_new.survivors.members x).0 h in
            let by = chain_support (Supported all) all s.0 s.1 x s.2 in
            absurd (not_gone edited by.0 (λ y k. in_all y (by.1 y k)) all x right by.2 (made.fit.gone x target))
      ]

  -- what is neither target nor changed nor lost stands
  pub others_stand : (x : Item) → Contains c x → (¬ (Contains edit.target x)) → (¬ (Contains edit.changed x)) → (¬ (Contains effects.lost.items x)) → Contains new x
  others_stand x here target changed lost =
      elim (stands_or_not x ((made.fit.is_edited.members x).1 (inl (here, target, changed)))) [
        | inl h ↦ h
        | inr none ↦ absurd (lost ((made.has_effects.lost.members x).1 (here, target, changed, none)))
      ]

  -- ---- the least further item

  lost_is_further : (x : Item) → Contains effects.lost.items x → IsFurther c edit new x
  lost_is_further x h = let is = (made.has_effects.lost.members x).0 h in (is.0, is.1, is.3)

  changed_is_further : (x : Item) → Contains edit.changed x → IsFurther c edit new x
  changed_is_further x h = (made.fit.changed x h, (made.fit.apart x h).0, changed_goes x h)

  further_is : (x : Item) → IsFurther c edit new x → (¬ (Contains edit.changed x)) → Contains effects.lost.items x
  further_is x h changed = (made.has_effects.lost.members x).1 (h.0, h.1, changed, h.2)

  pub least_of_both : (x : Item) → Contains effects.lost.items x ⊎ Contains edit.changed x → ((y : Item) → Contains effects.lost.items y → item_cmp y x ≢ Less) → ((y : Item) → Contains edit.changed y → item_cmp y x ≢ Less) → IsLeastFurther c edit new x
  least_of_both x here no_lost no_changed = record {
    is = is;
    least = λ other h. by other h (item_cmp x other) refl;
  }
    where
      is : IsFurther c edit new x
      is = elim here [ inl h ↦ lost_is_further x h | inr h ↦ changed_is_further x h ]

      by : (other : Item) → IsFurther c edit new other → (o : Ordering) → item_cmp x other ≡ o → (other ≡ x) ⊎ (item_cmp x other ≡ Less)
      by other h Less e = inr e
      by other h Equal e = inl (sym (one_by_key c made.order x other is.0 h.0 e))
      by other h Greater e =
          let before : item_cmp other x ≡ Less = item_cmp-total.antisymm other x ∙ ap ordering_reverse e in
          absurd (no_lost other (further_is other h (λ k. no_changed other k before)) before)

  pub none_of_both : ((y : Item) → ¬ (Contains effects.lost.items y)) → ((y : Item) → ¬ (Contains edit.changed y)) → (x : Item) → IsFurther c edit new x → ⊥
  none_of_both no_lost no_changed x h = no_lost x (further_is x h (no_changed x))
