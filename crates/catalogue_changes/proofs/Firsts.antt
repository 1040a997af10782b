-- The least further item is the first of what is lost or of what is changed.
use Rattle.std.proofs.Common.{◌≡◌, ◌≢◌, ◌⊎◌, List, [], ◌∷◌, Some, None, slice_get, sym, ◌∙◌, ap, subst, refl, inl, inr}
use Rattle.std.specs.List.{Contains}
use Rattle.std.specs.Ordering.{ordering_reverse}
use Rattle.std.specs.declared.cmp.Ordering.{Ordering}
use Rattle.std.specs.declared.cmp.Ordering.TheVariants.{Less, Equal, Greater}
use Rattle.finite_chains.proofs.Members.{Contains-nil}
use Rattle.cat_items.specs.declared.edit.Edit.{Edit}
use Rattle.cat_items.specs.declared.item.Item.{Item}
use Rattle.cat_items.specs.Catalogues.{IsInOrder}
use Rattle.cat_items.specs.Edits.{IsFurther}
use Rattle.cat_items.specs.Order.{item_cmp}
use Rattle.cat_items.proofs.Merges.{at_place}
use Rattle.cat_items.proofs.OrderLemmas.{item_cmp-total}
use Rattle.new_catalogues.specs.Further.{IsLeastFurther}
use Rattle.catalogue_changes.specs.declared.effects.Effects.{Effects}
use Rattle.catalogue_changes.specs.Effects.{IsMadeBy}
use Rattle.catalogue_changes.proofs.Keys.{none_before_first}
use Rattle.catalogue_changes.proofs.Outcomes.{least_of_both, none_of_both}

-- what comes before an item comes before each that doesn't
before_others : (y a r : Item) → item_cmp y r ≡ Less → item_cmp a r ≢ Less → item_cmp y a ≡ Less
before_others y a r less other = by (item_cmp r a) refl
  where
    by : (o : Ordering) → item_cmp r a ≡ o → item_cmp y a ≡ Less
    by Less e = item_cmp-total.trans y r a less e
    by Equal e = item_cmp-total.antisymm y a ∙ ap ordering_reverse (sym (item_cmp-total.congr r a y e)) ∙ sym (item_cmp-total.antisymm y r) ∙ less
    by Greater e = absurd (other (item_cmp-total.antisymm a r ∙ ap ordering_reverse e))

-- the first of a list in order
abbrev IsFirst : List Item → Item → Type 0
IsFirst xs x = Contains xs x × ((y : Item) → Contains xs y → item_cmp y x ≢ Less)

first_is : (xs : List Item) (x : Item) → IsInOrder xs → Some x ≡ slice_get xs 0 → IsFirst xs x
first_is xs x order e = let there = at_place xs 0 x e in ((0, there.0, sym there.1), none_before_first xs x order there.0 (sym there.1))

no_first : (xs : List Item) → None ≡ slice_get xs 0 → (y : Item) → ¬ (Contains xs y)
no_first [] e y h = Contains-nil y h
no_first (x ∷ xs) e y h = let odd : None ≡ Some x = e in cc

module _ (c edited : List Item) (edit : Edit) (new : List Item) (effects : Effects) (made : IsMadeBy c edited edit new effects) where
  abbrev lost : List Item
  lost = effects.lost.items

  pub least_of_firsts : (a b x : Item) → Some a ≡ slice_get lost 0 → Some b ≡ slice_get edit.changed 0 → (x ≡ a) ⊎ (x ≡ b) → item_cmp a x ≢ Less → item_cmp b x ≢ Less → IsLeastFurther c edit new x
  least_of_firsts a b x at_a at_b one first second =
      let is_a = first_is lost a made.has_effects.lost.order at_a in
      let is_b = first_is edit.changed b made.fit.changed_order at_b in
      least_of_both c edited edit new effects made x
      (elim one [ inl e ↦ inl (subst (Contains lost) (sym e) is_a.0) | inr e ↦ inr (subst (Contains edit.changed) (sym e) is_b.0) ])
      (λ y h less. is_a.1 y h (before_others y a x less first))
      (λ y h less. is_b.1 y h (before_others y b x less second))

  pub least_lost : (x : Item) → Some x ≡ slice_get lost 0 → None ≡ slice_get edit.changed 0 → IsLeastFurther c edit new x
  least_lost x at none =
      let is = first_is lost x made.has_effects.lost.order at in
      least_of_both c edited edit new effects made x (inl is.0) is.1 (λ y h. absurd (no_first edit.changed none y h))

  pub least_changed : (x : Item) → None ≡ slice_get lost 0 → Some x ≡ slice_get edit.changed 0 → IsLeastFurther c edit new x
  least_changed x none at =
      let is = first_is edit.changed x made.fit.changed_order at in
      least_of_both c edited edit new effects made x (inr is.0) (λ y h. absurd (no_first lost none y h)) is.1

  pub none_further : None ≡ slice_get lost 0 → None ≡ slice_get edit.changed 0 → (x : Item) → IsFurther c edit new x → ⊥
  none_further no_lost no_changed = none_of_both c edited edit new effects made (no_first lost no_lost) (no_first edit.changed no_changed)
