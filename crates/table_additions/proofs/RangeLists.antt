-- The items of a range as a list.
use Rattle.std.proofs.Common.{◌≡◌, ◌↔◌, ℕ, ◌+◌, ◌-◌, ◌<◌, List, length, take, drop, get_or, sym, ◌∙◌, ap, subst, arith}
use Rattle.std.specs.List.{Contains}
use Rattle.std.specs.declared.cmp.Ordering.TheVariants.{Less}
use Rattle.std.proofs.lemmas.List.{get_or-take, get_or-drop, length-drop, length-take-le}
use Rattle.cat_items.specs.declared.item.Item.{Item}
use Rattle.cat_items.specs.Catalogues.{IsInOrder}
use Rattle.cat_items.specs.Order.{item_cmp}
use Rattle.cat_items.specs.Ranges.{IsRange}
use Rattle.edit_rules.specs.Chosen.{AreChosen}

module _ (items : List Item) (from to : ℕ) (P : Item → Type 0) (range : IsRange items from to P) where
  abbrev stretch : List Item
  stretch = take (to - from) (drop from items)

  size : length stretch ≡ to - from
  size = length-take-le (to - from) (drop from items) (omega (arith, length-drop from items, range.ordered, range.within))

  at : (k : ℕ) (d : Item) → k < to - from → get_or stretch k d ≡ get_or items (from + k) d
  at k d below = get_or-take (to - from) (drop from items) k d below ∙ get_or-drop from items k d

  pub stretch_order : IsInOrder items → IsInOrder stretch
  stretch_order order i j d low high =
      let below : j < to - from = omega (arith, high, size) in
      subst (λ a. item_cmp a (get_or stretch j d) ≡ Less) (sym (at i d (omega (arith, low, below))))
      (subst (λ b. item_cmp (get_or items (from + i) d) b ≡ Less) (sym (at j d below)) (order (from + i) (from + j) d (omega (arith, low)) (omega (arith, below, range.within))))

  inside : (x : Item) → Contains stretch x → Contains items x × P x
  inside x h =
      let below : h.0 < to - from = omega (arith, h.1, size) in
      let is : get_or items (from + h.0) x ≡ x = sym (at h.0 x below) ∙ h.2 in
      ((from + h.0, omega (arith, below, range.within), is), subst P is (range.inside (from + h.0) x (omega arith) (omega (arith, below))))

  within : (x : Item) → Contains items x → P x → Contains stretch x
  within x h p =
      let between = range.outside h.0 x h.1 (subst P (sym h.2) p) in
      let below : h.0 - from < to - from = omega (arith, between.0, between.1) in
      let place : from + (h.0 - from) ≡ h.0 = omega (arith, between.0) in
      (h.0 - from, omega (arith, below, size), at (h.0 - from) x below ∙ ap (λ k. get_or items k x) place ∙ h.2)

  pub stretch_members : (x : Item) → Contains stretch x ↔ (Contains items x × P x)
  stretch_members x = (inside x, λ h. within x h.0 h.1)

-- what is chosen of a range is chosen of the whole, where all that is so lies in it
pub chosen_of_range : (items part found : List Item) (Lies P : Item → Type 0) → ((x : Item) → Contains part x ↔ (Contains items x × Lies x)) → ((x : Item) → P x → Lies x) → AreChosen part P found → AreChosen items P found
chosen_of_range items part found Lies P members lies chosen = record {
  order = chosen.order;
  members = λ x. (
    λ h. let is = (chosen.members x).0 h in (((members x).0 is.0).0, is.1),
    λ h. (chosen.members x).1 ((members x).1 (h.0, lies x h.1), h.1),
  );
}
