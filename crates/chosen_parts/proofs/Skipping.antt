-- Places that are passed over, where nothing is chosen.
use Rattle.std.proofs.Common.{◌≡◌, ℕ, ◌<◌, ◌≤◌, List, length, take, get_or, sym, ◌∙◌, subst, inl, inr, arith}
use Rattle.std.specs.List.{Contains}
use Rattle.std.proofs.lemmas.Bool.{cases_lt}
use Rattle.std.proofs.lemmas.List.{get_or-take, length-take-le, take_all}
use Rattle.cat_items.specs.declared.item.Item.{Item}
use Rattle.edit_rules.specs.Chosen.{AreChosen}

module _ (items part : List Item) (P : Item → Type 0) (a b : ℕ) (up : a ≤ b) (within : b ≤ length items) (none : (k : ℕ) (d : Item) → a ≤ k → k < b → P (get_or items k d) → ⊥) (old : AreChosen (take a items) P part) where
  front : length (take a items) ≡ a
  front = length-take-le a items (omega (arith, up, within))

  more : length (take b items) ≡ b
  more = length-take-le b items within

  wider : (y : Item) → Contains (take a items) y → Contains (take b items) y
  wider y h =
      let low : h.0 < a = omega (arith, h.1, front) in
      (h.0, omega (arith, low, up, more), get_or-take b items h.0 y (omega (arith, low, up)) ∙ sym (get_or-take a items h.0 y low) ∙ h.2)

  narrower : (y : Item) → Contains (take b items) y → P y → Contains (take a items) y
  narrower y h so =
      let low : h.0 < b = omega (arith, h.1, more) in
      let is : get_or items h.0 y ≡ y = sym (get_or-take b items h.0 y low) ∙ h.2 in
      elim (cases_lt h.0 a) [
        | inl early ↦ (h.0, omega (arith, early, front), get_or-take a items h.0 y early ∙ is)
        | inr late ↦ absurd (none h.0 y late low (subst P (sym is) so))
      ]

  pub skipped : AreChosen (take b items) P part
  skipped = record {
    order = old.order;
    members = λ y. (
      λ h. let was = (old.members y).0 h in (wider y was.0, was.1),
      λ h. (old.members y).1 (narrower y h.0 h.1, h.1),
    );
  }

-- nothing more is chosen to the end
pub skipped_to_end : (items part : List Item) (P : Item → Type 0) (a : ℕ) → a ≤ length items → ((k : ℕ) (d : Item) → a ≤ k → k < length items → P (get_or items k d) → ⊥) → AreChosen (take a items) P part → AreChosen items P part
skipped_to_end items part P a within none old =
    subst (λ l. AreChosen l P part) (take_all (length items) items (omega arith)) (skipped items part P a (length items) within (omega arith) none old)
