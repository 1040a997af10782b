-- On which objects the system grants something.
use Rattle.std.proofs.Common.{◌≡◌, ◌↔◌, ◌⊎◌, ℕ, Bool, List, sym, ◌∙◌, ap, inl, inr}
use Rattle.std.specs.Bool.{IsTrue}
use Rattle.sql_names.specs.declared.object.Object.{Object}
use Rattle.cat_items.specs.declared.need.Auth.{Auth}
use Rattle.cat_items.specs.declared.need.Need.{Need}
use Rattle.cat_items.specs.declared.item.Item.{Item}
use Rattle.cat_items.specs.declared.item.Item.TheVariants as item
use Rattle.cat_items.specs.Ranges.{IsView, IsDomainOf, IsRoutineOf}
use Rattle.cat_items.specs.Reach.{Has}
use Rattle.cat_items.specs.Rights.{path_of, IsBaseTable}
use Rattle.cat_items.specs.SystemRights.{IsSystemRow}
use Rattle.role_graph.proofs.MeetingLemmas.{same_object}

-- the object of a need
pub row_there : (grantable : Bool) (s : List Item) (schema : List ℕ) (owner : Auth) (need : Need) (o : Object) → need.on ≡ path_of o → (y : Item) → IsSystemRow grantable s schema owner need y
    → IsBaseTable o y ⊎ (IsView o y ⊎ (IsDomainOf o y ⊎ IsRoutineOf o y))
row_there grantable s schema owner need o on (item.Table t) h = inl (same_object o t (sym on ∙ h.1))
row_there grantable s schema owner need o on (item.View v) h = inr (inl (same_object o v.view (sym on ∙ h.1)))
row_there grantable s schema owner need o on (item.Domain d) h = inr (inr (inl (same_object o d.domain (sym on ∙ ap (λ (n : Need). n.on) h.1))))
row_there grantable s schema owner need o on (item.Routine r) h = inr (inr (inr (same_object o r.routine (sym on ∙ ap (λ (n : Need). n.on) h.1))))
row_there grantable s schema owner need o on _ h = absurd h

-- what is so is in one of four parts, and in three of them nothing is so
pub last_of_four : (s : List Item) (A B C D P : Item → Type 0) (r : Bool) → ((y : Item) → P y → A y ⊎ (B y ⊎ (C y ⊎ D y))) → (Has s (λ y. A y × P y) → ⊥) → (Has s (λ y. B y × P y) → ⊥) → (Has s (λ y. C y × P y) → ⊥)
    → (IsTrue r ↔ Has s (λ y. D y × P y)) → IsTrue r ↔ Has s P
last_of_four s A B C D P r parts a b c d = (
  λ e. let h = d.0 e in (h.0, h.1, h.2.1),
  λ h. elim (parts h.0 h.2) [
    | inl x ↦ absurd (a (h.0, h.1, (x, h.2)))
    | inr rest ↦ elim rest [
      | inl x ↦ absurd (b (h.0, h.1, (x, h.2)))
      | inr others ↦ elim others [
        | inl x ↦ absurd (c (h.0, h.1, (x, h.2)))
        | inr x ↦ d.1 (h.0, h.1, (x, h.2))
      ]
    ]
  ],
)
