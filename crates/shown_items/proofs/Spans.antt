-- Items at places of a catalogue that stand together.
use Rattle.std.proofs.Common.{◌≡◌, ◌⊎◌, inl, inr, sym, subst, ◌∙◌, ℕ, ◌+◌, ◌<◌, ◌≤◌, List, length, arith}
use Rattle.std.specs.Prelude.{◌↔◌, slice_index_or}
use Rattle.std.proofs.lemmas.Bool.{cases_lt}
use Rattle.std.proofs.lemmas.List.{get_or_default}
use Rattle.cat_items.specs.declared.item.Item.{Item}
use Rattle.cat_items.specs.Ranges.{IsRange}
use Rattle.cat_items.specs.Reach.{Has}
use Rattle.schema_tables.specs.Shown.{Shown}

-- of each item at the places from one to before another
abbrev pub InSpan : List Item → ℕ → ℕ → (Item → Shown → Type 0) → Shown → Type 0
InSpan items from to Q s = (k : ℕ) × (x : Item) × (from ≤ k) × (k < to) × (slice_index_or items k x ≡ x) × Q x s

module _ (items : List Item) (Q : Item → Shown → Type 0) (from : ℕ) where
  module _ (i : ℕ) (d : Item) (low : from ≤ i) (within : i < length items) (here : slice_index_or items i d ≡ d) (s : Shown) where
    more : InSpan items from i Q s ⊎ Q d s → InSpan items from (i + 1) Q s
    more (inl h) = (h.0, h.1, h.2, omega (arith, h.3), h.4, h.5)
    more (inr q) = (i, d, low, omega arith, here, q)

    at_last : (k : ℕ) (x : Item) → k ≡ i → slice_index_or items k x ≡ x → Q x s → Q d s
    at_last k x e is q =
        let place : slice_index_or items i x ≡ x = subst (λ n. slice_index_or items n x ≡ x) e is in
        let same : slice_index_or items i x ≡ slice_index_or items i d = get_or_default items i x d within in
        subst (λ y. Q y s) (sym place ∙ same ∙ here) q

    fewer : InSpan items from (i + 1) Q s → InSpan items from i Q s ⊎ Q d s
    fewer h = elim (cases_lt h.0 i) [
      | inl less ↦ inl (h.0, h.1, h.2, less, h.4, h.5)
      | inr last ↦ inr (at_last h.0 h.1 (omega (arith, h.3, last)) h.4 h.5)
    ]

    pub span_more : (InSpan items from i Q s ⊎ Q d s) ↔ InSpan items from (i + 1) Q s
    span_more = (more, fewer)

  -- those of a range
  pub span_all : (P : Item → Type 0) (to i : ℕ) → IsRange items from to P → i ≡ to → (s : Shown) → InSpan items from i Q s ↔ Has items (λ x. P x × Q x s)
  span_all P to i range e s = (
    λ h.
        let high : h.0 < to = omega (arith, e, h.3) in
        (h.1, (h.0, omega (arith, range.within, high), h.4), (subst P h.4 (range.inside h.0 h.1 h.2 high), h.5)),
    λ h.
        let inside = range.outside h.1.0 h.0 h.1.1 (subst P (sym h.1.2) h.2.0) in
        (h.1.0, h.0, inside.0, omega (arith, e, inside.1), h.1.2, h.2.1),
  )

  pub span_none : (s : Shown) → InSpan items from from Q s → ⊥
  span_none s h = absurd (omega (arith, h.2, h.3))
