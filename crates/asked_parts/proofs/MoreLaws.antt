-- More suspects come to a part, with what their options add to.
use Rattle.std.proofs.Common.{◌≡◌, ◌⊎◌, ◌↔◌, ◌≤◌, inl, inr, ℕ, List, [], sym}
use Rattle.std.specs.List.{Contains, sum_by}
use Rattle.std.specs.declared.cmp.Ordering.TheVariants.{Equal}
use Rattle.finite_chains.specs.Chains.{IsWithin}
use Rattle.finite_chains.proofs.Members.{Contains-nil}
use Rattle.item_index.specs.Graphs.{Graph}
use Rattle.cat_items.specs.declared.item.Item.{Item}
use Rattle.cat_items.specs.Catalogues.{IsInOrder}
use Rattle.cat_items.specs.Order.{item_cmp}
use Rattle.edit_rules.proofs.ItemKeys.{one_granted}
use Rattle.topic_keys.specs.Lists.{Gets}
use Rattle.asked_parts.specs.Parts.{HasAsked, IsAskedBy}
use Rattle.asked_parts.specs.Rounds.{HasAskedAll, IsAddedToBySome, IsBegun, IsClosed, IsLeast, IsUnderWay, WasAsked}
use Rattle.asked_parts.specs.Under.{AreApart, look_ups}
use Rattle.asked_parts.proofs.AskLaws.{asked_by_more}
use Rattle.asked_parts.proofs.BeginLaws.{option_granted}
use Rattle.asked_parts.proofs.GrowthLaws.{no_more, once, one_by_key}
use Rattle.asked_parts.proofs.UnderLaws.{flipped}

-- what is closed for all suspects is closed for some of them
pub closed_for : (g : Graph Item) (marks : List ℕ) (some all p : List Item) → IsWithin some all → IsClosed g marks all p → IsClosed g marks some p
closed_for g marks some all p within closed = record {
  begun = record { has_suspects = λ x h. closed.begun.has_suspects x (within x h); options = λ x y h is. closed.begun.options x y (within x h) is };
  asked = λ k y h under. closed.asked k y (h.0, within h.0 h.1, h.2) under;
}

-- nothing is asked for by none
pub none_asked : (g : Graph Item) (marks : List ℕ) → IsInOrder [] → HasAskedAll g marks [] [] []
none_asked g marks order = record {
  way = record { order = order; asked_order = order; begun = begun; from = λ x h. inl h; asked_for = λ k h. absurd (Contains-nil k h); found = λ k y h under. absurd (Contains-nil k h) };
  closed = record { begun = begun; asked = λ k y h under. absurd (Contains-nil h.0 h.1) };
  least = λ p closed x h. absurd (Contains-nil x h);
}
  where
    begun : IsBegun g marks [] []
    begun = record { has_suspects = λ x h. h; options = λ x y h is. absurd (Contains-nil x h) }

module _ (g : Graph Item) (marks : List ℕ) (suspects more part asked : List Item) (was : WasAsked g marks suspects more part asked) where
  some : IsWithin was.0 suspects
  some x h = (was.2 x).1 (inl h)

  asked_still : (k : Item) → Contains asked k → IsAskedBy part suspects k
  asked_still k h = let by = was.1.way.asked_for k h in (by.0, some by.0 by.1, by.2)

  -- where there are no more, all was asked for
  pub asked_before : ((x : Item) → Contains more x → ⊥) → HasAskedAll g marks suspects part asked
  asked_before none = record {
    way = record {
      order = was.1.way.order;
      asked_order = was.1.way.asked_order;
      begun = begun;
      from = λ x h. elim (was.1.way.from x h) [ inl s ↦ inl (some x s) | inr free ↦ inr free ];
      asked_for = asked_still;
      found = was.1.way.found;
    };
    closed = record { begun = begun; asked = λ k y h under. was.1.closed.asked k y (h.0, back h.0 h.1, h.2) under };
    least = λ p closed. was.1.least p (closed_for g marks was.0 suspects p some closed);
  }
    where
      back : IsWithin suspects was.0
      back x h = elim ((was.2 x).0 h) [ inl s ↦ s | inr m ↦ absurd (none x m) ]

      begun : IsBegun g marks suspects part
      begun = record { has_suspects = λ x h. was.1.way.begun.has_suspects x (back x h); options = λ x y h is. was.1.way.begun.options x y (back x h) is }

  module _ (first : List Item) (first_are : (y : Item) → Contains first y ↔ (Contains more y ⊎ IsAddedToBySome g marks more y)) where
    -- what comes has no place of another item of the part
    pub first_apart : AreApart g marks suspects → IsInOrder suspects → (x y : Item) → Contains part x → Contains first y → item_cmp x y ≡ Equal → x ≡ y
    first_apart apart order x y h f e = elim ((first_are y).0 f) [
      | inr added ↦ one_granted x y (option_granted added.0 y added.2.0) e
      | inl m ↦ (elim (was.1.way.from x h) [
        | inl s ↦ one_by_key suspects order x y (some x s) ((was.2 y).1 (inr m)) e
        | inr free ↦ sym (apart y x ((was.2 y).1 (inr m)) free (flipped x y e))
      ])
    ]

    module _ (new : List Item) (gets : Gets (Contains first) part new) where
      part_within : IsWithin part new
      part_within y h = (gets y).1 (inl h)

      begun_new : IsBegun g marks suspects new
      begun_new = record {
        has_suspects = λ x h. elim ((was.2 x).0 h) [ inl s ↦ part_within x (was.1.way.begun.has_suspects x s) | inr m ↦ (gets x).1 (inr ((first_are x).1 (inl m))) ];
        options = λ x y h is. elim ((was.2 x).0 h) [ inl s ↦ part_within y (was.1.way.begun.options x y s is) | inr m ↦ (gets y).1 (inr ((first_are y).1 (inr (x, m, is)))) ];
      }

      pub way_more : IsInOrder new → IsUnderWay g marks suspects new asked
      way_more order = record {
        order = order;
        asked_order = was.1.way.asked_order;
        begun = begun_new;
        from = λ x h. elim ((gets x).0 h) [
          | inl old ↦ (elim (was.1.way.from x old) [ inl s ↦ inl (some x s) | inr free ↦ inr free ])
          | inr f ↦ (elim ((first_are x).0 f) [ inl m ↦ inl ((was.2 x).1 (inr m)) | inr added ↦ inr added.2.1 ])
        ];
        asked_for = λ k h. asked_by_more part new part_within suspects k (asked_still k h);
        found = λ k y h under. part_within y (was.1.way.found k y h under);
      }

      pub least_more : IsLeast g marks suspects new
      least_more p closed y h = elim ((gets y).0 h) [
        | inl old ↦ was.1.least p (closed_for g marks was.0 suspects p some closed) y old
        | inr f ↦ (elim ((first_are y).0 f) [ inl m ↦ closed.begun.has_suspects y ((was.2 y).1 (inr m)) | inr added ↦ closed.begun.options added.0 y ((was.2 added.0).1 (inr added.1)) added.2 ])
      ]

  -- what was asked for before costs no more than what all of the suspects ask for
  asked_within_all : (p keys : List Item) → IsClosed g marks suspects p → HasAsked p suspects keys → IsWithin asked keys
  asked_within_all p keys closed has k h = has k (asked_by_more part p (was.1.least p (closed_for g marks was.0 suspects p some closed)) suspects k (asked_still k h))

  pub asked_costs_no_more : (p keys : List Item) → IsClosed g marks suspects p → HasAsked p suspects keys → sum_by (look_ups g) asked ≤ sum_by (look_ups g) keys
  asked_costs_no_more p keys closed has = no_more (look_ups g) asked keys (once asked was.1.way.asked_order) (asked_within_all p keys closed has)
