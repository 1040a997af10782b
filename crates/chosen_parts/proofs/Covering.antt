-- The places of parts cover the items of these parts.
use Rattle.std.proofs.Common.{◌≡◌, ℕ, ◌+◌, ◌<◌, ◌≤◌, List, [], ◌∷◌, ◌++◌, length, take, get_or, sym, ◌∙◌, ap, subst, inl, inr, arith}
use Rattle.std.specs.List.{Contains}
use Rattle.std.specs.List.Sorted.{IsPermutation, IsNonDecreasingBy}
use Rattle.std.specs.declared.ops.Range.{Range}
use Rattle.std.proofs.lemmas.Bool.{cases_lt}
use Rattle.std.proofs.lemmas.List.{take_more, take_all, get_or_default, get_or-take, length-take-le}
use Rattle.std.proofs.lemmas.List.Elements.{Contains-append_left, Contains-push, Contains-push_cases, Contains-get_or}
use Rattle.std.proofs.lemmas.List.Sorted.{Contains-permutation, IsPermutation-sym}
use Rattle.cat_items.specs.declared.item.Item.{Item}
use Rattle.cat_items.specs.declared.ranges.Part.{Part}
use Rattle.cat_items.specs.Ranges.{IsIn, IsRange}
use Rattle.chosen_parts.specs.Parts.{AreRanges, IsCovered, LieIn}

nothing_in : {X : Type 0} (x : X) → Contains [] x → ⊥
nothing_in x h = omega (arith, h.1)

pub none_covered : (items : List Item) (parts : List Part) → AreRanges items (take 0 parts) []
none_covered items parts = record {
  within = λ range h. absurd (nothing_in range h);
  covered = λ k d low lies. absurd (nothing_in lies.0 lies.1);
}

-- one part more, with its places
pub covered_more : (items : List Item) (parts : List Part) (ranges : List (Range ℕ)) (i : ℕ) (part : Part) (range : Range ℕ) → i < length parts → part ≡ get_or parts i part
    → IsRange items range.start range.end (IsIn part) → AreRanges items (take i parts) ranges → AreRanges items (take (i + 1) parts) (ranges ++ range ∷ [])
covered_more items parts ranges i part range low is here old = record {
  within = λ r h. elim (Contains-push_cases ranges range r h) [
    | inl before ↦ old.within r before
    | inr e ↦ subst (λ (s : Range ℕ). (s.start ≤ s.end) × (s.end ≤ length items)) e (here.ordered, here.within)
  ];
  covered = λ k d within lies. elim (Contains-push_cases (take i parts) part lies.0 (subst (λ l. Contains l lies.0) grown lies.1)) [
    | inl before ↦ wider k (old.covered k d within (lies.0, before, lies.2))
    | inr e ↦
        let place = here.outside k d within (subst (λ (p : Part). IsIn p (get_or items k d)) (sym e) lies.2) in
        (range, Contains-push ranges range, place.0, place.1)
  ];
}
  where
    grown : take (i + 1) parts ≡ take i parts ++ part ∷ []
    grown = take_more parts i part low ∙ ap (λ p. take i parts ++ p ∷ []) (sym is)

    wider : (k : ℕ) → IsCovered ranges k → IsCovered (ranges ++ range ∷ []) k
    wider k h = (h.0, Contains-append_left ranges (range ∷ []) h.0 h.1, h.2, h.3)

pub covered_all : (items : List Item) (parts : List Part) (ranges : List (Range ℕ)) (i : ℕ) → length parts ≤ i → AreRanges items (take i parts) ranges → AreRanges items parts ranges
covered_all items parts ranges i all h = subst (λ l. AreRanges items l ranges) (take_all i parts all) h

-- in whatever order
pub covered_moved : (items : List Item) (parts : List Part) (ranges moved : List (Range ℕ)) → IsPermutation ranges moved → AreRanges items parts ranges → AreRanges items parts moved
covered_moved items parts ranges moved same h = record {
  within = λ range there. h.within range (Contains-permutation moved ranges range (IsPermutation-sym ranges moved same) there);
  covered = λ k d low lies. let was = h.covered k d low lies in (was.0, Contains-permutation ranges moved was.0 same was.1, was.2, was.3);
}

-- ranges that end before a place
abbrev pub AllEndBy : List (Range ℕ) → ℕ → Type 0
AllEndBy ranges at = (range : Range ℕ) → Contains ranges range → range.end ≤ at

module _ (items : List Item) (parts : List Part) (ranges : List (Range ℕ)) (P : Item → Type 0) (are : AreRanges items parts ranges) (lie : LieIn items parts P) where
  range_of : (k : ℕ) (d : Item) → k < length items → P (get_or items k d) → IsCovered ranges k
  range_of k d low so = are.covered k d low (lie (get_or items k d) (Contains-get_or items k d low) so)

  -- nothing is so between the ranges before one and its start
  pub none_between : (i at k : ℕ) (range : Range ℕ) (d : Item) → IsNonDecreasingBy (λ (r : Range ℕ). r.start) ranges → i < length ranges → range ≡ get_or ranges i range
      → AllEndBy (take i ranges) at → at ≤ k → k < range.start → k < length items → P (get_or items k d) → ⊥
  none_between i at k range d rising low is done from before within so = by (range_of k d within so)
    where
      by : IsCovered ranges k → ⊥
      by h =
          let j : ℕ = h.1.0 in
          let r : Range ℕ = h.0 in
          elim (cases_lt j i) [
            | inl earlier ↦
                let size : length (take i ranges) ≡ i = length-take-le i ranges (omega (arith, low)) in
                let ends : r.end ≤ at = done r (j, omega (arith, earlier, size), get_or-take i ranges j r earlier ∙ h.1.2) in
                omega (arith, ends, h.3, from)
            | inr later ↦
                let mine : get_or ranges i r ≡ range = sym (is ∙ get_or_default ranges i range r low) in
                let starts : range.start ≤ r.start = subst (λ (s : Range ℕ). range.start ≤ s.start) h.1.2 (subst (λ (s : Range ℕ). s.start ≤ (get_or ranges j r).start) mine (rising i j r later h.1.1)) in
                omega (arith, starts, h.2, before)
          ]

  -- nor behind all of them
  pub none_behind : (i at k : ℕ) (d : Item) → length ranges ≤ i → AllEndBy (take i ranges) at → at ≤ k → k < length items → P (get_or items k d) → ⊥
  none_behind i at k d all done from within so =
      let h = range_of k d within so in
      let ends : h.0.end ≤ at = done h.0 (subst (λ l. Contains l h.0) (sym (take_all i ranges all)) h.1) in
      omega (arith, ends, h.3, from)

-- one range more
pub all_end_more : (ranges : List (Range ℕ)) (i at to : ℕ) (range : Range ℕ) → i < length ranges → range ≡ get_or ranges i range → at ≤ to → range.end ≤ to → AllEndBy (take i ranges) at → AllEndBy (take (i + 1) ranges) to
all_end_more ranges i at to range low is up ends done r h =
    elim (Contains-push_cases (take i ranges) range r (subst (λ l. Contains l r) (take_more ranges i range low ∙ ap (λ s. take i ranges ++ s ∷ []) (sym is)) h)) [
      | inl before ↦ let was : r.end ≤ at = done r before in omega (arith, was, up)
      | inr e ↦ subst (λ (s : Range ℕ). s.end ≤ to) e ends
    ]

pub none_end : (ranges : List (Range ℕ)) → AllEndBy (take 0 ranges) 0
none_end ranges range h = absurd (nothing_in range h)
