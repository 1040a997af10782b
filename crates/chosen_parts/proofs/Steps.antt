-- One range after the other is looked through.
use Rattle.std.proofs.Common.{◌≡◌, ℕ, ◌<◌, ◌≤◌, max, List, length, take, get_or, sym, arith}
use Rattle.std.specs.List.Sorted.{IsNonDecreasingBy}
use Rattle.std.specs.declared.ops.Range.{Range}
use Rattle.cat_items.specs.declared.item.Item.{Item}
use Rattle.cat_items.specs.declared.ranges.Part.{Part}
use Rattle.edit_rules.specs.Chosen.{AreChosen}
use Rattle.chosen_parts.specs.Parts.{AreRanges, LieIn}
use Rattle.chosen_parts.proofs.Covering.{AllEndBy, none_between, none_behind}
use Rattle.chosen_parts.proofs.Skipping.{skipped, skipped_to_end}

module _ (items : List Item) (parts : List Part) (ranges : List (Range ℕ)) (P : Item → Type 0) (found : List Item) (i at : ℕ) (are : AreRanges items parts ranges) (lie : LieIn items parts P) (within : at ≤ length items)
    (ends : AllEndBy (take i ranges) at) (chosen : AreChosen (take at items) P found) where
  pub fits_in : (range : Range ℕ) (from to : ℕ) → i < length ranges → range ≡ get_or ranges i range → from ≡ max range.start at → to ≡ max range.end from → (from ≤ to) × (to ≤ length items)
  fits_in range from to low is starts stops =
      let own = are.within range (i, low, sym is) in
      (omega (arith, stops), omega (arith, starts, stops, own.0, own.1, within))

  -- nothing is passed over before a range
  pub before_range : (range : Range ℕ) (from : ℕ) → IsNonDecreasingBy (λ (r : Range ℕ). r.start) ranges → i < length ranges → range ≡ get_or ranges i range → from ≡ max range.start at → AreChosen (take from items) P found
  before_range range from rising low is starts =
      let own = are.within range (i, low, sym is) in
      skipped items found P at from (omega (arith, starts)) (omega (arith, starts, own.0, own.1, within))
      (λ k d after before so. none_between items parts ranges P are lie i at k range d rising low is ends after (omega (arith, after, before, starts)) (omega (arith, before, starts, own.0, own.1, within)) so) chosen

  -- nor behind the last one
  pub behind_ranges : length ranges ≤ i → AreChosen items P found
  behind_ranges all = skipped_to_end items found P at within (λ k d after low so. none_behind items parts ranges P are lie i at k d all ends after low so) chosen
