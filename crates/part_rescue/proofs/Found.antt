-- What is rescued of a part is what rounds over it have to find.
use Rattle.std.proofs.Common.{◌≡◌, ◌⊎◌, inl, inr, ℕ, ◌<◌, Bool, true, false, List, length, get_or, set, sym, ◌∙◌, subst, arith, get_or-set_other}
use Rattle.std.specs.List.{Contains, All}
use Rattle.std.proofs.lemmas.Bool.{both_ways}
use Rattle.std.proofs.lemmas.List.{get_or-set_same}
use Rattle.std.proofs.Math.ListN.{length-set}
use Rattle.std.proofs.lemmas.Bool.{cases_eq}
use Rattle.std.proofs.lemmas.List.Elements.{All-contains}
use Rattle.finite_chains.specs.Chains.{IsWithin, Survives}
use Rattle.finite_chains.proofs.Cascades.{clear_survives}
use Rattle.finite_chains.proofs.Chains.{Survives-step}
use Rattle.finite_chains.proofs.Members.{All-from_contains}
use Rattle.item_index.specs.Graphs.{Graph}
use Rattle.cat_items.specs.declared.edit.Edit.{Edit}
use Rattle.cat_items.specs.declared.item.Item.{Item}
use Rattle.cat_items.specs.Catalogues.{IsInOrder}
use Rattle.cat_items.specs.Edits.{IsNew}
use Rattle.cat_items.specs.Fit.{IsFit}
use Rattle.cat_items.specs.Good.{IsGood}
use Rattle.cat_items.specs.Supported.{Supported}
use Rattle.cat_items.specs.Survivors.{IsWithSystem}
use Rattle.support_laws.proofs.Monotone.{supported_monotone}
use Rattle.role_graph.specs.Marked.{marked}
use Rattle.role_graph.proofs.MarkedLemmas.{Contains-marked, place_of_marked}
use Rattle.cascade_laws.specs.Asks.{Asks}
use Rattle.cascade_laws.specs.Topics.{Topic, IsUnder}
use Rattle.cascade_laws.specs.Concerns.{Concerns}
use Rattle.cascade_laws.specs.Found.{IsFound}
use Rattle.cascade_laws.specs.Spreading.{IsSpread}
use Rattle.finite_chains.specs.Changes.{LawsOfChange}
use Rattle.cascade_laws.proofs.Outcome.{change, new_from_rounds, u}
use Rattle.cascade_laws.proofs.Stable.{supported_among}
use Rattle.part_rounds.specs.Grown.{Grows}
use Rattle.part_rounds.specs.Grown as on
use Rattle.part_rounds.proofs.RoundLemmas.{grown_keeps}
use Rattle.asked_parts.specs.Parts.{IsPartOf}
use Rattle.part_rescue.specs.Rescued.{AreRescued, AreTold, IsStanding}

-- ---- marks

marked_within : {X : Type 0} (xs : List X) (m : List Bool) → IsWithin (marked xs m) xs
marked_within xs m x h = let p = place_of_marked xs m x h in (p.0, p.1.low, p.1.is)

-- a mark more takes none away
marked_more : {X : Type 0} (xs : List X) (m : List Bool) (at : ℕ) → at < length m → IsWithin (marked xs m) (marked xs (set m at true))
marked_more xs m at low y h =
    let p = place_of_marked xs m y h in
    let mark : get_or (set m at true) p.0 false ≡ true =
    elim (cases_eq p.0 at) [
      | inl e ↦ subst (λ k. get_or (set m at true) k false ≡ true) (sym e) (get_or-set_same m at true false low)
      | inr ne ↦ get_or-set_other m at p.0 true false ne ∙ p.1.mark
    ] in
    subst (λ z. Contains (marked xs (set m at true)) z) p.1.is (Contains-marked xs (set m at true) p.0 y p.1.low mark)

-- marks that grow keep their items
grown_more : {X : Type 0} (sup : List X → X → Type 0) (xs : List X) (m0 : List Bool) → length m0 ≡ length xs → (m : List Bool) → Grows sup xs m0 m → (length m ≡ length xs) × IsWithin (marked xs m0) (marked xs m)
grown_more sup xs m0 size m on.same = (size, λ y h. h)
grown_more sup xs m0 size m (on.more m1 at grown low off is) =
    let before = grown_more sup xs m0 size m1 grown in
    let in_m : at < length m1 = omega (arith, low, before.0) in
    (length-set m1 at true ∙ before.0, λ y h. marked_more xs m1 at in_m y (before.1 y h))

-- ---- the part

-- a suspect in the part is among those that are listed
listed_suspect : (c f : List Item) (suspect : Item → Bool) (g : Graph Item) (touched : List ℕ) (suspects part : List Item) → AreTold g c touched f suspect suspects → IsPartOf g c touched suspects part
    → (x : Item) → Contains part x → suspect x ≡ true → Contains suspects x
listed_suspect c f suspect g touched suspects part told is_part x h sx = elim (is_part.from x h) [ inl was ↦ was | inr kept ↦ absurd (both_ways (suspect x) ((told.others x).0 kept).1 sx) ]

-- it has all that they ask for
pub has_asked : (c f : List Item) (suspect : Item → Bool) (g : Graph Item) (touched : List ℕ) (suspects part : List Item) → AreTold g c touched f suspect suspects → IsPartOf g c touched suspects part
    → (x : Item) → Contains part x → suspect x ≡ true → (y : Item) (t : Topic) → Contains c y → suspect y ≡ false → Asks part x t → IsUnder t y → Contains part y
has_asked c f suspect g touched suspects part told is_part x h sx y t cy ny asks under =
    is_part.asked x y t (listed_suspect c f suspect g touched suspects part told is_part x h sx) ((told.others y).1 (cy, ny)) asks under

-- ---- the law

module _ (c edited f : List Item) (edit : Edit) (suspect : Item → Bool) (good : IsGood c) (fit : IsFit c edit edited) (with_f : IsWithSystem edited f) (is_spread : IsSpread c good.all edit f suspect)
    (g : Graph Item) (touched : List ℕ) (suspects part standing : List Item) (marks : List Bool) (told : AreTold g c touched f suspect suspects) (is_part : IsPartOf g c touched suspects part)
    (is_rescued : AreRescued suspects part marks) (is_standing : IsStanding c suspect part marks standing) where
  concerns : Item → Item → Type 0
  concerns = Concerns (u c good.all edited f edit suspect good.shape.derived good.with_system good.survivors fit with_f is_spread)

  laws : LawsOfChange (Supported good.all) (Supported f) concerns suspect good.all c f
  unfolding concerns
  laws = change c good.all edited f edit suspect good.shape.derived good.with_system good.survivors fit with_f is_spread

  -- an item of the part is a suspect, or an old one that is none
  part_cases : (x : Item) → Contains part x → Contains suspects x ⊎ (Contains c x × (suspect x ≡ false))
  part_cases x h = elim (is_part.from x h) [ inl was ↦ inl was | inr kept ↦ inr ((told.others x).0 kept) ]

  part_within : IsWithin part f
  part_within x h = elim (part_cases x h) [ inl was ↦ ((told.listed x).0 was).0 | inr old ↦ laws.stays x old.1 old.0 ]

  no_suspect : (x : Item) → suspect x ≡ false → ¬ (Contains suspects x)
  no_suspect x clear h = both_ways (suspect x) clear ((told.listed x).0 h).1

  -- what is no suspect survives by the first half of the cascade
  first_survive : All (Survives (Supported f) f) (marked part is_rescued.first)
  first_survive =
      All-from_contains (Survives (Supported f) f) (marked part is_rescued.first) (λ x h.
      let at = (is_rescued.clear.members x).0 h in
      elim (part_cases x at.0) [
        | inl was ↦ absurd (at.1 was)
        | inr old ↦ clear_survives (Supported good.all) (Supported f) concerns suspect good.all c f laws (supported_monotone f) x old.0 old.1
      ])

  -- support over the part is support over f
  step : (s : List Item) (x : Item) → All (Survives (Supported f) f) s → IsWithin s part → Contains part x → Supported part s x → Survives (Supported f) f x
  step s x all w h is = Survives-step (Supported f) (supported_monotone f) f s x all (part_within x h) (supported_among part f s x (λ t e k hk col. part_within k hk) is)

  pub is_found : IsFound c f suspect part (marked part marks) standing
  is_found = record {
    within = part_within;
    suspects = λ x h sx. is_part.has_suspects x ((told.listed x).1 (h, sx));
    asked = λ x h sx. inr (has_asked c f suspect g touched suspects part told is_part x h sx);
    clear = λ x h nx cx. (grown_more (Supported part) part is_rescued.first is_rescued.clear.size marks is_rescued.grown).1 x ((is_rescued.clear.members x).1 (h, no_suspect x nx));
    found_part = marked_within part marks;
    sound = λ x h. All-contains (Survives (Supported f) f) (marked part marks) x (grown_keeps (Supported part) part (Survives (Supported f) f) step is_rescued.first is_rescued.clear.size first_survive marks is_rescued.grown).1 h;
    closed = λ x h sx is. is_rescued.closed x h is;
    members = is_standing;
  }

  pub is_new : IsInOrder standing → IsNew c edit standing
  is_new order = new_from_rounds c edited f part (marked part marks) standing edit suspect good fit with_f is_spread is_found order
