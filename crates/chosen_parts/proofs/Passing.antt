-- Whether an item of parts is so.
use Rattle.std.proofs.Common.{◌≡◌, ℕ, ◌+◌, ◌<◌, ◌≤◌, List, [], ◌∷◌, ◌++◌, length, take, get_or, sym, ◌∙◌, ap, subst, inl, inr, arith}
use Rattle.std.specs.List.{Contains, HoldsAt}
use Rattle.std.proofs.lemmas.Bool.{cases_lt}
use Rattle.std.proofs.lemmas.List.{take_more, take_all, get_or_default}
use Rattle.std.proofs.lemmas.List.Elements.{Contains-get_or, Contains-push_cases}
use Rattle.cat_items.specs.declared.item.Item.{Item}
use Rattle.cat_items.specs.declared.ranges.Part.{Part}
use Rattle.cat_items.specs.Ranges.{IsIn, IsRange}
use Rattle.cat_items.specs.Reach.{Has}
use Rattle.chosen_parts.specs.Parts.{LieIn, LiesIn, PassesBetween}

-- nothing is so from one place to before another
abbrev pub NoneBetween : (Item → Type 0) → List Item → ℕ → ℕ → Type 0
NoneBetween P items from to = (k : ℕ) → from ≤ k → k < to → HoldsAt P items k → ⊥

pub none_more : (P : Item → Type 0) (items : List Item) (from at : ℕ) (x : Item) → x ≡ get_or items at x → (P x → ⊥) → NoneBetween P items from at → NoneBetween P items from (at + 1)
none_more P items from at x is not none k low below so =
    elim (cases_lt k at) [
      | inl before ↦ none k low before so
      | inr now ↦ let same : k ≡ at = omega (arith, now, below) in not (subst P (sym is) (subst (λ n. P (get_or items n x)) same (so x)))
    ]

pub none_passes : (P : Item → Type 0) (items : List Item) (from to at : ℕ) → to ≤ at → NoneBetween P items from at → PassesBetween P items from to → ⊥
none_passes P items from to at all none h = none h.0 h.1 (omega (arith, h.2, all)) h.3

pub one_passes : (P : Item → Type 0) (items : List Item) (from to at : ℕ) (x : Item) → from ≤ at → at < to → to ≤ length items → x ≡ get_or items at x → P x → PassesBetween P items from to
one_passes P items from to at x low below within is so = (at, low, below, λ d. subst P (is ∙ get_or_default items at x d (omega (arith, below, within))) so)

-- no item of a catalogue that is so is of these parts
abbrev pub NoneIn : (Item → Type 0) → List Item → List Part → Type 0
NoneIn P items parts = (x : Item) → Contains items x → P x → LiesIn parts x → ⊥

pub none_in_more : (P : Item → Type 0) (items : List Item) (parts : List Part) (i from to : ℕ) (part : Part) → i < length parts → part ≡ get_or parts i part → IsRange items from to (IsIn part) → (PassesBetween P items from to → ⊥)
    → NoneIn P items (take i parts) → NoneIn P items (take (i + 1) parts)
none_in_more P items parts i from to part low is range none old x there so lies =
    elim (Contains-push_cases (take i parts) part lies.0 (subst (λ l. Contains l lies.0) (take_more parts i part low ∙ ap (λ p. take i parts ++ p ∷ []) (sym is)) lies.1)) [
      | inl before ↦ old x there so (lies.0, before, lies.2)
      | inr e ↦
          let here : IsIn part x = subst (λ (p : Part). IsIn p x) (sym e) lies.2 in
          let place = range.outside there.0 x there.1 (subst (IsIn part) (sym there.2) here) in
          none (there.0, place.0, place.1, λ d. subst P (sym there.2 ∙ get_or_default items there.0 x d there.1) so)
    ]

pub none_in_any : (P : Item → Type 0) (items : List Item) (parts : List Part) (i : ℕ) → length parts ≤ i → LieIn items parts P → NoneIn P items (take i parts) → Has items P → ⊥
none_in_any P items parts i all lie none h = none h.0 h.1 h.2 (subst (λ l. LiesIn l h.0) (sym (take_all i parts all)) (lie h.0 h.1 h.2))

pub has_of_range : (P : Item → Type 0) (items : List Item) (from to : ℕ) (d : Item) → to ≤ length items → PassesBetween P items from to → Has items P
has_of_range P items from to d within h = (get_or items h.0 d, Contains-get_or items h.0 d (omega (arith, h.2, within)), h.3 d)
