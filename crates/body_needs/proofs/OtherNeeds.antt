-- The needs of a list but one, one after the other.
use Rattle.std.proofs.Common.{◌≡◌, ◌≢◌, ◌↔◌, ℕ, ◌+◌, ◌<◌, ◌≤◌, List, [], ◌∷◌, ◌++◌, length, take, get_or, ap, sym, subst, ◌∙◌, inl, inr}
use Rattle.std.specs.List.{Contains}
use Rattle.std.proofs.lemmas.List.{take_all, take_more}
use Rattle.std.proofs.lemmas.List.Elements.{Contains-append_left, Contains-append_right, Contains-push_cases}
use Rattle.finite_chains.proofs.Members.{Contains-nil, Contains-head}
use Rattle.cat_items.specs.declared.need.Need.{Need}

abbrev pub AreOthers : List Need → List Need → Need → Type 0
AreOthers part front own = (x : Need) → Contains part x ↔ (Contains front x × (x ≢ own))

pub others_none : (all : List Need) (own : Need) → AreOthers [] (take 0 all) own
others_none all own x = (λ h. absurd (Contains-nil x h), λ h. absurd (Contains-nil x h.0))

grown : (all : List Need) (k : ℕ) (y : Need) → k < length all → y ≡ get_or all k y → take (k + 1) all ≡ take k all ++ y ∷ []
grown all k y low is = take_more all k y low ∙ ap (λ z. take k all ++ z ∷ []) (sym is)

with_last : (front part : List Need) (own y : Need) → AreOthers part front own → y ≢ own → AreOthers (part ++ y ∷ []) (front ++ y ∷ []) own
with_last front part own y old other x = (into, out_of)
  where
    into : Contains (part ++ y ∷ []) x → Contains (front ++ y ∷ []) x × (x ≢ own)
    into h = elim (Contains-push_cases part y x h) [
      | inl p ↦ let was = (old x).0 p in (Contains-append_left front (y ∷ []) x was.0, was.1)
      | inr e ↦ (subst (Contains (front ++ y ∷ [])) e (Contains-append_right front (y ∷ []) y (Contains-head y [])), subst (λ z. z ≢ own) e other)
    ]

    out_of : Contains (front ++ y ∷ []) x × (x ≢ own) → Contains (part ++ y ∷ []) x
    out_of h = elim (Contains-push_cases front y x h.0) [
      | inl f ↦ Contains-append_left part (y ∷ []) x ((old x).1 (f, h.1))
      | inr e ↦ subst (Contains (part ++ y ∷ [])) e (Contains-append_right part (y ∷ []) y (Contains-head y []))
    ]

without_last : (front part : List Need) (own y : Need) → AreOthers part front own → y ≡ own → AreOthers part (front ++ y ∷ []) own
without_last front part own y old same x = (
  λ p. let was = (old x).0 p in (Contains-append_left front (y ∷ []) x was.0, was.1),
  λ h. elim (Contains-push_cases front y x h.0) [ inl f ↦ (old x).1 (f, h.1) | inr e ↦ absurd (h.1 (sym e ∙ same)) ],
)

pub others_more : (all part : List Need) (own : Need) (k : ℕ) (y : Need) → k < length all → y ≡ get_or all k y → AreOthers part (take k all) own → y ≢ own → AreOthers (part ++ y ∷ []) (take (k + 1) all) own
others_more all part own k y low is old other = subst (λ l. AreOthers (part ++ y ∷ []) l own) (sym (grown all k y low is)) (with_last (take k all) part own y old other)

pub others_less : (all part : List Need) (own : Need) (k : ℕ) (y : Need) → k < length all → y ≡ get_or all k y → AreOthers part (take k all) own → y ≡ own → AreOthers part (take (k + 1) all) own
others_less all part own k y low is old same = subst (λ l. AreOthers part l own) (sym (grown all k y low is)) (without_last (take k all) part own y old same)

pub others_all : (all part : List Need) (own : Need) (k : ℕ) → length all ≤ k → AreOthers part (take k all) own → AreOthers part all own
others_all all part own k high old = subst (λ l. AreOthers part l own) (take_all k all high) old
