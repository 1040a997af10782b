-- The least need that isn't met.
use Rattle.std.proofs.Common.{◌≡◌, ◌≢◌, ◌⊎◌, ℕ, ◌≤◌, ◌+◌, ◌<◌, Bool, false, List, [], ◌∷◌, ◌++◌, Option, Some, None, Ordering, length, take, get_or, ap, sym, subst, refl, ◌∙◌, inl, inr}
use Rattle.std.specs.List.{Contains}
use Rattle.std.specs.Ordering.{ordering_reverse}
use Rattle.std.specs.declared.cmp.Ordering.TheVariants.{Less, Equal, Greater}
use Rattle.std.proofs.lemmas.Cmp.{tied_itself}
use Rattle.std.proofs.lemmas.List.Elements.{Contains-append_left, Contains-append_right, Contains-push_cases}
use Rattle.finite_chains.proofs.Members.{Contains-nil, Contains-head}
use Rattle.cat_items.specs.declared.item.Item.{Item}
use Rattle.cat_items.specs.declared.need.Auth.TheVariants.{Named}
use Rattle.cat_items.specs.declared.need.Need.{Need}
use Rattle.cat_items.specs.Order.{need_cmp}
use Rattle.cat_items.specs.Rights.{Met}
use Rattle.cat_items.proofs.OrderLemmas.{need_cmp-total}
use Rattle.edit_rules.specs.Privileges.{IsBehind, IsLeastNeed, IsLeastUnmet, IsUnmet}
use Rattle.edit_rules.proofs.Lists.{take_next, take_whole}

pub greater_if_not : (o : Ordering) → (o ≢ Greater → ⊥) → o ≡ Greater
greater_if_not Less n = absurd (n (λ e. cc))
greater_if_not Equal n = absurd (n (λ e. cc))
greater_if_not Greater n = refl

not_greater : (a b : Need) → need_cmp a b ≡ Less → need_cmp a b ≢ Greater
not_greater a b less greater = cc

-- no need comes before itself
pub itself : (a : Need) → need_cmp a a ≢ Greater
itself a greater = let tied = tied_itself need_cmp-total a in cc

-- what is before the least is before all
pub before_all : (x least other : Need) → need_cmp least x ≡ Greater → need_cmp least other ≢ Greater → need_cmp x other ≢ Greater
before_all x least other greater most = by (need_cmp least other) refl
  where
    before : need_cmp x least ≡ Less
    before = need_cmp-total.antisymm x least ∙ ap ordering_reverse greater

    by : (o : Ordering) → need_cmp least other ≡ o → need_cmp x other ≢ Greater
    by Less e = not_greater x other (need_cmp-total.trans x least other before e)
    by Equal e = not_greater x other (need_cmp-total.antisymm x other ∙ ap ordering_reverse (sym (need_cmp-total.congr least other x e) ∙ greater))
    by Greater e = absurd (most e)

module _ (c : List Item) (owner : List ℕ) where
  abbrev pub IsMet : Need → Type 0
  IsMet need = Met false c (Named owner) need

  -- no need has been looked at
  pub none_unmet : (needs : List Need) → IsLeastUnmet c owner (take 0 needs) None
  none_unmet needs need h = Contains-nil need h.0

  old_or_new : (front : List Need) (x need : Need) → IsUnmet c owner (front ++ x ∷ []) need → IsUnmet c owner front need ⊎ ((x ≡ need) × (¬ (IsMet need)))
  old_or_new front x need h = elim (Contains-push_cases front x need h.0) [ inl old ↦ inl (old, h.1) | inr e ↦ inr (e, h.1) ]

  -- one need more that is behind the least, or met
  stays : (front : List Need) (least : Option Need) (x : Need) → IsLeastUnmet c owner front least → IsBehind least x ⊎ IsMet x → IsLeastUnmet c owner (front ++ x ∷ []) least
  stays front None x old why = λ need h. elim (old_or_new front x need h) [
    | inl u ↦ old need u
    | inr e ↦ elim why [ inl behind ↦ absurd behind | inr met ↦ e.1 (subst IsMet e.0 met) ]
  ]
  stays front (Some l) x old why = record {
    is = (Contains-append_left front (x ∷ []) l old.is.0, old.is.1);
    least = λ other h. elim (old_or_new front x other h) [
      | inl u ↦ old.least other u
      | inr e ↦ elim why [ inl behind ↦ subst (λ y. need_cmp l y ≢ Greater) e.0 behind | inr met ↦ absurd (e.1 (subst IsMet e.0 met)) ]
    ];
  }

  ahead : (front : List Need) (least : Option Need) (x other : Need) → IsLeastUnmet c owner front least → (IsBehind least x → ⊥) → IsUnmet c owner front other → need_cmp x other ≢ Greater
  ahead front None x other old before u = absurd (old other u)
  ahead front (Some l) x other old before u = before_all x l other (greater_if_not (need_cmp l x) before) (old.least other u)

  -- one need more that is before it, and isn't met
  comes : (front : List Need) (least : Option Need) (x : Need) → IsLeastUnmet c owner front least → (IsBehind least x → ⊥) → (¬ (IsMet x)) → IsLeastUnmet c owner (front ++ x ∷ []) (Some x)
  comes front least x old before unmet = record {
    is = (Contains-append_right front (x ∷ []) x (Contains-head x []), unmet);
    least = λ other h. elim (old_or_new front x other h) [
      | inl u ↦ ahead front least x other old before u
      | inr e ↦ subst (λ y. need_cmp x y ≢ Greater) e.0 (itself x)
    ];
  }

  pub unmet_stays : (needs shown : List Need) (k : ℕ) (least : Option Need) (x : Need) → shown ≡ needs → k < length shown → x ≡ get_or shown k x
      → IsLeastUnmet c owner (take k needs) least → IsBehind least x ⊎ IsMet x → IsLeastUnmet c owner (take (k + 1) needs) least
  unmet_stays needs shown k least x same low is old why = subst (λ l. IsLeastUnmet c owner l least) (sym (take_next needs shown k same x low is)) (stays (take k needs) least x old why)

  pub unmet_comes : (needs shown : List Need) (k : ℕ) (least : Option Need) (x : Need) → shown ≡ needs → k < length shown → x ≡ get_or shown k x
      → IsLeastUnmet c owner (take k needs) least → (IsBehind least x → ⊥) → (¬ (IsMet x)) → IsLeastUnmet c owner (take (k + 1) needs) (Some x)
  unmet_comes needs shown k least x same low is old before unmet = subst (λ l. IsLeastUnmet c owner l (Some x)) (sym (take_next needs shown k same x low is)) (comes (take k needs) least x old before unmet)

  -- all needs have been looked at
  pub unmet_done : (needs shown : List Need) (k : ℕ) (least : Option Need) → shown ≡ needs → length shown ≤ k → IsLeastUnmet c owner (take k needs) least → IsLeastUnmet c owner needs least
  unmet_done needs shown k least same high old = subst (λ l. IsLeastUnmet c owner l least) (take_whole needs shown k same high) old
