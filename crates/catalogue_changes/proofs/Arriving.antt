-- What leaves a catalogue, and what of the added items comes.
use Rattle.std.proofs.Common.{◌≡◌, Bool, true, false, not, Option, ℕ, List, [], ◌∷◌, ◌++◌, get_or, ◌∙◌, ap, subst, refl, inl, inr}
use Rattle.std.specs.List.{Contains}
use Rattle.std.specs.Option.{is_some, IfSome}
use Rattle.std.specs.Ordering.{ordering_reverse}
use Rattle.std.specs.declared.cmp.Ordering.TheVariants.{Equal}
use Rattle.std.proofs.lemmas.List.{get_or_default}
use Rattle.std.proofs.lemmas.List.Elements.{Contains-append_left, Contains-push, Contains-push_cases}
use Rattle.finite_chains.specs.Chains.{IsWithin}
use Rattle.cat_items.specs.declared.item.Item.{Item}
use Rattle.cat_items.specs.Catalogues.{IsInOrder, HasKeyAt}
use Rattle.cat_items.specs.Order.{item_cmp}
use Rattle.cat_items.proofs.CatalogueLemmas.{no_equal}
use Rattle.cat_items.proofs.OrderLemmas.{item_cmp-total}
use Rattle.new_catalogues.proofs.Joins.{one_by_key, found_some}
use Rattle.catalogue_changes.specs.Parts.{AreArriving, StaysAs}
use Rattle.catalogue_changes.proofs.Keys.{HasKey}

-- two items with the key of a third have one key
both_keys : (x y z : Item) → item_cmp y x ≡ Equal → item_cmp z x ≡ Equal → item_cmp z y ≡ Equal
both_keys x y z p q = item_cmp-total.congr z x y q ∙ item_cmp-total.antisymm x y ∙ ap ordering_reverse p

key_at : (c : List Item) (x : Item) → (k : ℕ) × HasKeyAt c k x → HasKey c x
key_at c x key = let y : Item = get_or c key.0 x in (y, (key.0, key.1.0, get_or_default c key.0 y x key.1.0), key.1.1 x)

-- ---- whether an item stays as it is

pub stays : (c leaving : List Item) (x : Item) → (k : ℕ) × HasKeyAt c k x → ((k : ℕ) → HasKeyAt leaving k x → ⊥) → StaysAs c leaving x
stays c leaving x found none = let y = key_at c x found in (y.0, y.1, λ h. no_equal leaving x none y.0 h y.2, y.2)

pub stays_not : (c leaving : List Item) (x : Item) → ((k : ℕ) → HasKeyAt c k x → ⊥) → ¬ (StaysAs c leaving x)
stays_not c leaving x none y = no_equal c x none y.0 y.1 y.3

pub leaves : (c leaving : List Item) (x : Item) → IsInOrder c → IsWithin leaving c → (k : ℕ) × HasKeyAt leaving k x → ¬ (StaysAs c leaving x)
leaves c leaving x order within found y =
    let z = key_at leaving x found in
    y.2 (subst (Contains leaving) (one_by_key c order z.0 y.0 (within z.0 z.1) y.1 (both_keys x y.0 z.0 y.3 z.2)) z.1)

-- ---- one item after the other

pub arriving_put : (c leaving front arriving : List Item) (x : Item) → (¬ (StaysAs c leaving x)) → AreArriving c leaving front arriving → AreArriving c leaving (front ++ x ∷ []) (arriving ++ x ∷ [])
arriving_put c leaving front arriving x none are = record {
  within = λ y h. elim (Contains-push_cases arriving x y h) [
    | inl old ↦ Contains-append_left front (x ∷ []) y (are.within y old)
    | inr e ↦ subst (Contains (front ++ x ∷ [])) e (Contains-push front x)
  ];
  new = λ y h. elim (Contains-push_cases arriving x y h) [
    | inl old ↦ are.new y old
    | inr e ↦ subst (λ z. ¬ (StaysAs c leaving z)) e none
  ];
  others = λ y h. elim (Contains-push_cases front x y h) [
    | inl old ↦ elim (are.others y old) [ inl p ↦ inl (Contains-append_left arriving (x ∷ []) y p) | inr key ↦ inr key ]
    | inr e ↦ inl (subst (Contains (arriving ++ x ∷ [])) e (Contains-push arriving x))
  ];
}

pub arriving_kept : (c leaving front arriving : List Item) (x : Item) → StaysAs c leaving x → AreArriving c leaving front arriving → AreArriving c leaving (front ++ x ∷ []) arriving
arriving_kept c leaving front arriving x key are = record {
  within = λ y h. Contains-append_left front (x ∷ []) y (are.within y h);
  new = are.new;
  others = λ y h. elim (Contains-push_cases front x y h) [
    | inl old ↦ are.others y old
    | inr e ↦ inr (subst (StaysAs c leaving) e key)
  ];
}

-- a look-up that can't have found anything found nothing
pub found_nothing : (nothing : Bool) (found : Option ℕ) (P : ℕ → Type 0) → is_some found ≡ not nothing → IfSome found P → ((k : ℕ) × P k → ⊥) → nothing ≡ true
found_nothing true found P e some never = refl
found_nothing false found P e some never = absurd (never (found_some found P e some))
