-- What arrives with one suspect after the other.
use Rattle.std.proofs.Common.{◌≡◌, ◌≢◌, ◌⊎◌, inl, inr, ℕ, ◌<◌, ◌≤◌, ◌+◌, Bool, List, [], ◌∷◌, ◌++◌, length, get_or, take, sym, subst, ap, ◌∙◌, arith}
use Rattle.std.specs.List.{AllPairs, Contains}
use Rattle.std.specs.declared.cmp.Ordering.TheVariants.{Less, Equal}
use Rattle.std.proofs.lemmas.List.{get_or_default, get_or-take, length-take-le}
use Rattle.std.proofs.lemmas.List.Elements.{Contains-append_left, Contains-append_right, Contains-append_cases}
use Rattle.std.proofs.lemmas.List.Quantifiers.{all_pairs_push}
use Rattle.finite_chains.proofs.Members.{Contains-nil, Contains-head, Contains-cases}
use Rattle.cat_items.specs.declared.item.Item.{Item}
use Rattle.cat_items.specs.Order.{item_cmp}
use Rattle.cat_items.specs.Catalogues.{IsInOrder}
use Rattle.cat_items.proofs.KeyLemmas.{same_key}
use Rattle.board_graph.specs.BoardKeys.{IsKeyOf, of_item, of_possible}
use Rattle.board_steps.specs.Plans.{HasNoHelper}
use Rattle.board_steps.proofs.Apart.{one_item}
use Rattle.board_plans.specs.declared.arrivals.Arrival.{Arrival}
use Rattle.board_plans.specs.Planning.{AreArrivals, IsArrivalOf}
use Rattle.edit_arrivals.specs.Steps.{IsPutBehind, no_key, one_key}
use Rattle.edit_rules.proofs.Lists.{take_next, take_whole}
use Rattle.edit_arrivals.specs.Suspects.{HasSuspects}
use Rattle.edit_arrivals.proofs.Standing.{key_known}

-- what arrived with these, of which each came once
pub record HaveArrived (found done : List Item) (arrivals : List Arrival) : Type 0 where
  pub all : (x k : Item) → Contains done x → IsKeyOf found x k → (a : Arrival) × Contains arrivals a × (a.key ≡ k)
  pub only : (a : Arrival) → Contains arrivals a → (x : Item) × Contains done x × IsArrivalOf found x a
  pub once : HasNoHelper found → AllPairs (λ a b. a.key ≢ b.key) arrivals

last_is : {X : Type 0} (xs : List X) (y x : X) → Contains (xs ++ y ∷ []) x → Contains xs x ⊎ (x ≡ y)
last_is xs y x h =
    elim (Contains-append_cases xs (y ∷ []) x h) [
      | inl before ↦ inl before
      | inr last ↦ elim (Contains-cases y [] x last) [ inl e ↦ inr (sym e) | inr none ↦ absurd (Contains-nil x none) ]
    ]

last_in : {X : Type 0} (xs : List X) (y : X) → Contains (xs ++ y ∷ []) y
last_in xs y = Contains-append_right xs (y ∷ []) y (Contains-head y [])

one_key_of : (c : List Item) (x j k : Item) → IsKeyOf c x j → IsKeyOf c x k → j ≡ k
one_key_of c x j k (of_item h e) (of_item h2 e2) = e ∙ sym e2
one_key_of c x j k (of_item h e) (of_possible right none e2) = absurd (none h)
one_key_of c x j k (of_possible right none e) (of_item h e2) = absurd (none h)
one_key_of c x j k (of_possible right none e) (of_possible right2 none2 e2) = e ∙ sym e2

pub none_yet : (found : List Item) → HaveArrived found [] []
none_yet found = record {
  all = λ x k h key. absurd (Contains-nil x h);
  only = λ a h. absurd (Contains-nil a h);
  once = λ plain i j d low within. absurd (omega (arith, within));
}

module _ (found done : List Item) (x : Item) (new_one : ¬ (Contains done x)) (old : List Arrival) (so_far : HaveArrived found done old) where
  with_none : ((k : Item) → ¬ (IsKeyOf found x k)) → HaveArrived found (done ++ x ∷ []) old
  with_none none = record {
    all = λ y k h key. elim (last_is done x y h) [ inl before ↦ so_far.all y k before key | inr e ↦ absurd (none k (subst (λ z. IsKeyOf found z k) e key)) ];
    only = λ a h. let of = so_far.only a h in (of.0, Contains-append_left done (x ∷ []) of.0 of.1, of.2);
    once = so_far.once;
  }

  module _ (a : Arrival) (arrives : IsArrivalOf found x a) where
    apart : HasNoHelper found → (b : Arrival) → Contains old b → b.key ≢ a.key
    apart plain b h e =
        let of = so_far.only b h in
        let same : of.0 ≡ x = one_item found found plain plain of.0 x a.key (subst (IsKeyOf found of.0) e of.2.key) arrives.key in
        new_one (subst (Contains done) same of.1)

    with_one : HaveArrived found (done ++ x ∷ []) (old ++ a ∷ [])
    with_one = record {
      all = λ y k h key.
          elim (last_is done x y h) [
            | inl before ↦ let b = so_far.all y k before key in (b.0, Contains-append_left old (a ∷ []) b.0 b.1, b.2)
            | inr e ↦ (a, last_in old a, one_key_of found x a.key k arrives.key (subst (λ z. IsKeyOf found z k) e key))
          ];
      only = λ b h.
          elim (last_is old a b h) [
            | inl before ↦ let of = so_far.only b before in (of.0, Contains-append_left done (x ∷ []) of.0 of.1, of.2)
            | inr e ↦ (x, last_in done x, subst (IsArrivalOf found x) (sym e) arrives)
          ];
      once = λ plain. all_pairs_push (λ a b. a.key ≢ b.key) old a (so_far.once plain) (λ k d low. apart plain (get_or old k d) (k, low, get_or_default old k (get_or old k d) d low));
    }

  one_more : (new : List Arrival) → IsPutBehind found x old new → HaveArrived found (done ++ x ∷ []) new
  one_more new (no_key none e) = subst (HaveArrived found (done ++ x ∷ [])) (sym e) (with_none none)
  one_more new (one_key a arrives e) = subst (HaveArrived found (done ++ x ∷ [])) (sym e) (with_one a arrives)

-- an item of a list in order isn't among those before it
not_before : (items : List Item) → IsInOrder items → (i : ℕ) → i < length items → (x : Item) → x ≡ get_or items i x → ¬ (Contains (take i items) x)
not_before items order i low x is h =
    let below : h.0 < i = subst (λ n. h.0 < n) (length-take-le i items (omega (arith, low))) h.1 in
    let here : get_or items h.0 x ≡ x = sym (get_or-take i items h.0 x below) ∙ h.2 in
    let less : item_cmp (get_or items h.0 x) (get_or items i x) ≡ Less = order h.0 i x below low in
    let odd : item_cmp x x ≡ Less = ap (λ z. item_cmp x z) is ∙ sym (ap (λ z. item_cmp z (get_or items i x)) here) ∙ less in
    let clash : Less ≡ Equal = sym odd ∙ same_key x in cc

pub arrived_more : (found items shown : List Item) (old new : List Arrival) (i : ℕ) (x : Item) → IsInOrder items → shown ≡ items → i < length shown → x ≡ get_or shown i x → HaveArrived found (take i items) old → IsPutBehind found x old new → HaveArrived found (take (i + 1) items) new
arrived_more found items shown old new i x order same low is so_far put =
    subst (λ l. HaveArrived found l new) (sym (take_next items shown i same x low is))
    (one_more found (take i items) x (not_before items order i (subst (λ (l : List Item). i < length l) same low) x (subst (λ (l : List Item). x ≡ get_or l i x) same is)) old so_far new put)

pub whole_arrived : (found items shown : List Item) (new : List Arrival) (i : ℕ) → shown ≡ items → length shown ≤ i → HaveArrived found (take i items) new → HaveArrived found items new
whole_arrived found items shown new i same done so_far = subst (λ l. HaveArrived found l new) (take_whole items shown i same done) so_far

-- what arrived with all suspects
pub all_arrived : (found suspects : List Item) (suspect : Item → Bool) (arrivals : List Arrival) → HaveArrived found suspects arrivals → HasNoHelper found → HasSuspects found suspect suspects → AreArrivals found suspect arrivals
all_arrived found suspects suspect arrivals have plain listed = record {
  all = λ k of. have.all of.0 k (listed.all of.0 (key_known found of.0 k of.1) of.2) of.1;
  only = λ a h. let of = have.only a h in (of.0, listed.only of.0 of.1, of.2);
  once = have.once plain;
}
