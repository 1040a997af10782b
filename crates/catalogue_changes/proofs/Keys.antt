-- Items of lists in order, found by their keys.
use Rattle.std.proofs.Common.{◌≡◌, ◌≢◌, ◌⊎◌, true, ℕ, zero, suc, ◌<◌, List, [], ◌∷◌, length, get_or, sym, ◌∙◌, ap, subst, refl, inl, inr, arith}
use Rattle.std.specs.List.{Contains}
use Rattle.std.specs.Ordering.{ordering_reverse, is_lt}
use Rattle.std.specs.declared.cmp.Ordering.{Ordering}
use Rattle.std.specs.declared.cmp.Ordering.TheVariants.{Less, Equal, Greater}
use Rattle.std.proofs.lemmas.List.{get_or_default}
use Rattle.finite_chains.specs.Chains.{IsWithin}
use Rattle.finite_chains.proofs.Members.{Contains-nil, Contains-head, Contains-tail, Contains-cases}
use Rattle.cat_items.specs.declared.item.Item.{Item}
use Rattle.cat_items.specs.Catalogues.{IsInOrder}
use Rattle.cat_items.specs.Order.{item_cmp}
use Rattle.cat_items.proofs.KeyLemmas.{same_key}
use Rattle.cat_items.proofs.OrderLemmas.{item_cmp-total}
use Rattle.new_catalogues.proofs.Joins.{one_by_key}

pub same_or_other : (o : Ordering) → (o ≡ Equal) ⊎ (o ≢ Equal)
same_or_other Less = inr (λ e. let odd : Less ≡ Equal = e in cc)
same_or_other Equal = inl refl
same_or_other Greater = inr (λ e. let odd : Greater ≡ Equal = e in cc)

-- an item with the key of x
abbrev pub HasKey : List Item → Item → Type 0
HasKey xs x = (y : Item) × Contains xs y × (item_cmp y x ≡ Equal)

abbrev pub HasNoKey : List Item → Item → Type 0
HasNoKey xs x = (y : Item) → Contains xs y → item_cmp y x ≢ Equal

-- a list has an item with the key, or has none
pub key_or_none : (xs : List Item) (x : Item) → HasKey xs x ⊎ HasNoKey xs x
key_or_none [] x = inr (λ y h e. Contains-nil y h)
key_or_none (z ∷ zs) x =
    elim (same_or_other (item_cmp z x)) [
      | inl e ↦ inl (z, Contains-head z zs, e)
      | inr other ↦ elim (key_or_none zs x) [
        | inl later ↦ inl (later.0, Contains-tail z zs later.0 later.1, later.2)
        | inr none ↦ inr (λ y h. elim (Contains-cases z zs y h) [ inl e ↦ subst (λ w. item_cmp w x ≢ Equal) e other | inr rest ↦ none y rest ])
      ]
    ]

-- a part of a list in order has an item of the list, or not
pub in_part : (xs all : List Item) → IsWithin xs all → IsInOrder all → (x : Item) → Contains all x → Contains xs x ⊎ (¬ (Contains xs x))
in_part xs all within order x here =
    elim (key_or_none xs x) [
      | inl key ↦ inl (subst (Contains xs) (one_by_key all order key.0 x (within key.0 key.1) here key.2) key.1)
      | inr none ↦ inr (λ h. none x h (same_key x))
    ]

-- nothing comes before itself, and no two before each other
pub not_both : (x y : Item) → item_cmp x y ≡ Less → item_cmp y x ≡ Less → ⊥
not_both x y p q = let back = item_cmp-total.antisymm x y in let turned = ap ordering_reverse q in let odd : Less ≡ Greater = sym p ∙ back ∙ turned in cc

pub not_before_itself : (x : Item) → item_cmp x x ≢ Less
not_before_itself x e = let odd : Less ≡ Equal = sym e ∙ same_key x in cc

-- no item of a list in order comes before the first
pub none_before_first : (xs : List Item) (first : Item) → IsInOrder xs → 0 < length xs → get_or xs 0 first ≡ first → (y : Item) → Contains xs y → item_cmp y first ≢ Less
none_before_first xs first order some at y h less = by h.0 h.1 h.2
  where
    by : (k : ℕ) → k < length xs → get_or xs k y ≡ y → ⊥
    by zero within e = not_before_itself first (subst (λ z. item_cmp z first ≡ Less) (sym e ∙ get_or_default xs 0 y first some ∙ at) less)
    by (suc k) within e =
        let later : item_cmp (get_or xs 0 first) (get_or xs (suc k) first) ≡ Less = order 0 (suc k) first (omega arith) within in
        let is : get_or xs (suc k) first ≡ y = get_or_default xs (suc k) first y within ∙ e in
        not_both first y (subst (λ z. item_cmp first z ≡ Less) is (subst (λ z. item_cmp z (get_or xs (suc k) first) ≡ Less) at later)) less

-- what a test of an order tells
pub less_when : (o : Ordering) → is_lt o ≡ true → o ≡ Less
less_when Less e = refl
less_when Equal e = cc
less_when Greater e = cc
