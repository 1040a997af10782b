-- Lists in order that grow, and sums over lists without repeats.
use Rattle.std.proofs.Common.{◌≡◌, ◌⊎◌, inl, inr, ℕ, Bool, true, false, not, Option, Some, None, zero, suc, ◌+◌, ◌<◌, ◌≤◌, List, [], ◌∷◌, ◌++◌, length, get_or, take, drop, refl, sym, ◌∙◌, ap, subst, arith}
use Rattle.std.specs.List.{Contains, sum_by}
use Rattle.std.specs.Option.{IfNone, IfSome, is_some}
use Rattle.std.specs.declared.cmp.Ordering.TheVariants.{Less, Equal, Greater}
use Rattle.std.specs.Bool.{◌==◌}
use Rattle.std.proofs.lemmas.Bool.{cases_lt, eqb-true}
use Rattle.std.proofs.lemmas.List.{get_or_default, take-append-drop, take_more}
use Rattle.std.proofs.lemmas.List.Elements.{Contains-append_cases, Contains-append_left, Contains-push_cases}
use Rattle.std.proofs.lemmas.List.Sums.{sum_by-cons}
use Rattle.finite_chains.specs.Chains.{IsWithin}
use Rattle.finite_chains.proofs.Members.{Contains-cases, Contains-head, Contains-nil, Contains-tail}
use Rattle.cat_items.specs.declared.item.Item.{Item}
use Rattle.cat_items.specs.Catalogues.{HasKeyAt, IsInOrder}
use Rattle.cat_items.specs.Order.{item_cmp}
use Rattle.cat_items.proofs.OrderLemmas.{item_cmp-total}
use Rattle.topic_keys.specs.Lists.{Gets}
use Rattle.topic_keys.proofs.Adding.{IsOfFirst}

-- ---- order

-- items of a list in order that have one place in the order of items are one
pub one_by_key : (items : List Item) → IsInOrder items → (x y : Item) → Contains items x → Contains items y → item_cmp x y ≡ Equal → x ≡ y
one_by_key items order x y (i, wi, ei) (j, wj, ej) e =
    elim (cases_lt i j) [
      | inl before ↦
          let less : item_cmp x y ≡ Less = subst (λ b. item_cmp x b ≡ Less) (get_or_default items j x y wj ∙ ej) (subst (λ a. item_cmp a (get_or items j x) ≡ Less) ei (order i j x before wj)) in
          absurd (let odd : Less ≡ Equal = sym less ∙ e in cc)
      | inr later ↦ elim (cases_lt j i) [
        | inl after ↦
            let less : item_cmp y x ≡ Less = subst (λ b. item_cmp b x ≡ Less) ej (subst (λ a. item_cmp (get_or items j y) a ≡ Less) (get_or_default items i y x wi ∙ ei) (order j i y after wi)) in
            let back = item_cmp-total.antisymm y x in
            cc
        | inr same ↦
            let at : i ≡ j = omega (arith, later, same) in
            sym ei ∙ ap (λ k. get_or items k x) at ∙ get_or_default items j x y wj ∙ ej
      ]
    ]

-- ---- no repeats

-- no item comes again later
abbrev pub IsOnce : {X : Type 0} → List X → Type 0
IsOnce [] = Unit {0}
IsOnce (x ∷ xs) = (Contains xs x → ⊥) × IsOnce xs

less_not_same : (x y : Item) → item_cmp x y ≡ Less → x ≡ y → ⊥
less_not_same x y less e =
    let mine : item_cmp x x ≡ Less = subst (λ z. item_cmp x z ≡ Less) (sym e) less in
    let back = item_cmp-total.antisymm x x in
    absurd (let odd : Less ≡ Greater = cc in cc)

-- a list in order has no repeats
pub once : (items : List Item) → IsInOrder items → IsOnce items
once [] order = tt
once (x ∷ items) order = (
  λ h. less_not_same x x (subst (λ b. item_cmp x b ≡ Less) h.2 (order 0 (suc h.0) x (omega arith) (omega (arith, h.1)))) refl,
  once items (λ i j d low high. order (suc i) (suc j) d (omega (arith, low)) (omega (arith, high))),
)

pub once_append : {X : Type 0} (xs ys : List X) → IsOnce xs → IsOnce ys → ((x : X) → Contains xs x → Contains ys x → ⊥) → IsOnce (xs ++ ys)
once_append [] ys o p apart = p
once_append (x ∷ xs) ys o p apart = (
  λ h. elim (Contains-append_cases xs ys x h) [ inl left ↦ o.0 left | inr right ↦ apart x (Contains-head x xs) right ],
  once_append xs ys o.1 p (λ y left right. apart y (Contains-tail x xs y left) right),
)

-- all of a list but one of its items
without_one : {X : Type 0} (ys : List X) (x : X) → Contains ys x → (zs : List X) × (length ys ≡ suc (length zs)) × ((f : X → ℕ) → sum_by f ys ≡ f x + sum_by f zs) × ((y : X) → Contains ys y → (x ≡ y) ⊎ Contains zs y)
without_one [] x h = absurd (Contains-nil x h)
without_one {X} (z ∷ ys) x h =
    elim (Contains-cases z ys x h) [
      | inl e ↦ (
        ys,
        refl,
        λ f. sum_by-cons f z ys ∙ ap (λ w. f w + sum_by f ys) e,
        λ y hy. elim (Contains-cases z ys y hy) [ inl e2 ↦ inl (sym e ∙ e2) | inr later ↦ inr later ],
      )
      | inr later ↦ (
          let rest = without_one ys x later in (
            z ∷ rest.0,
            ap suc rest.1,
            λ f. omega (arith, sum_by-cons f z ys, sum_by-cons f z rest.0, rest.2 f),
            λ y hy. elim (Contains-cases z ys y hy) [
              | inl e ↦ inr (subst (λ w. Contains (z ∷ rest.0) w) e (Contains-head z rest.0))
              | inr below ↦ (elim (rest.3 y below) [ inl e ↦ inl e | inr there ↦ inr (Contains-tail z rest.0 y there) ])
            ],
          ))
    ]

left : {X : Type 0} (x : X) (xs ys zs : List X) → IsOnce (x ∷ xs) → IsWithin (x ∷ xs) ys → ((y : X) → Contains ys y → (x ≡ y) ⊎ Contains zs y) → IsWithin xs zs
left x xs ys zs o w rest y hy = elim (rest y (w y (Contains-tail x xs y hy))) [ inl e ↦ absurd (o.0 (subst (Contains xs) (sym e) hy)) | inr there ↦ there ]

-- a list without repeats, each of whose items is in another, is no longer, and sums up to no more
pub no_longer : {X : Type 0} (xs ys : List X) → IsOnce xs → IsWithin xs ys → length xs ≤ length ys
no_longer [] ys o w = omega arith
no_longer {X} (x ∷ xs) ys o w =
    let rest = without_one ys x (w x (Contains-head x xs)) in
    omega (arith, no_longer xs rest.0 o.1 (left x xs ys rest.0 o w rest.3), rest.1)

pub no_more : {X : Type 0} (f : X → ℕ) (xs ys : List X) → IsOnce xs → IsWithin xs ys → sum_by f xs ≤ sum_by f ys
no_more f [] ys o w = omega arith
no_more {X} f (x ∷ xs) ys o w =
    let rest = without_one ys x (w x (Contains-head x xs)) in
    omega (arith, no_more f xs rest.0 o.1 (left x xs ys rest.0 o w rest.3), rest.2 f, sum_by-cons f x xs)

-- ---- front parts

pub from_take : {X : Type 0} (n : ℕ) (xs : List X) (x : X) → n ≤ length xs → Contains (take n xs) x → Contains xs x
from_take n xs x fits h = subst (λ l. Contains l x) (take-append-drop n xs) (Contains-append_left (take n xs) (drop n xs) x h)

-- where no item of a list in order, and none of the first of others in order, has another's place, a further one may be put in
pub apart_from_next : (old items : List Item) (part : List Item) (i : ℕ) (x : Item) → IsInOrder items → ((a b : Item) → Contains old a → Contains items b → item_cmp a b ≡ Equal → a ≡ b) → Gets (IsOfFirst (λ (a y : Item). y ≡ a) items i) old part
    → i < length items → x ≡ get_or items i x → (y : Item) → Contains part y → item_cmp y x ≡ Equal → y ≡ x
apart_from_next old items part i x order apart gets low is y h e =
    let here : Contains items x = (i, low, sym is) in
    elim ((gets y).0 h) [
      | inl before ↦ apart y x before here e
      | inr of ↦ one_by_key items order y x (subst (Contains items) (sym of.2) (from_take i items of.0 (omega (arith, low)) of.1)) here e
    ]

-- ---- items that come to a part, or are there

pub none_of_empty : (n : ℕ) (empty : Bool) → empty ≡ (n == 0) → not empty ≡ false → n ≡ 0
none_of_empty n true says told = eqb-true n 0 (sym says)
none_of_empty n false says told = absurd (let odd : true ≡ false = told in cc)

pub some_of_other : (n : ℕ) (empty : Bool) → empty ≡ (n == 0) → not empty ≡ true → 0 < n
some_of_other zero empty says told = absurd (let odd : false ≡ true = sym (ap not says) ∙ told in cc)
some_of_other (suc n) empty says told = omega arith

pub none_found : {X : Type 0} (found : Option X) (not_found : Bool) (P : Type 0) → is_some found ≡ not not_found → not_found ≡ true → IfNone found P → P
none_found None not_found P says told h = h
none_found (Some x) not_found P says told h = absurd (let odd : true ≡ false = says ∙ ap not told in cc)

pub one_found : {X : Type 0} (found : Option X) (not_found : Bool) (P : X → Type 0) → is_some found ≡ not not_found → not_found ≡ false → IfSome found P → (x : X) × P x
one_found (Some x) not_found P says told h = (x, h)
one_found None not_found P says told h = absurd (let odd : false ≡ true = says ∙ ap not told in cc)

module _ (part items : List Item) (apart : (x y : Item) → Contains part x → Contains items y → item_cmp x y ≡ Equal → x ≡ y) where
  -- an item whose key the part has is one of the part
  pub is_there : (x : Item) → Contains items x → (k : ℕ) → HasKeyAt part k x → Contains part x
  is_there x here k has =
      let y : Item = get_or part k x in
      let there : Contains part y = (k, has.0, get_or_default part k y x has.0) in
      subst (Contains part) (apart y x there here (has.1 x)) there

  -- so it is of each further one
  pub either_more : (new more : List Item) (i : ℕ) (x : Item) → i < length items → x ≡ get_or items i x → IsWithin new more → Contains part x ⊎ Contains more x → ((y : Item) → Contains (take i items) y → Contains part y ⊎ Contains new y)
      → (y : Item) → Contains (take (i + 1) items) y → Contains part y ⊎ Contains more y
  either_more new more i x low is within so either y h =
      elim (Contains-push_cases (take i items) x y (subst (λ l. Contains l y) (take_more items i x low ∙ ap (λ z. take i items ++ z ∷ []) (sym is)) h)) [
        | inl before ↦ (elim (either y before) [ inl old ↦ inl old | inr n ↦ inr (within y n) ])
        | inr e ↦ subst (λ z. Contains part z ⊎ Contains more z) e so
      ]
