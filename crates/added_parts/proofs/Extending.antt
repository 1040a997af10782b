-- What a list has that is put behind another, and what is found in a list.
use Rattle.std.proofs.Common.{◌≡◌, ◌↔◌, ◌∙◌, ◌++◌, ℕ, Bool, true, List, Option, Some, None, IsTrue, get_or, inl, inr, sym, subst}
use Rattle.std.specs.List.{Contains}
use Rattle.std.specs.Option.{is_some, IfSome, IfNone}
use Rattle.std.specs.declared.cmp.Ordering.TheVariants.{Equal}
use Rattle.std.proofs.lemmas.List.{get_or_default}
use Rattle.std.proofs.lemmas.List.Elements.{Contains-append_left, Contains-append_right, Contains-append_cases}
use Rattle.cat_items.specs.declared.item.Item.{Item}
use Rattle.cat_items.specs.Catalogues.{HasKeyAt}
use Rattle.cat_items.specs.Order.{item_cmp}
use Rattle.cat_items.specs.Reach.{Has}
use Rattle.cat_items.proofs.KeyLemmas.{same_key}
use Rattle.edit_rules.specs.Chosen.{IsRightOrRoleGrant}
use Rattle.edit_rules.proofs.ItemKeys.{one_granted}

-- A test of the first list, and then of the second.
module _ (a b : List Item) (P : Item → Type 0) where
  pub has_left : Has a P → Has (a ++ b) P
  has_left h = (h.0, Contains-append_left a b h.0 h.1, h.2)

  -- where the first has none, the second decides
  pub has_in_second : (is : Bool) → ¬ (Has a P) → IsTrue is ↔ Has b P → IsTrue is ↔ Has (a ++ b) P
  has_in_second is none second = (
    λ e. let h = second.0 e in (h.0, Contains-append_right a b h.0 h.1, h.2),
    λ h. elim (Contains-append_cases a b h.0 h.1) [
      | inl left ↦ absurd (none (h.0, left, h.2))
      | inr right ↦ second.1 (h.0, right, h.2)
    ],
  )

-- the same of one item
pub there_in_second : (a b : List Item) (x : Item) (is : Bool) → ¬ (Contains a x) → IsTrue is ↔ Contains b x → IsTrue is ↔ Contains (a ++ b) x
there_in_second a b x is none second = (
  λ e. Contains-append_right a b x (second.0 e),
  λ h. elim (Contains-append_cases a b x h) [
    | inl left ↦ absurd (none left)
    | inr right ↦ second.1 right
  ],
)

-- What a look-up decides of a right or a role authorization.

found_there : (c : List Item) (x : Item) → IsRightOrRoleGrant x → (k : ℕ) → HasKeyAt c k x → Contains c x
found_there c x granted k has = (k, has.0, one_granted (get_or c k x) x granted (has.1 x))

not_there : (c : List Item) (x : Item) → ((k : ℕ) → HasKeyAt c k x → ⊥) → ¬ (Contains c x)
not_there c x none h = none h.0 (h.1, λ d. subst (λ y. item_cmp y x ≡ Equal) (sym h.2 ∙ get_or_default c h.0 x d h.1) (same_key x))

pub looked_up : (c : List Item) (x : Item) → IsRightOrRoleGrant x → (found : Option ℕ) (is : Bool) → is ≡ is_some found → IfSome found (λ k. HasKeyAt c k x) → IfNone found ((k : ℕ) → HasKeyAt c k x → ⊥) → IsTrue is ↔ Contains c x
looked_up c x granted (Some k) is e some none = (λ _. found_there c x granted k some, λ _. e)
looked_up c x granted None is e some none = (λ (h : is ≡ true). absurd cc, λ h. absurd (not_there c x none h))

-- two tests, of which the first has passed
pub both_hold : {P Q : Type 0} (is : Bool) → P → IsTrue is ↔ Q → IsTrue is ↔ (P × Q)
both_hold is p q = (λ e. (p, q.0 e), λ h. q.1 h.1)
