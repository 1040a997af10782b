-- Walks along what was found and along the rights that the system could grant, by suspects that rise.
use Rattle.std.proofs.Common.{◌≡◌, ◌⊎◌, inl, inr, ℕ, ◌<◌, ◌≤◌, ◌+◌, List, length, get_or, refl, sym, subst, ◌∙◌, arith}
use Rattle.std.specs.declared.cmp.Ordering.TheVariants.{Less, Greater}
use Rattle.std.proofs.lemmas.List.{get_or_default}
use Rattle.cat_items.specs.declared.item.Item.{Item}
use Rattle.cat_items.specs.declared.item.Item.TheVariants as item
use Rattle.cat_items.specs.declared.item.Right.{Right}
use Rattle.cat_items.specs.declared.item.RoleGrant.{RoleGrant}
use Rattle.cat_items.specs.Catalogues.{IsInOrder}
use Rattle.cat_items.specs.Order.{item_cmp}
use Rattle.cat_items.specs.Relevant.{IsOptionOn}
use Rattle.cat_items.proofs.OrderLemmas.{item_cmp-total}
use Rattle.item_lists.specs.Walks.{AreBefore}
use Rattle.edit_arrivals.specs.declared.keys.Passed.{Passed}
use Rattle.edit_arrivals.specs.declared.arriving.Walks.{Walks}
use Rattle.edit_arrivals.specs.Steps.{IsAhead, IsBehind, IsOptionBehind}
use Rattle.edit_arrivals.proofs.Options.{option_is}

-- ---- one walk

module _ (found rights : List Item) where
  -- what comes before x comes before all that comes behind x
  before_more : (items : List Item) (from : ℕ) (x y : Item) → AreBefore items from x → item_cmp x y ≡ Less → AreBefore items from y
  before_more items from x y old less = record {
    within = old.within;
    before = λ k d below. item_cmp-total.trans (get_or items k d) x y (old.before k d below) less;
  }

  -- the walk goes on along what was found alone
  pub found_passed : (shown : List Item) (old : Passed) (to : ℕ) (x : Item) → shown ≡ found → IsBehind found rights old x → ((y : Item) → item_cmp x y ≡ Less → AreBefore shown to y) → (y : Item) → item_cmp x y ≡ Less
      → IsBehind found rights (record { found = to; rights = old.rights }) y
  found_passed shown old to x same was passed y less = record {
    in_found = subst (λ l. AreBefore l to y) same (passed y less);
    in_rights = before_more rights old.rights x y was.in_rights less;
  }

-- ---- what options add to

-- what options add to rises as the options do
options_rise : (x y a b : Item) → IsOptionOn x a → IsOptionOn y b → item_cmp x y ≡ Less → item_cmp a b ≡ Less
options_rise x y a b on other less = by (option_is x a on) (option_is y b other)
  where
    by : ((r : Right) × (x ≡ item.Grantable r) × (a ≡ item.Held r)) ⊎ ((g : RoleGrant) × (x ≡ item.RoleAdmin g) × (a ≡ item.RoleAuth g)) → ((r : Right) × (y ≡ item.Grantable r) × (b ≡ item.Held r)) ⊎ ((g : RoleGrant) × (y ≡ item.RoleAdmin g) × (b ≡ item.RoleAuth g)) → item_cmp a b ≡ Less
    by (inl (r, ex, ea)) (inl (s, ey, eb)) =
        let rise : item_cmp (item.Grantable r) (item.Grantable s) ≡ Less = subst (λ z. item_cmp z (item.Grantable s) ≡ Less) ex (subst (λ z. item_cmp x z ≡ Less) ey less) in
        subst (λ z. item_cmp z b ≡ Less) (sym ea) (subst (λ z. item_cmp (item.Held r) z ≡ Less) (sym eb) rise)
    by (inl (r, ex, ea)) (inr (g, ey, eb)) =
        let odd : Greater ≡ Less = subst (λ z. item_cmp z (item.RoleAdmin g) ≡ Less) ex (subst (λ z. item_cmp x z ≡ Less) ey less) in cc
    by (inr (g, ex, ea)) (inl (s, ey, eb)) = subst (λ z. item_cmp z b ≡ Less) (sym ea) (subst (λ z. item_cmp (item.RoleAuth g) z ≡ Less) (sym eb) refl)
    by (inr (g, ex, ea)) (inr (h, ey, eb)) =
        let rise : item_cmp (item.RoleAdmin g) (item.RoleAdmin h) ≡ Less = subst (λ z. item_cmp z (item.RoleAdmin h) ≡ Less) ex (subst (λ z. item_cmp x z ≡ Less) ey less) in
        subst (λ z. item_cmp z b ≡ Less) (sym ea) (subst (λ z. item_cmp (item.RoleAuth g) z ≡ Less) (sym eb) rise)

-- a walk that has passed no more than what the option of x adds to and what comes before that
pub options_passed : (found rights : List Item) (new : Passed) (x a : Item) → IsOptionOn x a → ((b : Item) → item_cmp a b ≡ Less → IsBehind found rights new b) → (y : Item) → item_cmp x y ≡ Less → IsOptionBehind found rights new y
options_passed found rights new x a on passed y less b other = passed b (options_rise x y a b on other less)

-- ---- the walks of all suspects

-- the suspects from this place on are ahead of the walks
abbrev pub AreAhead : List Item → List Item → Walks → List Item → ℕ → Type 0
AreAhead found rights walks suspects i = (k : ℕ) (d : Item) → i ≤ k → k < length suspects → IsAhead found rights walks (get_or suspects k d)

pub next_ahead : (found rights : List Item) (walks : Walks) (suspects : List Item) (i : ℕ) (x : Item) → i < length suspects → x ≡ get_or suspects i x → AreAhead found rights walks suspects i → IsAhead found rights walks x
next_ahead found rights walks suspects i x low is ahead = subst (IsAhead found rights walks) (sym is) (ahead i x (omega arith) low)

pub ahead_more : (found rights : List Item) (old new : Walks) (suspects : List Item) (i : ℕ) (x : Item) → IsInOrder suspects → i < length suspects → x ≡ get_or suspects i x
    → ((y : Item) → item_cmp x y ≡ Less → IsAhead found rights old y → IsAhead found rights new y) → AreAhead found rights old suspects i → AreAhead found rights new suspects (i + 1)
ahead_more found rights old new suspects i x order low is goes ahead k d above high =
    goes (get_or suspects k d) (subst (λ z. item_cmp z (get_or suspects k d) ≡ Less) (sym (is ∙ get_or_default suspects i x d low)) (order i k d (omega (arith, above)) high)) (ahead k d (omega (arith, above)) high)
