-- An item that is put into a list.
use Rattle.std.proofs.Common.{◌≡◌, ◌⊎◌, ◌↔◌, ℕ, Bool, true, false, IsTrue, IsFalse, List, get_or, refl, sym, subst, inl, inr}
use Rattle.std.specs.List.{Contains}
use Rattle.std.specs.declared.cmp.Ordering.TheVariants.{Equal}
use Rattle.std.proofs.lemmas.List.{get_or_default}
use Rattle.cat_items.specs.declared.item.Item.{Item}
use Rattle.cat_items.specs.Order.{item_cmp}
use Rattle.cat_items.specs.Catalogues.{HasKeyAt}

-- one that is there already
put_again : (items : List Item) (k : ℕ) (item : Item) → HasKeyAt items k item → ((y : Item) → Contains items y → item_cmp y item ≡ Equal → y ≡ item) → (x : Item) → Contains items x ↔ (Contains items x ⊎ (x ≡ item))
put_again items k item has own x = (λ h. inl h, from)
  where
    there : Item
    there = get_or items k item

    is : there ≡ item
    is = own there (k, has.0, get_or_default items k there item has.0) (has.1 item)

    from : Contains items x ⊎ (x ≡ item) → Contains items x
    from (inl h) = h
    from (inr e) = subst (Contains items) (sym e) (k, has.0, is)

-- whether it was put in or is there
pub put_or_there : (put : Bool) (old new : List Item) (item : Item) → (IsTrue put → (x : Item) → Contains new x ↔ (Contains old x ⊎ (x ≡ item))) → (IsFalse put → (k : ℕ) × HasKeyAt old k item) → (IsFalse put → new ≡ old) → ((y : Item) → Contains old y → item_cmp y item ≡ Equal → y ≡ item) → (x : Item) → Contains new x ↔ (Contains old x ⊎ (x ≡ item))
put_or_there true old new item members found same own = members refl
put_or_there false old new item members found same own =
    let has = found refl in
    subst (λ l. (x : Item) → Contains l x ↔ (Contains old x ⊎ (x ≡ item))) (sym (same refl)) (put_again old has.0 item has.1 own)
