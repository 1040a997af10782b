-- Lists that are joined.
use Rattle.std.proofs.Common.{◌≡◌, ◌⊎◌, ◌↔◌, ℕ, ◌+◌, ◌<◌, true, false, List, [], ◌∷◌, ◌++◌, Option, None, Some, Result, Ok, Err, length, take, get_or, sym, ◌∙◌, ap, subst, refl, inl, inr, arith}
use Rattle.std.specs.List.{Contains}
use Rattle.std.specs.Option.{is_some, IfSome, IfNone}
use Rattle.std.specs.Result.{OnOk}
use Rattle.std.specs.declared.cmp.Ordering.TheVariants.{Less, Equal}
use Rattle.std.proofs.lemmas.List.{take_more, get_or_default}
use Rattle.std.proofs.lemmas.List.Elements.{Contains-append_left, Contains-push, Contains-push_cases}
use Rattle.finite_chains.specs.Chains.{IsWithin}
use Rattle.finite_chains.specs.StrictOrder.{IsRising}
use Rattle.finite_chains.proofs.Members.{Contains-nil, Contains-cases}
use Rattle.cat_items.specs.declared.edit.Edit.{Edit}
use Rattle.cat_items.specs.declared.item.Item.{Item}
use Rattle.cat_items.specs.declared.item.Item.TheVariants as item
use Rattle.cat_items.specs.Batch.{IsJoined, IsWithout}
use Rattle.cat_items.specs.Catalogues.{IsInOrder, HasKeyAt}
use Rattle.cat_items.specs.Edits.{IsEdited}
use Rattle.cat_items.specs.Fit.{IsFit}
use Rattle.cat_items.specs.Order.{item_cmp}
use Rattle.cat_items.specs.Survivors.{IsSystemRight, IsWithSystem}
use Rattle.cat_items.proofs.CatalogueLemmas.{rising, in_order, no_equal}
use Rattle.cat_items.proofs.OrderLemmas.{item_cmp-total}
use Rattle.cat_items.proofs.Rising.{rising_append, fact_from_take}
use Rattle.system_rights.specs.Layers.{IsRightWhere}
use Rattle.system_rights.proofs.RightKeys.{found_right}
use Rattle.new_catalogues.specs.Joining.{HaveOneItemAKey, AreMissing}

-- ---- items with one key

one_rising : (xs : List Item) → IsRising item_cmp xs → (x y : Item) → Contains xs x → Contains xs y → item_cmp x y ≡ Equal → x ≡ y
one_rising [] r x y p q e = absurd (Contains-nil x p)
one_rising (z ∷ xs) r x y p q e = by (Contains-cases z xs x p) (Contains-cases z xs y q) (λ h k. one_rising xs r.1 x y h k e)
  where
    by : (z ≡ x) ⊎ Contains xs x → (z ≡ y) ⊎ Contains xs y → (Contains xs x → Contains xs y → x ≡ y) → x ≡ y
    by (inl f) (inl g) more = sym f ∙ g
    by (inl f) (inr h) more = let less : item_cmp x y ≡ Less = subst (λ w. item_cmp w y ≡ Less) f (r.0 y h) in cc
    by (inr h) (inl g) more = let less : item_cmp y x ≡ Less = subst (λ w. item_cmp w x ≡ Less) g (r.0 x h) in let back = item_cmp-total.antisymm x y in cc
    by (inr h) (inr k) more = more h k

-- items of a list in order with one key are one
pub one_by_key : (xs : List Item) → IsInOrder xs → (x y : Item) → Contains xs x → Contains xs y → item_cmp x y ≡ Equal → x ≡ y
one_by_key xs order = one_rising xs (rising xs order)

-- the item at the place of a key
key_item : (c : List Item) (x : Item) → (k : ℕ) × HasKeyAt c k x → (y : Item) × Contains c y × (item_cmp y x ≡ Equal)
key_item c x key =
    let y : Item = get_or c key.0 x in
    (y, (key.0, key.1.0, get_or_default c key.0 y x key.1.0), key.1.1 x)

-- what two clauses of a result give together
pub on_both : {T E P Q R : Type 0} (r : Result T E) → (P → Q → R) → OnOk r P → OnOk r Q → OnOk r R
on_both (Ok v) f p q = f p q
on_both (Err e) f p q = tt

-- a look-up that found nothing, or something
pub found_none : {T : Type 0} (found : Option T) (P : Type 0) → is_some found ≡ false → IfNone found P → P
found_none None P e h = h
found_none (Some k) P e h = absurd cc

pub found_some : {T : Type 0} (found : Option T) (P : T → Type 0) → is_some found ≡ true → IfSome found P → (k : T) × P k
found_some None P e h = absurd cc
found_some (Some k) P e h = (k, h)

-- ---- the items that are missing

pub missing_none : (c items : List Item) → AreMissing c (take 0 items) []
missing_none c items = record {
  within = λ y h. absurd (Contains-nil y h);
  new = λ a y ha hy. absurd (Contains-nil y hy);
  others = λ y h. absurd (Contains-nil y h);
}

-- one more is missing
pub missing_put : (c front missing : List Item) (x : Item) → ((k : ℕ) → HasKeyAt c k x → ⊥) → AreMissing c front missing → AreMissing c (front ++ x ∷ []) (missing ++ x ∷ [])
missing_put c front missing x none m = record {
  within = λ y h. elim (Contains-push_cases missing x y h) [
    | inl old ↦ Contains-append_left front (x ∷ []) y (m.within y old)
    | inr e ↦ subst (λ z. Contains (front ++ x ∷ []) z) e (Contains-push front x)
  ];
  new = λ a y ha hy same. elim (Contains-push_cases missing x y hy) [
    | inl old ↦ m.new a y ha old same
    | inr e ↦ no_equal c x none a ha (subst (λ z. item_cmp a z ≡ Equal) (sym e) same)
  ];
  others = λ y h. elim (Contains-push_cases front x y h) [
    | inl old ↦ elim (m.others y old) [ inl p ↦ inl (Contains-append_left missing (x ∷ []) y p) | inr key ↦ inr key ]
    | inr e ↦ inl (subst (λ z. Contains (missing ++ x ∷ []) z) e (Contains-push missing x))
  ];
}

-- one more isn't
pub missing_kept : (c front missing : List Item) (x : Item) → (k : ℕ) × HasKeyAt c k x → AreMissing c front missing → AreMissing c (front ++ x ∷ []) missing
missing_kept c front missing x key m = record {
  within = λ y h. Contains-append_left front (x ∷ []) y (m.within y h);
  new = m.new;
  others = λ y h. elim (Contains-push_cases front x y h) [
    | inl old ↦ m.others y old
    | inr e ↦ inr (key.0, subst (λ z. HasKeyAt c key.0 z) e key.1)
  ];
}

-- the front of a list, with the next item
pub front_more : (items : List Item) (i : ℕ) (x : Item) → i < length items → x ≡ get_or items i x → take i items ++ x ∷ [] ≡ take (i + 1) items
front_more items i x within at = ap (λ y. take i items ++ y ∷ []) at ∙ sym (take_more items i x within)

-- an item that comes after the front goes to the end of some of it
pub order_put : (items missing : List Item) (i : ℕ) (x : Item) → IsInOrder items → i < length items → x ≡ get_or items i x → IsWithin missing (take i items) → IsInOrder missing → IsInOrder (missing ++ x ∷ [])
order_put items missing i x order within at some ordered =
    in_order (missing ++ x ∷ []) (rising_append item_cmp missing (x ∷ []) (rising missing ordered) (λ y h. absurd (Contains-nil y h), tt)
    (λ a b ha hb. elim (Contains-cases x [] b hb) [
      | inl e ↦ subst (λ z. item_cmp a z ≡ Less) (sym at ∙ e)
          (fact_from_take (λ y. item_cmp y (get_or items i x) ≡ Less) items i (omega arith) (λ k d below. subst (λ z. item_cmp (get_or items k d) z ≡ Less) (get_or_default items i d x within) (order k i d below within)) a (some a ha))
      | inr none ↦ absurd (Contains-nil b none)
    ]))

-- ---- the list with what was missing

pub joined : (c items missing new : List Item) → HaveOneItemAKey c items → AreMissing c items missing → IsJoined c missing new → IsJoined c items new
joined c items missing new one m is x = (
  λ h. elim ((is x).0 h) [ inl old ↦ inl old | inr more ↦ inr (m.within x more) ],
  λ h. elim h [
    | inl old ↦ (is x).1 (inl old)
    | inr more ↦ elim (m.others x more) [
      | inl put ↦ (is x).1 (inr put)
      | inr key ↦ let there = key_item c x key in (is x).1 (inl (subst (Contains c) (one there.0 x there.1 more there.2) there.1))
    ]
  ],
)

-- the same of equal lists
pub same_without : (a b out other new : List Item) → a ≡ b → out ≡ other → IsWithout a out new → IsWithout b other new
same_without a b out other new p q h = subst (λ l. IsWithout l other new) p (subst (λ l. IsWithout a l new) q h)

pub same_joined : (a more other new : List Item) → more ≡ other → IsJoined a more new → IsJoined a other new
same_joined a more other new q h = subst (λ l. IsJoined a l new) q h

-- ---- the edited list

-- what is changed stands where the target doesn't
pub changed_within : (c rest edited : List Item) (edit : Edit) → IsFit c edit edited → IsWithout c edit.target rest → IsWithin edit.changed rest
changed_within c rest edited edit fit without x h = (without x).1 (fit.changed x h, (fit.apart x h).0)

kept_in : (c rest kept edited : List Item) (edit : Edit) → IsEdited c edit edited → IsWithout c edit.target rest → IsWithout rest edit.changed kept → IsWithin kept edited
kept_in c rest kept edited edit is first second x h =
    let later = (second x).0 h in
    let earlier = (first x).0 later.0 in
    (is.members x).1 (inl (earlier.0, earlier.1, later.1))

-- an added item with the key of one that stays is that one
pub added_keys : (c rest kept edited : List Item) (edit : Edit) → IsEdited c edit edited → IsWithout c edit.target rest → IsWithout rest edit.changed kept → HaveOneItemAKey kept edit.added
added_keys c rest kept edited edit is first second x y hx hy = one_by_key edited is.order x y (kept_in c rest kept edited edit is first second x hx) ((is.members y).1 (inr hy))

pub edited_list : (c rest kept new : List Item) (edit : Edit) → IsWithout c edit.target rest → IsWithout rest edit.changed kept → IsJoined kept edit.added new → IsInOrder new → IsEdited c edit new
edited_list c rest kept new edit first second is order = record {
  order = order;
  members = λ x. (
    λ h. elim ((is x).0 h) [
      | inl old ↦ let later = (second x).0 old in let earlier = (first x).0 later.0 in inl (earlier.0, earlier.1, later.1)
      | inr more ↦ inr more
    ],
    λ h. elim h [
      | inl old ↦ (is x).1 (inl ((second x).1 ((first x).1 (old.0, old.1), old.2)))
      | inr more ↦ (is x).1 (inr more)
    ],
  );
}

-- ---- rights by the system

right_of : (c : List Item) (x : Item) → IsSystemRight c x → IsRightWhere (λ r. Unit {0}) x
right_of c (item.Held r) h = tt
right_of c (item.Grantable r) h = tt
right_of c x h = absurd h

-- an item with the key of a right is that right
pub one_right : (c : List Item) (x y : Item) → IsSystemRight c y → item_cmp x y ≡ Equal → x ≡ y
one_right c x y right e = by (Contains-cases x [] y ((found_right (x ∷ []) 0 y (right_of c y right) (omega arith, λ d. e) y).1 (inr refl)))
  where
    by : (x ≡ y) ⊎ Contains [] y → x ≡ y
    by (inl same) = same
    by (inr none) = absurd (Contains-nil y none)

-- the list with the rights that the system could grant
pub with_rights : (c rights new : List Item) → ((x : Item) → Contains rights x ↔ IsSystemRight c x) → IsInOrder new → IsJoined c rights new → IsWithSystem c new
with_rights c rights new members order is = record {
  order = order;
  members = λ x. (
    λ h. elim ((is x).0 h) [ inl old ↦ inl old | inr more ↦ inr ((members x).0 more) ],
    λ h. elim h [ inl old ↦ (is x).1 (inl old) | inr right ↦ (is x).1 (inr ((members x).1 right)) ],
  );
}
