-- What is made of the columns, the domains and the keys of a catalogue is made of those of a range.
use Rattle.std.proofs.Common.{◌≡◌, ◌⊎◌, ℕ, zero, suc, ◌+◌, ◌-◌, ◌<◌, ◌≤◌, Bool, true, false, ◌&&◌, List, [], ◌∷◌, ◌++◌, Some, length, take, drop, get_or, inl, inr, ap, ◌∙◌, refl, arith}
use Rattle.std.specs.Prelude.{if◌then◌else◌, flat_map, bytes_eq}
use Rattle.std.proofs.lemmas.List.{get_or-drop, length-drop}
use Rattle.std.proofs.lemmas.Slice.Eq.{bytes_eq-Decides}
use Rattle.sql_names.specs.declared.object.Object.{Object}
use Rattle.name_scopes.specs.Known.{same_object}
use Rattle.cat_items.specs.declared.item.Item.{Item}
use Rattle.cat_items.specs.declared.item.Item.TheVariants as item
use Rattle.cat_items.specs.declared.item.Key.{Key}
use Rattle.cat_items.specs.declared.ranges.ObjectKind.TheVariants as object
use Rattle.cat_items.specs.Ranges.{IsDomainOf, IsObjectIn, IsRange}
use Rattle.cat_items.specs.Shape.{IsColumnOf}
use Rattle.table_work.specs.Columns.{sort_here}
use Rattle.table_work.specs.Seen.{column_here, is_key_of, key_here}

module _ {X Y : Type 0} (f : X → List Y) where
  none_before : (xs : List X) (n : ℕ) → ((k : ℕ) (d : X) → k < n → k < length xs → f (get_or xs k d) ≡ []) → flat_map f xs ≡ flat_map f (drop n xs)
  none_before xs zero none = refl
  none_before [] (suc n) none = refl
  none_before (x ∷ xs) (suc n) none = ap (λ l. l ++ flat_map f xs) (none 0 x (omega arith) (omega arith)) ∙ none_before xs n (λ k d low within. none (suc k) d (omega (arith, low)) (omega (arith, within)))

  none_behind : (xs : List X) (n : ℕ) → ((k : ℕ) (d : X) → n ≤ k → k < length xs → f (get_or xs k d) ≡ []) → flat_map f xs ≡ flat_map f (take n xs)
  none_behind [] zero none = refl
  none_behind [] (suc n) none = refl
  none_behind (x ∷ xs) zero none = ap (λ l. l ++ flat_map f xs) (none 0 x (omega arith) (omega arith)) ∙ none_behind xs zero (λ k d low within. none (suc k) d (omega arith) (omega (arith, within)))
  none_behind (x ∷ xs) (suc n) none = ap (λ l. f x ++ l) (none_behind xs n (λ k d low within. none (suc k) d (omega (arith, low)) (omega (arith, within))))

-- all that is made of the items is made of those of a range, where others make nothing
pub made_of_range : {Y : Type 0} (f : Item → List Y) (P : Item → Type 0) (items : List Item) (from to : ℕ) → IsRange items from to P → ((x : Item) → (f x ≡ []) ⊎ P x) → flat_map f items ≡ flat_map f (take (to - from) (drop from items))
made_of_range f P items from to range makes = none_before f items from before ∙ none_behind f (drop from items) (to - from) behind
  where
    before : (k : ℕ) (d : Item) → k < from → k < length items → f (get_or items k d) ≡ []
    before k d low within = elim (makes (get_or items k d)) [ inl none ↦ none | inr is ↦ absurd (let there = range.outside k d within is in omega (arith, low, there.0)) ]

    behind : (k : ℕ) (d : Item) → to - from ≤ k → k < length (drop from items) → f (get_or (drop from items) k d) ≡ []
    behind k d low within =
        let size = length-drop from items in
        let same : get_or (drop from items) k d ≡ get_or items (from + k) d = get_or-drop from items k d in
        elim (makes (get_or items (from + k) d)) [
          | inl none ↦ ap f same ∙ none
          | inr is ↦ absurd (let there = range.outside (from + k) d (omega (arith, within, size)) is in omega (arith, low, there.1))
        ]

pub both_true : (a b : Bool) → (a && b) ≡ true → (a ≡ true) × (b ≡ true)
both_true true b e = (refl, e)
both_true false b e = absurd (let odd : false ≡ true = e in cc)

-- one object or another
pub same_or_not : (a b : Object) → (same_object a b ≡ false) ⊎ (a ≡ b)
same_or_not a b = by (same_object a b) refl
  where
    by : (r : Bool) → same_object a b ≡ r → (same_object a b ≡ false) ⊎ (a ≡ b)
    by false e = inl e
    by true e =
        let parts = both_true (bytes_eq a.schema b.schema) (bytes_eq a.name b.name) e in
        let schemas : a.schema ≡ b.schema = (bytes_eq-Decides a.schema b.schema).0 parts.0 in
        let names : a.name ≡ b.name = (bytes_eq-Decides a.name b.name).0 parts.1 in
        inr (λ i. record { schema = schemas i; name = names i })

columns_make : (o : Object) (x : Item) → (column_here o x ≡ []) ⊎ IsColumnOf o x
columns_make o (item.Column c) = elim (same_or_not c.table o) [ inl other ↦ inl (ap (λ b. if b then record { name = c.name; sort = c.sort } ∷ [] else []) other) | inr same ↦ inr same ]
columns_make o x = inl refl

pub columns_are : (o : Object) (items : List Item) (from to : ℕ) → IsRange items from to (IsColumnOf o) → flat_map (column_here o) items ≡ flat_map (column_here o) (take (to - from) (drop from items))
columns_are o items from to range = made_of_range (column_here o) (IsColumnOf o) items from to range (columns_make o)

sorts_make : (o : Object) (x : Item) → (sort_here o x ≡ []) ⊎ IsDomainOf o x
sorts_make o (item.Domain d) = elim (same_or_not d.domain o) [ inl other ↦ inl (ap (λ b. if b then d.sort ∷ [] else []) other) | inr same ↦ inr same ]
sorts_make o x = inl refl

pub sorts_are : (o : Object) (items : List Item) (from to : ℕ) → IsRange items from to (IsDomainOf o) → flat_map (sort_here o) items ≡ flat_map (sort_here o) (take (to - from) (drop from items))
sorts_are o items from to range = made_of_range (sort_here o) (IsDomainOf o) items from to range (sorts_make o)

key_made : (o : Object) (k : Key) (b : Bool) → is_key_of o k ≡ b → ((if b then k ∷ [] else []) ≡ []) ⊎ IsObjectIn object.Key o.schema (item.Key k)
key_made o k false e = inl refl
key_made o k true e =
    let parts = both_true (same_object k.table o) (bytes_eq k.name.schema o.schema) e in
    let schemas : k.name.schema ≡ o.schema = (bytes_eq-Decides k.name.schema o.schema).0 parts.1 in
    inr (refl, λ i. Some (schemas i))

keys_make : (o : Object) (x : Item) → (key_here o x ≡ []) ⊎ IsObjectIn object.Key o.schema x
keys_make o (item.Key k) = key_made o k (is_key_of o k) refl
keys_make o x = inl refl

pub keys_are : (o : Object) (items : List Item) (from to : ℕ) → IsRange items from to (IsObjectIn object.Key o.schema) → flat_map (key_here o) items ≡ flat_map (key_here o) (take (to - from) (drop from items))
keys_are o items from to range = made_of_range (key_here o) (IsObjectIn object.Key o.schema) items from to range (keys_make o)
