-- The ranges of a catalogue that tell what names stand for.
use Rattle.std.proofs.Common.{◌≡◌, ◌⊎◌, ℕ, ◌-◌, Bool, true, false, ◌&&◌, List, [], ◌∷◌, take, drop, inl, inr, ap, subst, refl}
use Rattle.std.specs.Prelude.{if◌then◌else◌, flat_map, bytes_eq, nat_lt}
use Rattle.std.specs.List.{list_any}
use Rattle.std.proofs.lemmas.Slice.Eq.{bytes_eq-Decides}
use Rattle.sql_names.specs.declared.object.Object.{Object}
use Rattle.name_scopes.specs.Known.{same_object}
use Rattle.cat_items.specs.declared.item.Item.{Item}
use Rattle.cat_items.specs.declared.item.Item.TheVariants as item
use Rattle.cat_items.specs.Ranges.{IsRange, IsView, IsRoutineOf}
use Rattle.cat_items.specs.Rights.{IsBaseTable}
use Rattle.cat_items.specs.Shape.{IsColumnOf}
use Rattle.view_deps.specs.Described.{is_base_table, is_view, columns_in, routines_in, signature_of}
use Rattle.view_deps.proofs.Ranges.{made_of_range, any_of_range, told}

both_true : (a b : Bool) → (a && b) ≡ true → (a ≡ true) × (b ≡ true)
both_true true b e = (refl, e)
both_true false b e = absurd (let odd : false ≡ true = e in cc)

-- one object or another
pub same_or_not : (a b : Object) → (same_object a b ≡ false) ⊎ (a ≡ b)
same_or_not a b = by (same_object a b) refl
  where
    by : (r : Bool) → same_object a b ≡ r → (same_object a b ≡ false) ⊎ (a ≡ b)
    by false e = inl e
    by true e =
        let parts = both_true (bytes_eq a.schema b.schema) (bytes_eq a.name b.name) e in
        let schemas : a.schema ≡ b.schema = (bytes_eq-Decides a.schema b.schema).0 parts.0 in
        let names : a.name ≡ b.name = (bytes_eq-Decides a.name b.name).0 parts.1 in
        inr (λ i. record { schema = schemas i; name = names i })

pub itself : (a : Object) → same_object a a ≡ true
itself a = rw ((bytes_eq-Decides a.schema a.schema).1 refl, (bytes_eq-Decides a.name a.name).1 refl) refl

table_passes : (o : Object) (x : Item) → IsBaseTable o x → is_base_table o x ≡ true
table_passes o (item.Table t) is = subst (λ z. same_object t z ≡ true) is (itself t)
table_passes o x is = elim is [ ]

table_fails : (o : Object) (x : Item) → (is_base_table o x ≡ false) ⊎ IsBaseTable o x
table_fails o (item.Table t) = same_or_not t o
table_fails o x = inl refl

view_passes : (o : Object) (x : Item) → IsView o x → is_view o x ≡ true
view_passes o (item.View v) is = subst (λ z. same_object v.view z ≡ true) is (itself v.view)
view_passes o x is = elim is [ ]

view_fails : (o : Object) (x : Item) → (is_view o x ≡ false) ⊎ IsView o x
view_fails o (item.View v) = same_or_not v.view o
view_fails o x = inl refl

pub base_table_is : (o : Object) (items : List Item) (from to : ℕ) → IsRange items from to (IsBaseTable o) → nat_lt from to ≡ list_any (is_base_table o) items
base_table_is o items from to range = told from to (list_any (is_base_table o) items) (any_of_range (is_base_table o) (IsBaseTable o) items from to range (table_passes o) (table_fails o))

pub view_is : (o : Object) (items : List Item) (from to : ℕ) → IsRange items from to (IsView o) → nat_lt from to ≡ list_any (is_view o) items
view_is o items from to range = told from to (list_any (is_view o) items) (any_of_range (is_view o) (IsView o) items from to range (view_passes o) (view_fails o))

columns_make : (o : Object) (x : Item) → (columns_in o x ≡ []) ⊎ IsColumnOf o x
columns_make o (item.Column c) = elim (same_or_not c.table o) [ inl other ↦ inl (ap (λ b. if b then record { name = c.name; sort = c.sort } ∷ [] else []) other) | inr same ↦ inr same ]
columns_make o x = inl refl

routines_make : (o : Object) (x : Item) → (routines_in o x ≡ []) ⊎ IsRoutineOf o x
routines_make o (item.Routine r) = elim (same_or_not r.routine o) [ inl other ↦ inl (ap (λ b. if b then signature_of r ∷ [] else []) other) | inr same ↦ inr same ]
routines_make o x = inl refl

pub columns_are : (o : Object) (items : List Item) (from to : ℕ) → IsRange items from to (IsColumnOf o) → flat_map (columns_in o) items ≡ flat_map (columns_in o) (take (to - from) (drop from items))
columns_are o items from to range = made_of_range (columns_in o) (IsColumnOf o) items from to range (columns_make o)

pub routines_are : (o : Object) (items : List Item) (from to : ℕ) → IsRange items from to (IsRoutineOf o) → flat_map (routines_in o) items ≡ flat_map (routines_in o) (take (to - from) (drop from items))
routines_are o items from to range = made_of_range (routines_in o) (IsRoutineOf o) items from to range (routines_make o)
