-- Each table and view of a good catalogue has a column.
use Rattle.std.proofs.Common.{◌≡◌, ◌⊎◌, ◌<◌, Bool, true, false, ◌||◌, List, [], ◌∷◌, ◌++◌, Some, None, length, sym, subst, ◌∙◌, refl, inl, inr, arith}
use Rattle.std.specs.Prelude.{if◌then◌else◌, flat_map}
use Rattle.std.specs.List.{list_any, Contains}
use Rattle.finite_chains.proofs.Members.{Contains-nil, Contains-head, Contains-tail, Contains-cases}
use Rattle.sql_names.specs.declared.object.Object.{Object}
use Rattle.name_scopes.specs.Known.{same_object}
use Rattle.cat_items.specs.declared.item.Item.{Item}
use Rattle.cat_items.specs.declared.item.Item.TheVariants as item
use Rattle.cat_items.specs.Good.{IsGood}
use Rattle.cat_items.specs.Reach.{Has}
use Rattle.cat_items.specs.Shape.{IsColumnOf}
use Rattle.cat_items.specs.Supported.{Keeps}
use Rattle.edit_laws.proofs.GoodCatalogues.{table_column_stands}
use Rattle.view_deps.specs.Described.{is_base_table, is_view, columns_in, known_of}
use Rattle.view_deps.proofs.Described.{same_or_not, itself}
use Rattle.resolved_trees.specs.Named.{HaveColumns}

abbrev Passed : (Item → Bool) → List Item → Type 0
Passed test xs = (x : Item) × Contains xs x × (test x ≡ true)

any_step : (test : Item → Bool) (x : Item) (xs : List Item) (b : Bool) → test x ≡ b → (list_any test xs ≡ true → Passed test xs) → (b || list_any test xs) ≡ true → Passed test (x ∷ xs)
any_step test x xs true is later e = (x, Contains-head x xs, is)
any_step test x xs false is later e = let rest = later e in (rest.0, Contains-tail x xs rest.0 rest.1, rest.2)

-- an item that a test passes
any_has : (test : Item → Bool) (xs : List Item) → list_any test xs ≡ true → Passed test xs
any_has test [] e = absurd (let odd : false ≡ true = e in cc)
any_has test (x ∷ xs) e = any_step test x xs (test x) refl (any_has test xs) e

same_is : (a b : Object) → same_object a b ≡ true → a ≡ b
same_is a b e = elim (same_or_not a b) [ inl other ↦ absurd (let odd : false ≡ true = sym other ∙ e in cc) | inr same ↦ same ]

kept_is : (t o : Object) (s : List Item) → t ≡ o → (y : Item) → Keeps s t y → IsColumnOf o y
kept_is t o s same (item.Column c) k = k.0 ∙ same
kept_is t o s same x k = absurd k

table_has : (c : List Item) → IsGood c → (o : Object) (x : Item) → Contains c x → is_base_table o x ≡ true → Has c (IsColumnOf o)
table_has c good o (item.Table t) here e = let k = table_column_stands c good t here in (k.0, k.1, kept_is t o c (same_is t o e) k.0 k.2)
table_has c good o x here e = absurd (let odd : false ≡ true = e in cc)

view_has : (c : List Item) → IsGood c → (o : Object) (x : Item) → Contains c x → is_view o x ≡ true → Has c (IsColumnOf o)
view_has c good o (item.View v) here e = subst (λ w. Has c (IsColumnOf w)) (same_is v.view o e) (good.shape.view_columns v here)
view_has c good o x here e = absurd (let odd : false ≡ true = e in cc)

or_is : (a b : Bool) → (a || b) ≡ true → (a ≡ true) ⊎ (b ≡ true)
or_is true b e = inl refl
or_is false b e = inr e

one_column : (o : Object) (y : Item) → IsColumnOf o y → 0 < length (columns_in o y)
one_column o (item.Column c) is = rw (subst (λ z. same_object c.table z ≡ true) is (itself c.table)) (omega arith)
one_column o x is = elim is [ ]

longer : {A : Type 0} (xs ys : List A) → (0 < length xs) ⊎ (0 < length ys) → 0 < length (xs ++ ys)
longer [] ys (inl low) = absurd (omega (arith, low))
longer [] ys (inr low) = low
longer (x ∷ xs) ys some = omega arith

some_columns : (o : Object) (c : List Item) (y : Item) → Contains c y → IsColumnOf o y → 0 < length (flat_map (columns_in o) c)
some_columns o [] y here is = absurd (Contains-nil y here)
some_columns o (x ∷ c) y here is = longer (columns_in o x) (flat_map (columns_in o) c) (elim (Contains-cases x c y here) [
  | inl same ↦ inl (subst (λ z. 0 < length (columns_in o z)) (sym same) (one_column o y is))
  | inr later ↦ inr (some_columns o c y later is)
])

pub good_has_columns : (c : List Item) → IsGood c → HaveColumns (known_of c)
good_has_columns c good o columns e = by (list_any (is_view o) c || list_any (is_base_table o) c) refl e
  where
    stands : (list_any (is_view o) c || list_any (is_base_table o) c) ≡ true → Has c (IsColumnOf o)
    stands any = elim (or_is (list_any (is_view o) c) (list_any (is_base_table o) c) any) [
      | inl v ↦ (let x = any_has (is_view o) c v in view_has c good o x.0 x.1 x.2)
      | inr t ↦ (let x = any_has (is_base_table o) c t in table_has c good o x.0 x.1 x.2)
    ]

    by : (b : Bool) → (list_any (is_view o) c || list_any (is_base_table o) c) ≡ b → (if b then Some (flat_map (columns_in o) c) else None) ≡ Some columns → 0 < length columns
    by true is f = let column = stands is in subst (λ l. 0 < length l) (let same : flat_map (columns_in o) c ≡ columns = (let g : Some (flat_map (columns_in o) c) ≡ Some columns = f in cc) in same) (some_columns o c column.0 column.1 column.2)
    by false is f = absurd (let odd : None ≡ Some columns = f in cc)
