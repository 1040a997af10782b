-- The greatest place of a column of a table, and the places of new columns behind it.
use Rattle.std.proofs.Common.{◌≡◌, ◌⊎◌, ◌↔◌, ℕ, ◌+◌, ◌<◌, ◌≤◌, List, [], ◌∷◌, length, get_or, drop, inl, inr, refl, ap, sym, subst, ◌∙◌, arith}
use Rattle.std.specs.Prelude.{max, if◌then◌else◌}
use Rattle.std.specs.List.{Contains}
use Rattle.std.proofs.lemmas.List.{drop_more}
use Rattle.std.proofs.Math.Nat.{le-max_left, le-max_right, max-le}
use Rattle.finite_chains.proofs.Members.{Contains-nil, Contains-head, Contains-tail, Contains-cases}
use Rattle.sql_names.specs.declared.object.Object.{Object}
use Rattle.sql_tree.specs.declared.table.ColumnDefinition.{ColumnDefinition}
use Rattle.cat_items.specs.declared.edit.Who.{Who}
use Rattle.cat_items.specs.declared.item.Column.{Column}
use Rattle.cat_items.specs.declared.item.Item.{Item}
use Rattle.cat_items.specs.declared.item.Item.TheVariants as item
use Rattle.cat_items.specs.Shape.{IsColumnOf}
use Rattle.name_scopes.specs.Known.{same_object}
use Rattle.view_deps.proofs.Described.{itself}
use Rattle.table_parts.specs.declared.parts.Part.{Part}
use Rattle.table_work.specs.Columns.{column_made, columns_from}
use Rattle.table_work.proofs.RangeMakings.{same_or_not}
use Rattle.table_additions.specs.Additions.{last_place, place_here}

-- ---- the greatest place

-- no place is behind it
pub below_last : (c : List Item) (table : Object) (x : Item) → Contains c x → place_here table x ≤ last_place c table
below_last [] table x h = absurd (Contains-nil x h)
below_last (y ∷ c) table x h =
    elim (Contains-cases y c x h) [
      | inl e ↦ subst (λ z. place_here table z ≤ max (place_here table y) (last_place c table)) e (le-max_left (place_here table y) (last_place c table))
      | inr later ↦ let rest = below_last c table x later in let greater = le-max_right (place_here table y) (last_place c table) in omega (arith, rest, greater)
    ]

last_below : (c : List Item) (table : Object) (n : ℕ) → ((x : Item) → Contains c x → place_here table x ≤ n) → last_place c table ≤ n
last_below [] table n each = omega arith
last_below (y ∷ c) table n each = max-le (each y (Contains-head y c)) (last_below c table n (λ x h. each x (Contains-tail y c x h)))

column_or_none : (table : Object) (x : Item) → IsColumnOf table x ⊎ (place_here table x ≡ 0)
column_or_none table (item.Column x) = elim (same_or_not x.table table) [ inl other ↦ inr (ap (λ b. if b then x.place else 0) other) | inr same ↦ inl same ]
column_or_none table x = inr refl

-- it is that of the columns alone
pub last_of_columns : (c columns : List Item) (table : Object) → ((x : Item) → Contains columns x ↔ (Contains c x × IsColumnOf table x)) → last_place columns table ≡ last_place c table
last_of_columns c columns table members =
    let small : last_place columns table ≤ last_place c table = last_below columns table (last_place c table) (λ x h. below_last c table x ((members x).0 h).0) in
    let great : last_place c table ≤ last_place columns table = last_below c table (last_place columns table) by in
    omega (arith, small, great)
  where
    by : (x : Item) → Contains c x → place_here table x ≤ last_place columns table
    by x h =
        elim (column_or_none table x) [
          | inl is ↦ below_last columns table x ((members x).1 (h, is))
          | inr none ↦ subst (λ n. n ≤ last_place columns table) (sym none) (omega arith)
        ]

max_more : (last place rest next here whole : ℕ) → here ≡ max place rest → next ≡ max last place → max last here ≡ whole → max next rest ≡ whole
max_more last place rest next here whole e f g = omega (arith, e, f, g)

-- one item more
pub greater_more : (items : List Item) (table : Object) (i : ℕ) (x : Item) (last place next : ℕ) → i < length items → x ≡ get_or items i x → place ≡ place_here table x → next ≡ max last place
    → max last (last_place (drop i items) table) ≡ last_place items table → max next (last_place (drop (i + 1) items) table) ≡ last_place items table
greater_more items table i x last place next low is here greater before =
    let rest : ℕ = last_place (drop (i + 1) items) table in
    let more : last_place (drop i items) table ≡ max place rest = ap (λ l. last_place l table) (drop_more items i x low ∙ ap (λ y. y ∷ drop (i + 1) items) (sym is)) ∙ ap (λ n. max n rest) (sym here) in
    max_more last place rest next (last_place (drop i items) table) (last_place items table) more greater before

place_is : (table : Object) (x : Column) → x.table ≡ table → place_here table (item.Column x) ≡ x.place
place_is table x e = ap (λ b. if b then x.place else 0) (ap (λ o. same_object o table) e ∙ itself table)

-- a column that stands isn't behind it
pub column_below_last : (c : List Item) (table : Object) (x : Column) → Contains c (item.Column x) → x.table ≡ table → x.place ≤ last_place c table
column_below_last c table x h e = subst (λ n. n ≤ last_place c table) (place_is table x e) (below_last c table (item.Column x) h)

-- ---- new columns

-- they are at places from the first on
pub made_behind : (c : List Item) (who : Who) (table : Object) (all : List Part) (place : ℕ) (ds : List ColumnDefinition) (x : Column) → Contains (columns_from c who table all place ds) x → place ≤ x.place
made_behind c who table all place [] x h = absurd (Contains-nil x h)
made_behind c who table all place (d ∷ ds) x h =
    elim (Contains-cases (column_made c who table all place d) (columns_from c who table all (place + 1) ds) x h) [
      | inl e ↦ subst (λ (z : Column). place ≤ z.place) e (omega arith)
      | inr later ↦ let rest = made_behind c who table all (place + 1) ds x later in omega (arith, rest)
    ]
