-- What is found under a name.
use Rattle.std.proofs.Common.{◌≡◌, ◌⊎◌, ◌↔◌, ℕ, ◌<◌, ◌≤◌, Bool, true, false, List, [], ◌∷◌, Some, length, get_or, ap, sym, subst, refl, ◌∙◌, inl, inr, arith}
use Rattle.std.specs.List.{Contains}
use Rattle.std.proofs.lemmas.List.{get_or_default}
use Rattle.sql_names.specs.declared.object.Object.{Object}
use Rattle.cat_items.specs.declared.item.Item.{Item}
use Rattle.cat_items.specs.declared.item.Item.TheVariants as item
use Rattle.cat_items.specs.declared.ranges.ObjectKind.{ObjectKind}
use Rattle.cat_items.specs.declared.ranges.ObjectKind.TheVariants as object
use Rattle.cat_items.specs.Catalogues.{OwnsSchema}
use Rattle.cat_items.specs.Ranges.{IsRange, IsUser, IsView, IsObjectIn}
use Rattle.cat_items.specs.Reach.{Has}
use Rattle.cat_items.specs.Rights.{path_of, IsSchema, IsBaseTable, IsTable, IsColumn}
use Rattle.cat_items.specs.Shape.{IsColumnOf}
use Rattle.role_graph.proofs.MeetingLemmas.{same_object, column_there}
use Rattle.edit_rules.specs.Names.{IsConstraint}

-- a range has a place exactly where an item is so
pub in_range : (c : List Item) (P : Item → Type 0) (from to : ℕ) → IsRange c from to P → (from < to) ↔ Has c P
in_range c P from to range = (
  λ below.
      let d : Item = item.User [] in
      let within : from < length c = omega (arith, below, range.within) in
      (get_or c from d, (from, within, get_or_default c from (get_or c from d) d within), range.inside from d (omega arith) below),
  λ h. let between = range.outside h.1.0 h.0 h.1.1 (subst P (sym h.1.2) h.2) in omega (arith, between.0, between.1),
)

user_by : (c : List Item) (name : List ℕ) (y : Item) → Contains c y → IsUser name y → Contains c (item.User name)
user_by c name (item.User n) m is = subst (λ u. Contains c (item.User u)) is m
user_by c name y m is = absurd is

-- the user of a name
pub user_there : (c : List Item) (name : List ℕ) → Has c (IsUser name) ↔ Contains c (item.User name)
user_there c name = (λ h. user_by c name h.0 h.1 h.2, λ m. (item.User name, m, refl))

table_by : (o : Object) (y : Item) → IsTable (path_of o) y → IsBaseTable o y ⊎ IsView o y
table_by o (item.Table t) is = inl (same_object o t is)
table_by o (item.View v) is = inr (same_object o v.view is)
table_by o y is = absurd is

from_base_table : (o : Object) (y : Item) → IsBaseTable o y → IsTable (path_of o) y
from_base_table o (item.Table t) is = ap path_of (sym is)
from_base_table o y is = absurd is

from_view : (o : Object) (y : Item) → IsView o y → IsTable (path_of o) y
from_view o (item.View v) is = ap path_of (sym is)
from_view o y is = absurd is

-- a base table is a table
pub base_table_there : (c : List Item) (o : Object) → Has c (IsBaseTable o) → Has c (IsTable (path_of o))
base_table_there c o h = (h.0, h.1, from_base_table o h.0 h.2)

-- where there is no base table, a table is a view
pub view_there : (c : List Item) (o : Object) → ¬ (Has c (IsBaseTable o)) → Has c (IsView o) ↔ Has c (IsTable (path_of o))
view_there c o none = (
  λ h. (h.0, h.1, from_view o h.0 h.2),
  λ h. elim (table_by o h.0 h.2) [
    | inl base ↦ absurd (none (h.0, h.1, base))
    | inr view ↦ (h.0, h.1, view)
  ],
)

-- a column of a table is among its columns
pub column_lies : (o : Object) (name : List ℕ) (y : Item) → IsColumn (path_of o) name y → IsColumnOf o y
column_lies o name y is = ((column_there o name y).1 is).0

owner_by : (c : List Item) (name : List ℕ) (y : Item) → Contains c y → IsSchema name y → (owner : List ℕ) × OwnsSchema c name owner
owner_by c name (item.Schema s) m is = (s.owner, subst (λ n. Contains c (item.Schema (record { name = n; owner = s.owner }))) is m)
owner_by c name y m is = absurd is

-- a schema has an owner
pub owner_from : (c : List Item) (name : List ℕ) → Has c (IsSchema name) → (owner : List ℕ) × OwnsSchema c name owner
owner_from c name h = owner_by c name h.0 h.1 h.2

pub schema_from_owner : (c : List Item) (name owner : List ℕ) → OwnsSchema c name owner → Has c (IsSchema name)
schema_from_owner c name owner owns = (item.Schema (record { name = name; owner = owner }), owns, refl)

-- the kinds of constraints
abbrev pub constraint_kinds : List ObjectKind
constraint_kinds = object.DomainCheck ∷ object.Key ∷ object.Foreign ∷ object.Check ∷ object.Assertion ∷ []

-- a constraint is of one of the kinds
pub constraint_lies : (name : Object) (y : Item) → IsConstraint name y → (k : ℕ) × (k < 5) × IsObjectIn (get_or constraint_kinds k object.Table) name.schema y
constraint_lies name (item.DomainCheck d) is = (0, omega arith, (refl, λ i. Some (is i).schema))
constraint_lies name (item.Key d) is = (1, omega arith, (refl, λ i. Some (is i).schema))
constraint_lies name (item.Foreign d) is = (2, omega arith, (refl, λ i. Some (is i).schema))
constraint_lies name (item.Check d) is = (3, omega arith, (refl, λ i. Some (is i).schema))
constraint_lies name (item.Assertion d) is = (4, omega arith, (refl, λ i. Some (is i).schema))
constraint_lies name y is = absurd is

-- a constraint of the kind at this place of the list
abbrev pub IsConstraintOf : ℕ → Object → Item → Type 0
IsConstraintOf k name y = IsObjectIn (get_or constraint_kinds k object.Table) name.schema y × IsConstraint name y

-- where none of the kinds has one there is none
pub no_constraint : (c : List Item) (name : Object) → ((k : ℕ) → k < 5 → Has c (IsConstraintOf k name) → ⊥) → Has c (IsConstraint name) → ⊥
no_constraint c name none h = let lies = constraint_lies name h.0 h.2 in none lies.0 lies.1 (h.0, h.1, (lies.2, h.2))
