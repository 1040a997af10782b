-- Items with one key have one name, but for columns, which are found by their places.
use Rattle.std.proofs.Common.{◌≡◌, ℕ, List, [], ◌∷◌, Option, Some, refl, ap, sym, ◌∙◌, arith, get_or}
use Rattle.std.proofs.lemmas.List.{get_or_default}
use Rattle.std.specs.List.{Contains}
use Rattle.std.specs.FinMap.{nat_cmp-IsAntisymmetric}
use Rattle.std.specs.Ordering.{nat_cmp, ordering_then, ordering_reverse}
use Rattle.std.specs.declared.cmp.Ordering.{Ordering}
use Rattle.std.specs.declared.cmp.Ordering.TheVariants.{Less, Equal, Greater}
use Rattle.sql_names.specs.Names.{name_cmp-IsAntisymmetric}
use Rattle.sql_names.specs.declared.object.Object.{Object}
use Rattle.cat_items.specs.declared.item.Column.{Column}
use Rattle.cat_items.specs.declared.item.Routine.{Routine}
use Rattle.cat_items.specs.declared.item.Schema.{Schema}
use Rattle.cat_items.specs.declared.item.View.{View}
use Rattle.cat_items.specs.declared.item.Item.{Item}
use Rattle.cat_items.specs.declared.item.Item.TheVariants as item
use Rattle.cat_items.specs.Catalogues.{HasKeyAt}
use Rattle.cat_items.specs.Order.{name_cmp, object_cmp, kind_of, key_cmp, item_cmp}
use Rattle.cat_items.specs.Rights.{path_of, IsRoutine, IsSchema, IsTable}
use Rattle.cat_items.specs.Shape.{NameSet, name_of, authorizations, tables, domains, constraints, routines}
use Rattle.cat_items.proofs.OrderLemmas.{item_cmp-total}

both_equal : (a b : Ordering) → ordering_then a b ≡ Equal → (a ≡ Equal) × (b ≡ Equal)
both_equal Less b e = absurd (let odd : Less ≡ Equal = e in cc)
both_equal Equal b e = (refl, e)
both_equal Greater b e = absurd (let odd : Greater ≡ Equal = e in cc)

pub kind_and_key : (x y : Item) → item_cmp x y ≡ Equal → (kind_of x ≡ kind_of y) × (key_cmp x y ≡ Equal)
kind_and_key x y e = let both = both_equal (nat_cmp (kind_of x) (kind_of y)) (key_cmp x y) e in (nat_cmp-IsAntisymmetric (kind_of x) (kind_of y) both.0, both.1)

pub turned : (x y : Item) → item_cmp x y ≡ Equal → item_cmp y x ≡ Equal
turned x y e = item_cmp-total.antisymm y x ∙ ap ordering_reverse e

pub object_by_key : (a b : Object) → object_cmp a b ≡ Equal → a ≡ b
object_by_key a b e =
    let both = both_equal (name_cmp a.schema b.schema) (name_cmp a.name b.name) e in
    let schemas : a.schema ≡ b.schema = name_cmp-IsAntisymmetric a.schema b.schema both.0 in
    let names : a.name ≡ b.name = name_cmp-IsAntisymmetric a.name b.name both.1 in
    λ i. record { schema = schemas i; name = names i }

-- items whose names are their keys
abbrev pub IsNamedByKey : Item → Type 0
IsNamedByKey (item.Schema s) = ⊥
IsNamedByKey (item.Column x) = ⊥
IsNamedByKey (item.RoleAuth g) = ⊥
IsNamedByKey (item.RoleAdmin g) = ⊥
IsNamedByKey (item.Held r) = ⊥
IsNamedByKey (item.Grantable r) = ⊥
IsNamedByKey x = Unit {0}

abbrev named : NameSet → Object → Option (NameSet × List (List ℕ))
named set o = Some (set, path_of o)

path_name : (set : NameSet) (a b : Object) → object_cmp a b ≡ Equal → named set a ≡ named set b
path_name set a b e = ap (named set) (object_by_key a b e)

one_name : (x y : Item) → kind_of x ≡ kind_of y → key_cmp x y ≡ Equal → IsNamedByKey x → name_of x ≡ name_of y
one_name (item.User a) (item.User b) k e n = ap (λ (z : List ℕ). Some (authorizations, z ∷ [])) (name_cmp-IsAntisymmetric a b e)
one_name (item.Role a) (item.Role b) k e n = ap (λ (z : List ℕ). Some (authorizations, z ∷ [])) (name_cmp-IsAntisymmetric a b e)
one_name (item.Table a) (item.Table b) k e n = path_name tables a b e
one_name (item.View a) (item.View b) k e n = path_name tables a.view b.view e
one_name (item.Domain a) (item.Domain b) k e n = path_name domains a.domain b.domain e
one_name (item.DomainCheck a) (item.DomainCheck b) k e n = path_name constraints a.name b.name e
one_name (item.Key a) (item.Key b) k e n = path_name constraints a.name b.name e
one_name (item.Foreign a) (item.Foreign b) k e n = path_name constraints a.name b.name e
one_name (item.Check a) (item.Check b) k e n = path_name constraints a.name b.name e
one_name (item.Assertion a) (item.Assertion b) k e n = path_name constraints a.name b.name e
one_name (item.Routine a) (item.Routine b) k e n = path_name routines a.routine b.routine e
one_name (item.User a) y k e n = absurd (omega (arith, k))
one_name (item.Role a) y k e n = absurd (omega (arith, k))
one_name (item.Table a) y k e n = absurd (omega (arith, k))
one_name (item.View a) y k e n = absurd (omega (arith, k))
one_name (item.Domain a) y k e n = absurd (omega (arith, k))
one_name (item.DomainCheck a) y k e n = absurd (omega (arith, k))
one_name (item.Key a) y k e n = absurd (omega (arith, k))
one_name (item.Foreign a) y k e n = absurd (omega (arith, k))
one_name (item.Check a) y k e n = absurd (omega (arith, k))
one_name (item.Assertion a) y k e n = absurd (omega (arith, k))
one_name (item.Routine a) y k e n = absurd (omega (arith, k))
one_name x y k e n = absurd n

pub name_by_key : (x y : Item) → item_cmp x y ≡ Equal → IsNamedByKey x → name_of x ≡ name_of y
name_by_key x y e n = let same = kind_and_key x y e in one_name x y same.0 same.1 n

-- what has the key of a column is a column of its table and place
pub column_by_key : (x : Column) (y : Item) → 6 ≡ kind_of y → key_cmp (item.Column x) y ≡ Equal → (z : Column) × (y ≡ item.Column z) × (z.table ≡ x.table) × (z.place ≡ x.place)
column_by_key x (item.Column z) k e =
    let both = both_equal (object_cmp x.table z.table) (nat_cmp x.place z.place) e in
    (z, refl, sym (object_by_key x.table z.table both.0), sym (nat_cmp-IsAntisymmetric x.place z.place both.1))
column_by_key x y k e = absurd (omega (arith, k))

-- the item that has a key in a list
pub at_key : (items : List Item) (k : ℕ) (x : Item) → HasKeyAt items k x → (y : Item) × Contains items y × (item_cmp y x ≡ Equal)
at_key items k x at = let y : Item = get_or items k x in (y, (k, at.0, get_or_default items k y x at.0), at.1 x)

-- what has the key of a schema is one of its name
schema_by_key : (s : Schema) (y : Item) → 3 ≡ kind_of y → key_cmp (item.Schema s) y ≡ Equal → IsSchema s.name y
schema_by_key s (item.Schema t) k e = sym (name_cmp-IsAntisymmetric s.name t.name e)
schema_by_key s y k e = absurd (omega (arith, k))

pub schema_with_key : (s : Schema) (y : Item) → item_cmp (item.Schema s) y ≡ Equal → IsSchema s.name y
schema_with_key s y e = let same = kind_and_key (item.Schema s) y e in schema_by_key s y same.0 same.1

-- what has the key of a view is one
view_by_key : (v : View) (y : Item) → 5 ≡ kind_of y → key_cmp (item.View v) y ≡ Equal → IsTable (path_of v.view) y
view_by_key v (item.View w) k e = ap path_of (object_by_key v.view w.view e)
view_by_key v y k e = absurd (omega (arith, k))

pub view_with_key : (v : View) (y : Item) → item_cmp (item.View v) y ≡ Equal → IsTable (path_of v.view) y
view_with_key v y e = let same = kind_and_key (item.View v) y e in view_by_key v y same.0 same.1

-- what has the key of a routine is one
routine_by_key : (r : Routine) (y : Item) → 13 ≡ kind_of y → key_cmp (item.Routine r) y ≡ Equal → IsRoutine (path_of r.routine) y
routine_by_key r (item.Routine s) k e = ap path_of (object_by_key r.routine s.routine e)
routine_by_key r y k e = absurd (omega (arith, k))

pub routine_with_key : (r : Routine) (y : Item) → item_cmp (item.Routine r) y ≡ Equal → IsRoutine (path_of r.routine) y
routine_with_key r y e = let same = kind_and_key (item.Routine r) y e in routine_by_key r y same.0 same.1
