-- Columns fit the domains that they are based on, whether CREATE TABLE makes them or ALTER TABLE adds them.
use Rattle.std.proofs.Common.{◌≡◌, Bool, true, false, ◌&&◌, List, [], ◌∷◌, Some, refl, ap, sym, subst}
use Rattle.std.specs.Prelude.{if◌then◌else◌, flat_map, bytes_eq}
use Rattle.std.specs.List.{Contains}
use Rattle.std.proofs.lemmas.Slice.Eq.{bytes_eq-Decides}
use Rattle.finite_chains.proofs.Members.{Contains-nil, Contains-head}
use Rattle.sql_names.specs.declared.object.Object.{Object}
use Rattle.sql_names.specs.declared.sort.SqlType.{SqlType}
use Rattle.sql_tree.specs.declared.table.ColumnType.{ColumnType}
use Rattle.sql_tree.specs.declared.table.ColumnType.TheVariants as bases
use Rattle.cat_items.specs.declared.edit.Edit.{Edit}
use Rattle.cat_items.specs.declared.edit.Who.{Who}
use Rattle.cat_items.specs.declared.item.Column.{Column}
use Rattle.cat_items.specs.declared.item.Domain.{Domain}
use Rattle.cat_items.specs.declared.item.Item.{Item}
use Rattle.cat_items.specs.declared.item.Item.TheVariants as item
use Rattle.cat_items.specs.Reach.{Has}
use Rattle.cat_items.specs.Rights.{path_of, IsBaseTable, IsDomain}
use Rattle.name_scopes.specs.Known.{same_object}
use Rattle.edit_rules.specs.Names.{object_in}
use Rattle.edit_laws.specs.Proper.{IsLeft, Leaves, FitsDomain, IsDomainOfType}
use Rattle.edit_laws.proofs.FormLaws as forms
use Rattle.table_parts.proofs.ListMembers.{from_flat_map, to_flat_map}
use Rattle.table_work.specs.Columns.{domain_of, first_sort, sort_here, sort_of}
use Rattle.table_constraints.proofs.KeysSeen.{object_is, one_if}

-- the first type of a list that has one is among them
first_among : (found : List SqlType) (sort : SqlType) → Contains found sort → Contains found (first_sort found)
first_among [] sort h = absurd (Contains-nil sort h)
first_among (first ∷ found) sort h = Contains-head first found

sort_from : (o : Object) (y : Item) (sort : SqlType) → Contains (sort_here o y) sort → (m : Domain) × (y ≡ item.Domain m) × (m.domain ≡ o) × (m.sort ≡ sort)
sort_from o (item.Domain m) sort h = let one = one_if (same_object m.domain o) m.sort sort h in (m, refl, object_is m.domain o one.0, one.1)
sort_from o y sort h = absurd (Contains-nil sort h)

both_are : (x y : Bool) → x ≡ true → y ≡ true → (x && y) ≡ true
both_are true y p q = q
both_are false y p q = absurd (let odd : false ≡ true = p in cc)

eq_same : (a b : Object) → a ≡ b → same_object a b ≡ true
eq_same a b e = both_are (bytes_eq a.schema b.schema) (bytes_eq a.name b.name) ((bytes_eq-Decides a.schema b.schema).1 (ap (λ (o : Object). o.schema) e)) ((bytes_eq-Decides a.name b.name).1 (ap (λ (o : Object). o.name) e))

if_true : {X : Type 0} (b : Bool) (x : X) → b ≡ true → Contains (if b then x ∷ [] else []) x
if_true true x e = Contains-head x []
if_true false x e = absurd (let odd : false ≡ true = e in cc)

-- the type of a column that is based on a domain is that of a domain of its name that stands
domain_left : (c : List Item) (edit : Edit) (o : Object) (y : Item) → ((d : Domain) → Contains c (item.Domain d) → IsLeft c edit (item.Domain d)) → Contains c y → IsDomain (path_of o) y → Leaves c edit (IsDomainOfType o (first_sort (flat_map (sort_here o) c)))
domain_left c edit o (item.Domain d) left h is =
    let same : d.domain ≡ o = sym (forms.same_object o d.domain is) in
    let sorts : List SqlType = flat_map (sort_here o) c in
    let here : Contains sorts d.sort = to_flat_map (sort_here o) c (item.Domain d) d.sort h (if_true (same_object d.domain o) d.sort (eq_same d.domain o same)) in
    let of = from_flat_map (sort_here o) c (first_sort sorts) (first_among sorts d.sort here) in
    let is_of = sort_from o of.0 (first_sort sorts) of.2 in
    (item.Domain is_of.0, left is_of.0 (subst (Contains c) is_of.1 of.1), (is_of.2, is_of.3))
domain_left c edit o y left h is = absurd is

-- a column that is made fits its domain, where the domain stands and its table is left
pub column_fits : (c : List Item) (who : Who) (edit : Edit) (x : Column) (base : ColumnType) → ((d : Domain) → Contains c (item.Domain d) → IsLeft c edit (item.Domain d)) → x.sort ≡ sort_of c who base
    → ((o : Object) → domain_of who base ≡ Some o → Has c (IsDomain (path_of o)) × Leaves c edit (IsBaseTable x.table)) → FitsDomain c edit x (domain_of who base)
column_fits c who edit x (bases.Type sort) left s stands = tt
column_fits c who edit x (bases.Domain name) left s stands =
    let both = stands (object_in who.schema name) refl in
    let d = both.0 in
    (both.1, subst (λ (z : SqlType). Leaves c edit (IsDomainOfType (object_in who.schema name) z)) (sym s) (domain_left c edit (object_in who.schema name) d.0 left d.1 d.2))
