-- Items with one key, and as columns one name, stand under the same topics; and which of them are in a list.
use Rattle.std.proofs.Common.{◌≡◌, inl, inr, Bool, true, List, [], ◌∷◌, ap, sym, refl, ◌∙◌, subst, true≢false, arith}
use Rattle.std.specs.Prelude.{ℕ, Decides}
use Rattle.std.specs.List.{Contains, list_any}
use Rattle.std.specs.Ordering.{is_eq, nat_cmp, ordering_then}
use Rattle.std.specs.Cmp.{Equal-is}
use Rattle.std.specs.FinMap.{nat_cmp-IsAntisymmetric}
use Rattle.std.specs.declared.cmp.Ordering.{Ordering}
use Rattle.std.specs.declared.cmp.Ordering.TheVariants.{Less, Equal, Greater}
use Rattle.std.proofs.lemmas.Bool.{and_from, and_parts, or_cases, or_left, or_right}
use Rattle.finite_chains.proofs.Members.{Contains-cases, Contains-head, Contains-nil, Contains-tail}
use Rattle.sql_names.specs.Names.{name_cmp-IsAntisymmetric}
use Rattle.sql_names.specs.declared.object.Object.{Object}
use Rattle.cat_items.specs.declared.item.Right.{Right}
use Rattle.cat_items.specs.declared.item.RoleGrant.{RoleGrant}
use Rattle.cat_items.specs.declared.item.Item.{Item}
use Rattle.cat_items.specs.declared.item.Item.TheVariants as item
use Rattle.cat_items.specs.Supported.{IsHeld, IsRoleAuth}
use Rattle.cat_items.specs.Order.{name_cmp, object_cmp, kind_of, key_cmp, item_cmp}
use Rattle.cat_items.specs.Rights.{path_of}
use Rattle.cat_items.proofs.KeyLemmas.{same_key}
use Rattle.cascade_laws.specs.Topics.{Topic, IsUnder, authorization, role_named, schema, table, base_table, columns, column, domain, routine, key, held, role_auth}
use Rattle.edit_rules.specs.Chosen.{IsRightOrRoleGrant}
use Rattle.edit_rules.proofs.ItemKeys.{one_granted, only_granted}
use Rattle.topic_keys.specs.Homes.{IsHome, IsHomeOf}
use Rattle.topic_keys.proofs.HomeLaws.{homes_are}
use Rattle.edit_suspects.specs.Suspects.{has_same_name, is_alike, is_among}

-- ---- an item of a list passes a test

pub any_from : {X : Type 0} (p : X → Bool) (xs : List X) (x : X) → Contains xs x → p x ≡ true → list_any p xs ≡ true
any_from p [] x h e = absurd (Contains-nil x h)
any_from p (y ∷ xs) x h e = elim (Contains-cases y xs x h) [
  | inl is ↦ or_left (p y) (list_any p xs) (ap p is ∙ e)
  | inr later ↦ or_right (p y) (list_any p xs) (any_from p xs x later e)
]

pub some_of : {X : Type 0} (p : X → Bool) (xs : List X) → list_any p xs ≡ true → (x : X) × Contains xs x × (p x ≡ true)
some_of p [] e = absurd (true≢false (sym e))
some_of p (y ∷ xs) e = elim (or_cases (p y) (list_any p xs) e) [
  | inl here ↦ (y, Contains-head y xs, here)
  | inr later ↦ (let at = some_of p xs later in (at.0, Contains-tail y xs at.0 at.1, at.2))
]

-- ---- one key

both_equal : (a b : Ordering) → ordering_then a b ≡ Equal → (a ≡ Equal) × (b ≡ Equal)
both_equal Less b e = absurd (let odd : Less ≡ Equal = e in cc)
both_equal Equal b e = (refl, e)
both_equal Greater b e = absurd (let odd : Greater ≡ Equal = e in cc)

one_object : (a b : Object) → object_cmp a b ≡ Equal → a ≡ b
one_object a b e =
    let both = both_equal (name_cmp a.schema b.schema) (name_cmp a.name b.name) e in
    let schemas : a.schema ≡ b.schema = name_cmp-IsAntisymmetric a.schema b.schema both.0 in
    let names : a.name ≡ b.name = name_cmp-IsAntisymmetric a.name b.name both.1 in
    λ i. record { schema = schemas i; name = names i }

own_name : (x : Item) → has_same_name x x ≡ true
own_name (item.Column c) = (Equal-is (name_cmp c.name c.name)).1 (same_key (item.User c.name))
own_name _ = refl

pub alike_itself : (x : Item) → is_alike x x ≡ true
alike_itself x = and_from (is_eq (item_cmp x x)) (has_same_name x x) ((Equal-is (item_cmp x x)).1 (same_key x)) (own_name x)

pub one_place : (x y : Item) → is_alike x y ≡ true → item_cmp x y ≡ Equal
one_place x y e = (Equal-is (item_cmp x y)).0 (and_parts (is_eq (item_cmp x y)) (has_same_name x y) e).0

pub same_from : (x y : Item) → IsRightOrRoleGrant x → is_alike x y ≡ true → x ≡ y
same_from x y is e = only_granted x y is (one_place x y e)

pub same_to : (x y : Item) → IsRightOrRoleGrant y → is_alike x y ≡ true → x ≡ y
same_to x y is e = one_granted x y is (one_place x y e)

-- ---- the same topics

at_object : (x y : Object) (f : Object → Topic) (t : Topic) → object_cmp x y ≡ Equal → t ≡ f x → t ≡ f y
at_object x y f t e h = h ∙ ap f (one_object x y e)

at_name : (x y : List ℕ) (f : List ℕ → Topic) (t : Topic) → name_cmp x y ≡ Equal → t ≡ f x → t ≡ f y
at_name x y f t e h = h ∙ ap f (name_cmp-IsAntisymmetric x y e)

home_alike : (x y : Item) (t : Topic) → item_cmp x y ≡ Equal → kind_of x ≡ kind_of y → key_cmp x y ≡ Equal → has_same_name x y ≡ true → IsHomeOf x t → IsHomeOf y t
home_alike (item.User a) (item.User b) t o k e s h = at_name a b authorization t e h
home_alike (item.Role a) (item.Role b) t o k e s (inl h) = inl (at_name a b authorization t e h)
home_alike (item.Role a) (item.Role b) t o k e s (inr h) = inr (at_name a b role_named t e h)
home_alike (item.Schema a) (item.Schema b) t o k e s h = at_name a.name b.name schema t e h
home_alike (item.Table a) (item.Table b) t o k e s (inl h) = inl (at_object a b (λ o. table (path_of o)) t e h)
home_alike (item.Table a) (item.Table b) t o k e s (inr h) = inr (at_object a b base_table t e h)
home_alike (item.View a) (item.View b) t o k e s h = at_object a.view b.view (λ o. table (path_of o)) t e h
home_alike (item.Column a) (item.Column b) t o k e s (inl h) = inl (at_object a.table b.table columns t (both_equal (object_cmp a.table b.table) (nat_cmp a.place b.place) e).0 h)
home_alike (item.Column a) (item.Column b) t o k e s (inr h) =
    let tables = one_object a.table b.table (both_equal (object_cmp a.table b.table) (nat_cmp a.place b.place) e).0 in
    let names = name_cmp-IsAntisymmetric a.name b.name ((Equal-is (name_cmp a.name b.name)).0 s) in
    inr (h ∙ (λ i. column (path_of (tables i)) (names i)))
home_alike (item.Domain a) (item.Domain b) t o k e s h = at_object a.domain b.domain (λ o. domain (path_of o)) t e h
home_alike (item.Key a) (item.Key b) t o k e s h = at_object a.name b.name key t e h
home_alike (item.Routine a) (item.Routine b) t o k e s h = at_object a.routine b.routine (λ o. routine (path_of o)) t e h
home_alike (item.RoleAuth a) y t o k e s h = subst (λ z. IsHomeOf z t) (only_granted (item.RoleAuth a) y tt o) h
home_alike (item.RoleAdmin a) y t o k e s h = subst (λ z. IsHomeOf z t) (only_granted (item.RoleAdmin a) y tt o) h
home_alike (item.Held a) y t o k e s h = subst (λ z. IsHomeOf z t) (only_granted (item.Held a) y tt o) h
home_alike (item.Grantable a) y t o k e s h = subst (λ z. IsHomeOf z t) (only_granted (item.Grantable a) y tt o) h
home_alike (item.DomainCheck a) y t o k e s h = absurd h
home_alike (item.Foreign a) y t o k e s h = absurd h
home_alike (item.Check a) y t o k e s h = absurd h
home_alike (item.Assertion a) y t o k e s h = absurd h
home_alike x y t o k e s h = absurd (omega (arith, k))

held_granted : (r : Right) (x : Item) → IsHeld r x → IsRightOrRoleGrant x
held_granted r (item.Held other) is = tt
held_granted r _ is = absurd is

role_auth_granted : (g : RoleGrant) (x : Item) → IsRoleAuth g x → IsRightOrRoleGrant x
role_auth_granted g (item.RoleAuth other) is = tt
role_auth_granted g _ is = absurd is

at_home : (x y : Item) (t : Topic) → is_alike x y ≡ true → IsHome x t → IsHome y t
at_home x y t e is =
    let place = one_place x y e in
    let both = both_equal (nat_cmp (kind_of x) (kind_of y)) (key_cmp x y) place in
    let kinds : kind_of x ≡ kind_of y = nat_cmp-IsAntisymmetric (kind_of x) (kind_of y) both.0 in
    (homes_are y t).0 (home_alike x y t place kinds both.1 (and_parts (is_eq (item_cmp x y)) (has_same_name x y) e).1 ((homes_are x t).1 is))

pub under_alike : (x y : Item) (t : Topic) → is_alike x y ≡ true → IsUnder t x → IsUnder t y
under_alike x y (held r) e is = subst (IsHeld r) (same_from x y (held_granted r x is) e) is
under_alike x y (role_auth g) e is = subst (IsRoleAuth g) (same_from x y (role_auth_granted g x is) e) is
under_alike x y t e is = (at_home x y t e (is, tt)).0

-- ---- which rights are in a list can be decided

pub right_among : (items : List Item) (x : Item) → IsRightOrRoleGrant x → Decides (is_among x items) (Contains items x)
right_among items x is = (
  λ e. let at = some_of (is_alike x) items e in subst (Contains items) (sym (same_from x at.0 is at.2)) at.1,
  λ h. any_from (is_alike x) items x h (alike_itself x),
)
