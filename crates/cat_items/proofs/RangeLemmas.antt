-- A part of the order is a range of each list in order.
use Rattle.std.proofs.Common.{◌≡◌, ◌≢◌, ◌↔◌, ◌<◌, ◌≤◌, ◌+◌, ℕ, Bool, true, false, List, length, get_or, refl, sym, ◌∙◌, ap, subst, inl, inr, arith, nat_eq, nat_le, cond, eq-eqb, [], Option, Some, None, unwrap_or}
use Rattle.std.specs.List.Sorted.{IsNonDecreasingBy, IsPartitionedBy, IsPartitionPoint}
use Rattle.std.specs.Ordering.{nat_cmp, ordering_index, ordering_then, ordering_reverse, is_lt, is_le}
use Rattle.std.specs.Option.{option_cmp}
use Rattle.std.specs.Cmp.{IsTotalOrder}
use Rattle.std.specs.Cmp.Lexicographic.{slice_cmp, nat_list_cmp_total}
use Rattle.std.specs.FinMap.{IsAntisymmetric, nat_cmp-IsAntisymmetric, slice_cmp-IsAntisymmetric}
use Rattle.std.specs.declared.cmp.Ordering.{Ordering}
use Rattle.std.specs.declared.cmp.Ordering.TheVariants.{Less, Equal, Greater}
use Rattle.std.specs.Cmp.{nat_cmp_is, ranked}
use Rattle.std.proofs.lemmas.Bool.{false≢true, cases_Bool, cases_lt, cases_eq, ne_eqb}
use Rattle.std.proofs.lemmas.List.{get_or_default}
use Rattle.std.proofs.lemmas.Cmp.{tied_itself}
use Rattle.std.proofs.lemmas.List.Sorted.{IsPartitionedBy-leb}
use Rattle.sql_names.specs.Names.{name_cmp-IsAntisymmetric}
use Rattle.sql_tree.specs.declared.rights.Action.{Action}
use Rattle.sql_tree.specs.declared.rights.Action.TheVariants as action
use Rattle.sql_names.specs.contracts.object.ObjectOrd.TheImpl.Laws as object_laws
use Rattle.cat_items.specs.declared.need.Need.{Need}
use Rattle.cat_items.specs.declared.item.Item.{Item}
use Rattle.cat_items.specs.declared.item.Item.TheVariants as item
use Rattle.cat_items.specs.declared.ranges.ObjectKind.{ObjectKind}
use Rattle.cat_items.specs.declared.ranges.ObjectKind.TheVariants as object
use Rattle.cat_items.specs.declared.ranges.Part.{Part}
use Rattle.cat_items.specs.declared.ranges.Part.TheVariants.{Objects, User, Role, Schema, Table, View, Columns, Domain, Key, Routine, RoleAuthorizations, RoleGrants, AdminOptions, Held, HeldOn, Grantable, GrantableOn}
use Rattle.cat_items.specs.Keys.{object_of, path_in, need_of}
use Rattle.cat_items.specs.Order.{name_cmp, object_cmp, need_cmp, target_cmp, action_number, kind_of, key_cmp, item_cmp}
use Rattle.cat_items.specs.Catalogues.{IsInOrder}
use Rattle.cat_items.specs.Ranges.{IsEndOf, IsStartOf, IsRange, IsIn, IsObjectIn, kind_in, number_of, object_place, place_in, schema_in}
use Rattle.cat_items.proofs.OrderLemmas.{need_cmp-total}

-- orders that tell apart what differs

action_number-is : (a b : Action) → action_number a ≡ action_number b → a ≡ b
action_number-is action.Select action.Select e = refl
action_number-is action.Insert action.Insert e = refl
action_number-is action.Update action.Update e = refl
action_number-is action.Delete action.Delete e = refl
action_number-is action.References action.References e = refl
action_number-is action.Usage action.Usage e = refl
action_number-is action.Execute action.Execute e = refl
action_number-is action.Admin action.Admin e = refl
action_number-is a b e = absurd (omega (arith, e))

both_equal : (a b : Ordering) → ordering_then a b ≡ Equal → (a ≡ Equal) × (b ≡ Equal)
both_equal Less b e = absurd (let odd : Less ≡ Equal = e in cc)
both_equal Equal b e = (refl, e)
both_equal Greater b e = absurd (let odd : Greater ≡ Equal = e in cc)

option_cmp-IsAntisymmetric : {K : Type 0} (R : K → K → Ordering) → IsAntisymmetric R → IsAntisymmetric (option_cmp R)
option_cmp-IsAntisymmetric R same None None e = refl
option_cmp-IsAntisymmetric R same None (Some b) e = absurd (let odd : Less ≡ Equal = e in cc)
option_cmp-IsAntisymmetric R same (Some a) None e = absurd (let odd : Greater ≡ Equal = e in cc)
option_cmp-IsAntisymmetric R same (Some a) (Some b) e = ap Some (same a b e)

object_cmp-is : IsAntisymmetric object_cmp
object_cmp-is a b e =
    let both = both_equal (name_cmp a.schema b.schema) (name_cmp a.name b.name) e in
    let schemas : a.schema ≡ b.schema = name_cmp-IsAntisymmetric a.schema b.schema both.0 in
    let names : a.name ≡ b.name = name_cmp-IsAntisymmetric a.name b.name both.1 in
    λ i. record { schema = schemas i; name = names i }

need_cmp-is : IsAntisymmetric need_cmp
need_cmp-is a b e =
    let both = both_equal (nat_cmp (action_number a.action) (action_number b.action)) _ e in
    let rest = both_equal _ _ both.1 in
    let actions : a.action ≡ b.action = action_number-is a.action b.action (nat_cmp-IsAntisymmetric _ _ both.0) in
    let objects : a.on ≡ b.on = slice_cmp-IsAntisymmetric name_cmp-IsAntisymmetric a.on b.on rest.0 in
    let columns : a.column ≡ b.column = option_cmp-IsAntisymmetric name_cmp name_cmp-IsAntisymmetric a.column b.column rest.1 in
    λ i. record { action = actions i; on = objects i; column = columns i }

-- the item is in a part exactly where it is neither before it nor behind it

IsTie : Ordering → Type 0
IsTie Less = ⊥
IsTie Equal = Unit {0}
IsTie Greater = ⊥

tie : (o : Ordering) → o ≡ Equal → IsTie o
unfolding IsTie
tie o e = subst IsTie (sym e) tt

from_tie : (o : Ordering) → IsTie o → o ≡ Equal
unfolding IsTie
from_tie Less h = absurd h
from_tie Equal h = refl
from_tie Greater h = absurd h

same : {K : Type 0} (R : K → K → Ordering) → IsTotalOrder R → IsAntisymmetric R → (a b : K) → IsTie (R a b) ↔ (a ≡ b)
same R total antisymmetric a b =
    (λ h. antisymmetric a b (from_tie (R a b) h), λ e. tie (R a b) (subst (λ z. R a z ≡ Equal) e (tied_itself total a)))

-- objects of a kind in a schema

number_bounds : (kind : ObjectKind) → (4 ≤ number_of kind) × (number_of kind ≤ 13)
number_bounds object.Table = (omega arith, omega arith)
number_bounds object.View = (omega arith, omega arith)
number_bounds object.Column = (omega arith, omega arith)
number_bounds object.Domain = (omega arith, omega arith)
number_bounds object.DomainCheck = (omega arith, omega arith)
number_bounds object.Key = (omega arith, omega arith)
number_bounds object.Foreign = (omega arith, omega arith)
number_bounds object.Check = (omega arith, omega arith)
number_bounds object.Assertion = (omega arith, omega arith)
number_bounds object.Routine = (omega arith, omega arith)

abbrev own_schema : Item → List ℕ
own_schema x = unwrap_or (schema_in x) []

has_schema : (x : Item) → 4 ≤ kind_of x → kind_of x ≤ 13 → schema_in x ≡ Some (own_schema x)
has_schema (item.Table t) low high = refl
has_schema (item.View v) low high = refl
has_schema (item.Column c) low high = refl
has_schema (item.Domain d) low high = refl
has_schema (item.DomainCheck d) low high = refl
has_schema (item.Key k) low high = refl
has_schema (item.Foreign f) low high = refl
has_schema (item.Check x) low high = refl
has_schema (item.Assertion a) low high = refl
has_schema (item.Routine r) low high = refl
has_schema x low high = absurd (omega (arith, low, high))

then_then : (a b c : Ordering) → ordering_then (ordering_then a b) c ≡ ordering_then a (ordering_then b c)
then_then Less b c = refl
then_then Equal b c = refl
then_then Greater b c = refl

-- of two objects of one kind the order is first that of their schemas
schema_first : (x y : Item) → kind_of x ≡ kind_of y → 4 ≤ kind_of x → kind_of x ≤ 13 → (rest : Ordering) × (key_cmp x y ≡ ordering_then (name_cmp (own_schema x) (own_schema y)) rest)
schema_first (item.Table a) (item.Table b) e low high = (name_cmp a.name b.name, refl)
schema_first (item.View a) (item.View b) e low high = (name_cmp a.view.name b.view.name, refl)
schema_first (item.Column a) (item.Column b) e low high = (ordering_then (name_cmp a.table.name b.table.name) (nat_cmp a.place b.place), then_then (name_cmp a.table.schema b.table.schema) (name_cmp a.table.name b.table.name) (nat_cmp a.place b.place))
schema_first (item.Domain a) (item.Domain b) e low high = (name_cmp a.domain.name b.domain.name, refl)
schema_first (item.DomainCheck a) (item.DomainCheck b) e low high = (name_cmp a.name.name b.name.name, refl)
schema_first (item.Key a) (item.Key b) e low high = (name_cmp a.name.name b.name.name, refl)
schema_first (item.Foreign a) (item.Foreign b) e low high = (name_cmp a.name.name b.name.name, refl)
schema_first (item.Check a) (item.Check b) e low high = (name_cmp a.name.name b.name.name, refl)
schema_first (item.Assertion a) (item.Assertion b) e low high = (name_cmp a.name.name b.name.name, refl)
schema_first (item.Routine a) (item.Routine b) e low high = (name_cmp a.routine.name b.routine.name, refl)
schema_first x y e low high = absurd (omega (arith, e, low, high))

here_place : (n : ℕ) (schema : List ℕ) (k : ℕ) (found : Option (List ℕ)) (own : List ℕ) → k ≡ n → found ≡ Some own → object_place n schema k found ≡ name_cmp own schema
here_place n schema k found own e is =
    subst (λ z. object_place n schema k z ≡ name_cmp own schema) (sym is) (ap (λ b. cond b (name_cmp own schema) (nat_cmp k n)) (eq-eqb k n e))

there_place : (n : ℕ) (schema : List ℕ) (k : ℕ) (found : Option (List ℕ)) → k ≢ n → object_place n schema k found ≡ nat_cmp k n
there_place n schema k None other = refl
there_place n schema k (Some own) other = ap (λ b. cond b (name_cmp own schema) (nat_cmp k n)) (ne_eqb k n other)

object_tie : (kind : ObjectKind) (schema : List ℕ) (x : Item) → IsTie (object_place (number_of kind) schema (kind_of x) (schema_in x)) ↔ IsObjectIn kind schema x
object_tie kind schema x = (
  λ h. elim (cases_eq (kind_of x) (number_of kind)) [
    | inl e ↦
        let is : schema_in x ≡ Some (own_schema x) = named e in
        (e, is ∙ ap Some ((same name_cmp nat_list_cmp_total name_cmp-IsAntisymmetric (own_schema x) schema).0 (subst IsTie (here_place (number_of kind) schema (kind_of x) (schema_in x) (own_schema x) e is) h)))
    | inr other ↦ absurd (other (nat_cmp-IsAntisymmetric (kind_of x) (number_of kind) (from_tie (nat_cmp (kind_of x) (number_of kind)) (subst IsTie (there_place (number_of kind) schema (kind_of x) (schema_in x) other) h))))
  ],
  λ h. subst IsTie (sym (here_place (number_of kind) schema (kind_of x) (schema_in x) schema h.0 h.1)) ((same name_cmp nat_list_cmp_total name_cmp-IsAntisymmetric schema schema).1 refl),
)
  where
    named : kind_of x ≡ number_of kind → schema_in x ≡ Some (own_schema x)
    named e = let b = number_bounds kind in has_schema x (omega (arith, e, b.0)) (omega (arith, e, b.1))

-- actions on objects

abbrev target : Action → List (List ℕ) → Need
target action on = record { action = action; on = on; column = None }

then_equal : (a : Ordering) → ordering_then a Equal ≡ a
then_equal Less = refl
then_equal Equal = refl
then_equal Greater = refl

without_column : (n : Need) (action : Action) (on : List (List ℕ)) → need_cmp (target n.action n.on) (target action on) ≡ target_cmp n action on
without_column n action on = ap (λ o. ordering_then (nat_cmp (action_number n.action) (action_number action)) o) (then_equal (slice_cmp name_cmp n.on on))

target_tie : (n : Need) (action : Action) (on : List (List ℕ)) → IsTie (target_cmp n action on) ↔ ((n.action ≡ action) × (n.on ≡ on))
target_tie n action on = (
  λ h.
      let both = both_equal (nat_cmp (action_number n.action) (action_number action)) (slice_cmp name_cmp n.on on) (from_tie (target_cmp n action on) h) in
      (action_number-is n.action action (nat_cmp-IsAntisymmetric _ _ both.0), slice_cmp-IsAntisymmetric name_cmp-IsAntisymmetric n.on on both.1),
  λ h. subst IsTie (without_column n action on) ((same need_cmp need_cmp-total need_cmp-is (target n.action n.on) (target action on)).1 (λ i. target (h.0 i) (h.1 i))),
)

split_column : (a p c rest : Ordering) → ordering_then (ordering_then a (ordering_then p c)) rest ≡ ordering_then (ordering_then a (ordering_then p Equal)) (ordering_then c rest)
split_column Less p c rest = refl
split_column Equal Less c rest = refl
split_column Equal Equal c rest = refl
split_column Equal Greater c rest = refl
split_column Greater p c rest = refl

is_in : (part : Part) (x : Item) → IsTie (place_in part x) ↔ IsIn part x
unfolding IsTie
is_in (Objects kind schema) x = object_tie kind schema.now x
is_in (User name) (item.User n) = same name_cmp nat_list_cmp_total name_cmp-IsAntisymmetric n name.now
is_in (User name) x = (λ h. absurd h, λ h. absurd h)
is_in (Role name) (item.Role n) = same name_cmp nat_list_cmp_total name_cmp-IsAntisymmetric n name.now
is_in (Role name) x = (λ h. absurd h, λ h. absurd h)
is_in (Schema name) (item.Schema s) = same name_cmp nat_list_cmp_total name_cmp-IsAntisymmetric s.name name.now
is_in (Schema name) x = (λ h. absurd h, λ h. absurd h)
is_in (Table key) (item.Table t) = same object_cmp object_laws.total-law object_cmp-is t (object_of key)
is_in (Table key) x = (λ h. absurd h, λ h. absurd h)
is_in (View key) (item.View v) = same object_cmp object_laws.total-law object_cmp-is v.view (object_of key)
is_in (View key) x = (λ h. absurd h, λ h. absurd h)
is_in (Columns key) (item.Column c) = same object_cmp object_laws.total-law object_cmp-is c.table (object_of key)
is_in (Columns key) x = (λ h. absurd h, λ h. absurd h)
is_in (Domain key) (item.Domain d) = same object_cmp object_laws.total-law object_cmp-is d.domain (object_of key)
is_in (Domain key) x = (λ h. absurd h, λ h. absurd h)
is_in (Key key) (item.Key k) = same object_cmp object_laws.total-law object_cmp-is k.name (object_of key)
is_in (Key key) x = (λ h. absurd h, λ h. absurd h)
is_in (Routine key) (item.Routine r) = same object_cmp object_laws.total-law object_cmp-is r.routine (object_of key)
is_in (Routine key) x = (λ h. absurd h, λ h. absurd h)
is_in RoleAuthorizations (item.RoleAuth g) = (λ h. tt, λ h. tt)
is_in RoleAuthorizations x = (λ h. absurd h, λ h. absurd h)
is_in (RoleGrants role) (item.RoleAuth g) = same name_cmp nat_list_cmp_total name_cmp-IsAntisymmetric g.role role.now
is_in (RoleGrants role) x = (λ h. absurd h, λ h. absurd h)
is_in (AdminOptions role) (item.RoleAdmin g) = same name_cmp nat_list_cmp_total name_cmp-IsAntisymmetric g.role role.now
is_in (AdminOptions role) x = (λ h. absurd h, λ h. absurd h)
is_in (Held need) (item.Held r) = same need_cmp need_cmp-total need_cmp-is r.need (need_of need)
is_in (Held need) x = (λ h. absurd h, λ h. absurd h)
is_in (HeldOn action on) (item.Held r) = target_tie r.need action (path_in on)
is_in (HeldOn action on) x = (λ h. absurd h, λ h. absurd h)
is_in (Grantable need) (item.Grantable r) = same need_cmp need_cmp-total need_cmp-is r.need (need_of need)
is_in (Grantable need) x = (λ h. absurd h, λ h. absurd h)
is_in (GrantableOn action on) (item.Grantable r) = target_tie r.need action (path_in on)
is_in (GrantableOn action on) x = (λ h. absurd h, λ h. absurd h)

-- along the order of items a part's places rise

Rises : Ordering → Ordering → Type 0
Rises a b = ordering_index a ≤ ordering_index b

-- what comes before in an order, by a first part, doesn't come behind by that part
first_part : {K : Type 0} (R : K → K → Ordering) → IsTotalOrder R → (a b q : K) (rest : Ordering) → ordering_then (R a b) rest ≡ Less → Rises (R a q) (R b q)
unfolding Rises
first_part R total a b q rest less = by_order (R a b) refl less
  where
    after : (o : Ordering) → R a b ≡ Less → R b q ≡ o → ordering_index (R a q) ≤ ordering_index o
    after Less before e = rw (total.trans a b q before e) (omega arith)
    after Equal before e = rw (tied before e) (omega arith)
      where
        tied : R a b ≡ Less → R b q ≡ Equal → R a q ≡ Less
        tied before e = total.antisymm a q ∙ ap ordering_reverse (sym (total.congr b q a e)) ∙ sym (total.antisymm a b) ∙ before
    after Greater before e = below (R a q)
      where
        below : (o : Ordering) → ordering_index o ≤ 2
        below Less = omega arith
        below Equal = omega arith
        below Greater = omega arith

    by_order : (o : Ordering) → R a b ≡ o → ordering_then o rest ≡ Less → ordering_index (R a q) ≤ ordering_index (R b q)
    by_order Less e h = after (R b q) e refl
    by_order Equal e h = rw (total.congr a b q e) (omega arith)
    by_order Greater e h = absurd (let odd : Greater ≡ Less = h in cc)

-- the same where that part is the whole key
whole_key : {K : Type 0} (R : K → K → Ordering) → IsTotalOrder R → (a b q : K) → R a b ≡ Less → Rises (R a q) (R b q)
whole_key R total a b q less = first_part R total a b q Equal (ap (λ o. ordering_then o Equal) less)

-- what comes before in the order of rights doesn't come behind by its action and path
target_first : (a b : Need) (action : Action) (on : List (List ℕ)) (rest : Ordering) → ordering_then (need_cmp a b) rest ≡ Less → Rises (target_cmp a action on) (target_cmp b action on)
target_first a b action on rest less =
    let parts : ordering_then (need_cmp (target a.action a.on) (target b.action b.on)) (ordering_then (option_cmp name_cmp a.column b.column) rest) ≡ Less =
    sym (split_column (nat_cmp (action_number a.action) (action_number b.action)) (slice_cmp name_cmp a.on b.on) (option_cmp name_cmp a.column b.column) rest) ∙ less in
    rw (sym (without_column a action on), sym (without_column b action on))
    (first_part need_cmp need_cmp-total (target a.action a.on) (target b.action b.on) (target action on) _ parts)

-- items of another kind than the part's go by their kinds
by_kind : (part : Part) (x : Item) → kind_of x ≢ kind_in part → place_in part x ≡ nat_cmp (kind_of x) (kind_in part)
by_kind (Objects kind schema) x other = there_place (number_of kind) schema.now (kind_of x) (schema_in x) other
by_kind (User name) (item.User n) other = absurd (other refl)
by_kind (User name) x other = refl
by_kind (Role name) (item.Role n) other = absurd (other refl)
by_kind (Role name) x other = refl
by_kind (Schema name) (item.Schema s) other = absurd (other refl)
by_kind (Schema name) x other = refl
by_kind (Table key) (item.Table t) other = absurd (other refl)
by_kind (Table key) x other = refl
by_kind (View key) (item.View v) other = absurd (other refl)
by_kind (View key) x other = refl
by_kind (Columns key) (item.Column c) other = absurd (other refl)
by_kind (Columns key) x other = refl
by_kind (Domain key) (item.Domain d) other = absurd (other refl)
by_kind (Domain key) x other = refl
by_kind (Key key) (item.Key k) other = absurd (other refl)
by_kind (Key key) x other = refl
by_kind (Routine key) (item.Routine r) other = absurd (other refl)
by_kind (Routine key) x other = refl
by_kind RoleAuthorizations x other = refl
by_kind (RoleGrants role) (item.RoleAuth g) other = absurd (other refl)
by_kind (RoleGrants role) x other = refl
by_kind (AdminOptions role) (item.RoleAdmin g) other = absurd (other refl)
by_kind (AdminOptions role) x other = refl
by_kind (Held need) (item.Held r) other = absurd (other refl)
by_kind (Held need) x other = refl
by_kind (HeldOn action on) (item.Held r) other = absurd (other refl)
by_kind (HeldOn action on) x other = refl
by_kind (Grantable need) (item.Grantable r) other = absurd (other refl)
by_kind (Grantable need) x other = refl
by_kind (GrantableOn action on) (item.Grantable r) other = absurd (other refl)
by_kind (GrantableOn action on) x other = refl

unlike : {A : Type 0} (m n : ℕ) → nat_eq m n ≡ false → nat_eq n n ≡ true → m ≡ n → A
unlike m n off on e = absurd (false≢true (sym off ∙ ap (λ k. nat_eq k n) e ∙ on))

-- items of the part's kind
within_kind : (part : Part) (x y : Item) → kind_of x ≡ kind_in part → kind_of y ≡ kind_in part → key_cmp x y ≡ Less → Rises (place_in part x) (place_in part y)
unfolding Rises
within_kind (Objects kind schema) x y ex ey less =
    let n : ℕ = number_of kind in
    let b = number_bounds kind in
    let first = schema_first x y (ex ∙ sym ey) (omega (arith, ex, b.0)) (omega (arith, ex, b.1)) in
    let at_x = here_place n schema.now (kind_of x) (schema_in x) (own_schema x) ex (has_schema x (omega (arith, ex, b.0)) (omega (arith, ex, b.1))) in
    let at_y = here_place n schema.now (kind_of y) (schema_in y) (own_schema y) ey (has_schema y (omega (arith, ey, b.0)) (omega (arith, ey, b.1))) in
    rw (at_x, at_y) (first_part name_cmp nat_list_cmp_total (own_schema x) (own_schema y) schema.now first.0 (sym first.1 ∙ less))
within_kind (User name) (item.User n) (item.User n') ex ey less = whole_key name_cmp nat_list_cmp_total n n' name.now less
within_kind (User name) (item.User n) y ex ey less = unlike _ 1 refl refl ey
within_kind (User name) x y ex ey less = unlike _ 1 refl refl ex
within_kind (Role name) (item.Role n) (item.Role n') ex ey less = whole_key name_cmp nat_list_cmp_total n n' name.now less
within_kind (Role name) (item.Role n) y ex ey less = unlike _ 2 refl refl ey
within_kind (Role name) x y ex ey less = unlike _ 2 refl refl ex
within_kind (Schema name) (item.Schema s) (item.Schema s') ex ey less = whole_key name_cmp nat_list_cmp_total s.name s'.name name.now less
within_kind (Schema name) (item.Schema s) y ex ey less = unlike _ 3 refl refl ey
within_kind (Schema name) x y ex ey less = unlike _ 3 refl refl ex
within_kind (Table key) (item.Table t) (item.Table t') ex ey less = whole_key object_cmp object_laws.total-law t t' (object_of key) less
within_kind (Table key) (item.Table t) y ex ey less = unlike _ 4 refl refl ey
within_kind (Table key) x y ex ey less = unlike _ 4 refl refl ex
within_kind (View key) (item.View v) (item.View v') ex ey less = whole_key object_cmp object_laws.total-law v.view v'.view (object_of key) less
within_kind (View key) (item.View v) y ex ey less = unlike _ 5 refl refl ey
within_kind (View key) x y ex ey less = unlike _ 5 refl refl ex
within_kind (Columns key) (item.Column c) (item.Column c') ex ey less = first_part object_cmp object_laws.total-law c.table c'.table (object_of key) _ less
within_kind (Columns key) (item.Column c) y ex ey less = unlike _ 6 refl refl ey
within_kind (Columns key) x y ex ey less = unlike _ 6 refl refl ex
within_kind (Domain key) (item.Domain d) (item.Domain d') ex ey less = whole_key object_cmp object_laws.total-law d.domain d'.domain (object_of key) less
within_kind (Domain key) (item.Domain d) y ex ey less = unlike _ 7 refl refl ey
within_kind (Domain key) x y ex ey less = unlike _ 7 refl refl ex
within_kind (Key key) (item.Key k) (item.Key k') ex ey less = whole_key object_cmp object_laws.total-law k.name k'.name (object_of key) less
within_kind (Key key) (item.Key k) y ex ey less = unlike _ 9 refl refl ey
within_kind (Key key) x y ex ey less = unlike _ 9 refl refl ex
within_kind (Routine key) (item.Routine r) (item.Routine r') ex ey less = whole_key object_cmp object_laws.total-law r.routine r'.routine (object_of key) less
within_kind (Routine key) (item.Routine r) y ex ey less = unlike _ 13 refl refl ey
within_kind (Routine key) x y ex ey less = unlike _ 13 refl refl ex
within_kind RoleAuthorizations x y ex ey less = rw (ex, ey) (omega arith)
within_kind (RoleGrants role) (item.RoleAuth g) (item.RoleAuth h) ex ey less = first_part name_cmp nat_list_cmp_total g.role h.role role.now _ less
within_kind (RoleGrants role) (item.RoleAuth g) y ex ey less = unlike _ 14 refl refl ey
within_kind (RoleGrants role) x y ex ey less = unlike _ 14 refl refl ex
within_kind (AdminOptions role) (item.RoleAdmin g) (item.RoleAdmin h) ex ey less = first_part name_cmp nat_list_cmp_total g.role h.role role.now _ less
within_kind (AdminOptions role) (item.RoleAdmin g) y ex ey less = unlike _ 15 refl refl ey
within_kind (AdminOptions role) x y ex ey less = unlike _ 15 refl refl ex
within_kind (Held need) (item.Held g) (item.Held h) ex ey less = first_part need_cmp need_cmp-total g.need h.need (need_of need) _ less
within_kind (Held need) (item.Held g) y ex ey less = unlike _ 16 refl refl ey
within_kind (Held need) x y ex ey less = unlike _ 16 refl refl ex
within_kind (HeldOn action on) (item.Held g) (item.Held h) ex ey less = target_first g.need h.need action (path_in on) _ less
within_kind (HeldOn action on) (item.Held g) y ex ey less = unlike _ 16 refl refl ey
within_kind (HeldOn action on) x y ex ey less = unlike _ 16 refl refl ex
within_kind (Grantable need) (item.Grantable g) (item.Grantable h) ex ey less = first_part need_cmp need_cmp-total g.need h.need (need_of need) _ less
within_kind (Grantable need) (item.Grantable g) y ex ey less = unlike _ 17 refl refl ey
within_kind (Grantable need) x y ex ey less = unlike _ 17 refl refl ex
within_kind (GrantableOn action on) (item.Grantable g) (item.Grantable h) ex ey less = target_first g.need h.need action (path_in on) _ less
within_kind (GrantableOn action on) (item.Grantable g) y ex ey less = unlike _ 17 refl refl ey
within_kind (GrantableOn action on) x y ex ey less = unlike _ 17 refl refl ex

below_two : (o : Ordering) → ordering_index o ≤ 2
below_two Less = omega arith
below_two Equal = omega arith
below_two Greater = omega arith

-- an item that comes later isn't before in the part
place_rises : (part : Part) (x y : Item) → item_cmp x y ≡ Less → Rises (place_in part x) (place_in part y)
unfolding Rises
place_rises part x y less = by_kinds (nat_cmp (kind_of x) (kind_of y)) refl less
  where
    n : ℕ
    n = kind_in part

    later : kind_of x < kind_of y → ordering_index (place_in part x) ≤ ordering_index (place_in part y)
    later up =
        elim (cases_lt (kind_of x) n) [
          | inl before ↦ rw (by_kind part x (λ e. omega (arith, e, before)), sym (nat_cmp_is (kind_of x) n Less before)) (omega arith)
          | inr from ↦ rw (by_kind part y (λ e. omega (arith, e, from, up)), sym (nat_cmp_is (kind_of y) n Greater (omega (arith, from, up)))) (below_two (place_in part x))
        ]

    equal : kind_of x ≡ kind_of y → key_cmp x y ≡ Less → ordering_index (place_in part x) ≤ ordering_index (place_in part y)
    equal e keys =
        elim (cases_eq (kind_of x) n) [
          | inl here ↦ within_kind part x y here (sym e ∙ here) keys
          | inr other ↦ rw (by_kind part x other, by_kind part y (λ f. other (e ∙ f)), e) (omega arith)
        ]

    by_kinds : (o : Ordering) → nat_cmp (kind_of x) (kind_of y) ≡ o → ordering_then o (key_cmp x y) ≡ Less → ordering_index (place_in part x) ≤ ordering_index (place_in part y)
    by_kinds Less e h = later (ranked (kind_of x) (kind_of y) Less (sym e))
    by_kinds Equal e h = equal (nat_cmp-IsAntisymmetric (kind_of x) (kind_of y) e) h
    by_kinds Greater e h = absurd (let odd : Greater ≡ Less = h in cc)

-- so they do along a list in order
places_rise : (items : List Item) → IsInOrder items → (part : Part) → IsNonDecreasingBy (λ x. ordering_index (place_in part x)) items
unfolding Rises
places_rise items order part i j d low high =
    elim (cases_lt i j) [
      | inl before ↦ place_rises part (get_or items i d) (get_or items j d) (order i j d before high)
      | inr same_place ↦ let e : i ≡ j = omega arith in rw e (omega arith)
    ]

is_lt-index : (o : Ordering) → is_lt o ≡ nat_le (ordering_index o) 0
is_lt-index Less = refl
is_lt-index Equal = refl
is_lt-index Greater = refl

is_le-index : (o : Ordering) → is_le o ≡ nat_le (ordering_index o) 1
is_le-index Less = refl
is_le-index Equal = refl
is_le-index Greater = refl

-- a test that what rises passes up to a bound parts a list in two
parted : (n : Item → ℕ) (p : Item → Bool) (t : ℕ) → ((x : Item) → p x ≡ nat_le (n x) t) → (items : List Item) → IsNonDecreasingBy n items → IsPartitionedBy p items
parted n p t is items rises i j d low high h = is (get_or items i d) ∙ IsPartitionedBy-leb n items t rises i j d low high (sym (is (get_or items j d)) ∙ h)

pub starts_parted : (items : List Item) → IsInOrder items → (part : Part) → IsPartitionedBy (λ x. is_lt (place_in part x)) items
starts_parted items order part = parted (λ x. ordering_index (place_in part x)) (λ x. is_lt (place_in part x)) 0 (λ x. is_lt-index (place_in part x)) items (places_rise items order part)

pub ends_parted : (items : List Item) → IsInOrder items → (part : Part) → IsPartitionedBy (λ x. is_le (place_in part x)) items
ends_parted items order part = parted (λ x. ordering_index (place_in part x)) (λ x. is_le (place_in part x)) 1 (λ x. is_le-index (place_in part x)) items (places_rise items order part)

tie_between : (o : Ordering) → is_lt o ≡ false → is_le o ≡ true → IsTie o
unfolding IsTie
tie_between Less p q = absurd (false≢true (sym p))
tie_between Equal p q = tt
tie_between Greater p q = absurd (false≢true q)

not_before : (o : Ordering) → IsTie o → is_lt o ≡ true → ⊥
unfolding IsTie
not_before Less h e = h
not_before Equal h e = false≢true e
not_before Greater h e = h

not_behind : (o : Ordering) → IsTie o → is_le o ≡ false → ⊥
unfolding IsTie
not_behind Less h e = h
not_behind Equal h e = false≢true (sym e)
not_behind Greater h e = h

-- what is between the two parts of both tests is the range
pub range_between : (items : List Item) (part : Part) (from to : ℕ) → from ≤ length items → to ≤ length items
    → IsPartitionPoint (λ x. is_lt (place_in part x) ≡ true) (λ x. is_lt (place_in part x) ≡ false) items from
    → IsPartitionPoint (λ x. is_le (place_in part x) ≡ true) (λ x. is_le (place_in part x) ≡ false) items to
    → IsRange items from to (IsIn part)
range_between items part from to from_within to_within starts ends = record {
  ordered = elim (cases_lt to from) [
    | inl less ↦
        let d : Item = item.User [] in
        let at : Ordering = place_in part (get_or items to d) in
        absurd (crossed at (starts.0 to d (omega arith) less) (ends.1 to d (omega arith) (omega (arith, less, from_within))))
    | inr more ↦ more
  ];
  within = to_within;
  inside = λ k d low high. (is_in part (get_or items k d)).0 (tie_between (place_in part (get_or items k d)) (starts.1 k d low (omega (arith, high, to_within))) (ends.0 k d (omega arith) high));
  outside = λ k d within here.
      let tied : IsTie (place_in part (get_or items k d)) = (is_in part (get_or items k d)).1 here in (
        elim (cases_lt k from) [
          | inl before ↦ absurd (not_before (place_in part (get_or items k d)) tied (starts.0 k d (omega arith) before))
          | inr h ↦ h
        ],
        elim (cases_lt k to) [
          | inl h ↦ h
          | inr behind ↦ absurd (not_behind (place_in part (get_or items k d)) tied (ends.1 k d behind within))
        ],
      );
}
  where
    crossed : (o : Ordering) → is_lt o ≡ true → is_le o ≡ false → ⊥
    crossed Less p q = false≢true (sym q)
    crossed Equal p q = false≢true p
    crossed Greater p q = false≢true p

-- where a part ends that is gone over from its start

-- each from the start to before a place is in the part, or before it
abbrev pub AreWithin : Part → List Item → ℕ → ℕ → Type 0
AreWithin part items start at = (k : ℕ) (d : Item) → start ≤ k → k < at → is_le (place_in part (get_or items k d)) ≡ true

lt_le : (o : Ordering) → is_lt o ≡ true → is_le o ≡ true
lt_le Less e = refl
lt_le Equal e = absurd (false≢true e)
lt_le Greater e = absurd (false≢true e)

pub within_more : (part : Part) (items : List Item) (start at : ℕ) (x : Item) → AreWithin part items start at → at < length items → x ≡ get_or items at x → is_le (place_in part x) ≡ true → AreWithin part items start (at + 1)
within_more part items start at x before low is here k d from below = elim (cases_lt k at) [
  | inl earlier ↦ before k d from earlier
  | inr now ↦
      let e : at ≡ k = omega (arith, now, below) in
      subst (λ n. is_le (place_in part (get_or items n d)) ≡ true) e (subst (λ (y : Item). is_le (place_in part y) ≡ true) (is ∙ get_or_default items at x d low) here)
]

all_within : (part : Part) (items : List Item) (start at : ℕ) → IsStartOf part items start → AreWithin part items start at → (k : ℕ) (d : Item) → k < at → is_le (place_in part (get_or items k d)) ≡ true
all_within part items start at starts within k d below = elim (cases_lt k start) [
  | inl before ↦ lt_le (place_in part (get_or items k d)) (starts.0 k d (omega arith) before)
  | inr from ↦ within k d from below
]

pub ends_at_all : (part : Part) (items : List Item) (start at : ℕ) → IsStartOf part items start → AreWithin part items start at → length items ≤ at → IsEndOf part items at
ends_at_all part items start at starts within all = (λ k d _ below. all_within part items start at starts within k d below, λ k d above low. absurd (omega (arith, above, low, all)))

pub ends_here : (part : Part) (items : List Item) (start at : ℕ) (x : Item) → IsInOrder items → IsStartOf part items start → AreWithin part items start at → at < length items → x ≡ get_or items at x → is_le (place_in part x) ≡ false → IsEndOf part items at
ends_here part items start at x order starts within low is behind = (λ k d _ below. all_within part items start at starts within k d below, later)
  where
    later : (k : ℕ) (d : Item) → at ≤ k → k < length items → is_le (place_in part (get_or items k d)) ≡ false
    later k d above high = elim (cases_Bool (is_le (place_in part (get_or items k d)))) [
      | inl holds ↦
          let here : is_le (place_in part (get_or items at d)) ≡ true = ends_parted items order part at k d above high holds in
          let x_is : x ≡ get_or items at d = is ∙ get_or_default items at x d low in
          absurd (false≢true (sym behind ∙ subst (λ (y : Item). is_le (place_in part y) ≡ true) (sym x_is) here))
      | inr fails ↦ fails
    ]
