-- Lists that are computed of items: the topics under which they stand, the needs on them, and the names that are reached by them.
use Rattle.std.proofs.Common.{◌≡◌, inl, inr, Bool, true, false, ℕ, ◌+◌, ◌≤◌, List, [], ◌∷◌, length, Option, Some, None, ap, sym, refl, subst, ◌∙◌, arith}
use Rattle.std.specs.Prelude.{◌*◌, cond}
use Rattle.std.specs.List.{Contains, count_by, flat_map}
use Rattle.std.proofs.lemmas.List.{length-append}
use Rattle.std.proofs.lemmas.List.Sums.{sum_by-cons}
use Rattle.finite_chains.proofs.Members.{Contains-nil, Contains-cases}
use Rattle.sql_tree.specs.declared.rights.Action.{Action}
use Rattle.sql_tree.specs.declared.rights.Action.TheVariants as action
use Rattle.cat_items.specs.declared.need.Auth.{Auth}
use Rattle.cat_items.specs.declared.need.Need.{Need}
use Rattle.cat_items.specs.declared.item.Item.{Item}
use Rattle.cat_items.specs.declared.item.Item.TheVariants as item
use Rattle.cat_items.specs.Reach.{Has}
use Rattle.cat_items.specs.Rights.{path_of, IsAuthorization, IsTable, IsObject, IsColumn, HasColumn, Stands}
use Rattle.cat_items.specs.Relevant.{IsPartOfNeed}
use Rattle.cascade_laws.specs.Topics.{Topic, IsUnder, IsSupply}
use Rattle.cascade_laws.specs.Topics as on
use Rattle.look_up_bound.specs.PossibleRights.{leads_on}
use Rattle.plain_needs.proofs.FlatMembers.{Contains-flat_map}
use Rattle.look_up_bound.proofs.Counting.{at_head, at_second}
use Rattle.look_up_bound.proofs.AskedRelevant.{column_of_need}

-- ---- the topics under which an item stands

abbrev pub home_topics : Item → List Topic
home_topics (item.User n) = on.authorization n ∷ []
home_topics (item.Role n) = on.authorization n ∷ on.role_named n ∷ []
home_topics (item.Schema z) = on.schema z.name ∷ []
home_topics (item.Table o) = on.table (path_of o) ∷ on.base_table o ∷ []
home_topics (item.View v) = on.table (path_of v.view) ∷ []
home_topics (item.Column k) = on.columns k.table ∷ on.column (path_of k.table) k.name ∷ []
home_topics (item.Domain d) = on.domain (path_of d.domain) ∷ []
home_topics (item.Routine r) = on.routine (path_of r.routine) ∷ []
home_topics (item.Key k) = on.key k.name ∷ []
home_topics (item.RoleAuth g) = on.edges g.grantee ∷ on.role_auth g ∷ []
home_topics (item.RoleAdmin g) = on.admins g.role g.grantee ∷ []
home_topics (item.Held r) = on.supply r.need r.grantee ∷ on.held r ∷ []
home_topics (item.Grantable r) = on.supply r.need r.grantee ∷ []
home_topics x = []

pub at_most_two : (y : Item) → length (home_topics y) ≤ 2
at_most_two (item.User n) = omega arith
at_most_two (item.Role n) = omega arith
at_most_two (item.Schema z) = omega arith
at_most_two (item.Table o) = omega arith
at_most_two (item.View v) = omega arith
at_most_two (item.Column k) = omega arith
at_most_two (item.Domain d) = omega arith
at_most_two (item.Routine r) = omega arith
at_most_two (item.Key k) = omega arith
at_most_two (item.RoleAuth g) = omega arith
at_most_two (item.RoleAdmin g) = omega arith
at_most_two (item.Held r) = omega arith
at_most_two (item.Grantable r) = omega arith
at_most_two _ = omega arith

under_authorization : (name : List ℕ) (y : Item) → IsAuthorization name y → Contains (home_topics y) (on.authorization name)
under_authorization name (item.User n) is = at_head (on.authorization n) (on.authorization name) [] (ap on.authorization is)
under_authorization name (item.Role n) is = at_head (on.authorization n) (on.authorization name) (on.role_named n ∷ []) (ap on.authorization is)
under_authorization name _ is = absurd is

under_table : (path : List (List ℕ)) (y : Item) → IsTable path y → Contains (home_topics y) (on.table path)
under_table path (item.Table o) is = at_head (on.table (path_of o)) (on.table path) (on.base_table o ∷ []) (ap on.table (sym is))
under_table path (item.View v) is = at_head (on.table (path_of v.view)) (on.table path) [] (ap on.table (sym is))
under_table path _ is = absurd is

under_supply : (need : Need) (g : Auth) (y : Item) → IsSupply need g y → Contains (home_topics y) (on.supply need g)
under_supply need g (item.Held r) is =
    let e : on.supply r.need r.grantee ≡ on.supply need g = cc (is.0, is.1) in
    at_head (on.supply r.need r.grantee) (on.supply need g) (on.held r ∷ []) e
under_supply need g (item.Grantable r) is =
    let e : on.supply r.need r.grantee ≡ on.supply need g = cc (is.0, is.1) in
    at_head (on.supply r.need r.grantee) (on.supply need g) [] e
under_supply need g _ is = absurd is

pub under_home : (t : Topic) (y : Item) → IsUnder t y → Contains (home_topics y) t
under_home (on.authorization name) y is = under_authorization name y is
under_home (on.role_named name) (item.Role n) is = at_second (on.authorization n) (on.role_named n) (on.role_named name) [] (ap on.role_named is)
under_home (on.role_named name) _ is = absurd is
under_home (on.schema name) (item.Schema z) is = at_head (on.schema z.name) (on.schema name) [] (ap on.schema is)
under_home (on.schema name) _ is = absurd is
under_home (on.table path) y is = under_table path y is
under_home (on.base_table o) (item.Table p) is = at_second (on.table (path_of p)) (on.base_table p) (on.base_table o) [] (ap on.base_table is)
under_home (on.base_table o) _ is = absurd is
under_home (on.columns o) (item.Column k) is = at_head (on.columns k.table) (on.columns o) (on.column (path_of k.table) k.name ∷ []) (ap on.columns is)
under_home (on.columns o) _ is = absurd is
under_home (on.column path name) (item.Column k) is =
    let e : on.column (path_of k.table) k.name ≡ on.column path name = cc (is.0, is.1) in
    at_second (on.columns k.table) (on.column (path_of k.table) k.name) (on.column path name) [] e
under_home (on.column path name) _ is = absurd is
under_home (on.domain path) (item.Domain d) is = at_head (on.domain (path_of d.domain)) (on.domain path) [] (ap on.domain (sym is))
under_home (on.domain path) _ is = absurd is
under_home (on.routine path) (item.Routine r) is = at_head (on.routine (path_of r.routine)) (on.routine path) [] (ap on.routine (sym is))
under_home (on.routine path) _ is = absurd is
under_home (on.key o) (item.Key k) is = at_head (on.key k.name) (on.key o) [] (ap on.key is)
under_home (on.key o) _ is = absurd is
under_home (on.supply need g) y is = under_supply need g y is
under_home (on.edges name) (item.RoleAuth g) is = at_head (on.edges g.grantee) (on.edges name) (on.role_auth g ∷ []) (ap on.edges is)
under_home (on.edges name) _ is = absurd is
under_home (on.admins role name) (item.RoleAdmin g) is =
    let e : on.admins g.role g.grantee ≡ on.admins role name = cc (is.0, is.1) in
    at_head (on.admins g.role g.grantee) (on.admins role name) [] e
under_home (on.admins role name) _ is = absurd is
under_home (on.held r) (item.Held s) is = at_second (on.supply s.need s.grantee) (on.held s) (on.held r) [] (ap on.held is)
under_home (on.held r) _ is = absurd is
under_home (on.role_auth g) (item.RoleAuth h) is = at_second (on.edges h.grantee) (on.role_auth h) (on.role_auth g) [] (ap on.role_auth is)
under_home (on.role_auth g) _ is = absurd is

-- ---- the needs on an object or a column

abbrev pub need_of : Action → List (List ℕ) → Option (List ℕ) → Need
need_of by path column = record { action = by; on = path; column = column }

abbrev pub needs_at : List (List ℕ) → Option (List ℕ) → List Need
needs_at path column = need_of action.Select path column ∷ need_of action.Insert path column ∷ need_of action.Update path column ∷ need_of action.Delete path column
    ∷ need_of action.References path column ∷ need_of action.Usage path column ∷ need_of action.Execute path column ∷ []

abbrev pub needs_on : Item → List Need
needs_on (item.Table o) = needs_at (path_of o) None
needs_on (item.View v) = needs_at (path_of v.view) None
needs_on (item.Column k) = needs_at (path_of k.table) (Some k.name)
needs_on (item.Domain d) = needs_at (path_of d.domain) None
needs_on (item.Routine r) = needs_at (path_of r.routine) None
needs_on x = []

abbrev IsOnObject : Action → Type 0
IsOnObject action.Admin = ⊥
IsOnObject by = Unit {0}

has_object : (by : Action) (path : List (List ℕ)) (y : Item) → IsObject by path y → IsOnObject by
has_object action.Admin path y is = absurd is
has_object _ path y is = tt

at_needs : (by : Action) (path : List (List ℕ)) (column : Option (List ℕ)) → IsOnObject by → Contains (needs_at path column) (need_of by path column)
at_needs action.Select path column has = (0, omega arith, refl)
at_needs action.Insert path column has = (1, omega arith, refl)
at_needs action.Update path column has = (2, omega arith, refl)
at_needs action.Delete path column has = (3, omega arith, refl)
at_needs action.References path column has = (4, omega arith, refl)
at_needs action.Usage path column has = (5, omega arith, refl)
at_needs action.Execute path column has = (6, omega arith, refl)
at_needs action.Admin path column has = absurd has

on_path : (by : Action) (path other : List (List ℕ)) → IsOnObject by → path ≡ other → Contains (needs_at other None) (need_of by path None)
on_path by path other has e = subst (λ p. Contains (needs_at p None) (need_of by path None)) e (at_needs by path None has)

on_table : (by : Action) (path : List (List ℕ)) (y : Item) → IsOnObject by → IsTable path y → Contains (needs_on y) (need_of by path None)
on_table by path (item.Table o) has e = on_path by path (path_of o) has e
on_table by path (item.View v) has e = on_path by path (path_of v.view) has e
on_table by path _ has e = absurd e

on_object : (by : Action) (path : List (List ℕ)) (y : Item) → IsObject by path y → Contains (needs_on y) (need_of by path None)
on_object action.Usage path (item.Domain d) e = on_path action.Usage path (path_of d.domain) tt e
on_object action.Usage path _ e = absurd e
on_object action.Execute path (item.Routine r) e = on_path action.Execute path (path_of r.routine) tt e
on_object action.Execute path _ e = absurd e
on_object action.Admin path y e = absurd e
on_object action.Select path y e = on_table action.Select path y tt e
on_object action.Insert path y e = on_table action.Insert path y tt e
on_object action.Update path y e = on_table action.Update path y tt e
on_object action.Delete path y e = on_table action.Delete path y tt e
on_object action.References path y e = on_table action.References path y tt e

on_column : (by : Action) (path : List (List ℕ)) (name : List ℕ) (y : Item) → IsOnObject by → IsColumn path name y → Contains (needs_on y) (need_of by path (Some name))
on_column by path name (item.Column k) has is =
    let here : Contains (needs_at (path_of k.table) (Some name)) (need_of by path (Some name)) = subst (λ p. Contains (needs_at p (Some name)) (need_of by path (Some name))) is.0 (at_needs by path (Some name) has) in
    subst (λ n. Contains (needs_at (path_of k.table) (Some n)) (need_of by path (Some name))) (sym is.1) here
on_column by path name _ has is = absurd is

module _ (u xs : List Item) (need : Need) (there : (y : Item) → Contains u y → IsPartOfNeed need y → Contains xs y) where
  by_column : (column : Option (List ℕ)) → need.column ≡ column → Has u (IsObject need.action need.on) → HasColumn u need.on column → Contains (flat_map needs_on xs) (need_of need.action need.on column)
  by_column None e object h = Contains-flat_map needs_on xs object.0 (need_of need.action need.on None) (there object.0 object.1 (inl object.2)) (on_object need.action need.on object.0 object.2)
  by_column (Some name) e object h =
      Contains-flat_map needs_on xs h.0 (need_of need.action need.on (Some name)) (there h.0 h.1 (inr (column_of_need need name h.0 e h.2)))
      (on_column need.action need.on name h.0 (has_object need.action need.on object.0 object.2) h.2)

  -- a need whose object and column stand is among the needs on what is there
  pub need_listed : Stands u need → Contains (flat_map needs_on xs) need
  need_listed h = by_column need.column refl h.0 h.1

-- ---- names that are reached

-- the owner of a schema, and the role that a role authorization grants
abbrev pub reached_name : Item → List (List ℕ)
reached_name (item.Schema z) = z.owner ∷ []
reached_name (item.RoleAuth g) = g.role ∷ []
reached_name x = []

-- ---- how many there are of each

-- a table, a view, a column, a domain or a routine
abbrev pub is_part : Item → Bool
is_part (item.Table o) = true
is_part (item.View v) = true
is_part (item.Column k) = true
is_part (item.Domain d) = true
is_part (item.Routine r) = true
is_part x = false

abbrev pub is_authorization : Item → Bool
is_authorization (item.User n) = true
is_authorization (item.Role n) = true
is_authorization x = false

abbrev pub is_held : Item → Bool
is_held (item.Held r) = true
is_held x = false

abbrev pub one_if : Bool → ℕ
one_if b = cond b 1 0

pub count-cons : (p : Item → Bool) (y : Item) (xs : List Item) → count_by p (y ∷ xs) ≡ one_if (p y) + count_by p xs
count-cons p y xs = sum_by-cons (λ x. one_if (p x)) y xs

needs_of_one : (y : Item) → length (needs_on y) ≡ 7 * one_if (is_part y)
needs_of_one (item.Table o) = refl
needs_of_one (item.View v) = refl
needs_of_one (item.Column k) = refl
needs_of_one (item.Domain d) = refl
needs_of_one (item.Routine r) = refl
needs_of_one _ = refl

names_of_one : (y : Item) → length (reached_name y) ≡ one_if (leads_on y)
names_of_one (item.Schema z) = refl
names_of_one (item.RoleAuth g) = refl
names_of_one _ = refl

-- the four are apart
apart : (y : Item) → one_if (is_part y) + one_if (leads_on y) + one_if (is_authorization y) + one_if (is_held y) ≤ 1
apart (item.Table o) = omega arith
apart (item.View v) = omega arith
apart (item.Column k) = omega arith
apart (item.Domain d) = omega arith
apart (item.Routine r) = omega arith
apart (item.Schema z) = omega arith
apart (item.RoleAuth g) = omega arith
apart (item.User n) = omega arith
apart (item.Role n) = omega arith
apart (item.Held r) = omega arith
apart _ = omega arith

pub length-needs_on : (xs : List Item) → length (flat_map needs_on xs) ≡ 7 * count_by is_part xs
length-needs_on [] = refl
length-needs_on (y ∷ xs) = omega (arith, length-append (needs_on y) (flat_map needs_on xs), needs_of_one y, length-needs_on xs, count-cons is_part y xs)

pub length-reached_name : (xs : List Item) → length (flat_map reached_name xs) ≡ count_by leads_on xs
length-reached_name [] = refl
length-reached_name (y ∷ xs) = omega (arith, length-append (reached_name y) (flat_map reached_name xs), names_of_one y, length-reached_name xs, count-cons leads_on y xs)

pub all_apart : (xs : List Item) → count_by is_part xs + count_by leads_on xs + count_by is_authorization xs + count_by is_held xs ≤ length xs
all_apart [] = omega arith
all_apart (y ∷ xs) = omega (arith, all_apart xs, apart y, count-cons is_part y xs, count-cons leads_on y xs, count-cons is_authorization y xs, count-cons is_held y xs)

pub at_least_one : (p : Item → Bool) (xs : List Item) (y : Item) → Contains xs y → p y ≡ true → 1 ≤ count_by p xs
at_least_one p [] y h e = absurd (Contains-nil y h)
at_least_one p (z ∷ xs) y h e =
    elim (Contains-cases z xs y h) [
      | inl same ↦ let one : one_if (p z) ≡ 1 = ap one_if (ap p same ∙ e) in omega (arith, one, count-cons p z xs)
      | inr later ↦ omega (arith, at_least_one p xs y later e, count-cons p z xs)
    ]
