-- The rights that the system could grant for a list in order can be listed with it.
use Rattle.std.proofs.Common.{◌≡◌, ◌⊎◌, ◌↔◌, inl, inr, ℕ, Bool, List, [], ◌∷◌, map, Option, Some, None, sym, ap, subst, refl, arith}
use Rattle.std.specs.List.{Contains, filter, flat_map}
use Rattle.std.proofs.lemmas.List.Elements.{Contains-append_left, Contains-append_right}
use Rattle.finite_chains.proofs.Members.{Contains-cases, Contains-filter, Contains-head, Contains-nil, Contains-tail, filter_passes_one}
use Rattle.sql_tree.specs.declared.rights.Action.{Action}
use Rattle.sql_tree.specs.declared.rights.Action.TheVariants as action
use Rattle.cat_items.specs.declared.edit.Edit.{Edit}
use Rattle.cat_items.specs.declared.need.Auth.{Auth}
use Rattle.cat_items.specs.declared.need.Auth.TheVariants.{System, Public, Named}
use Rattle.cat_items.specs.declared.need.Need.{Need}
use Rattle.cat_items.specs.declared.item.Right.{Right}
use Rattle.cat_items.specs.declared.item.Item.{Item}
use Rattle.cat_items.specs.declared.item.Item.TheVariants as item
use Rattle.cat_items.specs.Catalogues.{IsInOrder}
use Rattle.cat_items.specs.Edits.{IsEdited}
use Rattle.cat_items.specs.Rights.{path_of, HasColumn, IsColumn}
use Rattle.cat_items.specs.Survivors.{IsSystemRight, IsWithSystem, MayBeSystemRight, MayBeSystemRow, MayBeSystemSchema}
use Rattle.cat_items.proofs.CatalogueLemmas.{in_order}
use Rattle.support_laws.proofs.Decisions.{system_right}
use Rattle.edit_laws.proofs.EditedLists.{edited_list}
use Rattle.edit_laws.specs.Kinds.{HaveOwnKeys}
use Rattle.edit_rules.specs.Chosen.{IsRightOrRoleGrant}
use Rattle.edit_rules.proofs.ItemKeys.{only_granted}
use Rattle.edit_suspects.proofs.GhostKeys.{possible_is_granted}

-- ---- members of lists of lists

in_map : {X Y : Type 0} (f : X → Y) (xs : List X) (x : X) → Contains xs x → Contains (map f xs) (f x)
in_map f [] x h = absurd (Contains-nil x h)
in_map f (z ∷ xs) x h = elim (Contains-cases z xs x h) [
  | inl e ↦ subst (λ w. Contains (map f (z ∷ xs)) (f w)) e (Contains-head (f z) (map f xs))
  | inr later ↦ Contains-tail (f z) (map f xs) (f x) (in_map f xs x later)
]

in_flat : {X Y : Type 0} (f : X → List Y) (xs : List X) (x : X) (y : Y) → Contains xs x → Contains (f x) y → Contains (flat_map f xs) y
in_flat f [] x y h hy = absurd (Contains-nil x h)
in_flat f (z ∷ xs) x y h hy = elim (Contains-cases z xs x h) [
  | inl e ↦ Contains-append_left (f z) (flat_map f xs) y (subst (λ w. Contains (f w) y) (sym e) hy)
  | inr later ↦ Contains-append_right (f z) (flat_map f xs) y (in_flat f xs x y later hy)
]

-- ---- all rights that could be of the system

abbrev actions : List Action
actions = action.Select ∷ action.Insert ∷ action.Update ∷ action.Delete ∷ action.References ∷ action.Usage ∷ action.Execute ∷ action.Admin ∷ []

in_actions : (by : Action) → Contains actions by
in_actions action.Select = (0, omega arith, refl)
in_actions action.Insert = (1, omega arith, refl)
in_actions action.Update = (2, omega arith, refl)
in_actions action.Delete = (3, omega arith, refl)
in_actions action.References = (4, omega arith, refl)
in_actions action.Usage = (5, omega arith, refl)
in_actions action.Execute = (6, omega arith, refl)
in_actions action.Admin = (7, omega arith, refl)

abbrev owner_of : Item → Auth
owner_of (item.Schema s) = Named s.owner
owner_of x = Public

abbrev object_path : Item → List (List ℕ)
object_path (item.Table t) = path_of t
object_path (item.View v) = path_of v.view
object_path (item.Domain d) = path_of d.domain
object_path (item.Routine r) = path_of r.routine
object_path x = []

abbrev column_name : Item → Option (List ℕ)
column_name (item.Column k) = Some k.name
column_name x = None

right_at : Item → Item → Option (List ℕ) → Action → Right
right_at s x column by = record { need = record { action = by; on = object_path x; column = column }; grantor = System; grantee = owner_of s }

both : Right → List Item
both r = item.Held r ∷ item.Grantable r ∷ []

columns : List Item → List (Option (List ℕ))
columns c = None ∷ map column_name c

candidates : List Item → List Item
candidates c = flat_map (λ s. flat_map (λ x. flat_map (λ column. flat_map (λ by. both (right_at s x column by)) actions) (columns c)) c) c

path_case : (schema : List ℕ) (need : Need) (x : Item) → MayBeSystemRow schema need x → need.on ≡ object_path x
path_case schema need (item.Table t) h = h.1
path_case schema need (item.View v) h = h.1
path_case schema need (item.Domain d) h = ap (λ (n : Need). n.on) h.1
path_case schema need (item.Routine r) h = ap (λ (n : Need). n.on) h.1
path_case schema need _ h = absurd h

owner_case : (c : List Item) (r : Right) (s : Item) → MayBeSystemSchema c r s → (r.grantee ≡ owner_of s) × ((x : Item) × Contains c x × (r.need.on ≡ object_path x))
owner_case c r (item.Schema s) h = (h.0, (h.1.0, h.1.1, path_case s.name r.need h.1.0 h.1.2))
owner_case c r _ h = absurd h

name_case : (path : List (List ℕ)) (name : List ℕ) (y : Item) → IsColumn path name y → column_name y ≡ Some name
name_case path name (item.Column k) h = ap Some h.1
name_case path name _ h = absurd h

column_case : (c : List Item) (path : List (List ℕ)) (column : Option (List ℕ)) → HasColumn c path column → Contains (columns c) column
unfolding columns
column_case c path None h = Contains-head None (map column_name c)
column_case c path (Some name) h = Contains-tail None (map column_name c) (Some name) (subst (Contains (map column_name c)) (name_case path name h.0 h.2) (in_map column_name c h.0 h.1))

is_candidate : (c : List Item) (r : Right) → MayBeSystemRight c r → (z : Item) → Contains (both r) z → Contains (candidates c) z
unfolding candidates right_at
is_candidate c r is z h =
    let s = is.2.0 in
    let own = owner_case c r s is.2.2 in
    let x = own.1.0 in
    let same : right_at s x r.need.column r.need.action ≡ r = λ i. record { need = record { action = r.need.action; on = sym own.1.2 i; column = r.need.column }; grantor = sym is.0 i; grantee = sym own.0 i } in
    in_flat _ c s z is.2.1
    (in_flat _ c x z own.1.1
    (in_flat _ (columns c) r.need.column z (column_case c r.need.on r.need.column is.1) (in_flat (λ by. both (right_at s x r.need.column by)) actions r.need.action z (in_actions r.need.action) (subst (λ q. Contains (both q) z) (sym same) h))))

right_candidate : (c : List Item) (x : Item) → IsSystemRight c x → Contains (candidates c) x
unfolding both
right_candidate c (item.Held r) is = is_candidate c r is (item.Held r) (Contains-head (item.Held r) (item.Grantable r ∷ []))
right_candidate c (item.Grantable r) is = is_candidate c r is (item.Grantable r) (Contains-tail (item.Held r) (item.Grantable r ∷ []) (item.Grantable r) (Contains-head (item.Grantable r) []))
right_candidate c _ is = absurd is

-- ---- one by one into the list

abbrev With : List Item → (Item → Type 0) → Type 0
With xs P = (new : List Item) × IsInOrder new × ((z : Item) → Contains new z ↔ (Contains xs z ⊎ P z))

abbrev one_more : Item → Edit
one_more x = record { target = []; changed = []; added = x ∷ [] }

with_right : (xs : List Item) → IsInOrder xs → (x : Item) → IsRightOrRoleGrant x → With xs (λ z. Contains (x ∷ []) z)
with_right xs order x is = (list.0, list.1.order, λ z. (to z, from z))
  where
    own : HaveOwnKeys xs (one_more x)
    own a y h kept e = elim (Contains-cases x [] a h) [ inl same ↦ only_granted a y (subst IsRightOrRoleGrant same is) e | inr none ↦ absurd (Contains-nil a none) ]

    list : (edited : List Item) × IsEdited xs (one_more x) edited
    list = edited_list xs (one_more x) order (in_order (x ∷ []) (λ y h. absurd (Contains-nil y h), tt)) (λ y h. absurd (Contains-nil y h)) (λ y h. absurd (Contains-nil y h)) own

    to : (z : Item) → Contains list.0 z → Contains xs z ⊎ Contains (x ∷ []) z
    to z h = elim ((list.1.members z).0 h) [ inl old ↦ inl old.0 | inr new ↦ inr new ]

    from : (z : Item) → Contains xs z ⊎ Contains (x ∷ []) z → Contains list.0 z
    from z (inl old) = (list.1.members z).1 (inl (old, Contains-nil z, Contains-nil z))
    from z (inr new) = (list.1.members z).1 (inr new)

both_steps : (x : Item) (more xs : List Item) (first : With xs (λ z. Contains (x ∷ []) z)) → With first.0 (λ z. Contains more z) → With xs (λ z. Contains (x ∷ more) z)
both_steps x more xs first rest = (rest.0, rest.1, λ z. (to z, from z))
  where
    to : (z : Item) → Contains rest.0 z → Contains xs z ⊎ Contains (x ∷ more) z
    to z h = elim ((rest.2 z).0 h) [
      | inr later ↦ inr (Contains-tail x more z later)
      | inl here ↦ (elim ((first.2 z).0 here) [
        | inl old ↦ inl old
        | inr one ↦ (elim (Contains-cases x [] z one) [ inl e ↦ inr (subst (Contains (x ∷ more)) e (Contains-head x more)) | inr none ↦ absurd (Contains-nil z none) ])
      ])
    ]

    from : (z : Item) → Contains xs z ⊎ Contains (x ∷ more) z → Contains rest.0 z
    from z (inl old) = (rest.2 z).1 (inl ((first.2 z).1 (inl old)))
    from z (inr h) = elim (Contains-cases x more z h) [
      | inl e ↦ (rest.2 z).1 (inl ((first.2 z).1 (inr (subst (Contains (x ∷ [])) e (Contains-head x [])))))
      | inr later ↦ (rest.2 z).1 (inr later)
    ]

with_all : (more xs : List Item) → IsInOrder xs → ((x : Item) → Contains more x → IsRightOrRoleGrant x) → With xs (λ z. Contains more z)
with_all [] xs order granted = (xs, order, λ z. (inl, λ h. elim h [ inl old ↦ old | inr none ↦ absurd (Contains-nil z none) ]))
with_all (x ∷ more) xs order granted =
    let first = with_right xs order x (granted x (Contains-head x more)) in
    both_steps x more xs first (with_all more first.0 first.1 (λ y h. granted y (Contains-tail x more y h)))

abbrev test : List Item → Item → Bool
test c x = (system_right c x).0

abbrev possible : List Item → List Item
possible c = filter (test c) (candidates c)

-- the list with the rights that the system could grant for it
pub with_system : (c : List Item) → IsInOrder c → (all : List Item) × IsWithSystem c all
with_system c order = (list.0, record { order = list.1; members = λ x. (to x, from x) })
  where
    is_right : (x : Item) → Contains (possible c) x → IsSystemRight c x
    is_right x h = (system_right c x).1.0 (filter_passes_one (test c) (candidates c) x h).1

    list : With c (λ z. Contains (possible c) z)
    list = with_all (possible c) c order (λ x h. possible_is_granted c x (is_right x h))

    to : (x : Item) → Contains list.0 x → Contains c x ⊎ IsSystemRight c x
    to x h = elim ((list.2 x).0 h) [ inl here ↦ inl here | inr new ↦ inr (is_right x new) ]

    from : (x : Item) → Contains c x ⊎ IsSystemRight c x → Contains list.0 x
    from x (inl here) = (list.2 x).1 (inl here)
    from x (inr is) = (list.2 x).1 (inr (Contains-filter (test c) (candidates c) x (right_candidate c x is) ((system_right c x).1.1 is)))
