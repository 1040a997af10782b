-- What can be granted of what is named.
use Rattle.std.proofs.Common.{◌≡◌, ◌⊎◌, ◌↔◌, inl, inr, ℕ, ◌+◌, ◌<◌, ◌≤◌, Bool, true, false, List, [], ◌∷◌, ◌++◌, Option, Some, None, take, length, get_or, ap, sym, subst, refl, ◌∙◌, arith}
use Rattle.std.specs.List.{Contains}
use Rattle.std.proofs.lemmas.Bool.{cases_lt}
use Rattle.std.proofs.lemmas.List.{get_or_default}
use Rattle.std.proofs.lemmas.List.Elements.{Contains-append_left}
use Rattle.finite_chains.proofs.Members.{Contains-nil, Contains-head}
use Rattle.sql_names.specs.declared.object.Object.{Object}
use Rattle.sql_tree.specs.declared.rights.Action.{Action}
use Rattle.sql_tree.specs.declared.rights.Action.TheVariants as actions
use Rattle.cat_items.specs.declared.need.Auth.TheVariants.{Named}
use Rattle.cat_items.specs.declared.need.Need.{Need}
use Rattle.cat_items.specs.declared.item.Column.{Column}
use Rattle.cat_items.specs.declared.item.Item.{Item}
use Rattle.cat_items.specs.declared.item.Item.TheVariants as item
use Rattle.cat_items.specs.Needs.{object_need, column_need}
use Rattle.cat_items.specs.Ranges.{IsRange}
use Rattle.cat_items.specs.Reach.{Has}
use Rattle.cat_items.specs.Rights.{path_of, IsColumn, MetBy}
use Rattle.cat_items.specs.Shape.{IsColumnOf}
use Rattle.cat_items.specs.declared.edit.Refusal.TheVariants.{NoPrivilege}
use Rattle.edit_rules.specs.First.{First, Passes}
use Rattle.edit_rules.specs.Privileges.{IsLeastNeed}
use Rattle.edit_rules.proofs.FirstLaws.{passes_one}
use Rattle.grant_edit.specs.Grants.{AllGranted, CanGrant, GoesAlong, IsColumnGrant, IsColumnPrivilege, IsToBeGranted, IsOnColumns, no_privilege_to_grant}
use Rattle.grant_edit.specs.Named.{IsLeastOf, IsRefused}
use Rattle.grant_edit.proofs.Lists.{contains_both, contains_one, contains_push}
use Rattle.grant_edit.proofs.NamedLemmas.{same_need}

-- a privilege on a column whose item stands in a part of the catalogue
abbrev pub FromPlaces : List Item → List ℕ → Object → Action → ℕ → ℕ → Need → Type 0
FromPlaces c grantor object action from to need = (k : ℕ) × (d : Item) × (from ≤ k) × (k < to) × IsColumnGrant c grantor object action (get_or c k d) need

same_object : (a b : Object) → path_of a ≡ path_of b → b ≡ a
same_object a b e =
    let schema : a.schema ≡ b.schema = cc in
    let name : a.name ≡ b.name = cc in
    λ i. record { schema = sym schema i; name = sym name i }

column_on : (c : List Item) (grantor : List ℕ) (object : Object) (action : Action) (name : List ℕ) → IsOnColumns action → MetBy true c (Named grantor) (column_need action object name) action → Has c (IsColumn (path_of object) name)
column_on c grantor object actions.Select name on met = met.0.1
column_on c grantor object actions.Insert name on met = met.0.1
column_on c grantor object actions.Update name on met = met.0.1
column_on c grantor object actions.References name on met = met.0.1
column_on c grantor object actions.Delete name on met = absurd on
column_on c grantor object actions.Usage name on met = absurd on
column_on c grantor object actions.Execute name on met = absurd on
column_on c grantor object actions.Admin name on met = absurd on

module _ (c : List Item) (grantor : List ℕ) (object : Object) where
  -- ---- the columns of an object

  pub none_from_places : (action : Action) (from : ℕ) (need : Need) → FromPlaces c grantor object action from from need → ⊥
  none_from_places action from need h = omega (arith, h.2, h.3)

  pub places_more : (action : Action) (from at : ℕ) (x : Item) (need : Need) → from ≤ at → at < length c → x ≡ get_or c at x → FromPlaces c grantor object action from (at + 1) need ↔ (FromPlaces c grantor object action from at need ⊎ IsColumnGrant c grantor object action x need)
  places_more action from at x need low within is = (to, back)
    where
      here : (k : ℕ) (d : Item) → k ≡ at → get_or c k d ≡ x
      here k d e = ap (λ n. get_or c n d) e ∙ get_or_default c at d x within ∙ sym is

      to : FromPlaces c grantor object action from (at + 1) need → FromPlaces c grantor object action from at need ⊎ IsColumnGrant c grantor object action x need
      to h = elim (cases_lt h.0 at) [
        | inl before ↦ inl (h.0, h.1, h.2, before, h.4)
        | inr behind ↦ let e : h.0 ≡ at = omega (arith, behind, h.3) in inr (subst (λ y. IsColumnGrant c grantor object action y need) (here h.0 h.1 e) h.4)
      ]

      back : FromPlaces c grantor object action from at need ⊎ IsColumnGrant c grantor object action x need → FromPlaces c grantor object action from (at + 1) need
      back (inl h) = (h.0, h.1, h.2, omega (arith, h.3), h.4)
      back (inr h) = (at, x, low, omega arith, subst (λ y. IsColumnGrant c grantor object action y need) is h)

  of_column : (action : Action) (need : Need) (y : Item) → IsColumnGrant c grantor object action y need → IsColumnPrivilege c grantor object action need
  of_column action need (item.Column x) h = (x.name, h.0, h.1)
  of_column action need _ h = absurd h

  lies : (y : Item) (name : List ℕ) → IsColumn (path_of object) name y → IsColumnOf object y
  lies (item.Column x) name h = same_object object x.table h.0
  lies _ name h = absurd h

  as_grant : (action : Action) (name : List ℕ) (need : Need) (y : Item) → IsColumn (path_of object) name y → need ≡ column_need action object name → CanGrant c grantor need → IsColumnGrant c grantor object action y need
  as_grant action name need (item.Column x) h e can = (e ∙ ap (λ n. column_need action object n) (sym h.1), can)
  as_grant action name need _ h e can = absurd h

  -- the privileges on columns that can be granted are those of the columns that stand
  pub columns_all : (action : Action) (from to : ℕ) (need : Need) → IsOnColumns action → IsRange c from to (IsColumnOf object) → FromPlaces c grantor object action from to need ↔ IsColumnPrivilege c grantor object action need
  columns_all action from to need on range = (λ h. of_column action need (get_or c h.0 h.1) h.4, back)
    where
      back : IsColumnPrivilege c grantor object action need → FromPlaces c grantor object action from to need
      back h =
          let can : CanGrant c grantor (column_need action object h.0) = subst (CanGrant c grantor) h.1 h.2 in
          let column = column_on c grantor object action h.0 on can in
          let place = column.1 in
          let at : IsColumn (path_of object) h.0 (get_or c place.0 column.0) = subst (IsColumn (path_of object) h.0) (sym place.2) column.2 in
          let between = range.outside place.0 column.0 place.1 (lies (get_or c place.0 column.0) h.0 at) in
          (place.0, column.0, between.0, between.1, as_grant action h.0 need (get_or c place.0 column.0) at h.1 h.2)

  -- a column whose privilege can be granted
  pub column_pushed : (action : Action) (column : Column) (x : Item) (old new : List Need) → x ≡ item.Column column → new ≡ old ++ column_need action object column.name ∷ [] → CanGrant c grantor (column_need action object column.name)
      → (need : Need) → Contains new need ↔ (Contains old need ⊎ IsColumnGrant c grantor object action x need)
  column_pushed action column x old new is pushed can need = (λ h. to ((contains_push old mine need).0 (subst (λ l. Contains l need) pushed h)), λ h. subst (λ l. Contains l need) (sym pushed) ((contains_push old mine need).1 (back h)))
    where
      mine : Need
      mine = column_need action object column.name

      to : Contains old need ⊎ (column_need action object column.name ≡ need) → Contains old need ⊎ IsColumnGrant c grantor object action x need
      to (inl h) = inl h
      to (inr e) = inr (subst (λ y. IsColumnGrant c grantor object action y need) (sym is) (sym e, subst (CanGrant c grantor) e can))

      of_column_grant : IsColumnGrant c grantor object action x need → IsColumnGrant c grantor object action (item.Column column) need
      of_column_grant h = subst (λ y. IsColumnGrant c grantor object action y need) is h

      back : Contains old need ⊎ IsColumnGrant c grantor object action x need → Contains old need ⊎ (column_need action object column.name ≡ need)
      back (inl h) = inl h
      back (inr h) = inr (sym (of_column_grant h).0)

  -- one place more
  pub places_pushed : (action : Action) (from at : ℕ) (x : Item) (base old new : List Need) → from ≤ at → at < length c → x ≡ get_or c at x
      → ((need : Need) → Contains old need ↔ (Contains base need ⊎ FromPlaces c grantor object action from at need))
      → ((need : Need) → Contains new need ↔ (Contains old need ⊎ IsColumnGrant c grantor object action x need))
      → (need : Need) → Contains new need ↔ (Contains base need ⊎ FromPlaces c grantor object action from (at + 1) need)
  places_pushed action from at x base old new low within is before after need = (λ h. to ((after need).0 h), λ h. (after need).1 (back h))
    where
      more : FromPlaces c grantor object action from (at + 1) need ↔ (FromPlaces c grantor object action from at need ⊎ IsColumnGrant c grantor object action x need)
      more = places_more action from at x need low within is

      to : Contains old need ⊎ IsColumnGrant c grantor object action x need → Contains base need ⊎ FromPlaces c grantor object action from (at + 1) need
      to (inl h) = elim ((before need).0 h) [ inl b ↦ inl b | inr p ↦ inr (more.1 (inl p)) ]
      to (inr h) = inr (more.1 (inr h))

      back : Contains base need ⊎ FromPlaces c grantor object action from (at + 1) need → Contains old need ⊎ IsColumnGrant c grantor object action x need
      back (inl b) = inl ((before need).1 (inl b))
      back (inr p) = elim (more.0 p) [ inl q ↦ inl ((before need).1 (inr q)) | inr g ↦ inr g ]

  -- all places of the columns
  pub places_end : (action : Action) (from to at : ℕ) (base new : List Need) → IsOnColumns action → IsRange c from to (IsColumnOf object) → at ≡ to
      → ((need : Need) → Contains new need ↔ (Contains base need ⊎ FromPlaces c grantor object action from at need))
      → (need : Need) → Contains new need ↔ (Contains base need ⊎ IsColumnPrivilege c grantor object action need)
  places_end action from to at base new on range end before need = (λ h. first ((before need).0 h), λ h. (before need).1 (second h))
    where
      all : FromPlaces c grantor object action from at need ↔ IsColumnPrivilege c grantor object action need
      all = subst (λ n. FromPlaces c grantor object action from n need ↔ IsColumnPrivilege c grantor object action need) (sym end) (columns_all action from to need on range)

      first : Contains base need ⊎ FromPlaces c grantor object action from at need → Contains base need ⊎ IsColumnPrivilege c grantor object action need
      first (inl h) = inl h
      first (inr h) = inr (all.0 h)

      second : Contains base need ⊎ IsColumnPrivilege c grantor object action need → Contains base need ⊎ FromPlaces c grantor object action from at need
      second (inl h) = inl h
      second (inr h) = inr (all.1 h)

  -- ---- what is granted

  pub none_granted : (named : List Need) (need : Need) → IsToBeGranted c grantor object (take 0 named) need → ⊥
  none_granted named need h = elim h.0 [ inl m ↦ Contains-nil need m | inr along ↦ Contains-nil (object_need need.action object) along.3 ]

  granted_both : (xs ys : List Need) (need : Need) → IsToBeGranted c grantor object (xs ++ ys) need ↔ (IsToBeGranted c grantor object xs need ⊎ IsToBeGranted c grantor object ys need)
  granted_both xs ys need = (λ h. to h.0 h.1, back)
    where
      to : Contains (xs ++ ys) need ⊎ GoesAlong c grantor object (xs ++ ys) need → CanGrant c grantor need → IsToBeGranted c grantor object xs need ⊎ IsToBeGranted c grantor object ys need
      to (inl m) can = elim ((contains_both xs ys need).0 m) [ inl a ↦ inl (inl a, can) | inr b ↦ inr (inl b, can) ]
      to (inr g) can = elim ((contains_both xs ys (object_need need.action object)).0 g.3) [
        | inl a ↦ inl (inr (g.0, g.1, g.2, a, g.4), can)
        | inr b ↦ inr (inr (g.0, g.1, g.2, b, g.4), can)
      ]

      more : (zs : List Need) → ((n : Need) → Contains zs n → Contains (xs ++ ys) n) → IsToBeGranted c grantor object zs need → IsToBeGranted c grantor object (xs ++ ys) need
      more zs within h = elim h.0 [
        | inl m ↦ (inl (within need m), h.1)
        | inr g ↦ (inr (g.0, g.1, g.2, within (object_need need.action object) g.3, g.4), h.1)
      ]

      back : IsToBeGranted c grantor object xs need ⊎ IsToBeGranted c grantor object ys need → IsToBeGranted c grantor object (xs ++ ys) need
      back (inl h) = more xs (λ n m. (contains_both xs ys n).1 (inl m)) h
      back (inr h) = more ys (λ n m. (contains_both xs ys n).1 (inr m)) h

  -- a privilege more that can be granted
  pub granted_more : (old new front : List Need) (need : Need)
      → ((n : Need) → Contains old n ↔ IsToBeGranted c grantor object front n)
      → ((n : Need) → Contains new n ↔ (Contains old n ⊎ IsToBeGranted c grantor object (need ∷ []) n))
      → (n : Need) → Contains new n ↔ IsToBeGranted c grantor object (front ++ need ∷ []) n
  granted_more old new front need before after n = (
    λ h. (granted_both front (need ∷ []) n).1 (to ((after n).0 h)),
    λ h. (after n).1 (back ((granted_both front (need ∷ []) n).0 h)),
  )
    where
      to : Contains old n ⊎ IsToBeGranted c grantor object (need ∷ []) n → IsToBeGranted c grantor object front n ⊎ IsToBeGranted c grantor object (need ∷ []) n
      to (inl h) = inl ((before n).0 h)
      to (inr h) = inr h

      back : IsToBeGranted c grantor object front n ⊎ IsToBeGranted c grantor object (need ∷ []) n → Contains old n ⊎ IsToBeGranted c grantor object (need ∷ []) n
      back (inl h) = inl ((before n).1 h)
      back (inr h) = inr h

  not_granted : (need n : Need) → (CanGrant c grantor need → ⊥) → IsToBeGranted c grantor object (need ∷ []) n → ⊥
  not_granted need n cannot h = elim h.0 [
    | inl m ↦ cannot (subst (CanGrant c grantor) (sym (contains_one need n m)) h.1)
    | inr g ↦ cannot (subst (CanGrant c grantor) (sym (contains_one need (object_need n.action object) g.3)) g.4)
  ]

  -- one more that can't be
  pub granted_same : (old front : List Need) (need : Need)
      → ((n : Need) → Contains old n ↔ IsToBeGranted c grantor object front n)
      → (CanGrant c grantor need → ⊥)
      → (n : Need) → Contains old n ↔ IsToBeGranted c grantor object (front ++ need ∷ []) n
  granted_same old front need before cannot n = (
    λ h. (granted_both front (need ∷ []) n).1 (inl ((before n).0 h)),
    λ h. back ((granted_both front (need ∷ []) n).0 h),
  )
    where
      back : IsToBeGranted c grantor object front n ⊎ IsToBeGranted c grantor object (need ∷ []) n → Contains old n
      back (inl h) = (before n).1 h
      back (inr h) = absurd (not_granted need n cannot h)

  -- ---- one privilege and what goes along with it

  whole : (need : Need) → need.on ≡ path_of object → need.column ≡ None → need ≡ object_need need.action object
  whole need on none = same_need need (object_need need.action object) refl on none

  -- with those on its columns
  pub with_columns : (old new : List Need) (need : Need) → need.on ≡ path_of object → need.column ≡ None → IsOnColumns need.action → CanGrant c grantor need
      → ((n : Need) → Contains new n ↔ (Contains (old ++ need ∷ []) n ⊎ IsColumnPrivilege c grantor object need.action n))
      → (n : Need) → Contains new n ↔ (Contains old n ⊎ IsToBeGranted c grantor object (need ∷ []) n)
  with_columns old new need on none columns can after n = (λ h. to ((after n).0 h), λ h. (after n).1 (back h))
    where
      itself : need ≡ n → IsToBeGranted c grantor object (need ∷ []) n
      itself e = subst (IsToBeGranted c grantor object (need ∷ [])) e (inl (Contains-head need []), can)

      along : (name : List ℕ) → CanGrant c grantor (column_need need.action object name) → IsToBeGranted c grantor object (need ∷ []) (column_need need.action object name)
      along name granted = (
        inr (name, refl, columns, subst (Contains (need ∷ [])) (whole need on none) (Contains-head need []), subst (CanGrant c grantor) (whole need on none) can),
        granted,
      )

      to : Contains (old ++ need ∷ []) n ⊎ IsColumnPrivilege c grantor object need.action n → Contains old n ⊎ IsToBeGranted c grantor object (need ∷ []) n
      to (inl h) = elim ((contains_push old need n).0 h) [ inl before ↦ inl before | inr e ↦ inr (itself e) ]
      to (inr h) = inr (subst (IsToBeGranted c grantor object (need ∷ [])) (sym h.1) (along h.0 (subst (CanGrant c grantor) h.1 h.2)))

      of_granted : Contains (need ∷ []) n ⊎ GoesAlong c grantor object (need ∷ []) n → CanGrant c grantor n → Contains (old ++ need ∷ []) n ⊎ IsColumnPrivilege c grantor object need.action n
      of_granted (inl m) can_n = inl ((contains_push old need n).1 (inr (contains_one need n m)))
      of_granted (inr g) can_n =
          let same : need ≡ object_need n.action object = contains_one need (object_need n.action object) g.3 in
          let action : n.action ≡ need.action = sym (ap (λ (m : Need). m.action) same) in
          inr (g.0, g.1 ∙ ap (λ a. column_need a object g.0) action, can_n)

      back : Contains old n ⊎ IsToBeGranted c grantor object (need ∷ []) n → Contains (old ++ need ∷ []) n ⊎ IsColumnPrivilege c grantor object need.action n
      back (inl h) = inl ((contains_push old need n).1 (inl h))
      back (inr h) = of_granted h.0 h.1

  -- alone
  pub without_columns : (old : List Need) (need : Need) → (need.column ≡ None → IsOnColumns need.action → ⊥) → CanGrant c grantor need
      → (n : Need) → Contains (old ++ need ∷ []) n ↔ (Contains old n ⊎ IsToBeGranted c grantor object (need ∷ []) n)
  without_columns old need apart can n = (λ h. to ((contains_push old need n).0 h), λ h. (contains_push old need n).1 (back h))
    where
      to : Contains old n ⊎ (need ≡ n) → Contains old n ⊎ IsToBeGranted c grantor object (need ∷ []) n
      to (inl h) = inl h
      to (inr e) = inr (subst (IsToBeGranted c grantor object (need ∷ [])) e (inl (Contains-head need []), can))

      of_granted : Contains (need ∷ []) n ⊎ GoesAlong c grantor object (need ∷ []) n → need ≡ n
      of_granted (inl m) = contains_one need n m
      of_granted (inr g) =
          let same : need ≡ object_need n.action object = contains_one need (object_need n.action object) g.3 in
          let action : n.action ≡ need.action = sym (ap (λ (m : Need). m.action) same) in
          absurd (apart (ap (λ (m : Need). m.column) same) (subst IsOnColumns action g.2))

      back : Contains old n ⊎ IsToBeGranted c grantor object (need ∷ []) n → Contains old n ⊎ (need ≡ n)
      back (inl h) = inl h
      back (inr h) = inr (of_granted h.0)

-- ---- all of them, or some not

pub all_yet : (c : List Item) (grantor : List ℕ) (named : List Need) → AllGranted c grantor (take 0 named) true
all_yet c grantor named need h = absurd (Contains-nil need h)

pub all_more : (c : List Item) (grantor : List ℕ) (front : List Need) (need : Need) (all : Bool) → AllGranted c grantor front all → CanGrant c grantor need → AllGranted c grantor (front ++ need ∷ []) all
all_more c grantor front need true before can = λ n h. elim ((contains_push front need n).0 h) [ inl old ↦ before n old | inr e ↦ subst (CanGrant c grantor) e can ]
all_more c grantor front need false before can = (before.0, Contains-append_left front (need ∷ []) before.0 before.1, before.2)

pub not_all : (c : List Item) (grantor : List ℕ) (front : List Need) (need : Need) → (CanGrant c grantor need → ⊥) → AllGranted c grantor (front ++ need ∷ []) false
not_all c grantor front need cannot = (need, (contains_push front need need).1 (inr refl), cannot)

-- what is granted shows something named that can be
pub some_named : (c : List Item) (grantor : List ℕ) (object : Object) (named : List Need) (need : Need) → IsToBeGranted c grantor object named need → (n : Need) × Contains named n × CanGrant c grantor n
some_named c grantor object named need h = elim h.0 [ inl m ↦ (need, m, h.1) | inr g ↦ (object_need need.action object, g.3, g.4) ]

-- ---- what is refused

pub refused_of : (named granted : List Need) (o : Option Need) → granted ≡ [] → IsLeastOf named o → IsRefused named granted o
refused_of named granted None none least = inr least
refused_of named granted (Some need) none least = (none, least)

module _ (c : List Item) (grantor : List ℕ) (object : Object) (named granted : List Need) (members : (need : Need) → Contains granted need ↔ IsToBeGranted c grantor object named need) where
  pub refuses_nothing : (need : Need) → granted ≡ [] → IsLeastNeed (Contains named) need → no_privilege_to_grant c grantor named (NoPrivilege need)
  refuses_nothing need none least = (λ n h can. Contains-nil n (subst (λ l. Contains l n) none ((members n).1 (inl h, can))), (need, least, refl))

  pub passes_some : ((need : Need) × Contains granted need) ⊎ ((need : Need) → ¬ (Contains named need)) → Passes (First (no_privilege_to_grant c grantor named ∷ []))
  passes_some some = passes_one (no_privilege_to_grant c grantor named) (by some)
    where
      by : ((need : Need) × Contains granted need) ⊎ ((need : Need) → ¬ (Contains named need)) → Passes (no_privilege_to_grant c grantor named)
      by (inl some) refusal r = let can = some_named c grantor object named some.0 ((members some.0).0 some.1) in r.0 can.0 can.1 can.2
      by (inr none) refusal r = none r.1.0 r.1.1.is

  pub some_or_none : ((need : Need) × Contains granted need) ⊎ ((need : Need) → ¬ (Contains named need)) → ((need : Need) × Contains named need × CanGrant c grantor need) ⊎ ((need : Need) → ¬ (Contains named need))
  some_or_none (inl some) = inl (some_named c grantor object named some.0 ((members some.0).0 some.1))
  some_or_none (inr none) = inr none
