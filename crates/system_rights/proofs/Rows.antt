-- Lists of actions, and the rows of objects.
use Rattle.std.proofs.Common.{◌≡◌, ◌↔◌, ◌⊎◌, ◌≤◌, length, ℕ, Bool, true, false, List, [], ◌∷◌, Option, Some, None, cond, nat_eq, refl, sym, ◌∙◌, ap, subst, inl, inr, arith}
use Rattle.std.specs.List.{Contains}
use Rattle.std.proofs.lemmas.Bool.{false≢true}
use Rattle.finite_chains.proofs.Members.{Contains-nil, Contains-cases}
use Rattle.sql_names.specs.declared.object.Object.{Object}
use Rattle.sql_tree.specs.declared.rights.Action.{Action}
use Rattle.sql_tree.specs.declared.rights.Action.TheVariants.{Select, Insert, Update, Delete, References, Usage, Execute, Admin}
use Rattle.cat_items.specs.declared.need.Auth.TheVariants.{System, Named}
use Rattle.cat_items.specs.declared.need.Need.{Need}
use Rattle.cat_items.specs.declared.item.Right.{Right}
use Rattle.cat_items.specs.declared.item.View.{View}
use Rattle.cat_items.specs.declared.item.Column.{Column}
use Rattle.cat_items.specs.declared.item.Domain.{Domain}
use Rattle.cat_items.specs.declared.item.Routine.{Routine}
use Rattle.cat_items.specs.declared.item.Item.{Item}
use Rattle.cat_items.specs.declared.item.Item.TheVariants as item
use Rattle.cat_items.specs.Order.{action_number}
use Rattle.cat_items.specs.Reach.{Has}
use Rattle.cat_items.specs.Rights.{path_of, HasColumn, IsColumn}
use Rattle.cat_items.specs.SystemRights.{IsTableRow}
use Rattle.cat_items.specs.Survivors.{MayBeViewRow, MayBeSystemRow}
use Rattle.cat_items.specs.Catalogues.{IsInOrder, OwnsSchema}
use Rattle.system_rights.specs.Layers.{IsAction, IsColumnAction, IsRowOf, IsToOwner, IsSystemRightOn, schema_of_object}
use Rattle.cat_items.specs.Ranges.{IsRange}
use Rattle.cat_items.specs.Shape.{IsColumnOf}
use Rattle.cat_items.specs.Survivors.{IsSystemRight, MayBeSystemSchema, MayBeSystemRight}
use Rattle.system_rights.specs.Layers.{IsAdded, IsRightWhere}
use Rattle.system_rights.proofs.Added.{OfSome, added_same, added_then}
use Rattle.system_rights.proofs.RightKeys.{one_owner}

abbrev is_in : ℕ → List Action → Bool
is_in n [] = false
is_in n (x ∷ xs) = cond (nat_eq (action_number x) n) true (is_in n xs)

itself : (x : Action) (b : Bool) → cond (nat_eq (action_number x) (action_number x)) true b ≡ true
itself Select b = refl
itself Insert b = refl
itself Update b = refl
itself Delete b = refl
itself References b = refl
itself Usage b = refl
itself Execute b = refl
itself Admin b = refl

either : (t b : Bool) → b ≡ true → cond t true b ≡ true
either true b e = refl
either false b e = e

in_there : (a : Action) (l : List Action) → Contains l a → is_in (action_number a) l ≡ true
in_there a [] c = absurd (Contains-nil a c)
in_there a (x ∷ xs) c =
    elim (Contains-cases x xs a c) [
      | inl e ↦ subst (λ z. cond (nat_eq (action_number x) (action_number z)) true (is_in (action_number z) xs) ≡ true) e (itself x (is_in (action_number x) xs))
      | inr later ↦ either (nat_eq (action_number x) (action_number a)) (is_in (action_number a) xs) (in_there a xs later)
    ]

not_in : {A : Type 0} (a : Action) (l : List Action) → is_in (action_number a) l ≡ false → Contains l a → A
not_in a l off c = absurd (false≢true (sym off ∙ in_there a l c))

abbrev AreRows : List Action → (Action → Type 0) → Type 0
AreRows l Row = (a : Action) → Contains l a ↔ Row a

pub table_whole : (a : Action) → Contains (Select ∷ Insert ∷ Update ∷ References ∷ Delete ∷ []) a ↔ IsTableRow a None
table_whole Select = (λ h. tt, λ h. (0, omega arith, refl))
table_whole Insert = (λ h. tt, λ h. (1, omega arith, refl))
table_whole Update = (λ h. tt, λ h. (2, omega arith, refl))
table_whole References = (λ h. tt, λ h. (3, omega arith, refl))
table_whole Delete = (λ h. tt, λ h. (4, omega arith, refl))
table_whole Usage = (λ h. not_in Usage (Select ∷ Insert ∷ Update ∷ References ∷ Delete ∷ []) refl h, λ h. absurd h)
table_whole Execute = (λ h. not_in Execute (Select ∷ Insert ∷ Update ∷ References ∷ Delete ∷ []) refl h, λ h. absurd h)
table_whole Admin = (λ h. not_in Admin (Select ∷ Insert ∷ Update ∷ References ∷ Delete ∷ []) refl h, λ h. absurd h)

pub table_each : (n : List ℕ) (a : Action) → Contains (Select ∷ Insert ∷ Update ∷ References ∷ []) a ↔ IsTableRow a (Some n)
table_each n Select = (λ h. tt, λ h. (0, omega arith, refl))
table_each n Insert = (λ h. tt, λ h. (1, omega arith, refl))
table_each n Update = (λ h. tt, λ h. (2, omega arith, refl))
table_each n References = (λ h. tt, λ h. (3, omega arith, refl))
table_each n Delete = (λ h. not_in Delete (Select ∷ Insert ∷ Update ∷ References ∷ []) refl h, λ h. absurd h)
table_each n Usage = (λ h. not_in Usage (Select ∷ Insert ∷ Update ∷ References ∷ []) refl h, λ h. absurd h)
table_each n Execute = (λ h. not_in Execute (Select ∷ Insert ∷ Update ∷ References ∷ []) refl h, λ h. absurd h)
table_each n Admin = (λ h. not_in Admin (Select ∷ Insert ∷ Update ∷ References ∷ []) refl h, λ h. absurd h)

pub plain_whole : (base : Object) (a : Action) → Contains (Select ∷ Insert ∷ Update ∷ Delete ∷ []) a ↔ MayBeViewRow a None (Some base)
plain_whole base Select = (λ h. tt, λ h. (0, omega arith, refl))
plain_whole base Insert = (λ h. tt, λ h. (1, omega arith, refl))
plain_whole base Update = (λ h. tt, λ h. (2, omega arith, refl))
plain_whole base Delete = (λ h. tt, λ h. (3, omega arith, refl))
plain_whole base References = (λ h. not_in References (Select ∷ Insert ∷ Update ∷ Delete ∷ []) refl h, λ h. absurd h)
plain_whole base Usage = (λ h. not_in Usage (Select ∷ Insert ∷ Update ∷ Delete ∷ []) refl h, λ h. absurd h)
plain_whole base Execute = (λ h. not_in Execute (Select ∷ Insert ∷ Update ∷ Delete ∷ []) refl h, λ h. absurd h)
plain_whole base Admin = (λ h. not_in Admin (Select ∷ Insert ∷ Update ∷ Delete ∷ []) refl h, λ h. absurd h)

pub plain_each : (base : Object) (n : List ℕ) (a : Action) → Contains (Select ∷ Insert ∷ Update ∷ []) a ↔ MayBeViewRow a (Some n) (Some base)
plain_each base n Select = (λ h. tt, λ h. (0, omega arith, refl))
plain_each base n Insert = (λ h. tt, λ h. (1, omega arith, refl))
plain_each base n Update = (λ h. tt, λ h. (2, omega arith, refl))
plain_each base n Delete = (λ h. not_in Delete (Select ∷ Insert ∷ Update ∷ []) refl h, λ h. absurd h)
plain_each base n References = (λ h. not_in References (Select ∷ Insert ∷ Update ∷ []) refl h, λ h. absurd h)
plain_each base n Usage = (λ h. not_in Usage (Select ∷ Insert ∷ Update ∷ []) refl h, λ h. absurd h)
plain_each base n Execute = (λ h. not_in Execute (Select ∷ Insert ∷ Update ∷ []) refl h, λ h. absurd h)
plain_each base n Admin = (λ h. not_in Admin (Select ∷ Insert ∷ Update ∷ []) refl h, λ h. absurd h)

pub other_rows : (column : Option (List ℕ)) (a : Action) → Contains (Select ∷ []) a ↔ MayBeViewRow a column None
other_rows column Select = (λ h. tt, λ h. (0, omega arith, refl))
other_rows column Insert = (λ h. not_in Insert (Select ∷ []) refl h, λ h. absurd h)
other_rows column Update = (λ h. not_in Update (Select ∷ []) refl h, λ h. absurd h)
other_rows None Delete = (λ h. not_in Delete (Select ∷ []) refl h, λ h. absurd h)
other_rows (Some n) Delete = (λ h. not_in Delete (Select ∷ []) refl h, λ h. absurd h)
other_rows column References = (λ h. not_in References (Select ∷ []) refl h, λ h. absurd h)
other_rows column Usage = (λ h. not_in Usage (Select ∷ []) refl h, λ h. absurd h)
other_rows column Execute = (λ h. not_in Execute (Select ∷ []) refl h, λ h. absurd h)
other_rows column Admin = (λ h. not_in Admin (Select ∷ []) refl h, λ h. absurd h)

-- the only element of a list of one
pub only : (a b : Action) → Contains (a ∷ []) b → b ≡ a
only a b c = elim (Contains-cases a [] b c) [
  | inl e ↦ sym e
  | inr none ↦ absurd (Contains-nil b none)
]

object_is : (a b : Object) → path_of a ≡ path_of b → a ≡ b
object_is a b e =
    let schemas : a.schema ≡ b.schema = cc in
    let names : a.name ≡ b.name = cc in
    λ i. record { schema = schemas i; name = names i }

-- the rows of a table or a view
pub rows : (c : List Item) (on : Object) (whole each : List Action) (Row : Action → Option (List ℕ) → Type 0) → ((a : Action) → Contains whole a ↔ Row a None) → ((n : List ℕ) (a : Action) → Contains each a ↔ Row a (Some n))
    → (need : Need) → (IsAction whole on None need ⊎ Has c (IsColumnAction each on need)) ↔ (HasColumn c need.on need.column × (need.on ≡ path_of on) × Row need.action need.column)
rows c on whole each Row whole_is each_is need = (
  λ h. elim h [
    | inl w ↦ (subst (HasColumn c need.on) (sym w.1) tt, w.0, subst (Row need.action) (sym w.1) ((whole_is need.action).0 w.2))
    | inr e ↦ forth e.0 e.1 e.2
  ],
  λ h. back need.column refl h.0 h.1 h.2,
)
  where
    forth : (y : Item) → Contains c y → IsColumnAction each on need y → HasColumn c need.on need.column × (need.on ≡ path_of on) × Row need.action need.column
    forth (item.Column k) there h = (
      subst (HasColumn c need.on) (sym h.1.1) (item.Column k, there, (h.1.0 ∙ ap path_of (sym h.0), refl)),
      h.1.0,
      subst (Row need.action) (sym h.1.1) ((each_is k.name need.action).0 h.1.2),
    )
    forth y there h = absurd h

    column_back : (n : List ℕ) (y : Item) → need.column ≡ Some n → Contains c y → IsColumn need.on n y → need.on ≡ path_of on → Contains each need.action → IsColumnAction each on need y
    column_back n (item.Column k) e there h is acts = (object_is k.table on (sym h.0 ∙ is), (is, e ∙ ap Some (sym h.1), acts))
    column_back n y e there h is acts = absurd h

    back : (column : Option (List ℕ)) → need.column ≡ column → HasColumn c need.on column → need.on ≡ path_of on → Row need.action column → IsAction whole on None need ⊎ Has c (IsColumnAction each on need)
    back None e h is row = inl (is, e, (whole_is need.action).1 row)
    back (Some n) e h is row = inr (h.0, h.1, column_back n h.0 e h.1 h.2 is ((each_is n need.action).1 row))

pub table_rows : (c : List Item) (t : Object) (need : Need) → (IsAction (Select ∷ Insert ∷ Update ∷ References ∷ Delete ∷ []) t None need ⊎ Has c (IsColumnAction (Select ∷ Insert ∷ Update ∷ References ∷ []) t need)) ↔ IsRowOf c (item.Table t) need
table_rows c t need =
    let r = rows c t (Select ∷ Insert ∷ Update ∷ References ∷ Delete ∷ []) (Select ∷ Insert ∷ Update ∷ References ∷ []) IsTableRow table_whole table_each need in
    (λ h. let g = r.0 h in (g.0, (t.schema, (refl, g.1, g.2))), λ h. r.1 (h.0, h.1.1.1, h.1.1.2))

pub plain_rows : (c : List Item) (v : View) (base : Object) → v.base ≡ Some base → (need : Need) → (IsAction (Select ∷ Insert ∷ Update ∷ Delete ∷ []) v.view None need ⊎ Has c (IsColumnAction (Select ∷ Insert ∷ Update ∷ []) v.view need)) ↔ IsRowOf c (item.View v) need
plain_rows c v base is need =
    let r = rows c v.view (Select ∷ Insert ∷ Update ∷ Delete ∷ []) (Select ∷ Insert ∷ Update ∷ []) (λ a column. MayBeViewRow a column (Some base)) (plain_whole base) (plain_each base) need in
    (λ h. let g = r.0 h in (g.0, (v.view.schema, (refl, g.1, subst (MayBeViewRow need.action need.column) (sym is) g.2))), λ h. r.1 (h.0, h.1.1.1, subst (MayBeViewRow need.action need.column) is h.1.1.2))

pub view_rows : (c : List Item) (v : View) → v.base ≡ None → (need : Need) → (IsAction (Select ∷ []) v.view None need ⊎ Has c (IsColumnAction (Select ∷ []) v.view need)) ↔ IsRowOf c (item.View v) need
view_rows c v is need =
    let r = rows c v.view (Select ∷ []) (Select ∷ []) (λ a column. MayBeViewRow a column None) (other_rows None) (λ n. other_rows (Some n)) need in
    (λ h. let g = r.0 h in (g.0, (v.view.schema, (refl, g.1, subst (MayBeViewRow need.action need.column) (sym is) g.2))), λ h. r.1 (h.0, h.1.1.1, subst (MayBeViewRow need.action need.column) is h.1.1.2))

-- one action on the whole object
one_row : (c : List Item) (a : Action) (on : Object) (need : Need) → IsAction (a ∷ []) on None need ↔ (HasColumn c need.on need.column × (need ≡ record { action = a; on = path_of on; column = None }))
one_row c a on need = (
  λ h. (subst (HasColumn c need.on) (sym h.1) tt, (let acts = only a need.action h.2 in λ i. record { action = acts i; on = h.0 i; column = h.1 i })),
  λ h. (ap (λ (n : Need). n.on) h.1, ap (λ (n : Need). n.column) h.1, (0, omega arith, sym (ap (λ (n : Need). n.action) h.1))),
)

pub domain_rows : (c : List Item) (d : Domain) (need : Need) → IsAction (Usage ∷ []) d.domain None need ↔ IsRowOf c (item.Domain d) need
domain_rows c d need =
    let r = one_row c Usage d.domain need in (λ h. let g = r.0 h in (g.0, (d.domain.schema, (refl, g.1))), λ h. r.1 (h.0, h.1.1.1))

pub routine_rows : (c : List Item) (p : Routine) (need : Need) → IsAction (Execute ∷ []) p.routine None need ↔ IsRowOf c (item.Routine p) need
routine_rows c p need =
    let r = one_row c Execute p.routine need in (λ h. let g = r.0 h in (g.0, (p.routine.schema, (refl, g.1))), λ h. r.1 (h.0, h.1.1.1))

-- this action on an object, or on a column of it
abbrev pub IsOneAction : Object → Option (List ℕ) → Action → Need → Type 0
IsOneAction on column action need = need ≡ record { action = action; on = path_of on; column = column }

-- what is on an object is in its schema
pub own_schema : (schema : List ℕ) (need : Need) (x : Item) → MayBeSystemRow schema need x → schema_of_object x ≡ Some schema
own_schema schema need (item.Table t) h = ap Some h.0
own_schema schema need (item.View v) h = ap Some h.0
own_schema schema need (item.Domain d) h = ap Some h.0
own_schema schema need (item.Routine r) h = ap Some h.0
own_schema schema need x h = absurd h

pub no_schema : (c : List Item) (x : Item) → schema_of_object x ≡ None → (r : Right) → IsSystemRightOn c x r → ⊥
no_schema c x none r h = let clash : None ≡ Some h.0.name = sym none ∙ own_schema h.0.name r.need x h.3.2 in cc

pub no_owner : (c : List Item) (x : Item) (schema : List ℕ) → schema_of_object x ≡ Some schema → ((owner : List ℕ) → OwnsSchema c schema owner → ⊥) → (r : Right) → IsSystemRightOn c x r → ⊥
no_owner c x schema is none r h =
    let same : Some schema ≡ Some h.0.name = sym is ∙ own_schema h.0.name r.need x h.3.2 in
    let named : schema ≡ h.0.name = cc in
    none h.0.owner (subst (λ n. Contains c (item.Schema (record { name = n; owner = h.0.owner }))) (sym named) h.1)

pub to_owner : (c : List Item) (x : Item) (schema owner : List ℕ) → IsInOrder c → schema_of_object x ≡ Some schema → OwnsSchema c schema owner → (r : Right) → IsToOwner owner (IsRowOf c x) r ↔ IsSystemRightOn c x r
to_owner c x schema owner order is owns r = (
  λ h.
      let same : Some schema ≡ Some h.2.1.0 = sym is ∙ own_schema h.2.1.0 r.need x h.2.1.1 in
      let named : schema ≡ h.2.1.0 = cc in
      (record { name = schema; owner = owner }, owns, h.2.0, (h.0, h.1, subst (λ n. MayBeSystemRow n r.need x) (sym named) h.2.1.1)),
  λ h.
      let same : Some schema ≡ Some h.0.name = sym is ∙ own_schema h.0.name r.need x h.3.2 in
      let named : h.0.name ≡ schema = cc in
      (h.3.0, h.3.1 ∙ ap Named (one_owner c order h.0 schema owner h.1 named owns), (h.2, (h.0.name, h.3.2))),
)

-- all actions have been put in
pub actions_end : (old new : List Item) (owner : List ℕ) (on : Object) (column : Option (List ℕ)) (actions : List Action) (at : ℕ) → length actions ≤ at → IsAdded old new (OfSome actions 0 at (λ a. IsToOwner owner (IsOneAction on column a)))
    → IsAdded old new (IsToOwner owner (IsAction actions on column))
actions_end old new owner on column actions at all =
    added_same old new (OfSome actions 0 at (λ a. IsToOwner owner (IsOneAction on column a))) (IsToOwner owner (IsAction actions on column)) (λ r. (
      λ h. (h.2.0, h.2.1, (ap (λ (n : Need). n.on) h.2.2, ap (λ (n : Need). n.column) h.2.2, subst (Contains actions) (sym (ap (λ (n : Need). n.action) h.2.2)) (h.1.0, h.1.3, h.1.4))),
      λ h. (r.need.action, (h.2.2.0, omega arith, omega (arith, h.2.2.1, all), h.2.2.1, h.2.2.2), (h.0, h.1, λ i. record { action = r.need.action; on = h.2.0 i; column = h.2.1 i })),
    ))

column_of : (actions : List Action) (on : Object) (need : Need) (y : Item) → IsColumnAction actions on need y → IsColumnOf on y
column_of actions on need (item.Column k) h = h.0
column_of actions on need y h = absurd h

-- all columns have been put in
pub columns_end : (old new items : List Item) (owner : List ℕ) (on : Object) (actions : List Action) (from to at : ℕ) → IsRange items from to (IsColumnOf on) → to ≤ at
    → IsAdded old new (OfSome items from at (λ x. IsToOwner owner (λ need. IsColumnAction actions on need x))) → IsAdded old new (IsToOwner owner (λ need. Has items (IsColumnAction actions on need)))
columns_end old new items owner on actions from to at range all =
    added_same old new (OfSome items from at (λ x. IsToOwner owner (λ need. IsColumnAction actions on need x))) (IsToOwner owner (λ need. Has items (IsColumnAction actions on need))) (λ r. (
      λ h. (h.2.0, h.2.1, (h.0, (h.1.0, h.1.3, h.1.4), h.2.2)),
      λ h.
          let k : ℕ = h.2.1.0 in
          let between = range.outside k h.2.0 h.2.1.1 (subst (IsColumnOf on) (sym h.2.1.2) (column_of actions on r.need h.2.0 h.2.2)) in
          (h.2.0, (k, between.0, omega (arith, between.1, all), h.2.1.1, h.2.1.2), (h.0, h.1, h.2.2)),
    ))

-- one column
pub one_column : (old new : List Item) (owner : List ℕ) (on : Object) (actions : List Action) (x : Item) (name : List ℕ) → ((need : Need) → IsAction actions on (Some name) need ↔ IsColumnAction actions on need x)
    → IsAdded old new (IsToOwner owner (IsAction actions on (Some name))) → IsAdded old new (IsToOwner owner (λ need. IsColumnAction actions on need x))
one_column old new owner on actions x name same =
    added_same old new (IsToOwner owner (IsAction actions on (Some name))) (IsToOwner owner (λ need. IsColumnAction actions on need x)) (λ r. (λ h. (h.0, h.1, (same r.need).0 h.2), λ h. (h.0, h.1, (same r.need).1 h.2)))

-- the same said of needs
pub same_needs : (old new : List Item) (owner : List ℕ) (P Q : Need → Type 0) → ((need : Need) → P need ↔ Q need) → IsAdded old new (IsToOwner owner P) → IsAdded old new (IsToOwner owner Q)
same_needs old new owner P Q same = added_same old new (IsToOwner owner P) (IsToOwner owner Q) (λ r. (λ h. (h.0, h.1, (same r.need).0 h.2), λ h. (h.0, h.1, (same r.need).1 h.2)))

-- all objects have been put in
pub all_objects : (c new : List Item) (at : ℕ) → length c ≤ at → IsAdded [] new (OfSome c 0 at (IsSystemRightOn c)) → (x : Item) → Contains new x ↔ IsSystemRight c x
all_objects c new at all added x = (λ h. forth x ((added x).0 h), λ h. (added x).1 (inr (back x h)))
  where
    forth_right : (r : Right) → OfSome c 0 at (IsSystemRightOn c) r → MayBeSystemRight c r
    forth_right r h = (h.2.3.0, h.2.2, (item.Schema h.2.0, h.2.1, (h.2.3.1, (h.0, (h.1.0, h.1.3, h.1.4), h.2.3.2))))

    back_schema : (r : Right) → r.grantor ≡ System → HasColumn c r.need.on r.need.column → (y : Item) → Contains c y → MayBeSystemSchema c r y → OfSome c 0 at (IsSystemRightOn c) r
    back_schema r system column (item.Schema s) there h = (h.1.0, (h.1.1.0, omega arith, omega (arith, h.1.1.1, all), h.1.1.1, h.1.1.2), (s, there, column, (system, h.0, h.1.2)))
    back_schema r system column y there h = absurd h

    back_right : (r : Right) → MayBeSystemRight c r → OfSome c 0 at (IsSystemRightOn c) r
    back_right r h = back_schema r h.0 h.1 h.2.0 h.2.1 h.2.2

    where_right : (x : Item) → IsRightWhere (OfSome c 0 at (IsSystemRightOn c)) x → IsSystemRight c x
    where_right (item.Held r) p = forth_right r p
    where_right (item.Grantable r) p = forth_right r p
    where_right x p = absurd p

    forth : (x : Item) → Contains [] x ⊎ IsRightWhere (OfSome c 0 at (IsSystemRightOn c)) x → IsSystemRight c x
    forth x h = elim h [
      | inl none ↦ absurd (Contains-nil x none)
      | inr p ↦ where_right x p
    ]

    back : (x : Item) → IsSystemRight c x → IsRightWhere (OfSome c 0 at (IsSystemRightOn c)) x
    back (item.Held r) p = back_right r p
    back (item.Grantable r) p = back_right r p
    back x p = absurd p

pub column_rows : (actions : List Action) (on : Object) (x : Item) (k g : Column) → x ≡ item.Column k → g ≡ k → IsColumnOf on x → (need : Need) → IsAction actions on (Some g.name) need ↔ IsColumnAction actions on need x
column_rows actions on x k g is got of need =
    subst (λ z. IsAction actions on (Some g.name) need ↔ IsColumnAction actions on need z) (sym is)
    (subst (λ (q : Column). IsAction actions on (Some q.name) need ↔ IsColumnAction actions on need (item.Column k)) (sym got) (λ h. (subst (IsColumnOf on) is of, h), λ h. h.1))

-- the rights of the whole object, and then those of its columns
pub two_needs : (a b c : List Item) (owner : List ℕ) (P Q : Need → Type 0) → IsAdded a b (IsToOwner owner P) → IsAdded b c (IsToOwner owner Q) → IsAdded a c (IsToOwner owner (λ need. P need ⊎ Q need))
two_needs a b c owner P Q first second =
    added_same a c (λ r. IsToOwner owner P r ⊎ IsToOwner owner Q r) (IsToOwner owner (λ need. P need ⊎ Q need)) (λ r. (
      λ h. elim h [
        | inl p ↦ (p.0, p.1, inl p.2)
        | inr q ↦ (q.0, q.1, inr q.2)
      ],
      λ h. elim h.2 [
        | inl p ↦ inl (h.0, h.1, p)
        | inr q ↦ inr (h.0, h.1, q)
      ],
    )) (added_then a b c (IsToOwner owner P) (IsToOwner owner Q) first second)

abbrev AreOnTable : List Item → List Action → List Action → Object → Need → Type 0
AreOnTable c whole each on need = IsAction whole on None need ⊎ Has c (IsColumnAction each on need)

pub table_added : (c old new : List Item) (owner : List ℕ) (x : Item) (t : Object) → x ≡ item.Table t → IsAdded old new (IsToOwner owner (AreOnTable c (Select ∷ Insert ∷ Update ∷ References ∷ Delete ∷ []) (Select ∷ Insert ∷ Update ∷ References ∷ []) t)) → IsAdded old new (IsToOwner owner (IsRowOf c x))
table_added c old new owner x t is h = subst (λ z. IsAdded old new (IsToOwner owner (IsRowOf c z))) (sym is) (same_needs old new owner (AreOnTable c (Select ∷ Insert ∷ Update ∷ References ∷ Delete ∷ []) (Select ∷ Insert ∷ Update ∷ References ∷ []) t) (IsRowOf c (item.Table t)) (table_rows c t) h)

pub plain_added : (c old new : List Item) (owner : List ℕ) (x : Item) (v : View) (base : Object) → v.base ≡ Some base → x ≡ item.View v → IsAdded old new (IsToOwner owner (AreOnTable c (Select ∷ Insert ∷ Update ∷ Delete ∷ []) (Select ∷ Insert ∷ Update ∷ []) v.view)) → IsAdded old new (IsToOwner owner (IsRowOf c x))
plain_added c old new owner x v base plain is h = subst (λ z. IsAdded old new (IsToOwner owner (IsRowOf c z))) (sym is) (same_needs old new owner (AreOnTable c (Select ∷ Insert ∷ Update ∷ Delete ∷ []) (Select ∷ Insert ∷ Update ∷ []) v.view) (IsRowOf c (item.View v)) (plain_rows c v base plain) h)

pub view_added : (c old new : List Item) (owner : List ℕ) (x : Item) (v : View) → v.base ≡ None → x ≡ item.View v → IsAdded old new (IsToOwner owner (AreOnTable c (Select ∷ []) (Select ∷ []) v.view)) → IsAdded old new (IsToOwner owner (IsRowOf c x))
view_added c old new owner x v other is h = subst (λ z. IsAdded old new (IsToOwner owner (IsRowOf c z))) (sym is) (same_needs old new owner (AreOnTable c (Select ∷ []) (Select ∷ []) v.view) (IsRowOf c (item.View v)) (view_rows c v other) h)

pub domain_added : (c old new : List Item) (owner : List ℕ) (x : Item) (d : Domain) → x ≡ item.Domain d → IsAdded old new (IsToOwner owner (IsAction (Usage ∷ []) d.domain None)) → IsAdded old new (IsToOwner owner (IsRowOf c x))
domain_added c old new owner x d is h = subst (λ z. IsAdded old new (IsToOwner owner (IsRowOf c z))) (sym is) (same_needs old new owner (IsAction (Usage ∷ []) d.domain None) (IsRowOf c (item.Domain d)) (domain_rows c d) h)

pub routine_added : (c old new : List Item) (owner : List ℕ) (x : Item) (p : Routine) → x ≡ item.Routine p → IsAdded old new (IsToOwner owner (IsAction (Execute ∷ []) p.routine None)) → IsAdded old new (IsToOwner owner (IsRowOf c x))
routine_added c old new owner x p is h = subst (λ z. IsAdded old new (IsToOwner owner (IsRowOf c z))) (sym is) (same_needs old new owner (IsAction (Execute ∷ []) p.routine None) (IsRowOf c (item.Routine p)) (routine_rows c p) h)
