-- What is no suspect is supported alike before and after an edit, and of the rights that the system could grant for the edited catalogue
-- it could grant before those that are no suspects.
use Rattle.std.proofs.Common.{◌≡◌, ◌⊎◌, inl, inr, List, Option, Some, None, ap, sym, refl, subst, ◌∙◌}
use Rattle.std.specs.Prelude.{ℕ, ◌↔◌}
use Rattle.std.specs.List.{Contains}
use Rattle.sql_names.specs.declared.object.Object.{Object}
use Rattle.cat_items.specs.declared.item.Right.{Right}
use Rattle.cat_items.specs.declared.item.Item.{Item}
use Rattle.cat_items.specs.declared.item.Item.TheVariants as item
use Rattle.cat_items.specs.declared.edit.Edit.{Edit}
use Rattle.cat_items.specs.Reach.{Has}
use Rattle.cat_items.specs.Rights.{IsColumn, HasColumn}
use Rattle.cat_items.specs.Supported.{Keeps, Supported}
use Rattle.cat_items.specs.Survivors.{MayBeSystemRow, MayBeSystemSchema, MayBeSystemRight, IsSystemRight}
use Rattle.cat_items.specs.Edits.{IsEdited}
use Rattle.cat_items.specs.Shape.{IsColumnOf}
use Rattle.cat_items.specs.Relevant.{Relevant, Names, IsFirstSchema}
use Rattle.cat_items.specs.Relevant as relevant
use Rattle.cat_items.specs.Bound.{IsSpokenOf, IsSuspect, of_target, of_changed, of_added, spread}
use Rattle.cascade_laws.proofs.Spread.{row_object, first_schema}

is_column : (s : List Item) (table : Object) (y : Item) → Keeps s table y → IsColumnOf table y
is_column s table (item.Column k) is = is.0
is_column s table _ is = absurd is

-- ---- support looks at the list of which a table's columns are in the row of tables alone

-- where each column of a table that is in a is in b, what supports an item in a supports it in b
pub supported_among : (a b s : List Item) (x : Item) → ((t : Object) → x ≡ item.Table t → (k : Item) → Contains a k → IsColumnOf t k → Contains b k) → Supported a s x → Supported b s x
supported_among a b s (item.Table t) f is = (is.0, (is.1.0, f t refl is.1.0 is.1.1 (is_column s t is.1.0 is.1.2), is.1.2))
supported_among a b s (item.User n) f is = is
supported_among a b s (item.Role n) f is = is
supported_among a b s (item.Schema z) f is = is
supported_among a b s (item.View v) f is = is
supported_among a b s (item.Column k) f is = is
supported_among a b s (item.Domain d) f is = is
supported_among a b s (item.DomainCheck d) f is = is
supported_among a b s (item.Key k) f is = is
supported_among a b s (item.Foreign k) f is = is
supported_among a b s (item.Check k) f is = is
supported_among a b s (item.Assertion z) f is = is
supported_among a b s (item.Routine r) f is = is
supported_among a b s (item.RoleAuth g) f is = is
supported_among a b s (item.RoleAdmin g) f is = is
supported_among a b s (item.Held r) f is = is
supported_among a b s (item.Grantable r) f is = is

-- ---- the system's rights

-- a right that the system could grant for the objects of the edited catalogue either could be granted before, or its object, its column or
-- its schema is added
abbrev pub HasAddedPart : Edit → Right → Type 0
HasAddedPart edit r = (y : Item) × Contains edit.added y × relevant.RightNames r y

pub column_of_need : (r : Right) (name : List ℕ) → r.need.column ≡ Some name → (y : Item) → IsColumn r.need.on name y → relevant.IsColumnOfNeed r.need y
column_of_need r name e (item.Column k) is = (is.0, e ∙ ap Some (sym is.1))
column_of_need r name e _ is = absurd is

old_or_added : (c : List Item) (edit : Edit) (edited : List Item) → IsEdited c edit edited → (y : Item) → Contains edited y → Contains c y ⊎ Contains edit.added y
old_or_added c edit edited is y h = elim ((is.members y).0 h) [ inl old ↦ inl old.0 | inr added ↦ inr added ]

module _ (c : List Item) (edit : Edit) (edited : List Item) (is_edited : IsEdited c edit edited) (r : Right) where
  column_before : (column : Option (List ℕ)) → r.need.column ≡ column → HasColumn edited r.need.on column → HasColumn c r.need.on column ⊎ HasAddedPart edit r
  column_before None e h = inl tt
  column_before (Some name) e h =
      elim (old_or_added c edit edited is_edited h.0 h.1) [
        | inl old ↦ inl (h.0, old, h.2)
        | inr added ↦ inr (h.0, added, inl (inr (column_of_need r name e h.0 h.2)))
      ]

  row_before : (name : List ℕ) → Has edited (MayBeSystemRow name r.need) → Has c (MayBeSystemRow name r.need) ⊎ HasAddedPart edit r
  row_before name h =
      elim (old_or_added c edit edited is_edited h.0 h.1) [
        | inl old ↦ inl (h.0, old, h.2)
        | inr added ↦ inr (h.0, added, inl (inl (row_object name r.need h.0 h.2).0))
      ]

  schema_before : Has edited (MayBeSystemSchema edited r) → Has c (MayBeSystemSchema c r) ⊎ HasAddedPart edit r
  schema_before h = by h.0 h.1 h.2
    where
      by : (z : Item) → Contains edited z → MayBeSystemSchema edited r z → Has c (MayBeSystemSchema c r) ⊎ HasAddedPart edit r
      by (item.Schema z) inside is =
          elim (row_before z.name is.1) [
            | inr part ↦ inr part
            | inl row ↦ (elim (old_or_added c edit edited is_edited (item.Schema z) inside) [
              | inl old ↦ inl (item.Schema z, old, (is.0, row))
              | inr added ↦ inr (item.Schema z, added, inr (inl (first_schema r.need.on z.name (item.Schema z) (row_object z.name r.need row.0 row.2).1 refl)))
            ])
          ]
      by _ inside is = absurd is

  pub right_before : MayBeSystemRight edited r → MayBeSystemRight c r ⊎ HasAddedPart edit r
  right_before is =
      elim (column_before r.need.column refl is.1) [
        | inr part ↦ inr part
        | inl column ↦ (elim (schema_before is.2) [
          | inr part ↦ inr part
          | inl place ↦ inl (is.0, column, place)
        ])
      ]

-- the item is a right, and names this
NamesAsRight : Item → Right → Type 0
NamesAsRight x r = (y : Item) → relevant.RightNames r y → Names x y

possible_before : (c : List Item) (edit : Edit) (edited : List Item) → IsEdited c edit edited → (x : Item) → IsSystemRight edited x → IsSystemRight c x ⊎ ((y : Item) × Contains edit.added y × Names x y)
possible_before c edit edited is_edited (item.Held r) is = right_before c edit edited is_edited r is
possible_before c edit edited is_edited (item.Grantable r) is = right_before c edit edited is_edited r is
possible_before c edit edited is_edited _ is = absurd is

-- rights by the system are stable: one that isn't a suspect could be granted before
pub system_rights_are_stable : (u c : List Item) (edit : Edit) (edited : List Item) → IsEdited c edit edited → ((y : Item) → Contains u y ↔ IsSpokenOf c edit edited y) → (x : Item) → IsSystemRight edited x → (¬ (IsSuspect u edit x)) → IsSystemRight c x
system_rights_are_stable u c edit edited is_edited all x is clear =
    elim (possible_before c edit edited is_edited x is) [
      | inl before ↦ before
      | inr part ↦ absurd (clear (spread part.0 x (of_added part.0 part.1) ((all part.0).1 (inr (inl part.1))) ((all x).1 (inr (inr is))) (relevant.named part.2)))
    ]

-- support is stable: an item that isn't a suspect is supported alike. It can be decided what the target and the changed items have.
module _ (u c : List Item) (edit : Edit) (edited : List Item) (is_edited : IsEdited c edit edited) (all : (y : Item) → Contains u y ↔ IsSpokenOf c edit edited y)
    (in_target : (y : Item) → Contains edit.target y ⊎ (¬ (Contains edit.target y))) (in_changed : (y : Item) → Contains edit.changed y ⊎ (¬ (Contains edit.changed y))) where
  column_relevant : (t : Object) (k : Item) → IsColumnOf t k → Relevant u k (item.Table t)
  column_relevant t k is = relevant.named (inr is)

  -- u has the table, and a column that is a suspect makes the table one
  module _ (x : Item) (in_u : Contains u x) (clear : ¬ (IsSuspect u edit x)) where
    not_suspect : (k : Item) → IsSuspect u edit k → Contains u k → Relevant u k x → ⊥
    not_suspect k s h r = clear (spread k x s h in_u r)

    column_after : (t : Object) → x ≡ item.Table t → (k : Item) → Contains c k → IsColumnOf t k → Contains edited k
    column_after t e k h is =
        let in_k : Contains u k = (all k).1 (inl h) in
        let r : Relevant u k x = subst (Relevant u k) (sym e) (column_relevant t k is) in
        elim (in_target k) [
          | inl gone ↦ absurd (not_suspect k (of_target k gone) in_k r)
          | inr stays ↦ (elim (in_changed k) [
            | inl gone ↦ absurd (not_suspect k (of_changed k gone) in_k r)
            | inr same ↦ (is_edited.members k).1 (inl (h, stays, same))
          ])
        ]

    column_before_edit : (t : Object) → x ≡ item.Table t → (k : Item) → Contains edited k → IsColumnOf t k → Contains c k
    column_before_edit t e k h is =
        elim (old_or_added c edit edited is_edited k h) [
          | inl old ↦ old
          | inr added ↦ absurd (not_suspect k (of_added k added) ((all k).1 (inr (inl added))) (subst (Relevant u k) (sym e) (column_relevant t k is)))
        ]

    pub support_is_stable : (s : List Item) → Supported c s x ↔ Supported edited s x
    support_is_stable s = (supported_among c edited s x column_after, supported_among edited c s x column_before_edit)
