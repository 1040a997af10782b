-- The needs that an item looks for, by itself and by way of others.
use Rattle.std.proofs.Common.{◌≡◌, ◌↔◌, ◌⊎◌, inl, inr, ℕ, List, Option, Some, None, ◌-◌, refl, sym, ap, subst, ◌∙◌}
use Rattle.std.specs.List.{Contains, slice_get}
use Rattle.sql_names.specs.declared.object.Object.{Object}
use Rattle.sql_tree.specs.declared.rights.Action.{Action}
use Rattle.sql_tree.specs.declared.rights.Action.TheVariants.{Select, Insert, Update, Delete, References, Usage, Execute, Admin}
use Rattle.cat_items.specs.declared.need.Auth.{Auth}
use Rattle.cat_items.specs.declared.need.Auth.TheVariants.{System, Public, Named}
use Rattle.cat_items.specs.declared.need.Need.{Need}
use Rattle.cat_items.specs.declared.item.Column.{Column}
use Rattle.cat_items.specs.declared.item.View.{View}
use Rattle.cat_items.specs.declared.item.Right.{Right}
use Rattle.cat_items.specs.declared.item.Item.{Item}
use Rattle.cat_items.specs.declared.item.Item.TheVariants as item
use Rattle.cat_items.specs.Ranges.{IsRoutineOf, IsView}
use Rattle.cat_items.specs.Reach.{Has}
use Rattle.cat_items.specs.Relevant.{HasUsage, IsBaseColumnNeed, IsBaseNeed, IsNeedOf, IsNeedOnColumn, IsObjectNeed, IsRightNeed, IsViewNeed}
use Rattle.cat_items.specs.Rights.{path_of, execute}
use Rattle.cat_items.specs.Shape.{IsColumnOf}
use Rattle.cascade_laws.specs.Topics.{IsOwnNeed, IsOwnRightNeed, IsUpdateNeed, IsUpdateNeedOn}
use Rattle.topic_keys.specs.Lists.{Gets}
use Rattle.topic_keys.proofs.Adding.{gets_alike}
use Rattle.topic_lists.specs.Needs.{IsCarriedBy, IsFarNeed, IsFarNeedOn, IsFarRightNeed, IsNeedBehind, IsUpdateNeedBy}

one_object : (a b : Object) → a.schema ≡ b.schema → a.name ≡ b.name → a ≡ b
one_object a b e f = λ i. record { schema = e i; name = f i }

same_path : (a b : Object) → path_of a ≡ path_of b → a ≡ b
same_path a b e = one_object a b (cc) (cc)

-- ---- by way of columns

pub behind_column : (v : View) (action : Action) (name : List ℕ) (need : Need) (y : Item) → (IsColumnOf v.view y × IsNeedBehind v action name y need) ↔ IsBaseColumnNeed v action name need y
behind_column v action name need (item.Column c) = (λ h. (h.0, h.1.0, h.1.1), λ h. (h.0, (h.1, h.2)))
behind_column v action name need y = (λ h. absurd h.1, λ h. absurd h)

-- the column behind this one
pub behind_this : (v : View) (action : Action) (name other : List ℕ) (c : Column) → c.name ≡ name → slice_get v.base_columns (c.place - 1) ≡ Some other → (need : Need) → IsBaseNeed action v.base (Some other) need ↔ IsNeedBehind v action name (item.Column c) need
behind_this v action name other c same at need = subst (λ (found : Option (List ℕ)). IsBaseNeed action v.base (Some other) need ↔ ((c.name ≡ name) × IsNeedOnColumn action v.base found need)) (sym at) (λ h. (same, h), λ h. h.1)

pub usage_of_column : (table : Object) (need : Need) (y : Item) → (IsColumnOf table y × IsCarriedBy y need) ↔ HasUsage table need y
usage_of_column table need (item.Column c) = (λ h. h, λ h. h)
usage_of_column table need y = (λ h. absurd h.0, λ h. absurd h)

-- ---- by way of a view or a routine

module _ (o : Object) (by : Need) (at : path_of o ≡ by.on) where
  there : (p : Object) → p ≡ o → by.on ≡ path_of p
  there p e = sym at ∙ ap path_of (sym e)

  from_there : (p : Object) → by.on ≡ path_of p → p ≡ o
  from_there p e = same_path p o (sym e ∙ sym at)

  pub update_of_view : (l : List Item) (r : Right) → r.need ≡ by → (need : Need) (y : Item) → (IsView o y × IsUpdateNeedBy l by y need) ↔ IsUpdateNeedOn l r need y
  update_of_view l r is need (item.View v) =
      subst (λ n. ((v.view ≡ o) × IsUpdateNeed l v by.action by.column need) ↔ ((n.on ≡ path_of v.view) × IsUpdateNeed l v n.action n.column need)) (sym is)
      (λ h. (there v.view h.0, h.1), λ h. (from_there v.view h.0, h.1))
  update_of_view l r is need y = (λ h. absurd h.0, λ h. absurd h)

  pub far_of_view : by.action ≡ Select → (need : Need) (y : Item) → (IsView o y × IsCarriedBy y need) ↔ IsFarNeedOn by need y
  far_of_view select need (item.View v) = (λ h. (there v.view h.0, select, h.1), λ h. (from_there v.view h.0, h.2))
  far_of_view select need (item.Routine r) = (λ h. absurd h.0, λ h. absurd (let odd : Select ≡ Execute = sym select ∙ ap (λ (n : Need). n.action) h.0 in cc))
  far_of_view select need y = (λ h. absurd h.0, λ h. absurd h)

  is_execute : by.action ≡ Execute → by.column ≡ None → (p : Object) → p ≡ o → by ≡ execute p
  is_execute action column p e = λ i. record { action = action i; on = there p e i; column = column i }

  pub far_of_routine : by.action ≡ Execute → by.column ≡ None → (need : Need) (y : Item) → (IsRoutineOf o y × IsCarriedBy y need) ↔ IsFarNeedOn by need y
  far_of_routine action column need (item.Routine r) = (λ h. (is_execute action column r.routine h.0, h.1), λ h. (from_there r.routine (ap (λ (n : Need). n.on) h.0), h.1))
  far_of_routine action column need (item.View v) = (λ h. absurd h.0, λ h. absurd (let odd : Execute ≡ Select = sym action ∙ h.1 in cc))
  far_of_routine action column need y = (λ h. absurd h.0, λ h. absurd h)

-- by way of some item, said in another way
pub gets_members : (l : List Item) (P Q : Need → Item → Type 0) → ((need : Need) (y : Item) → P need y ↔ Q need y) → (old new : List Need) → Gets (λ need. Has l (P need)) old new → Gets (λ need. Has l (Q need)) old new
gets_members l P Q same old new gets =
    gets_alike (λ need. Has l (P need)) (λ need. Has l (Q need)) old new (λ need. (λ h. (h.0, h.1, (same need h.0).0 h.2), λ h. (h.0, h.1, (same need h.0).1 h.2))) gets

-- ---- all needs

only : {A B : Type 0} → (B → ⊥) → A ↔ (A ⊎ B)
only none = (λ h. inl h, λ h. elim h [ inl a ↦ a | inr b ↦ absurd (none b) ])

view_needs : (l : List Item) (v : View) (action : Action) (column : Option (List ℕ)) (need : Need) → IsViewNeed l v action column need ↔ (IsUpdateNeed l v action column need ⊎ ((action ≡ Select) × Contains v.needs need))
view_needs l v Select column need = (λ h. inr (refl, h), λ h. elim h [ inl odd ↦ absurd odd | inr far ↦ far.1 ])
view_needs l v Insert None need = only (λ far. let odd : Insert ≡ Select = far.0 in cc)
view_needs l v Update None need = only (λ far. let odd : Update ≡ Select = far.0 in cc)
view_needs l v Delete None need = only (λ far. let odd : Delete ≡ Select = far.0 in cc)
view_needs l v Insert (Some name) need = only (λ far. let odd : Insert ≡ Select = far.0 in cc)
view_needs l v Update (Some name) need = only (λ far. let odd : Update ≡ Select = far.0 in cc)
view_needs l v Delete (Some name) need = only (λ far. let odd : Delete ≡ Select = far.0 in cc)
view_needs l v References column need = only (λ far. let odd : References ≡ Select = far.0 in cc)
view_needs l v Usage column need = only (λ far. let odd : Usage ≡ Select = far.0 in cc)
view_needs l v Execute column need = only (λ far. let odd : Execute ≡ Select = far.0 in cc)
view_needs l v Admin column need = only (λ far. let odd : Admin ≡ Select = far.0 in cc)

object_needs : (l : List Item) (r : Right) (need : Need) (y : Item) → IsObjectNeed l r need y ↔ (IsUpdateNeedOn l r need y ⊎ IsFarNeedOn r.need need y)
object_needs l r need (item.View v) = (
  λ h. elim ((view_needs l v r.need.action r.need.column need).0 h.1) [ inl own ↦ inl (h.0, own) | inr far ↦ inr (h.0, far.0, far.1) ],
  λ h. elim h [ inl own ↦ (own.0, (view_needs l v r.need.action r.need.column need).1 (inl own.1)) | inr far ↦ (far.0, (view_needs l v r.need.action r.need.column need).1 (inr (far.1, far.2))) ],
)
object_needs l r need (item.Routine x) = (λ h. inr h, λ h. elim h [ inl odd ↦ absurd odd | inr far ↦ far ])
object_needs l r need y = only (λ odd. odd)

right_needs : (l : List Item) (r : Right) (grantor : Auth) (need : Need) → IsRightNeed l r grantor need ↔ (IsOwnRightNeed l r grantor need ⊎ IsFarRightNeed l r grantor need)
right_needs l r System need = (
  λ h. elim ((object_needs l r need h.0).0 h.2) [ inl own ↦ inl (h.0, h.1, own) | inr far ↦ inr (h.0, h.1, far) ],
  λ h. elim h [ inl own ↦ (own.0, own.1, (object_needs l r need own.0).1 (inl own.2)) | inr far ↦ (far.0, far.1, (object_needs l r need far.0).1 (inr far.2)) ],
)
right_needs l r Public need = only (λ odd. odd)
right_needs l r (Named name) need = only (λ odd. odd)

-- by itself, or by way of others
pub all_needs : (l : List Item) (x : Item) (need : Need) → IsNeedOf l x need ↔ (IsOwnNeed l x need ⊎ IsFarNeed l x need)
all_needs l (item.Table t) need = (λ h. inr h, λ h. elim h [ inl odd ↦ absurd odd | inr far ↦ far ])
all_needs l (item.Held r) need = right_needs l r r.grantor need
all_needs l (item.Grantable r) need = right_needs l r r.grantor need
all_needs l x need = only (λ odd. odd)
