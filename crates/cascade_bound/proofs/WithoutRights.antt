-- What is asked for in a list, and what the system could grant for it, doesn't go by the rights that the list has.
use Rattle.std.proofs.Common.{◌⊎◌, inl, inr, List, [], ◌∷◌, Option, Some, None}
use Rattle.std.specs.Prelude.{ℕ}
use Rattle.std.specs.List.{Contains}
use Rattle.sql_names.specs.declared.object.Object.{Object}
use Rattle.sql_tree.specs.declared.rights.Action.{Action}
use Rattle.sql_tree.specs.declared.rights.Action.TheVariants as action
use Rattle.cat_items.specs.declared.need.Auth.{Auth}
use Rattle.cat_items.specs.declared.need.Auth.TheVariants.{System, Public, Named}
use Rattle.cat_items.specs.declared.need.Need.{Need}
use Rattle.cat_items.specs.declared.item.View.{View}
use Rattle.cat_items.specs.declared.item.Right.{Right}
use Rattle.cat_items.specs.declared.item.Item.{Item}
use Rattle.cat_items.specs.declared.item.Item.TheVariants as item
use Rattle.cat_items.specs.Fit.{IsRight}
use Rattle.cat_items.specs.Reach.{GrantsRole, Has, Leads, Reaches}
use Rattle.cat_items.specs.Relevant.{IsActor, IsOwnedSchema, Owns, OwnsPath, ActsInRight, HasUsage, IsBaseColumnNeed, IsViewNeed, IsObjectNeed, IsRightNeed, IsNeedOf}
use Rattle.cat_items.specs.Rights.{HasColumn, IsColumn}
use Rattle.cat_items.specs.Survivors.{IsSystemRight, MayBeSystemRight, MayBeSystemRow, MayBeSystemSchema}
use Rattle.cascade_laws.specs.Concerns.{Seeks}
use Rattle.cascade_laws.specs.Topics.{Topic}
use Rattle.cascade_laws.specs.Asks.{Asks, by_name, by_far, by_option, of_need, of_supply, of_edges, of_admins}

-- each item of c but rights is of u
module _ (c u : List Item) (inside : (y : Item) → Contains c y → Contains u y ⊎ IsRight y) where
  pub has_plain : (P : Item → Type 0) → ((y : Item) → IsRight y → P y → ⊥) → Has c P → Has u P
  has_plain P none h = elim (inside h.0 h.1) [ inl there ↦ (h.0, there, h.2) | inr right ↦ absurd (none h.0 right h.2) ]

  -- ---- what is reached

  no_grant : (role from : List ℕ) (y : Item) → IsRight y → GrantsRole role from y → ⊥
  no_grant role from (item.RoleAuth g) right is = right
  no_grant role from _ right is = is

  leads_plain : (from : List ℕ) (roles : List (List ℕ)) (to : List ℕ) → Leads c from roles to → Leads u from roles to
  leads_plain from [] to is = is
  leads_plain from (role ∷ roles) to is = (has_plain (GrantsRole role from) (no_grant role from) is.0, leads_plain role roles to is.1)

  reaches_plain : (a g : Auth) → Reaches c a g → Reaches u a g
  reaches_plain a Public is = is
  reaches_plain (Named from) (Named to) is = (is.0, leads_plain from is.0 to is.1)
  reaches_plain System System is = is
  reaches_plain System (Named to) is = absurd is
  reaches_plain Public (Named to) is = absurd is
  reaches_plain Public System is = absurd is
  reaches_plain (Named from) System is = absurd is

  -- ---- needs

  no_base_column : (v : View) (by : Action) (name : List ℕ) (need : Need) (y : Item) → IsRight y → IsBaseColumnNeed v by name need y → ⊥
  no_base_column v by name need (item.Column k) right is = right
  no_base_column v by name need _ right is = is

  view_need_plain : (v : View) (by : Action) (column : Option (List ℕ)) (need : Need) → IsViewNeed c v by column need → IsViewNeed u v by column need
  view_need_plain v action.Select column need is = is
  view_need_plain v action.Insert None need is = is
  view_need_plain v action.Update None need is = is
  view_need_plain v action.Delete None need is = is
  view_need_plain v action.Insert (Some name) need is = has_plain (IsBaseColumnNeed v action.Insert name need) (no_base_column v action.Insert name need) is
  view_need_plain v action.Update (Some name) need is = has_plain (IsBaseColumnNeed v action.Update name need) (no_base_column v action.Update name need) is
  view_need_plain v action.Delete (Some name) need is = absurd is
  view_need_plain v action.References column need is = absurd is
  view_need_plain v action.Usage column need is = absurd is
  view_need_plain v action.Execute column need is = absurd is
  view_need_plain v action.Admin column need is = absurd is

  no_object_need : (r : Right) (need : Need) (y : Item) → IsRight y → IsObjectNeed c r need y → ⊥
  no_object_need r need (item.View v) right is = right
  no_object_need r need (item.Routine z) right is = right
  no_object_need r need _ right is = is

  object_need_plain : (r : Right) (need : Need) (y : Item) → IsObjectNeed c r need y → IsObjectNeed u r need y
  object_need_plain r need (item.View v) is = (is.0, view_need_plain v r.need.action r.need.column need is.1)
  object_need_plain r need (item.Routine z) is = is
  object_need_plain r need _ is = absurd is

  object_needs : (r : Right) (need : Need) → Has c (IsObjectNeed c r need) → Has u (IsObjectNeed u r need)
  object_needs r need h = elim (inside h.0 h.1) [ inl there ↦ (h.0, there, object_need_plain r need h.0 h.2) | inr right ↦ absurd (no_object_need r need h.0 right h.2) ]

  right_need_plain : (r : Right) (a : Auth) (need : Need) → IsRightNeed c r a need → IsRightNeed u r a need
  right_need_plain r System need is = object_needs r need is
  right_need_plain r Public need is = is
  right_need_plain r (Named name) need is = is

  no_usage : (table : Object) (need : Need) (y : Item) → IsRight y → HasUsage table need y → ⊥
  no_usage table need (item.Column k) right is = right
  no_usage table need _ right is = is

  need_plain : (x : Item) (need : Need) → IsNeedOf c x need → IsNeedOf u x need
  need_plain (item.Table t) need is = has_plain (HasUsage t need) (no_usage t need) is
  need_plain (item.View v) need is = is
  need_plain (item.Column k) need is = is
  need_plain (item.DomainCheck d) need is = is
  need_plain (item.Foreign f) need is = is
  need_plain (item.Check k) need is = is
  need_plain (item.Assertion z) need is = is
  need_plain (item.Routine r) need is = is
  need_plain (item.Held r) need is = right_need_plain r r.grantor need is
  need_plain (item.Grantable r) need is = right_need_plain r r.grantor need is
  need_plain _ need is = absurd is

  -- ---- actors

  no_owned : (name : List ℕ) (a : Auth) (y : Item) → IsRight y → IsOwnedSchema name a y → ⊥
  no_owned name a (item.Schema z) right is = right
  no_owned name a _ right is = is

  owns_plain : (name : List ℕ) (a : Auth) → Owns c name a → Owns u name a
  owns_plain name a is = has_plain (IsOwnedSchema name a) (no_owned name a) is

  owns_path_plain : (path : List (List ℕ)) (a : Auth) → OwnsPath c path a → OwnsPath u path a
  owns_path_plain [] a is = is
  owns_path_plain (name ∷ names) a is = owns_plain name a is

  in_right_plain : (r : Right) (by a : Auth) → ActsInRight c r by a → ActsInRight u r by a
  in_right_plain r System a is = owns_path_plain r.need.on a is
  in_right_plain r Public a is = is
  in_right_plain r (Named name) a is = is

  actor_plain : (x : Item) (a : Auth) → IsActor c x a → IsActor u x a
  actor_plain (item.Table t) a is = owns_plain t.schema a is
  actor_plain (item.View v) a is = owns_plain v.view.schema a is
  actor_plain (item.Column k) a is = owns_plain k.table.schema a is
  actor_plain (item.Domain d) a is = owns_plain d.domain.schema a is
  actor_plain (item.DomainCheck d) a is = owns_plain d.name.schema a is
  actor_plain (item.Key k) a is = owns_plain k.name.schema a is
  actor_plain (item.Foreign f) a is = owns_plain f.name.schema a is
  actor_plain (item.Check k) a is = owns_plain k.name.schema a is
  actor_plain (item.Assertion z) a is = owns_plain z.name.schema a is
  actor_plain (item.Routine r) a is = owns_plain r.routine.schema a is
  actor_plain (item.RoleAuth g) a is = is
  actor_plain (item.RoleAdmin g) a is = is
  actor_plain (item.Held r) a is = in_right_plain r r.grantor a is
  actor_plain (item.Grantable r) a is = in_right_plain r r.grantor a is
  actor_plain _ a is = absurd is

  seeks_plain : (x : Item) (a : Auth) → Seeks c x a → Seeks u x a
  seeks_plain x a (acts, inl sought) = (actor_plain x a acts, inl (sought.0, need_plain x sought.0 sought.1))
  seeks_plain x a (acts, inr grants) = (actor_plain x a acts, inr grants)

  -- ---- topics, and rights by the system

  pub asks_plain : (x : Item) (t : Topic) → Asks c x t → Asks u x t
  asks_plain x t (by_name e) = by_name e
  asks_plain x t (by_far e) = by_far e
  asks_plain x t (by_option e) = by_option e
  asks_plain x t (of_need need sought e) = of_need need (need_plain x need sought) e
  asks_plain x t (of_supply need a g sought acts way e) = of_supply need a g (need_plain x need sought) (actor_plain x a acts) (reaches_plain a g way) e
  asks_plain x t (of_edges a name seeks way e) = of_edges a name (seeks_plain x a seeks) (reaches_plain a (Named name) way) e
  asks_plain x t (of_admins a role name grants acts way e) = of_admins a role name grants (actor_plain x a acts) (reaches_plain a (Named name) way) e

  no_column : (path : List (List ℕ)) (name : List ℕ) (y : Item) → IsRight y → IsColumn path name y → ⊥
  no_column path name (item.Column k) right is = right
  no_column path name _ right is = is

  pub column_plain : (path : List (List ℕ)) (column : Option (List ℕ)) → HasColumn c path column → HasColumn u path column
  column_plain path None is = is
  column_plain path (Some name) is = has_plain (IsColumn path name) (no_column path name) is

  no_row : (schema : List ℕ) (need : Need) (y : Item) → IsRight y → MayBeSystemRow schema need y → ⊥
  no_row schema need (item.Table o) right is = right
  no_row schema need (item.View v) right is = right
  no_row schema need (item.Domain d) right is = right
  no_row schema need (item.Routine z) right is = right
  no_row schema need _ right is = is

  schema_plain : (r : Right) (y : Item) → Contains c y → MayBeSystemSchema c r y → Has u (MayBeSystemSchema u r)
  schema_plain r (item.Schema z) h is = elim (inside (item.Schema z) h) [
    | inl there ↦ (item.Schema z, there, (is.0, has_plain (MayBeSystemRow z.name r.need) (no_row z.name r.need) is.1))
    | inr right ↦ absurd right
  ]
  schema_plain r _ h is = absurd is

  right_plain : (r : Right) → MayBeSystemRight c r → MayBeSystemRight u r
  right_plain r is = (is.0, column_plain r.need.on r.need.column is.1, schema_plain r is.2.0 is.2.1 is.2.2)

  pub possible_plain : (x : Item) → IsSystemRight c x → IsSystemRight u x
  possible_plain (item.Held r) is = right_plain r is
  possible_plain (item.Grantable r) is = right_plain r is
  possible_plain _ is = absurd is
