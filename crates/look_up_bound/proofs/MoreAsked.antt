-- What is asked for in a list is asked for in a larger one, and what an item depends on it asks for.
use Rattle.std.proofs.Common.{inl, inr, List, [], ◌∷◌, Option, Some, None}
use Rattle.std.specs.Prelude.{ℕ}
use Rattle.finite_chains.specs.Chains.{IsWithin}
use Rattle.sql_tree.specs.declared.rights.Action.{Action}
use Rattle.sql_tree.specs.declared.rights.Action.TheVariants as action
use Rattle.cat_items.specs.declared.need.Auth.{Auth}
use Rattle.cat_items.specs.declared.need.Auth.TheVariants.{System, Public, Named}
use Rattle.cat_items.specs.declared.need.Need.{Need}
use Rattle.cat_items.specs.declared.item.View.{View}
use Rattle.cat_items.specs.declared.item.Right.{Right}
use Rattle.cat_items.specs.declared.item.Item.{Item}
use Rattle.cat_items.specs.declared.item.Item.TheVariants as item
use Rattle.cat_items.specs.Relevant.{IsActor, IsOwnedSchema, Owns, OwnsPath, ActsInRight, HasUsage, IsBaseColumnNeed, IsViewNeed, IsObjectNeed, IsRightNeed, IsNeedOf}
use Rattle.support_laws.proofs.Monotone.{has_more, has_some, reaches_more}
use Rattle.cascade_laws.specs.Concerns.{Seeks}
use Rattle.cascade_laws.specs.Topics.{Topic, IsGrantOf, IsUpdateNeed, IsUpdateNeedOn, IsOwnRightNeed, IsOwnNeed, DependsOn}
use Rattle.cascade_laws.specs.Topics as on
use Rattle.cascade_laws.specs.Asks.{Asks, by_name, by_far, by_option, of_need, of_supply, of_edges, of_admins}

module _ (c u : List Item) (within : IsWithin c u) where
  view_need_more : (v : View) (by : Action) (column : Option (List ℕ)) (need : Need) → IsViewNeed c v by column need → IsViewNeed u v by column need
  view_need_more v action.Select column need is = is
  view_need_more v action.Insert None need is = is
  view_need_more v action.Update None need is = is
  view_need_more v action.Delete None need is = is
  view_need_more v action.Insert (Some name) need is = has_more c u within (IsBaseColumnNeed v action.Insert name need) is
  view_need_more v action.Update (Some name) need is = has_more c u within (IsBaseColumnNeed v action.Update name need) is
  view_need_more v action.Delete (Some name) need is = absurd is
  view_need_more v action.References column need is = absurd is
  view_need_more v action.Usage column need is = absurd is
  view_need_more v action.Execute column need is = absurd is
  view_need_more v action.Admin column need is = absurd is

  object_need_more : (r : Right) (need : Need) (y : Item) → IsObjectNeed c r need y → IsObjectNeed u r need y
  object_need_more r need (item.View v) is = (is.0, view_need_more v r.need.action r.need.column need is.1)
  object_need_more r need (item.Routine z) is = is
  object_need_more r need _ is = absurd is

  right_need_more : (r : Right) (a : Auth) (need : Need) → IsRightNeed c r a need → IsRightNeed u r a need
  right_need_more r System need is = has_some c u (IsObjectNeed c r need) (IsObjectNeed u r need) within (object_need_more r need) is
  right_need_more r Public need is = is
  right_need_more r (Named name) need is = is

  need_more : (x : Item) (need : Need) → IsNeedOf c x need → IsNeedOf u x need
  need_more (item.Table t) need is = has_more c u within (HasUsage t need) is
  need_more (item.View v) need is = is
  need_more (item.Column k) need is = is
  need_more (item.DomainCheck d) need is = is
  need_more (item.Foreign f) need is = is
  need_more (item.Check k) need is = is
  need_more (item.Assertion z) need is = is
  need_more (item.Routine r) need is = is
  need_more (item.Held r) need is = right_need_more r r.grantor need is
  need_more (item.Grantable r) need is = right_need_more r r.grantor need is
  need_more _ need is = absurd is

  owns_more : (name : List ℕ) (a : Auth) → Owns c name a → Owns u name a
  owns_more name a is = has_more c u within (IsOwnedSchema name a) is

  owns_path_more : (path : List (List ℕ)) (a : Auth) → OwnsPath c path a → OwnsPath u path a
  owns_path_more [] a is = is
  owns_path_more (name ∷ names) a is = owns_more name a is

  in_right_more : (r : Right) (by a : Auth) → ActsInRight c r by a → ActsInRight u r by a
  in_right_more r System a is = owns_path_more r.need.on a is
  in_right_more r Public a is = is
  in_right_more r (Named name) a is = is

  actor_more : (x : Item) (a : Auth) → IsActor c x a → IsActor u x a
  actor_more (item.Table t) a is = owns_more t.schema a is
  actor_more (item.View v) a is = owns_more v.view.schema a is
  actor_more (item.Column k) a is = owns_more k.table.schema a is
  actor_more (item.Domain d) a is = owns_more d.domain.schema a is
  actor_more (item.DomainCheck d) a is = owns_more d.name.schema a is
  actor_more (item.Key k) a is = owns_more k.name.schema a is
  actor_more (item.Foreign f) a is = owns_more f.name.schema a is
  actor_more (item.Check k) a is = owns_more k.name.schema a is
  actor_more (item.Assertion z) a is = owns_more z.name.schema a is
  actor_more (item.Routine r) a is = owns_more r.routine.schema a is
  actor_more (item.RoleAuth g) a is = is
  actor_more (item.RoleAdmin g) a is = is
  actor_more (item.Held r) a is = in_right_more r r.grantor a is
  actor_more (item.Grantable r) a is = in_right_more r r.grantor a is
  actor_more _ a is = absurd is

  seeks_more : (x : Item) (a : Auth) → Seeks c x a → Seeks u x a
  seeks_more x a (acts, inl sought) = (actor_more x a acts, inl (sought.0, need_more x sought.0 sought.1))
  seeks_more x a (acts, inr grants) = (actor_more x a acts, inr grants)

  pub asks_more : (x : Item) (t : Topic) → Asks c x t → Asks u x t
  asks_more x t (by_name e) = by_name e
  asks_more x t (by_far e) = by_far e
  asks_more x t (by_option e) = by_option e
  asks_more x t (of_need need sought e) = of_need need (need_more x need sought) e
  asks_more x t (of_supply need a g sought acts way e) = of_supply need a g (need_more x need sought) (actor_more x a acts) (reaches_more c u within a g way) e
  asks_more x t (of_edges a name seeks way e) = of_edges a name (seeks_more x a seeks) (reaches_more c u within a (Named name) way) e
  asks_more x t (of_admins a role name grants acts way e) = of_admins a role name grants (actor_more x a acts) (reaches_more c u within a (Named name) way) e

-- ---- what an item depends on

module _ (c : List Item) where
  update_is_need : (v : View) (by : Action) (column : Option (List ℕ)) (need : Need) → IsUpdateNeed c v by column need → IsViewNeed c v by column need
  update_is_need v action.Insert None need is = is
  update_is_need v action.Update None need is = is
  update_is_need v action.Delete None need is = is
  update_is_need v action.Insert (Some name) need is = is
  update_is_need v action.Update (Some name) need is = is
  update_is_need v action.Delete (Some name) need is = absurd is
  update_is_need v action.Select column need is = absurd is
  update_is_need v action.References column need is = absurd is
  update_is_need v action.Usage column need is = absurd is
  update_is_need v action.Execute column need is = absurd is
  update_is_need v action.Admin column need is = absurd is

  update_is_object_need : (r : Right) (need : Need) (y : Item) → IsUpdateNeedOn c r need y → IsObjectNeed c r need y
  update_is_object_need r need (item.View v) is = (is.0, update_is_need v r.need.action r.need.column need is.1)
  update_is_object_need r need _ is = absurd is

  own_is_right_need : (r : Right) (a : Auth) (need : Need) → IsOwnRightNeed c r a need → IsRightNeed c r a need
  own_is_right_need r System need is = (is.0, is.1, update_is_object_need r need is.0 is.2)
  own_is_right_need r Public need is = is
  own_is_right_need r (Named name) need is = is

  own_is_need : (x : Item) (need : Need) → IsOwnNeed c x need → IsNeedOf c x need
  own_is_need (item.View v) need is = is
  own_is_need (item.Column k) need is = is
  own_is_need (item.DomainCheck d) need is = is
  own_is_need (item.Foreign f) need is = is
  own_is_need (item.Check k) need is = is
  own_is_need (item.Assertion z) need is = is
  own_is_need (item.Routine r) need is = is
  own_is_need (item.Held r) need is = own_is_right_need r r.grantor need is
  own_is_need (item.Grantable r) need is = own_is_right_need r r.grantor need is
  own_is_need _ need is = absurd is

  pub depends_asks : (x : Item) (t : Topic) → DependsOn c x t → Asks c x t
  depends_asks x t (on.by_name e) = by_name e
  depends_asks x t (on.by_option e) = by_option e
  depends_asks x t (on.of_need need own e) = of_need need (own_is_need x need own) e
  depends_asks x t (on.of_supply need a g own acts way e) = of_supply need a g (own_is_need x need own) acts way e
  depends_asks x t (on.of_edges need a name own acts way e) = of_edges a name (acts, inl (need, own_is_need x need own)) way e
  depends_asks x t (on.of_role a name grants acts way e) = of_edges a name (acts, inr grants) way e
  depends_asks x t (on.of_admins a role name grants acts way e) = of_admins a role name grants acts way e
