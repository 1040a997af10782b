-- What an item needs, depends on and asks for by a list, it does by each list that has more.
use Rattle.std.proofs.Common.{inl, inr, List, [], ◌∷◌, Option, Some, None}
use Rattle.std.specs.Prelude.{ℕ}
use Rattle.finite_chains.specs.Chains.{IsWithin}
use Rattle.sql_tree.specs.declared.rights.Action.{Action}
use Rattle.sql_tree.specs.declared.rights.Action.TheVariants as action
use Rattle.cat_items.specs.declared.need.Auth.{Auth}
use Rattle.cat_items.specs.declared.need.Auth.TheVariants.{System, Public, Named}
use Rattle.cat_items.specs.declared.need.Need.{Need}
use Rattle.cat_items.specs.declared.item.View.{View}
use Rattle.cat_items.specs.declared.item.Right.{Right}
use Rattle.cat_items.specs.declared.item.Item.{Item}
use Rattle.cat_items.specs.declared.item.Item.TheVariants as item
use Rattle.cat_items.specs.Reach.{Reaches}
use Rattle.cat_items.specs.Relevant.{Owns, OwnsPath, IsOwnedSchema, ActsInRight, IsActor, HasUsage, IsBaseColumnNeed, IsViewNeed, IsNeedOf, IsObjectNeed, IsRightNeed}
use Rattle.support_laws.proofs.Monotone.{has_more, reaches_more}
use Rattle.cascade_laws.specs.Concerns.{Seeks}
use Rattle.cascade_laws.specs.Topics.{Topic, IsUpdateNeed, IsUpdateNeedOn, IsOwnRightNeed, IsOwnNeed, DependsOn}
use Rattle.cascade_laws.specs.Topics as on
use Rattle.cascade_laws.specs.Asks.{Asks}
use Rattle.cascade_laws.specs.Asks as asks

-- the needs by which the system's right to change a view goes are among those that its right on the view goes by
pub view_need : (s : List Item) (v : View) (by : Action) (column : Option (List ℕ)) (need : Need) → IsUpdateNeed s v by column need → IsViewNeed s v by column need
view_need s v action.Insert None need is = is
view_need s v action.Update None need is = is
view_need s v action.Delete None need is = is
view_need s v action.Insert (Some name) need is = is
view_need s v action.Update (Some name) need is = is
view_need s v action.Delete (Some name) need is = absurd is
view_need s v action.Select column need is = absurd is
view_need s v action.References column need is = absurd is
view_need s v action.Usage column need is = absurd is
view_need s v action.Execute column need is = absurd is
view_need s v action.Admin column need is = absurd is

object_need : (s : List Item) (r : Right) (need : Need) (y : Item) → IsUpdateNeedOn s r need y → IsObjectNeed s r need y
object_need s r need (item.View v) is = (is.0, view_need s v r.need.action r.need.column need is.1)
object_need s r need _ is = absurd is

right_need : (s : List Item) (r : Right) (a : Auth) (need : Need) → IsOwnRightNeed s r a need → IsRightNeed s r a need
right_need s r System need is = (is.0, is.1, object_need s r need is.0 is.2)
right_need s r Public need is = is
right_need s r (Named name) need is = is

-- own needs are needs
pub own_is_needed : (s : List Item) (x : Item) (need : Need) → IsOwnNeed s x need → IsNeedOf s x need
own_is_needed s (item.View v) need is = is
own_is_needed s (item.Column k) need is = is
own_is_needed s (item.DomainCheck d) need is = is
own_is_needed s (item.Foreign f) need is = is
own_is_needed s (item.Check k) need is = is
own_is_needed s (item.Assertion z) need is = is
own_is_needed s (item.Routine r) need is = is
own_is_needed s (item.Held r) need is = right_need s r r.grantor need is
own_is_needed s (item.Grantable r) need is = right_need s r r.grantor need is
own_is_needed s _ need is = absurd is

module _ (s t : List Item) (within : IsWithin s t) where
  -- ---- actors

  owns_more : (name : List ℕ) (a : Auth) → Owns s name a → Owns t name a
  owns_more name a is = has_more s t within (IsOwnedSchema name a) is

  owns_path_more : (path : List (List ℕ)) (a : Auth) → OwnsPath s path a → OwnsPath t path a
  owns_path_more [] a is = is
  owns_path_more (name ∷ names) a is = owns_more name a is

  in_right_more : (r : Right) (by a : Auth) → ActsInRight s r by a → ActsInRight t r by a
  in_right_more r System a is = owns_path_more r.need.on a is
  in_right_more r Public a is = is
  in_right_more r (Named name) a is = is

  actor_more : (x : Item) (a : Auth) → IsActor s x a → IsActor t x a
  actor_more (item.Table o) a is = owns_more o.schema a is
  actor_more (item.View v) a is = owns_more v.view.schema a is
  actor_more (item.Column k) a is = owns_more k.table.schema a is
  actor_more (item.Domain d) a is = owns_more d.domain.schema a is
  actor_more (item.DomainCheck d) a is = owns_more d.name.schema a is
  actor_more (item.Key k) a is = owns_more k.name.schema a is
  actor_more (item.Foreign f) a is = owns_more f.name.schema a is
  actor_more (item.Check k) a is = owns_more k.name.schema a is
  actor_more (item.Assertion z) a is = owns_more z.name.schema a is
  actor_more (item.Routine r) a is = owns_more r.routine.schema a is
  actor_more (item.RoleAuth g) a is = is
  actor_more (item.RoleAdmin g) a is = is
  actor_more (item.Held r) a is = in_right_more r r.grantor a is
  actor_more (item.Grantable r) a is = in_right_more r r.grantor a is
  actor_more _ a is = absurd is

  reach_more : (a g : Auth) → Reaches s a g → Reaches t a g
  reach_more a g is = reaches_more s t within a g is

  -- ---- own needs

  update_more : (v : View) (by : Action) (column : Option (List ℕ)) (need : Need) → IsUpdateNeed s v by column need → IsUpdateNeed t v by column need
  update_more v action.Insert None need is = is
  update_more v action.Update None need is = is
  update_more v action.Delete None need is = is
  update_more v action.Insert (Some name) need is = has_more s t within (IsBaseColumnNeed v action.Insert name need) is
  update_more v action.Update (Some name) need is = has_more s t within (IsBaseColumnNeed v action.Update name need) is
  update_more v action.Delete (Some name) need is = absurd is
  update_more v action.Select column need is = absurd is
  update_more v action.References column need is = absurd is
  update_more v action.Usage column need is = absurd is
  update_more v action.Execute column need is = absurd is
  update_more v action.Admin column need is = absurd is

  update_on_more : (r : Right) (need : Need) (y : Item) → IsUpdateNeedOn s r need y → IsUpdateNeedOn t r need y
  update_on_more r need (item.View v) is = (is.0, update_more v r.need.action r.need.column need is.1)
  update_on_more r need _ is = absurd is

  own_right_more : (r : Right) (a : Auth) (need : Need) → IsOwnRightNeed s r a need → IsOwnRightNeed t r a need
  own_right_more r System need is = (is.0, within is.0 is.1, update_on_more r need is.0 is.2)
  own_right_more r Public need is = is
  own_right_more r (Named name) need is = is

  own_more : (x : Item) (need : Need) → IsOwnNeed s x need → IsOwnNeed t x need
  own_more (item.View v) need is = is
  own_more (item.Column k) need is = is
  own_more (item.DomainCheck d) need is = is
  own_more (item.Foreign f) need is = is
  own_more (item.Check k) need is = is
  own_more (item.Assertion z) need is = is
  own_more (item.Routine r) need is = is
  own_more (item.Held r) need is = own_right_more r r.grantor need is
  own_more (item.Grantable r) need is = own_right_more r r.grantor need is
  own_more _ need is = absurd is

  pub depends_more : (x : Item) (topic : Topic) → DependsOn s x topic → DependsOn t x topic
  depends_more x topic (on.by_name e) = on.by_name e
  depends_more x topic (on.by_option e) = on.by_option e
  depends_more x topic (on.of_need need own e) = on.of_need need (own_more x need own) e
  depends_more x topic (on.of_supply need a g own acts way e) = on.of_supply need a g (own_more x need own) (actor_more x a acts) (reach_more a g way) e
  depends_more x topic (on.of_edges need a name own acts way e) = on.of_edges need a name (own_more x need own) (actor_more x a acts) (reach_more a (Named name) way) e
  depends_more x topic (on.of_role a name grants acts way e) = on.of_role a name grants (actor_more x a acts) (reach_more a (Named name) way) e
  depends_more x topic (on.of_admins a role name grants acts way e) = on.of_admins a role name grants (actor_more x a acts) (reach_more a (Named name) way) e

  -- ---- needs

  view_more : (v : View) (by : Action) (column : Option (List ℕ)) (need : Need) → IsViewNeed s v by column need → IsViewNeed t v by column need
  view_more v action.Select column need is = is
  view_more v action.Insert None need is = is
  view_more v action.Update None need is = is
  view_more v action.Delete None need is = is
  view_more v action.Insert (Some name) need is = has_more s t within (IsBaseColumnNeed v action.Insert name need) is
  view_more v action.Update (Some name) need is = has_more s t within (IsBaseColumnNeed v action.Update name need) is
  view_more v action.Delete (Some name) need is = absurd is
  view_more v action.References column need is = absurd is
  view_more v action.Usage column need is = absurd is
  view_more v action.Execute column need is = absurd is
  view_more v action.Admin column need is = absurd is

  object_more : (r : Right) (need : Need) (y : Item) → IsObjectNeed s r need y → IsObjectNeed t r need y
  object_more r need (item.View v) is = (is.0, view_more v r.need.action r.need.column need is.1)
  object_more r need (item.Routine z) is = is
  object_more r need _ is = absurd is

  right_more : (r : Right) (a : Auth) (need : Need) → IsRightNeed s r a need → IsRightNeed t r a need
  right_more r System need is = (is.0, within is.0 is.1, object_more r need is.0 is.2)
  right_more r Public need is = is
  right_more r (Named name) need is = is

  need_more : (x : Item) (need : Need) → IsNeedOf s x need → IsNeedOf t x need
  need_more (item.Table o) need is = has_more s t within (HasUsage o need) is
  need_more (item.View v) need is = is
  need_more (item.Column k) need is = is
  need_more (item.DomainCheck d) need is = is
  need_more (item.Foreign f) need is = is
  need_more (item.Check k) need is = is
  need_more (item.Assertion z) need is = is
  need_more (item.Routine r) need is = is
  need_more (item.Held r) need is = right_more r r.grantor need is
  need_more (item.Grantable r) need is = right_more r r.grantor need is
  need_more _ need is = absurd is

  seeks_more : (x : Item) (a : Auth) → Seeks s x a → Seeks t x a
  seeks_more x a (acts, inl need) = (actor_more x a acts, inl (need.0, need_more x need.0 need.1))
  seeks_more x a (acts, inr grants) = (actor_more x a acts, inr grants)

  pub asks_more : (x : Item) (topic : Topic) → Asks s x topic → Asks t x topic
  asks_more x topic (asks.by_name e) = asks.by_name e
  asks_more x topic (asks.by_far e) = asks.by_far e
  asks_more x topic (asks.by_option e) = asks.by_option e
  asks_more x topic (asks.of_need need sought e) = asks.of_need need (need_more x need sought) e
  asks_more x topic (asks.of_supply need a g sought acts way e) = asks.of_supply need a g (need_more x need sought) (actor_more x a acts) (reach_more a g way) e
  asks_more x topic (asks.of_edges a name seeks way e) = asks.of_edges a name (seeks_more x a seeks) (reach_more a (Named name) way) e
  asks_more x topic (asks.of_admins a role name grants acts way e) = asks.of_admins a role name grants (actor_more x a acts) (reach_more a (Named name) way) e
