-- What views and routines need stands, where nothing is missing.
use Rattle.std.proofs.Common.{◌≡◌, ◌≢◌, ◌⊎◌, inl, inr, ℕ, List, Option, Some, None, refl}
use Rattle.std.specs.List.{Contains}
use Rattle.finite_chains.specs.Chains.{IsWithin}
use Rattle.sql_names.specs.declared.object.Object.{Object}
use Rattle.sql_tree.specs.declared.rights.Action.{Action}
use Rattle.sql_tree.specs.declared.rights.Action.TheVariants as action
use Rattle.cat_items.specs.declared.edit.Edit.{Edit}
use Rattle.cat_items.specs.declared.need.Need.{Need}
use Rattle.cat_items.specs.declared.item.Item.{Item}
use Rattle.cat_items.specs.declared.item.Item.TheVariants as item
use Rattle.cat_items.specs.Bound.{IsSpokenOf}
use Rattle.cat_items.specs.Fit.{IsFit}
use Rattle.cat_items.specs.Good.{IsGood}
use Rattle.cat_items.specs.Reach.{Has}
use Rattle.cat_items.specs.Relevant.{IsNeedOf}
use Rattle.cat_items.specs.Rights.{HasColumn, IsObject, Stands}
use Rattle.cat_items.specs.Supported.{Supported}
use Rattle.cat_items.specs.Survivors.{IsSystemRight}
use Rattle.support_laws.proofs.Monotone.{stands_more}
use Rattle.cascade_laws.specs.Asks.{of_need}
use Rattle.cascade_laws.specs.Topics.{IsNeedTopic, IsObjectTopic, Topic}
use Rattle.cascade_laws.specs.Topics as on
use Rattle.look_up_bound.specs.PossibleRights.{IsBySystem}
use Rattle.look_up_bound.specs.TopicParts.{HasParts}
use Rattle.look_up_bound.proofs.OrdinaryNeeds.{tree_needs_ordinary}
use Rattle.look_up_bound.proofs.Standing.{column_kept, sought_stands}
use Rattle.look_up_bound.proofs.Survivor.{survivor_supported}
use Rattle.cascade_bound.specs.Missing.{IsNeededBy, MissesNothing}

module _ (u : List Item) where
  object_stands : (by : Action) → by ≢ action.Admin → (path : List (List ℕ)) → ((t : Topic) → IsObjectTopic by path t → HasParts u t) → Has u (IsObject by path)
  object_stands action.Select other path has = has (on.table path) refl
  object_stands action.Insert other path has = has (on.table path) refl
  object_stands action.Update other path has = has (on.table path) refl
  object_stands action.Delete other path has = has (on.table path) refl
  object_stands action.References other path has = has (on.table path) refl
  object_stands action.Usage other path has = has (on.domain path) refl
  object_stands action.Execute other path has = has (on.routine path) refl
  object_stands action.Admin other path has = absurd (other refl)

  column_stands : (path : List (List ℕ)) (column : Option (List ℕ)) → ((t : Topic) → ((name : List ℕ) × (column ≡ Some name) × (t ≡ on.column path name)) → HasParts u t) → HasColumn u path column
  column_stands path None has = tt
  column_stands path (Some name) has = has (on.column path name) (name, refl, refl)

  -- a need stands whose topics have parts
  need_stands : (need : Need) → need.action ≢ action.Admin → ((t : Topic) → IsNeedTopic need t → HasParts u t) → Stands u need
  need_stands need other has = (object_stands need.action other need.on (λ t e. has t (inl e)), column_stands need.on need.column (λ t e. has t (inr e)))

  module _ (c edited : List Item) (edit : Edit) (good : IsGood c) (fit : IsFit c edit edited) (within : IsWithin c u) (misses : MissesNothing u edit) where
    supported : (x : Item) → Contains c x → Supported good.all c x
    supported x h = survivor_supported good.all c good.survivors x h

    old_need : (x : Item) → Contains c x → (need : Need) → IsNeedOf c x need → (¬ (IsBySystem x ⊎ ((table : Object) × (x ≡ item.Table table)))) → Stands u need
    old_need x h need needed never = elim (sought_stands good.all c (column_kept good.all c good.survivors) x (good.shape.derived x h) (supported x h) need needed) [
      | inl stands ↦ stands_more c u within need stands
      | inr can ↦ absurd (never can)
    ]

    old_stands : (y : Item) (need : Need) → Contains c y → IsNeededBy y need → Stands u need
    old_stands (item.View v) need h is = old_need (item.View v) h need is (λ can. elim can [ inl system ↦ system | inr table ↦ (let odd : item.View v ≡ item.Table table.0 = table.1 in cc odd) ])
    old_stands (item.Routine z) need h is = old_need (item.Routine z) h need is (λ can. elim can [ inl system ↦ system | inr table ↦ (let odd : item.Routine z ≡ item.Table table.0 = table.1 in cc odd) ])
    old_stands _ need h is = absurd is

    added_stands : (y : Item) (need : Need) → Contains edit.added y → IsNeededBy y need → Stands u need
    added_stands (item.View v) need h is = need_stands need (tree_needs_ordinary (item.View v) (fit.derived (item.View v) h) need is) (λ t e. misses (item.View v) t h (of_need need is e))
    added_stands (item.Routine z) need h is = need_stands need (tree_needs_ordinary (item.Routine z) (fit.derived (item.Routine z) h) need is) (λ t e. misses (item.Routine z) t h (of_need need is e))
    added_stands _ need h is = absurd is

    possible_needs : (y : Item) (need : Need) → IsSystemRight edited y → IsNeededBy y need → Stands u need
    possible_needs (item.Held r) need is needed = absurd needed
    possible_needs (item.Grantable r) need is needed = absurd needed
    possible_needs _ need is needed = absurd is

    pub needed_stands : (y : Item) (need : Need) → IsSpokenOf c edit edited y → IsNeededBy y need → Stands u need
    needed_stands y need (inl old) is = old_stands y need old is
    needed_stands y need (inr (inl added)) is = added_stands y need added is
    needed_stands y need (inr (inr possible)) is = possible_needs y need possible is
