-- Beside each right that the system could grant and that doesn't stand, one stands that asks for no less, where nobody can change a view by the first.
use Rattle.std.proofs.Common.{◌≡◌, ◌≢◌, ◌⊎◌, ◌-◌, inl, inr, false, ℕ, List, Option, Some, None, slice_get, ap, refl, sym, subst, ◌∙◌}
use Rattle.std.specs.List.{Contains}
use Rattle.sql_names.specs.declared.object.Object.{Object}
use Rattle.sql_tree.specs.declared.body.Security.{Security}
use Rattle.sql_tree.specs.declared.body.Security.TheVariants.{Definer, Invoker}
use Rattle.sql_tree.specs.declared.rights.Action.{Action}
use Rattle.sql_tree.specs.declared.rights.Action.TheVariants as action
use Rattle.cat_items.specs.declared.need.Auth.{Auth}
use Rattle.cat_items.specs.declared.need.Auth.TheVariants.{Named, System}
use Rattle.cat_items.specs.declared.need.Need.{Need}
use Rattle.cat_items.specs.declared.item.Right.{Right}
use Rattle.cat_items.specs.declared.item.Routine.{Routine}
use Rattle.cat_items.specs.declared.item.Schema.{Schema}
use Rattle.cat_items.specs.declared.item.View.{View}
use Rattle.cat_items.specs.declared.item.Item.{Item}
use Rattle.cat_items.specs.declared.item.Item.TheVariants as item
use Rattle.cat_items.specs.Good.{IsGood}
use Rattle.cat_items.specs.Reach.{Has}
use Rattle.cat_items.specs.Needs.{column_need}
use Rattle.cat_items.specs.Relevant.{ActsInRight, IsBaseColumnNeed, IsBaseNeed, IsNeedOnColumn, IsObjectNeed, IsPartOfNeed, IsRightNeed, IsViewNeed, OwnsPath}
use Rattle.cat_items.specs.Rights.{IsObject, path_of}
use Rattle.cat_items.specs.Shape.{HasDerivedFields}
use Rattle.cat_items.specs.Supported.{IsGrantee, MayGrant, RightRests}
use Rattle.cat_items.specs.Survivors.{MayBeSystemRight, MayBeSystemRow, MayBeSystemSchema, MayBeViewRow}
use Rattle.cat_items.specs.SystemRights.{IsRoutineRow, security_of}
use Rattle.cascade_laws.specs.Asks.{Asks, IsFarRightTopic, IsFirstTopic, by_far, by_name, by_option, of_admins, of_edges, of_need, of_supply}
use Rattle.cascade_laws.specs.Topics.{IsAuthTopic, IsNeedTopic, IsObjectTopic, IsPartyTopic, IsRightTopic, Topic, held, table}
use Rattle.cascade_laws.proofs.Spread.{row_object}
use Rattle.look_up_bound.proofs.RightsOn.{stands}
use Rattle.look_up_bound.proofs.Survivor.{survivor_closed, survivor_supported}
use Rattle.plain_needs.proofs.BaseNeeds.{base_needed}
use Rattle.plain_needs.proofs.ColumnNeeds.{column_needed}
use Rattle.cascade_bound.proofs.SystemAsking.{IsUpdating, updating_or_not, view_other}

-- ---- actions on a view

table_topic : (by : Action) (column : Option (List ℕ)) (base : Option Object) → MayBeViewRow by column base → (path : List (List ℕ)) (t : Topic) → IsObjectTopic by path t → IsObjectTopic action.Select path t
table_topic action.Select column base row path t e = e
table_topic action.Insert column base row path t e = e
table_topic action.Update column base row path t e = e
table_topic action.Delete column base row path t e = e
table_topic action.References column base row path t e = e
table_topic action.Usage column base row path t e = absurd row
table_topic action.Execute column base row path t e = absurd row
table_topic action.Admin column base row path t e = absurd row

table_object : (by : Action) (column : Option (List ℕ)) (base : Option Object) → MayBeViewRow by column base → (path : List (List ℕ)) (y : Item) → IsObject by path y → IsObject action.Select path y
table_object action.Select column base row path y e = e
table_object action.Insert column base row path y e = e
table_object action.Update column base row path y e = e
table_object action.Delete column base row path y e = e
table_object action.References column base row path y e = e
table_object action.Usage column base row path y e = absurd row
table_object action.Execute column base row path y e = absurd row
table_object action.Admin column base row path y e = absurd row

no_execute : (by : Action) (column : Option (List ℕ)) (base : Option Object) → MayBeViewRow by column base → by ≡ action.Execute → ⊥
no_execute by column base row e = subst (λ a. MayBeViewRow a column base) e row

-- ---- what a view needs for reading has the topics of what it goes by to be changed

updating_topic : (by : Action) → IsUpdating by → (path : List (List ℕ)) (t : Topic) → IsObjectTopic by path t → t ≡ table path
updating_topic action.Insert updates path t e = e
updating_topic action.Update updates path t e = e
updating_topic action.Delete updates path t e = e
updating_topic _ updates path t e = absurd updates

module _ (v : View) (derived : HasDerivedFields (item.View v)) where
  -- one of its needs has all topics of this one
  abbrev Reads : Need → Type 0
  Reads need = (other : Need) × Contains v.needs other × ((t : Topic) → IsNeedTopic need t → IsNeedTopic other t)

  reads_base : (by : Action) → IsUpdating by → (base : Option Object) → v.base ≡ base → (need : Need) → IsBaseNeed by base None need → Reads need
  reads_base by updates None e need is = absurd is
  reads_base by updates (Some o) e need is =
      let other = base_needed v o derived e in
      (other.0, other.1, λ t topic. at other.0 other.2 other.3 t (subst (λ n. IsNeedTopic n t) is topic))
    where
      at : (other : Need) → other.action ≡ action.Select → other.on ≡ path_of o → (t : Topic) → IsNeedTopic (record { action = by; on = path_of o; column = None }) t → IsNeedTopic other t
      at other selects path t (inl topic) = inl (subst (λ a. IsObjectTopic a other.on t) (sym selects) (updating_topic by updates (path_of o) t topic ∙ ap table (sym path)))
      at other selects path t (inr topic) = let odd : None ≡ Some topic.0 = topic.1 in absurd (cc odd)

  reads_column : (by : Action) → IsUpdating by → (base : Option Object) → v.base ≡ base → (place : ℕ) (column : Option (List ℕ)) → slice_get v.base_columns place ≡ column → (need : Need) → IsNeedOnColumn by base column need → Reads need
  reads_column by updates base e place None found need is = absurd is
  reads_column by updates None e place (Some name) found need is = absurd is
  reads_column by updates (Some o) e place (Some name) found need is = (column_need action.Select o name, column_needed v o place name derived e found, λ t topic. at t (subst (λ n. IsNeedTopic n t) is topic))
    where
      at : (t : Topic) → IsNeedTopic (record { action = by; on = path_of o; column = Some name }) t → IsNeedTopic (column_need action.Select o name) t
      at t (inl topic) = inl (updating_topic by updates (path_of o) t topic)
      at t (inr topic) = inr topic

  reads_named : (by : Action) → IsUpdating by → (name : List ℕ) (need : Need) (y : Item) → IsBaseColumnNeed v by name need y → Reads need
  reads_named by updates name need (item.Column k) is = reads_column by updates v.base refl (k.place - 1) (slice_get v.base_columns (k.place - 1)) refl need is.2
  reads_named by updates name need _ is = absurd is

  reads : (l : List Item) (by : Action) (column : Option (List ℕ)) → IsUpdating by → (need : Need) → IsViewNeed l v by column need → Reads need
  reads l action.Insert None updates need is = reads_base action.Insert updates v.base refl need is
  reads l action.Update None updates need is = reads_base action.Update updates v.base refl need is
  reads l action.Delete None updates need is = reads_base action.Delete updates v.base refl need is
  reads l action.Insert (Some name) updates need is = reads_named action.Insert updates name need is.0 is.2
  reads l action.Update (Some name) updates need is = reads_named action.Update updates name need is.0 is.2
  reads l action.Delete (Some name) updates need is = absurd is
  reads l action.Select column updates need is = absurd updates
  reads l action.References column updates need is = absurd updates
  reads l action.Usage column updates need is = absurd updates
  reads l action.Execute column updates need is = absurd updates
  reads l action.Admin column updates need is = absurd updates

-- ---- the right that stands

-- It is by the system to the same owner, on the same object and column, SELECT where the first changes a view; it asks for all that the first asks for, but for the
-- rights by which a view is changed.
pub record IsBeside (r s : Right) : Type 0 where
  pub system : s.grantor ≡ System
  pub grantee : s.grantee ≡ r.grantee
  pub path : s.need.on ≡ r.need.on
  pub topics : (t : Topic) → IsNeedTopic r.need t → IsNeedTopic s.need t
  pub parts : (y : Item) → IsPartOfNeed r.need y → IsPartOfNeed s.need y
  pub needs : (¬ (IsUpdating r.need.action)) → (l : List Item) (need : Need) → Has l (IsObjectNeed l r need) → Has l (IsObjectNeed l s need)
  pub selects : IsUpdating r.need.action → s.need.action ≡ action.Select

module _ (c : List Item) (good : IsGood c) where
  owner_stands : (z : Schema) → Contains c (item.Schema z) → (a : Auth) → a ≡ Named z.owner → IsGrantee c a
  owner_stands z h a e = subst (IsGrantee c) (sym e) (survivor_supported good.all c good.survivors (item.Schema z) h)

  -- what rests so stands
  held_stands : (s : Right) → MayBeSystemRight c s → RightRests false c s → Contains c (item.Held s)
  held_stands s may rests = survivor_closed good.all c good.survivors (item.Held s) ((good.with_system.members (item.Held s)).1 (inr may)) rests

  module _ (x : Item) (r : Right) (of_r : (x ≡ item.Held r) ⊎ (x ≡ item.Grantable r)) (may : MayBeSystemRight c r) (absent : ¬ (Contains c x)) where
    abbrev Beside : Type 0
    Beside = (s : Right) × Contains c (item.Held s) × IsBeside r s

    module _ (z : Schema) (hz : Contains c (item.Schema z)) (owner : r.grantee ≡ Named z.owner) where
      -- SELECT on the view, or on the column
      of_view : (v : View) → Contains c (item.View v) → MayBeSystemRow z.name r.need (item.View v) → Beside
      of_view v hv row = (
        s,
        held_stands s may_s rests,
        record {
          system = may.0;
          grantee = refl;
          path = refl;
          topics = topics;
          parts = parts;
          needs = needs;
          selects = λ updates. refl;
        },
      )
        where
          s : Right
          s = record { need = record { action = action.Select; on = r.need.on; column = r.need.column }; grantor = r.grantor; grantee = r.grantee }

          may_s : MayBeSystemRight c s
          may_s = (may.0, may.1, (item.Schema z, hz, (owner, (item.View v, hv, (row.0, row.1, tt)))))

          rests : RightRests false c s
          rests = (
            (λ e. cc),
            ((item.View v, hv, row.1), may.1),
            owner_stands z hz r.grantee owner,
            subst (MayGrant false c s) (sym may.0) (item.Schema z, hz, (owner, (item.View v, hv, (row.0, row.1, tt)))),
          )

          topics : (t : Topic) → IsNeedTopic r.need t → IsNeedTopic s.need t
          topics t (inl e) = inl (table_topic r.need.action r.need.column v.base row.2 r.need.on t e)
          topics t (inr e) = inr e

          parts : (y : Item) → IsPartOfNeed r.need y → IsPartOfNeed s.need y
          parts y (inl e) = inl (table_object r.need.action r.need.column v.base row.2 r.need.on y e)
          parts (item.Column k) (inr e) = inr e
          parts _ (inr e) = absurd e

          need_of : (¬ (IsUpdating r.need.action)) → (l : List Item) (need : Need) (y : Item) → IsObjectNeed l r need y → IsObjectNeed l s need y
          need_of other l need (item.View w) is = (is.0, view_other l w r.need.action r.need.column need other is.1)
          need_of other l need (item.Routine q) is = absurd (no_execute r.need.action r.need.column v.base row.2 (ap (λ (n : Need). n.action) is.0))
          need_of other l need _ is = absurd is

          needs : (¬ (IsUpdating r.need.action)) → (l : List Item) (need : Need) → Has l (IsObjectNeed l r need) → Has l (IsObjectNeed l s need)
          needs other l need h = (h.0, h.1, need_of other l need h.0 h.2)

      -- EXECUTE itself
      of_routine : (q : Routine) → Contains c (item.Routine q) → MayBeSystemRow z.name r.need (item.Routine q) → Beside
      of_routine q hq row = (
        r,
        held_stands r may rests,
        record {
          system = may.0;
          grantee = refl;
          path = refl;
          topics = λ t e. e;
          parts = λ y e. e;
          needs = λ other l need h. h;
          selects = λ updates. absurd (subst (λ (n : Need). IsUpdating n.action) row.1 updates);
        },
      )
        where
          routine_row : (by : Security) → IsRoutineRow false c (Named z.owner) q by
          routine_row Definer = tt
          routine_row Invoker = tt

          no_admin : r.need.action ≢ action.Admin
          no_admin e = let odd : action.Execute ≡ action.Admin = subst (λ (n : Need). n.action ≡ action.Admin) row.1 e in cc odd

          rests : RightRests false c r
          rests = (
            no_admin,
            ((item.Routine q, hq, (row_object z.name r.need (item.Routine q) row).0), may.1),
            owner_stands z hz r.grantee owner,
            subst (MayGrant false c r) (sym may.0) (item.Schema z, hz, (owner, (item.Routine q, hq, (row.0, row.1, routine_row (security_of q.body))))),
          )

      by_object : (y : Item) → Contains c y → MayBeSystemRow z.name r.need y → Beside
      by_object (item.Table o) hy row = absurd (absent (stands c good r may z (item.Table o) hz hy owner (row_object z.name r.need (item.Table o) row).0 (λ g. row) x of_r))
      by_object (item.View v) hy row = of_view v hy row
      by_object (item.Domain d) hy row = absurd (absent (stands c good r may z (item.Domain d) hz hy owner (row_object z.name r.need (item.Domain d) row).0 (λ g. row) x of_r))
      by_object (item.Routine q) hy row = of_routine q hy row
      by_object _ hy row = absurd row

    pub beside : (s : Right) × Contains c (item.Held s) × IsBeside r s
    beside = by may.2.0 may.2.1 may.2.2
      where
        by : (z : Item) → Contains c z → MayBeSystemSchema c r z → Beside
        by (item.Schema z) hz is = by_object z hz is.0 is.1.0 is.1.1 is.1.2
        by _ hz is = absurd is

-- ---- what it asks for

module _ (l : List Item) (r s : Right) (system : r.grantor ≡ System) (is : IsBeside r s) (derived : (v : View) → Contains l (item.View v) → HasDerivedFields (item.View v))
    (no_owner : (need : Need) (a : Auth) → IsUpdating r.need.action → Has l (IsObjectNeed l r need) → OwnsPath l r.need.on a → ⊥) where
  object_needs : (need : Need) → IsRightNeed l r r.grantor need → Has l (IsObjectNeed l r need)
  object_needs need sought = subst (λ a. IsRightNeed l r a need) system sought

  own_need : (need : Need) → Has l (IsObjectNeed l s need) → IsRightNeed l s s.grantor need
  own_need need h = subst (λ a. IsRightNeed l s a need) (sym is.system) h

  -- a need that has all topics of this one
  abbrev SeeksLike : Need → Type 0
  SeeksLike need = (other : Need) × IsRightNeed l s s.grantor other × ((t : Topic) → IsNeedTopic need t → IsNeedTopic other t)

  seeks_like : (need : Need) → IsRightNeed l r r.grantor need → SeeksLike need
  seeks_like need sought = elim (updating_or_not r.need.action) [
    | inl updates ↦ (let h = object_needs need sought in by updates h.0 h.1 h.2)
    | inr other ↦ (need, own_need need (is.needs other l need (object_needs need sought)), λ t e. e)
  ]
    where
      by : IsUpdating r.need.action → (y : Item) → Contains l y → IsObjectNeed l r need y → SeeksLike need
      by updates (item.View v) h of =
          let read = reads v (derived v h) l r.need.action r.need.column updates need of.1 in
          (read.0, own_need read.0 (item.View v, h, (is.path ∙ of.0, subst (λ a. IsViewNeed l v a s.need.column read.0) (sym (is.selects updates)) read.1)), read.2)
      by updates (item.Routine q) h of = absurd (subst (λ (n : Need). IsUpdating n.action) of.0 updates)
      by updates _ h of = absurd of

  owns : (a : Auth) → ActsInRight l r r.grantor a → OwnsPath l r.need.on a
  owns a by = subst (λ g. ActsInRight l r g a) system by

  acts : (a : Auth) → ActsInRight l r r.grantor a → ActsInRight l s s.grantor a
  acts a by = subst (λ g. ActsInRight l s g a) (sym is.system) (subst (λ path. OwnsPath l path a) (sym is.path) (owns a by))

  -- where somebody acts
  right_need : (need : Need) (a : Auth) → ActsInRight l r r.grantor a → IsRightNeed l r r.grantor need → IsRightNeed l s s.grantor need
  right_need need a by sought = let h = object_needs need sought in own_need need (is.needs (λ updates. no_owner need a updates h (owns a by)) l need h)

  name_topic : (t : Topic) → IsRightTopic r t → IsRightTopic s t
  name_topic t (inl e) = inl (is.topics t e)
  name_topic t (inr e) = absurd (subst (λ a. IsPartyTopic a r.grantee t) system e)

  far_topic : (t : Topic) → IsFarRightTopic r t → IsFarRightTopic s t
  far_topic t (inl e) = inl (subst (λ path. IsFirstTopic path t) (sym is.path) e)
  far_topic t (inr (inl e)) = inr (inl (subst (λ a. IsAuthTopic a t) (sym is.grantee) e))
  far_topic t (inr (inr e)) = absurd (subst (λ a. IsAuthTopic a t) system e)

  need_topic : (need : Need) (t : Topic) → IsRightNeed l r r.grantor need → IsNeedTopic need t → Asks l (item.Held s) t
  need_topic need t sought e = let like = seeks_like need sought in of_need like.0 like.1 (like.2 t e)

  pub held_asks : (t : Topic) → Asks l (item.Held r) t → Asks l (item.Held s) t
  held_asks t (by_name e) = by_name (name_topic t e)
  held_asks t (by_far e) = by_far (far_topic t e)
  held_asks t (by_option e) = absurd e
  held_asks t (of_need need sought e) = need_topic need t sought e
  held_asks t (of_supply need a g sought by way e) = of_supply need a g (right_need need a by sought) (acts a by) way e
  held_asks t (of_edges a name (by, inl sought) way e) = of_edges a name (acts a by, inl (sought.0, right_need sought.0 a by sought.1)) way e
  held_asks t (of_edges a name (by, inr grants) way e) = absurd grants
  held_asks t (of_admins a role name grants by way e) = absurd grants

  pub grantable_asks : (t : Topic) → Asks l (item.Grantable r) t → Asks l (item.Held s) t ⊎ (t ≡ held r)
  grantable_asks t (by_name e) = inl (by_name (name_topic t e))
  grantable_asks t (by_far e) = inl (by_far (far_topic t e))
  grantable_asks t (by_option e) = inr e
  grantable_asks t (of_need need sought e) = inl (need_topic need t sought e)
  grantable_asks t (of_supply need a g sought by way e) = inl (of_supply need a g (right_need need a by sought) (acts a by) way e)
  grantable_asks t (of_edges a name (by, inl sought) way e) = inl (of_edges a name (acts a by, inl (sought.0, right_need sought.0 a by sought.1)) way e)
  grantable_asks t (of_edges a name (by, inr grants) way e) = absurd grants
  grantable_asks t (of_admins a role name grants by way e) = absurd grants
