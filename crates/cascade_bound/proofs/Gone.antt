-- What a right asks for that is spoken of no more, a suspect asks for that stands.
use Rattle.std.proofs.Common.{◌≡◌, ◌⊎◌, ◌-◌, inl, inr, ℕ, List, Option, Some, None, slice_get, ap, refl, sym, ◌∙◌, subst}
use Rattle.std.specs.List.{Contains}
use Rattle.std.specs.declared.cmp.Ordering.TheVariants.{Equal}
use Rattle.std.proofs.lemmas.List.{get_or_default}
use Rattle.finite_chains.specs.Chains.{IsWithin}
use Rattle.sql_names.specs.declared.object.Object.{Object}
use Rattle.sql_tree.specs.declared.rights.Action.{Action}
use Rattle.sql_tree.specs.declared.rights.Action.TheVariants as action
use Rattle.cat_items.specs.declared.edit.Edit.{Edit}
use Rattle.cat_items.specs.declared.need.Auth.{Auth}
use Rattle.cat_items.specs.declared.need.Auth.TheVariants.{Named}
use Rattle.cat_items.specs.declared.need.Need.{Need}
use Rattle.cat_items.specs.declared.item.Right.{Right}
use Rattle.cat_items.specs.declared.item.Schema.{Schema}
use Rattle.cat_items.specs.declared.item.View.{View}
use Rattle.cat_items.specs.declared.item.Item.{Item}
use Rattle.cat_items.specs.declared.item.Item.TheVariants as item
use Rattle.cat_items.specs.Bound.{IsBound, IsSuspect}
use Rattle.cat_items.specs.Bound as bound
use Rattle.cat_items.specs.Fit.{HasNewKey, IsFit, IsRight}
use Rattle.cat_items.specs.Good.{IsGood}
use Rattle.cat_items.specs.Order.{item_cmp}
use Rattle.cat_items.specs.Reach.{Has}
use Rattle.cat_items.specs.Relevant.{IsBaseColumnNeed, IsBaseNeed, IsNeedOnColumn, IsObjectNeed, IsOwnedSchema, IsPartOfNeed, IsViewNeed, Owns, OwnsPath, named}
use Rattle.cat_items.specs.Rights.{HasColumn, IsSchema, path_of}
use Rattle.cat_items.specs.Shape.{HasDerivedFields}
use Rattle.cat_items.specs.Supported.{IsHeld}
use Rattle.cat_items.specs.Survivors.{IsSystemRight, MayBeSystemRight, MayBeSystemSchema, MayBeViewRow}
use Rattle.cat_items.proofs.KeyLemmas.{same_key}
use Rattle.cascade_laws.specs.Asks.{Asks}
use Rattle.cascade_laws.specs.Topics.{Topic, held}
use Rattle.cascade_laws.proofs.Spread.{IsFirst, row_object}
use Rattle.look_up_bound.proofs.OneKey.{one_schema}
use Rattle.cascade_bound.proofs.Beside.{beside, grantable_asks, held_asks}
use Rattle.cascade_bound.proofs.Counted.{IsGone}
use Rattle.cascade_bound.proofs.SystemAsking.{IsUpdating}

-- ---- rights that change a view

with_base : (by : Action) (base : Option Object) (column : Option (List ℕ)) (need : Need) → IsBaseNeed by base column need → (o : Object) × (base ≡ Some o)
with_base by None column need is = absurd is
with_base by (Some o) column need is = (o, refl)

on_place : (by : Action) (base : Option Object) (column : Option (List ℕ)) (need : Need) → IsNeedOnColumn by base column need → (o : Object) × (base ≡ Some o)
on_place by base None need is = absurd is
on_place by base (Some name) need is = with_base by base (Some name) need is

base_of_column : (v : View) (by : Action) (name : List ℕ) (need : Need) (y : Item) → IsBaseColumnNeed v by name need y → (o : Object) × (v.base ≡ Some o)
base_of_column v by name need (item.Column k) is = on_place by v.base (slice_get v.base_columns (k.place - 1)) need is.2
base_of_column v by name need _ is = absurd is

view_base : (l : List Item) (v : View) (by : Action) (column : Option (List ℕ)) (need : Need) → IsUpdating by → IsViewNeed l v by column need → (o : Object) × (v.base ≡ Some o)
view_base l v action.Insert None need by is = with_base action.Insert v.base None need is
view_base l v action.Update None need by is = with_base action.Update v.base None need is
view_base l v action.Delete None need by is = with_base action.Delete v.base None need is
view_base l v action.Insert (Some name) need by is = base_of_column v action.Insert name need is.0 is.2
view_base l v action.Update (Some name) need by is = base_of_column v action.Update name need is.0 is.2
view_base l v action.Delete (Some name) need by is = absurd is
view_base l v action.Select column need by is = absurd by
view_base l v action.References column need by is = absurd by
view_base l v action.Usage column need by is = absurd by
view_base l v action.Execute column need by is = absurd by
view_base l v action.Admin column need by is = absurd by

-- the system could grant it on a view that has a base
base_row : (l : List Item) (v : View) (by : Action) (column : Option (List ℕ)) (need : Need) (o : Object) → IsUpdating by → IsViewNeed l v by column need → MayBeViewRow by column (Some o)
base_row l v action.Insert column need o by is = tt
base_row l v action.Update column need o by is = tt
base_row l v action.Delete None need o by is = tt
base_row l v action.Delete (Some name) need o by is = absurd is
base_row l v action.Select column need o by is = absurd by
base_row l v action.References column need o by is = absurd by
base_row l v action.Usage column need o by is = absurd by
base_row l v action.Execute column need o by is = absurd by
base_row l v action.Admin column need o by is = absurd by

-- the column that it is on is of the view
module _ (l edited : List Item) (inside : (y : Item) → Contains l y → Contains edited y ⊎ IsRight y) (v : View) (need : Need) where
  of_column : (by : Action) (name : List ℕ) (y : Item) → Contains l y → IsBaseColumnNeed v by name need y → HasColumn edited (path_of v.view) (Some name)
  of_column by name (item.Column k) h is = elim (inside (item.Column k) h) [ inl here ↦ (item.Column k, here, (ap path_of (sym is.0), is.1)) | inr right ↦ absurd right ]
  of_column by name _ h is = absurd is

  view_column : (by : Action) (column : Option (List ℕ)) → IsUpdating by → IsViewNeed l v by column need → HasColumn edited (path_of v.view) column
  view_column by None updates is = tt
  view_column action.Insert (Some name) updates is = of_column action.Insert name is.0 is.1 is.2
  view_column action.Update (Some name) updates is = of_column action.Update name is.0 is.1 is.2
  view_column action.Delete (Some name) updates is = absurd is
  view_column action.Select (Some name) updates is = absurd updates
  view_column action.References (Some name) updates is = absurd updates
  view_column action.Usage (Some name) updates is = absurd updates
  view_column action.Execute (Some name) updates is = absurd updates
  view_column action.Admin (Some name) updates is = absurd updates

-- an added schema has a new name
new_name : (c : List Item) (z : Schema) → HasNewKey c (item.Schema z) → (y : Schema) → Contains c (item.Schema y) → y.name ≡ z.name → ⊥
new_name c z new y h is =
    let same : item_cmp (item.Schema y) (item.Schema z) ≡ Equal = subst (λ n. item_cmp (item.Schema y) (item.Schema (record { name = n; owner = z.owner })) ≡ Equal) is (same_key (item.Schema y)) in
    new h.0 (h.1, λ d. subst (λ w. item_cmp w (item.Schema z) ≡ Equal) (sym h.2 ∙ get_or_default c h.0 (item.Schema y) d h.1) same)

module _ (c edited : List Item) (edit : Edit) (good : IsGood c) (fit : IsFit c edit edited) (most : ℕ) (b : IsBound c edit edited most) where
  abbrev u : List Item
  u = b.u

  within : IsWithin c u
  within y h = (b.spoken_of.members y).1 (inl h)

  -- a schema of the edited list and one of the old catalogue with its name are one
  old_schema : (y z : Schema) → Contains edited (item.Schema y) → Contains c (item.Schema z) → z.name ≡ y.name → y ≡ z
  old_schema y z hy hz e = elim ((fit.is_edited.members (item.Schema y)).0 hy) [
    | inl old ↦ one_schema c good.survivors.order y z old.0 hz (sym e)
    | inr added ↦ absurd (new_name c y (fit.new_keys (item.Schema y) added) z hz e)
  ]

  module _ (part : List Item) (inside : (y : Item) → Contains part y → Contains edited y ⊎ IsRight y) where
    derived : (v : View) → Contains part (item.View v) → HasDerivedFields (item.View v)
    derived v h = elim (inside (item.View v) h) [
      | inl here ↦ elim ((fit.is_edited.members (item.View v)).0 here) [ inl old ↦ good.shape.derived (item.View v) old.0 | inr added ↦ fit.derived (item.View v) added ]
      | inr right ↦ absurd right
    ]

    -- a right that changes a view of the part, whose schema the part has, could be granted still
    module _ (r : Right) (may : MayBeSystemRight c r) (need : Need) (updates : IsUpdating r.need.action) (a : Auth) (owns : OwnsPath part r.need.on a) where
      schema_there : (v : View) → r.need.on ≡ path_of v.view → Has edited (IsSchema v.view.schema)
      schema_there v path = let h : Owns part v.view.schema a = subst (λ p. OwnsPath part p a) path owns in by h.0 h.1 h.2
        where
          by : (y : Item) → Contains part y → IsOwnedSchema v.view.schema a y → Has edited (IsSchema v.view.schema)
          by (item.Schema z) h is = elim (inside (item.Schema z) h) [ inl here ↦ (item.Schema z, here, is.0) | inr right ↦ absurd right ]
          by _ h is = absurd is

      on_view : (v : View) → Contains edited (item.View v) → r.need.on ≡ path_of v.view → IsViewNeed part v r.need.action r.need.column need → MayBeSystemRight edited r
      on_view v hv path is =
          let there = schema_there v path in (
            may.0,
            subst (λ p. HasColumn edited p r.need.column) (sym path) (view_column part edited inside v need r.need.action r.need.column updates is),
            schema there.0 there.1 there.2 may.2.0 may.2.1 may.2.2,
          )
        where
          row : MayBeViewRow r.need.action r.need.column v.base
          row = let base = view_base part v r.need.action r.need.column need updates is in subst (MayBeViewRow r.need.action r.need.column) (sym base.1) (base_row part v r.need.action r.need.column need base.0 updates is)

          schema : (y : Item) → Contains edited y → IsSchema v.view.schema y → (z : Item) → Contains c z → MayBeSystemSchema c r z → Has edited (MayBeSystemSchema edited r)
          schema (item.Schema y) hy named_y (item.Schema z) hz of =
              let first : IsFirst (path_of v.view) z.name = subst (λ p. IsFirst p z.name) path (row_object z.name r.need of.1.0 of.1.2).1 in
              let same : y ≡ z = old_schema y z hy hz (sym first ∙ sym named_y) in
              (item.Schema y, hy, (of.0 ∙ ap (λ (s : Schema). Named s.owner) (sym same), (item.View v, hv, (sym named_y, path, row))))
          schema (item.Schema y) hy named_y _ hz of = absurd of
          schema _ hy named_y z hz of = absurd named_y

      on_object : (y : Item) → Contains part y → IsObjectNeed part r need y → MayBeSystemRight edited r
      on_object (item.View v) h is = elim (inside (item.View v) h) [ inl here ↦ on_view v here is.0 is.1 | inr right ↦ absurd right ]
      on_object (item.Routine q) h is = absurd (subst (λ (n : Need). IsUpdating n.action) is.0 updates)
      on_object _ h is = absurd is

    module _ (x : Item) (gone : IsGone u c edit x) where
      abbrev r : Right
      r = gone.paid.pays.right

      may : MayBeSystemRight c r
      may = elim gone.paid.pays.is [ inl e ↦ subst (IsSystemRight c) e gone.possible | inr e ↦ subst (IsSystemRight c) e gone.possible ]

      no_owner : (need : Need) (a : Auth) → IsUpdating r.need.action → Has part (IsObjectNeed part r need) → OwnsPath part r.need.on a → ⊥
      no_owner need a updates h owns =
          let after = on_object r may need updates a owns h.0 h.1 h.2 in
          let still : IsSystemRight edited x = elim gone.paid.pays.is [ inl e ↦ subst (IsSystemRight edited) (sym e) after | inr e ↦ subst (IsSystemRight edited) (sym e) after ] in
          gone.out ((b.spoken_of.members x).1 (inr (inr still)))

      -- a suspect that stands asks for it
      abbrev IsAskedBeside : Topic → Type 0
      IsAskedBeside t = (y : Item) × Contains c y × IsSuspect u edit y × Asks part y t

      pub gone_asks : (t : Topic) → Asks part x t → IsAskedBeside t ⊎ (t ≡ held r)
      gone_asks t asks =
          let pays = gone.paid.pays in
          let other = beside c good x r pays.is may gone.absent in
          let s = other.0 in
          let there = within (item.Held s) other.1 in
          let suspect : IsSuspect u edit (item.Held s) = bound.spread gone.paid.payer (item.Held s) gone.paid.suspect (within gone.paid.payer pays.stands) there (named (inl (other.2.parts gone.paid.payer pays.is_part))) in
          elim pays.is [
            | inl e ↦ inl (item.Held s, other.1, suspect, held_asks part r s pays.by_system other.2 derived no_owner t (subst (λ y. Asks part y t) e asks))
            | inr e ↦ (elim (grantable_asks part r s pays.by_system other.2 derived no_owner t (subst (λ y. Asks part y t) e asks)) [
              | inl same ↦ inl (item.Held s, other.1, suspect, same)
              | inr option ↦ inr option
            ])
          ]

      -- what its option adds to is a suspect where it stands
      pub gone_held : (y : Item) → Contains u y → IsHeld r y → IsSuspect u edit y
      gone_held (item.Held q) h is =
          let pays = gone.paid.pays in
          bound.spread gone.paid.payer (item.Held q) gone.paid.suspect (within gone.paid.payer pays.stands) h (named (inl (subst (λ (s : Right). IsPartOfNeed s.need gone.paid.payer) (sym is) pays.is_part)))
      gone_held _ h is = absurd is
