-- A view on which a right doesn't stand that the system could grant needs something.
use Rattle.std.proofs.Common.{◌≡◌, ◌⊎◌, inl, inr, Bool, true, false, List, [], ◌∷◌, Option, Some, None, ap, sym, refl, subst, ◌∙◌}
use Rattle.std.specs.Prelude.{ℕ}
use Rattle.std.specs.List.{Contains}
use Rattle.finite_chains.proofs.Members.{Contains-nil, Contains-head, All-from_contains}
use Rattle.sql_names.specs.declared.object.Object.{Object}
use Rattle.sql_tree.specs.declared.rights.Action.{Action}
use Rattle.sql_tree.specs.declared.rights.Action.TheVariants as action
use Rattle.cat_items.specs.declared.need.Auth.{Auth}
use Rattle.cat_items.specs.declared.need.Auth.TheVariants.{Named}
use Rattle.cat_items.specs.declared.need.Need.{Need}
use Rattle.cat_items.specs.declared.item.Right.{Right}
use Rattle.cat_items.specs.declared.item.Schema.{Schema}
use Rattle.cat_items.specs.declared.item.View.{View}
use Rattle.cat_items.specs.declared.item.Item.{Item}
use Rattle.cat_items.specs.declared.item.Item.TheVariants as item
use Rattle.cat_items.specs.Good.{IsGood}
use Rattle.cat_items.specs.Rights.{path_of, IsObject, Met}
use Rattle.cat_items.specs.Relevant.{IsPartOfNeed}
use Rattle.cat_items.specs.Shape.{name_of, tables}
use Rattle.cat_items.specs.Survivors.{IsSystemRight, MayBeSystemRight, MayBeSystemRow, MayBeSystemSchema, MayBeViewRow}
use Rattle.cat_items.specs.SystemRights.{MetWithOption, IsSystemRow, IsViewRow}
use Rattle.cascade_laws.proofs.Spread.{row_object}
use Rattle.plain_needs.proofs.BaseNeeds.{base_needed}
use Rattle.look_up_bound.specs.Touched.{IsPaidBy}
use Rattle.look_up_bound.proofs.RightsOn.{stands}

met_without : (grantable : Bool) (s : List Item) (owner : Auth) → MetWithOption grantable s owner []
met_without false s owner = tt
met_without true s owner = All-from_contains (Met true s owner) [] (λ need h. absurd (Contains-nil need h))

module _ (c : List Item) (good : IsGood c) (v : View) (hv : Contains c (item.View v)) (none : v.needs ≡ []) where
  no_need : (need : Need) → Contains v.needs need → ⊥
  no_need need h = Contains-nil need (subst (λ needs. Contains needs need) none h)

  -- without needs it is no plain view, and the system grants SELECT on it
  view_row : (by : Action) (base : Option Object) → v.base ≡ base → MayBeViewRow by None base → (grantable : Bool) (owner : Auth) → IsViewRow grantable c owner v by None
  view_row action.Select base e row grantable owner = subst (MetWithOption grantable c owner) (sym none) (met_without grantable c owner)
  view_row action.Insert (Some base) e row grantable owner = absurd (let need = base_needed v base (good.shape.derived (item.View v) hv) e in no_need need.0 need.1)
  view_row action.Update (Some base) e row grantable owner = absurd (let need = base_needed v base (good.shape.derived (item.View v) hv) e in no_need need.0 need.1)
  view_row action.Delete (Some base) e row grantable owner = absurd (let need = base_needed v base (good.shape.derived (item.View v) hv) e in no_need need.0 need.1)
  view_row action.Insert None e row grantable owner = absurd row
  view_row action.Update None e row grantable owner = absurd row
  view_row action.Delete None e row grantable owner = absurd row
  view_row action.References base e row grantable owner = absurd row
  view_row action.Usage base e row grantable owner = absurd row
  view_row action.Execute base e row grantable owner = absurd row
  view_row action.Admin base e row grantable owner = absurd row

  module _ (x : Item) (absent : ¬ (Contains c x)) (r : Right) (of_r : (x ≡ item.Held r) ⊎ (x ≡ item.Grantable r)) (may : MayBeSystemRight c r) (path : r.need.on ≡ path_of v.view) (whole : r.need.column ≡ None) where
    of_object : IsPartOfNeed r.need (item.View v) → (z : Schema) → Contains c (item.Schema z) → r.grantee ≡ Named z.owner → (y : Item) → Contains c y → MayBeSystemRow z.name r.need y → ⊥
    of_object part z hz grantee (item.Table o) hy row =
        let of_table : name_of (item.Table o) ≡ Some (tables, path_of v.view) = ap (λ (p : List (List ℕ)). Some (tables, p)) (sym row.1 ∙ path) in
        let one : item.Table o ≡ item.View v = good.shape.names (item.Table o) (item.View v) (tables, path_of v.view) hy hv of_table refl in
        cc one
    of_object part z hz grantee (item.View w) hy row =
        let of_view : name_of (item.View w) ≡ Some (tables, path_of v.view) = ap (λ (p : List (List ℕ)). Some (tables, p)) (sym row.1 ∙ path) in
        let one : item.View w ≡ item.View v = good.shape.names (item.View w) (item.View v) (tables, path_of v.view) hy hv of_view refl in
        let same : w ≡ v = cc one in
        let its_row = subst (λ q. MayBeSystemRow z.name r.need (item.View q)) same row in
        let may_be : MayBeViewRow r.need.action None v.base = subst (λ k. MayBeViewRow r.need.action k v.base) whole its_row.2 in
        let granted : (g : Bool) → IsSystemRow g c z.name (Named z.owner) r.need (item.View v) = λ g. (its_row.0, its_row.1, subst (λ k. IsViewRow g c (Named z.owner) v r.need.action k) (sym whole) (view_row r.need.action v.base refl may_be g (Named z.owner))) in
        absent (stands c good r may z (item.View v) hz hv grantee (row_object z.name r.need (item.View v) its_row).0 granted x of_r)
    of_object (inl part) z hz grantee (item.Domain d) hy row = subst (λ (n : Need). IsObject n.action n.on (item.View v)) row.1 part
    of_object (inl part) z hz grantee (item.Routine q) hy row = subst (λ (n : Need). IsObject n.action n.on (item.View v)) row.1 part
    of_object (inr part) z hz grantee (item.Domain d) hy row = part
    of_object (inr part) z hz grantee (item.Routine q) hy row = part
    of_object part z hz grantee _ hy row = row

    impossible : IsPartOfNeed r.need (item.View v) → ⊥
    impossible part = by may.2.0 may.2.1 may.2.2
      where
        by : (z : Item) → Contains c z → MayBeSystemSchema c r z → ⊥
        by (item.Schema z) hz is = of_object part z hz is.0 is.1.0 is.1.1 is.1.2
        by _ hz is = is

pub view_needs : (c : List Item) → IsGood c → (x : Item) (v : View) → IsSystemRight c x → (¬ (Contains c x)) → IsPaidBy c (item.View v) x → (need : Need) × Contains v.needs need
view_needs c good x v system absent pays = by v.needs refl
  where
    may : MayBeSystemRight c pays.right
    may = elim pays.is [ inl e ↦ subst (IsSystemRight c) e system | inr e ↦ subst (IsSystemRight c) e system ]

    by : (needs : List Need) → v.needs ≡ needs → (need : Need) × Contains v.needs need
    by [] e = absurd (impossible c good v pays.stands e x absent pays.right pays.is may pays.is_on.0 pays.is_on.1 pays.is_part)
    by (need ∷ needs) e = (need, subst (λ all. Contains all need) (sym e) (Contains-head need needs))
