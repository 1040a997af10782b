-- What comes of edits.
use Rattle.std.proofs.Common.{◌≡◌, ◌<◌, ◌≤◌, ℕ, Bool, true, false, List, [], ◌∷◌, Option, Some, None, Result, Ok, Err, length, ap, subst, refl, inl, inr, arith}
use Rattle.std.specs.Option.{is_some}
use Rattle.std.specs.Result.{IsErrAnd}
use Rattle.sql_tree.specs.declared.statement.Statement.{Statement}
use Rattle.cat_items.specs.declared.edit.Edit.{Edit}
use Rattle.cat_items.specs.declared.edit.EditError.{EditError}
use Rattle.cat_items.specs.declared.edit.EditError.TheVariants.{Refused, Memory}
use Rattle.cat_items.specs.declared.edit.Refusal.{Refusal}
use Rattle.cat_items.specs.declared.edit.Refusal.TheVariants.{StillNeeded, CatalogFull}
use Rattle.cat_items.specs.declared.edit.Who.{Who}
use Rattle.cat_items.specs.declared.item.Item.{Item}
use Rattle.cat_items.specs.declared.limits.Limits.{Limits}
use Rattle.cat_items.specs.Edits.{IsFurther, IsNew}
use Rattle.cat_items.specs.Good.{IsGood}
use Rattle.support_laws.proofs.Settled.{one_new, new_is_good}
use Rattle.new_catalogues.specs.Further.{IsLeastFurther}
use Rattle.new_catalogues.specs.Width.{HasMoreColumns, IsLeastWide}
use Rattle.edit_rules.specs.First.{First, Passes, Tested}
use Rattle.edit_laws.specs.Sound.{IsSound}
use Rattle.edit_rules.proofs.FirstLaws.{passes_none, passes_more}
use Rattle.catalogue_edits.specs.declared.warning.Warning.{Warning}
use Rattle.catalogue_edits.specs.Limits.{too_many_items, too_many_columns}
use Rattle.catalogue_edits.specs.Kinds.{kind_of}
use Rattle.catalogue_edits.specs.LookUps.{HasEdit, TakesFew}
use Rattle.catalogue_edits.specs.Restrict.{still_needed}
use Rattle.catalogue_edits.specs.Revisions.{for_edit, outcome_refusals, revision_refusals, IsRevised}
use Rattle.catalogue_edits.specs.Statements.{edit_refusals, IsEditOf}
use Rattle.catalogue_edits.proofs.Settled.{edit_settled}

-- ---- RESTRICT

pub nothing_said : (c : List Item) (edit : Edit) → Passes (First (still_needed c None edit ∷ []))
nothing_said c edit = passes_more (still_needed c None edit) [] (λ r h. h) passes_none

pub nothing_further : (c : List Item) (edit : Edit) (new : List Item) (by_rights : Bool) → IsNew c edit new → ((x : Item) → IsFurther c edit new x → ⊥) → Passes (First (still_needed c (Some by_rights) edit ∷ []))
nothing_further c edit new by_rights is none =
    passes_more (still_needed c (Some by_rights) edit) []
    (λ r h. none h.2.0 (subst (λ n. IsFurther c edit n h.2.0) (one_new c edit h.0 new h.1 is) h.2.1.is)) passes_none

pub something_further : (c : List Item) (edit : Edit) (new : List Item) (by_rights : Bool) (x copy : Item) → IsNew c edit new → IsLeastFurther c edit new x → copy ≡ x
    → First (still_needed c (Some by_rights) edit ∷ []) (StillNeeded copy by_rights)
something_further c edit new by_rights x copy is least e = inl (new, is, (x, least, ap (λ y. StillNeeded y by_rights) e))

-- what goes further is refused where the behaviour is RESTRICT
pub further_refused : (c : List Item) (edit : Edit) (new : List Item) (restrict : Option Bool) (x : Item) → is_some restrict ≡ true → IsNew c edit new → IsLeastFurther c edit new x → Passes (First (still_needed c restrict edit ∷ [])) → ⊥
further_refused c edit new None x some is least passes = absurd (let odd : false ≡ true = some in cc)
further_refused c edit new (Some by_rights) x some is least passes = passes (StillNeeded x by_rights) (something_further c edit new by_rights x x is least refl)

-- what goes no further where the behaviour is RESTRICT passes
pub none_refused : (c : List Item) (edit : Edit) (new : List Item) (restrict : Option Bool) → IsNew c edit new → (is_some restrict ≡ true → (x : Item) → IsFurther c edit new x → ⊥) → Passes (First (still_needed c restrict edit ∷ []))
none_refused c edit new None is none = nothing_said c edit
none_refused c edit new (Some by_rights) is none = nothing_further c edit new by_rights is (none refl)

-- ---- limits

pub within_limits : (limits : Limits) (c : List Item) (edit : Edit) (new : List Item) → IsNew c edit new → length new ≤ limits.items
    → ((count : ℕ) (x : Item) → HasMoreColumns new limits.columns count x → ⊥) → Passes (First (too_many_items limits c edit ∷ too_many_columns limits c edit ∷ []))
within_limits limits c edit new is few narrow =
    passes_more (too_many_items limits c edit) (too_many_columns limits c edit ∷ [])
    (λ r h. let same = ap length (one_new c edit h.0 new h.1 is) in absurd (omega (arith, same, h.2, few)))
    (passes_more (too_many_columns limits c edit) []
    (λ r h. let wide = subst (λ n. IsLeastWide n limits.columns h.2.0) (one_new c edit h.0 new h.1 is) h.2.1 in narrow h.2.0 wide.table wide.is) passes_none)

pub items_beyond : (limits : Limits) (c : List Item) (edit : Edit) (new : List Item) (count : ℕ) → IsNew c edit new → count ≡ length new → limits.items < count
    → First (too_many_items limits c edit ∷ too_many_columns limits c edit ∷ []) (CatalogFull count)
items_beyond limits c edit new count is counted more = inl (new, is, omega (arith, counted, more), ap CatalogFull counted)

pub columns_refused : (limits : Limits) (c : List Item) (edit : Edit) (new : List Item) (count : ℕ) → IsNew c edit new → length new ≤ limits.items → IsLeastWide new limits.columns count
    → First (too_many_items limits c edit ∷ too_many_columns limits c edit ∷ []) (CatalogFull count)
columns_refused limits c edit new count is few wide = inr (
  (λ r h. let same = ap length (one_new c edit h.0 new h.1 is) in absurd (omega (arith, same, h.2, few))),
  inl (new, is, (count, wide, refl)),
)

-- ---- revisions

pub good_again : (c : List Item) (edit : Edit) (new : List Item) → IsSound c edit → IsNew c edit new → IsGood new
good_again c edit new sound is = new_is_good c edit sound.edited new sound.fit sound.shape is

-- a test of an edit is one of the statement
for_passes : (c : List Item) (who : Who) (s : Statement) (edit : Edit) (test : Edit → Refusal → Type 0) → IsEditOf c who s edit → Passes (test edit) → Passes (for_edit c who s test)
for_passes c who s edit test is passes r h = passes r (subst (λ e. test e r) (edit_settled c who s h.0 edit h.1 is) h.2)

-- what comes of it is refused
pub outcome_exit : {T : Type 0} (limits : Limits) (c : List Item) (who : Who) (s : Statement) (edit : Edit) (restrict : Option Bool) (Done : T → Type 0) (AllDone : Option Warning → Type 0) (same : Type 0)
    (e : EditError) (exit : Result (Option Warning) EditError) → IsErrAnd exit (λ error. error ≡ e) → restrict ≡ (kind_of s).restricts → Passes (First (edit_refusals c who s)) → IsEditOf c who s edit
    → Tested (outcome_refusals limits c restrict edit) Done same (Err e) → Tested (revision_refusals limits c who s) AllDone same exit
outcome_exit limits c who s edit restrict Done AllDone same e (Ok warning) is by passes of h = absurd is
outcome_exit limits c who s edit restrict Done AllDone same (Refused q) (Err (Refused r)) is by passes of h =
    let one : q ≡ r = cc in
    (inr (passes, inl (edit, of, subst (λ o. First (outcome_refusals limits c o edit) r) by (subst (λ x. First (outcome_refusals limits c restrict edit) x) one h.0))), h.1)
outcome_exit limits c who s edit restrict Done AllDone same Memory (Err (Refused r)) is by passes of h = absurd (let odd : Refused r ≡ Memory = is in cc)
outcome_exit limits c who s edit restrict Done AllDone same (Refused q) (Err Memory) is by passes of h = absurd (let odd : Memory ≡ Refused q = is in cc)
outcome_exit limits c who s edit restrict Done AllDone same Memory (Err Memory) is by passes of h = h

-- it is done
pub revised : (limits : Limits) (c : List Item) (who : Who) (s : Statement) (edit : Edit) (restrict : Option Bool) (warning : Option Warning) (new : List Item)
    → restrict ≡ (kind_of s).restricts → Passes (First (edit_refusals c who s)) → IsEditOf c who s edit → (kind_of s).warns c who edit warning
    → Passes (First (outcome_refusals limits c restrict edit)) → IsNew c edit new
    → Passes (First (revision_refusals limits c who s)) × IsRevised c who s warning new
revised limits c who s edit restrict warning new is passes of warns within made = (
  passes_more (First (edit_refusals c who s)) (for_edit c who s (λ e. First (outcome_refusals limits c ((kind_of s).restricts) e)) ∷ []) passes
      (passes_more (for_edit c who s (λ e. First (outcome_refusals limits c ((kind_of s).restricts) e))) []
      (for_passes c who s edit (λ e. First (outcome_refusals limits c ((kind_of s).restricts) e)) of (subst (λ o. Passes (First (outcome_refusals limits c o edit))) is within)) passes_none),
  record { edit = edit; is_edit = of; is_new = made; warns = warns },
)

-- ---- look-ups

-- what the edit takes, the statement's edit takes
pub few_by_edit : (c : List Item) (who : Who) (s : Statement) (edit : Edit) (before after : ℕ) → IsEditOf c who s edit → TakesFew c edit before after → (other : Edit) → HasEdit c who s other → TakesFew c other before after
few_by_edit c who s edit before after is few other has = subst (λ e. TakesFew c e before after) (edit_settled c who s edit other is has.is_edit) few
