-- What an edit makes, by what the code finds of it.
use Rattle.std.proofs.Common.{◌≡◌, ◌∙◌, ℕ, Bool, true, List, length, refl, subst, sym}
use Rattle.std.specs.Prelude.{◌↔◌}
use Rattle.std.specs.List.{Contains}
use Rattle.std.proofs.Math.ListN.{length-set}
use Rattle.item_index.specs.Graphs.{Graph, IsWhole}
use Rattle.cat_items.specs.declared.edit.Edit.{Edit}
use Rattle.cat_items.specs.declared.item.Item.{Item}
use Rattle.cat_items.specs.contracts.item.ItemPartialEq.TheImpl as same
use Rattle.cat_items.specs.Catalogues.{IsInOrder}
use Rattle.cat_items.specs.Edits.{IsNew}
use Rattle.cat_items.specs.Fit.{IsFit}
use Rattle.cat_items.specs.Good.{IsGood}
use Rattle.cat_items.specs.Survivors.{IsWithSystem}
use Rattle.cat_items.specs.Supported.{Supported}
use Rattle.part_rounds.specs.Grown.{Grows}
use Rattle.part_rounds.specs.Grown as on
use Rattle.board_steps.specs.Plans.{IsFullBoard}
use Rattle.edit_suspects.specs.Seeds.{AreTouched}
use Rattle.edit_suspects.specs.Suspects.{AreFresh, is_suspect}
use Rattle.asked_parts.specs.Parts.{IsPartOf}
use Rattle.part_rescue.specs.Rescued.{AreRescued}
use Rattle.board_plans.specs.declared.arrivals.Arrival.{Arrival}
use Rattle.board_plans.specs.declared.plan.Plan.{Plan}
use Rattle.board_plans.specs.Planning.{AreArrivals, CanPlan}
use Rattle.board_changes.specs.Readiness.{IsPlanned}
use Rattle.board_steps.specs.Plans.{IsPlanOf}
use Rattle.graph_changes.specs.Ends.{links_of}
use Rattle.edit_rules.specs.Chosen.{AreChosen}
use Rattle.catalogue_changes.specs.Effects.{AreEffects, IsMadeBy}
use Rattle.catalogue_changes.specs.declared.effects.Effects.{Effects}
use Rattle.edit_arrivals.specs.Suspects.{IsFoundBy}
use Rattle.finite_chains.specs.Chains.{IsWithin}
use Rattle.revoke_cascade.specs.Prepared.{AreKnown, IsEditOn, IsFoundIn, IsJudgement, IsFitOn, FitsSome, Tells}
use Rattle.revoke_cascade.proofs.Known.{fresh_rights}
use Rattle.revoke_cascade.proofs.Judged.{can_plan, found_by, is_planned, makes_new, tells}
use Rattle.revoke_cascade.proofs.Rights.{with_system}

-- ---- marks

size_kept : {X : Type 0} (sup : List X → X → Type 0) (xs : List X) (first : List Bool) (m : List Bool) → Grows sup xs first m → length m ≡ length first
size_kept sup xs first m on.same = refl
size_kept sup xs first m (on.more m1 at grown low off is) = length-set m1 at true ∙ size_kept sup xs first m1 grown

pub rescued_size : (suspects part : List Item) (rescue : List Bool) → AreRescued suspects part rescue → length rescue ≡ length part
rescued_size suspects part rescue are = size_kept (Supported part) part are.first rescue are.grown ∙ are.clear.size

-- ---- an edit on the board of its catalogue

-- all lists of an edit that fits
pub fit_on : (g : Graph Item) (c edited : List Item) (edit : Edit) → IsFitOn g c edited edit → (f : List Item) × IsEditOn g c edited f edit
fit_on g c edited edit fits =
    let all = with_system edited fits.fit.is_edited.order in
    (all.0, record { good = fits.good; whole = fits.whole; full = fits.full; fit = fits.fit; with_system = all.1 })

-- what a list of suspects is to be
abbrev pub ListsSuspects : Graph Item → Edit → List ℕ → List Item → Type 0
ListsSuspects g edit marks suspects = (c edited f fresh : List Item) → IsEditOn g c edited f edit → AreFresh c edited fresh → (x : Item) → Contains suspects x ↔ (Contains f x × (is_suspect g marks edit.added fresh x ≡ true))

pub lists_of : (g : Graph Item) (edit : Edit) (marks : List ℕ) (suspects : List Item)
    → ((c edited f fresh : List Item) → IsGood c → IsWhole same.ghosts.eq g → IsFullBoard g c → IsFit c edit edited → IsWithSystem edited f → AreFresh c edited fresh → (x : Item) → Contains suspects x ↔ (Contains f x × (is_suspect g marks edit.added fresh x ≡ true)))
    → ListsSuspects g edit marks suspects
lists_of g edit marks suspects are c edited f fresh on are_fresh = are c edited f fresh on.good on.whole on.full on.fit on.with_system are_fresh

pub known_of : (g : Graph Item) (edit : Edit) (marks : List ℕ) (suspects : List Item) → AreTouched same.ghosts.eq g edit marks → IsInOrder suspects → ListsSuspects g edit marks suspects
    → (c edited f fresh : List Item) → IsEditOn g c edited f edit → AreFresh c edited fresh → AreKnown g c edited f edit marks fresh suspects
known_of g edit marks suspects touched order lists c edited f fresh on are_fresh = record { on = on; touched = touched; are_fresh = are_fresh; listed = record { order = order; members = lists c edited f fresh on are_fresh } }

-- what a part for the suspects is to be
abbrev pub IsPartFor : Graph Item → Edit → List ℕ → List Item → List Item → Type 0
IsPartFor g edit marks suspects part = (c edited f fresh : List Item) → IsEditOn g c edited f edit → AreFresh c edited fresh → IsPartOf g c marks suspects part

pub part_for : (g : Graph Item) (edit : Edit) (marks : List ℕ) (suspects part : List Item)
    → ((c edited fresh : List Item) → IsGood c → IsWhole same.ghosts.eq g → IsFullBoard g c → IsFit c edit edited → AreFresh c edited fresh → IsPartOf g c marks suspects part) → IsPartFor g edit marks suspects part
part_for g edit marks suspects part is c edited f fresh on are_fresh = is c edited fresh on.good on.whole on.full on.fit are_fresh

-- the part has the suspects
pub fits_within : (g : Graph Item) (edit : Edit) (marks : List ℕ) (suspects part : List Item) → (c : List Item) → FitsSome g c edit → IsPartFor g edit marks suspects part → IsWithin suspects part
fits_within g edit marks suspects part c fits is =
    let all = fit_on g c fits.0 edit fits.1 in
    let fresh = fresh_rights g c fits.0 all.0 edit all.1 in
    (is c fits.0 all.0 fresh.0 all.1 fresh.1).has_suspects

pub judgement : (g : Graph Item) (edit : Edit) (marks : List ℕ) (suspects part found : List Item) → AreTouched same.ghosts.eq g edit marks → IsInOrder suspects → ListsSuspects g edit marks suspects → IsPartFor g edit marks suspects part → IsFoundIn part suspects found
    → (c edited f fresh : List Item) → IsEditOn g c edited f edit → AreFresh c edited fresh → IsJudgement g c edited f edit marks fresh suspects found
judgement g edit marks suspects part found touched order lists is rescue c edited f fresh on are_fresh = (
  part,
  rescue.0,
  record { known = known_of g edit marks suspects touched order lists c edited f fresh on are_fresh; part_is = is c edited f fresh on are_fresh; rescued = rescue.1 },
  rescue.2,
)

-- ---- the plan

abbrev pub Judges : Graph Item → Edit → List ℕ → List Item → List Item → Type 0
Judges g edit marks suspects found = (c edited f fresh : List Item) → IsEditOn g c edited f edit → AreFresh c edited fresh → IsJudgement g c edited f edit marks fresh suspects found

abbrev pub Arrive : List Item → List Item → List Arrival → Type 0
Arrive found suspects arrivals = (c all edited f part standing : List Item) (edit : Edit) (suspect : Item → Bool) → IsFoundBy c all edited f edit suspect part found standing → AreChosen f (λ x. suspect x ≡ true) suspects → AreArrivals standing suspect arrivals

abbrev pub Plans : Graph Item → List ℕ → List Arrival → Plan → Type 0
Plans g marks arrivals plan = (c new : List Item) (suspect : Item → Bool) → CanPlan same.ghosts.eq g c new suspect marks arrivals → IsPlanOf g c new suspect plan.out.items plan.keys.items (links_of g plan.out.items plan.keys.items plan.links.items)

-- The edit makes a new catalogue, of which what was found tells.
pub told : (g : Graph Item) (edit : Edit) (marks : List ℕ) (suspects found : List Item) → Judges g edit marks suspects found → (c edited : List Item) → IsFitOn g c edited edit → (new : List Item) × IsNew c edit new × Tells c edit suspects found new
told g edit marks suspects found judges c edited fits =
    let all = fit_on g c edited edit fits in
    let f = all.0 in
    let fresh = fresh_rights g c edited f edit all.1 in
    let is = judges c edited f fresh.0 all.1 fresh.1 in
    let to = makes_new g c edited f edit marks fresh.0 suspects is.0 is.1 is.2 in (
      to.0,
      to.1,
      subst (λ l. Tells c edit suspects l to.0) (sym is.3) (tells g c edited f edit marks fresh.0 suspects is.0 is.1 is.2 to.0 to.1),
    )

-- So it is, and the plan makes its board.
pub record MakesPlan (g : Graph Item) (c : List Item) (edit : Edit) (new : List Item) (plan : Plan) (suspects found : List Item) : Type 0 where
  pub made : IsNew c edit new
  pub planned : (suspect : Item → Bool) × IsPlanned same.ghosts.eq g c new suspect plan
  pub tells : Tells c edit suspects found new

pub outcome : (g : Graph Item) (edit : Edit) (marks : List ℕ) (suspects found : List Item) (arrivals : List Arrival) (plan : Plan) → Judges g edit marks suspects found → Arrive found suspects arrivals → Plans g marks arrivals plan
    → (c edited : List Item) → IsFitOn g c edited edit → (new : List Item) × MakesPlan g c edit new plan suspects found
outcome g edit marks suspects found arrivals plan judges arrive plans c edited fits =
    let all = fit_on g c edited edit fits in
    let f = all.0 in
    let fresh = fresh_rights g c edited f edit all.1 in
    let is = judges c edited f fresh.0 all.1 fresh.1 in
    let suspect = is_suspect g marks edit.added fresh.0 in
    let to = makes_new g c edited f edit marks fresh.0 suspects is.0 is.1 is.2 in
    let new = to.0 in
    let by : IsFoundBy c is.2.known.on.good.all edited f edit suspect is.0 found new =
    subst (λ l. IsFoundBy c is.2.known.on.good.all edited f edit suspect is.0 l new) (sym is.3) (found_by g c edited f edit marks fresh.0 suspects is.0 is.1 is.2 new to.1) in
    let are = arrive c is.2.known.on.good.all edited f is.0 new edit suspect by is.2.known.listed in
    let can = can_plan g c edited f edit marks fresh.0 suspects is.0 is.1 is.2 new to.1 arrivals are in (
      new,
      record {
        made = to.1;
        planned = (suspect, is_planned g c new suspect marks arrivals plan can (plans c new suspect can));
        tells = subst (λ l. Tells c edit suspects l new) (sym is.3) (tells g c edited f edit marks fresh.0 suspects is.0 is.1 is.2 new to.1);
      },
    )

-- the same, of arrivals that are lent
pub outcome_lent : (g : Graph Item) (edit : Edit) (marks : List ℕ) (suspects found : List Item) (lent arrivals : List Arrival) (plan : Plan) → lent ≡ arrivals → Judges g edit marks suspects found → Arrive found suspects arrivals → Plans g marks lent plan
    → (c edited : List Item) → IsFitOn g c edited edit → (new : List Item) × MakesPlan g c edit new plan suspects found
outcome_lent g edit marks suspects found lent arrivals plan value judges arrive plans = outcome g edit marks suspects found arrivals plan judges arrive (subst (λ l. Plans g marks l plan) value plans)

-- an edit that fits, with its new catalogue and its effects
pub made_on : (g : Graph Item) (c edited new : List Item) (edit : Edit) (effects : Effects) → IsFitOn g c edited edit → IsNew c edit new → AreEffects c edit new effects → IsMadeBy c edited edit new effects
made_on g c edited new edit effects fits made does = record { order = fits.good.survivors.order; fit = fits.fit; is_new = made; has_effects = does }
