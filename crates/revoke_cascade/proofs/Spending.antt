-- How many look-ups it takes to make an edit ready.
use Rattle.std.proofs.Common.{◌≡◌, ◌-◌, inl, inr, ℕ, ◌+◌, ◌≤◌, List, length, subst, sym, arith}
use Rattle.std.specs.List.{sum_by}
use Rattle.item_index.specs.Graphs.{Graph}
use Rattle.link_marks.specs.Reached.{look_ups}
use Rattle.cat_items.specs.contracts.item.ItemPartialEq.TheImpl as same
use Rattle.cat_items.specs.declared.edit.Edit.{Edit}
use Rattle.cat_items.specs.declared.item.Item.{Item}
use Rattle.cat_items.specs.Bound.{IsBound}
use Rattle.cat_items.specs.Survivors.{AreSurvivors, IsWithSystem}
use Rattle.board_steps.proofs.Edited.{good_apart}
use Rattle.board_plans.specs.declared.arrivals.Arrival.{Arrival}
use Rattle.board_plans.specs.Arrivals.{links_by}
use Rattle.board_plans.specs.Leaving.{AreOutgoing}
use Rattle.board_plans.specs.Leaving as leaving
use Rattle.board_plans.specs.Planning.{AreArrivals}
use Rattle.board_changes.specs.Leaving.{look_ups_with}
use Rattle.edit_suspects.specs.Seeds.{AreTouched, seed_look_ups}
use Rattle.edit_suspects.specs.Suspects.{AreFresh, is_suspect}
use Rattle.cascade_bound.specs.Judging.{JudgesWithin}
use Rattle.cascade_bound.specs.Marked.{AreTouchedOn}
use Rattle.cascade_bound.proofs.Owning.{begun_within, touched_on}
use Rattle.cascade_bound.proofs.Paid as paid
use Rattle.cascade_bound.proofs.Whole.{judged_within, made_within, planned_within}
use Rattle.edit_arrivals.specs.Suspects.{IsFoundBy}
use Rattle.revoke_cascade.specs.Prepared.{IsFitOn, TakesToJudge}
use Rattle.revoke_cascade.proofs.Judged.{found_by, makes_new}
use Rattle.revoke_cascade.proofs.Judged.{survive as survives}
use Rattle.revoke_cascade.proofs.Known.{fresh_rights}
use Rattle.revoke_cascade.proofs.Making.{Arrive, Judges, fit_on}

-- it takes so many look-ups to reach what the edit touches
abbrev pub Reaches : Graph Item → Edit → ℕ → ℕ → Type 0
Reaches g edit old new = (marks : List ℕ) → AreTouched same.ghosts.eq g edit marks → new ≤ old + seed_look_ups edit + sum_by (look_ups g.dependents) marks

-- in all, whatever the edit makes of the catalogue
abbrev pub IsFew : Graph Item → List Item → Edit → ℕ → ℕ → Type 0
IsFew g c edit old new = (edited : List Item) (bound : ℕ) → IsFitOn g c edited edit → IsBound c edit edited bound → new ≤ old + bound

-- what comes for the suspects of the new catalogue
record HaveCome (g : Graph Item) (c edited : List Item) (edit : Edit) (marks : List ℕ) (arrivals : List Arrival) : Type 0 where
  f : List Item
  fresh : List Item
  new : List Item
  with_f : IsWithSystem edited f
  are_fresh : AreFresh c edited fresh
  survive : AreSurvivors f new
  are : AreArrivals new (is_suspect g marks edit.added fresh) arrivals

come : (g : Graph Item) (c edited : List Item) (edit : Edit) (marks : List ℕ) → IsFitOn g c edited edit → (suspects found : List Item) → Judges g edit marks suspects found → (arrivals : List Arrival) → Arrive found suspects arrivals → HaveCome g c edited edit marks arrivals
come g c edited edit marks fits suspects found judges arrivals arrive =
    let all = fit_on g c edited edit fits in
    let f = all.0 in
    let fresh = fresh_rights g c edited f edit all.1 in
    let is = judges c edited f fresh.0 all.1 fresh.1 in
    let suspect = is_suspect g marks edit.added fresh.0 in
    let to = makes_new g c edited f edit marks fresh.0 suspects is.0 is.1 is.2 in
    let by : IsFoundBy c is.2.known.on.good.all edited f edit suspect is.0 found to.0 =
    subst (λ l. IsFoundBy c is.2.known.on.good.all edited f edit suspect is.0 l to.0) (sym is.3) (found_by g c edited f edit marks fresh.0 suspects is.0 is.1 is.2 to.0 to.1) in
    record {
      f = f;
      fresh = fresh.0;
      new = to.0;
      with_f = all.1.with_system;
      are_fresh = fresh.1;
      survive = survives g c edited f edit marks fresh.0 suspects is.0 is.1 is.2 to.0 to.1;
      are = arrive c is.2.known.on.good.all edited f is.0 to.0 edit suspect by is.2.known.listed;
    }

module _ (g : Graph Item) (c : List Item) (edit : Edit) (start : ℕ) where
  module _ (edited : List Item) (bound : ℕ) (fits : IsFitOn g c edited edit) (b : IsBound c edit edited bound) where
    reached_within : (now : ℕ) → Reaches g edit start now → now ≤ start + bound
    reached_within now reaches =
        omega (arith, begun_within g edit fits.whole c edited bound fits.good fits.full fits.fit b (now - start) (λ marks touched. omega (arith, reaches marks touched)))

    module _ (marks : List ℕ) (touched : AreTouched same.ghosts.eq g edit marks) (first : ℕ) (reaches : Reaches g edit start first) (second : ℕ) (judging : TakesToJudge g c edit marks first second) where
      on : (own : List ℕ) × AreTouchedOn g c edit marks own
      on = touched_on g edit fits.whole c (good_apart c fits.good) fits.full marks touched fits.fit.target fits.fit.changed

      abbrev spent : ℕ
      spent = second - (first + length marks)

      judged_few : second ≤ start + bound
      judged_few = elim judging [
        | inl read ↦ omega (arith, read, paid.begins_within g c edited edit marks on.0 on.1 fits.good fits.fit bound b, reaches marks touched)
        | inr (none, asked) ↦
            let takes : JudgesWithin g c edit marks spent = λ all part keys rights has is keyed of. omega (arith, asked all part keys rights (good_apart c fits.good) fits.full has is keyed of) in
            omega (arith, judged_within g c edited edit marks on.0 on.1 fits.good fits.fit bound b (none edited b.u b.spoken_of.members) spent takes, reaches marks touched)
      ]

      module _ (arrivals : List Arrival) (have : HaveCome g c edited edit marks arrivals) (third : ℕ) (plans : third ≤ second + sum_by (leaving.look_ups g marks) marks + sum_by (λ a. length (links_by a)) arrivals) where
        planned_few : third ≤ start + bound
        planned_few = elim judging [
          | inl read ↦
              let all = paid.comes_within g c edited edit marks on.0 on.1 fits.good fits.fit bound b have.f have.fresh have.new have.with_f have.are_fresh have.survive arrivals have.are in
              omega (arith, read, plans, all, reaches marks touched)
          | inr (none, asked) ↦
              let takes : JudgesWithin g c edit marks spent = λ all part keys rights has is keyed of. omega (arith, asked all part keys rights (good_apart c fits.good) fits.full has is keyed of) in
              let all = planned_within g c edited edit marks on.0 on.1 fits.good fits.fit bound b (none edited b.u b.spoken_of.members) have.f have.fresh have.new have.with_f have.are_fresh have.survive arrivals have.are spent takes in
              omega (arith, plans, all, reaches marks touched)
        ]

        read_few : (out : List ℕ) → AreOutgoing g marks out → third + sum_by (λ n. 1 + look_ups_with g n) out ≤ start + bound
        read_few out outgoing = elim judging [
          | inl read ↦
              let all = paid.within_bound g c edited edit marks on.0 on.1 fits.good fits.fit bound b have.f have.fresh have.new have.with_f have.are_fresh have.survive arrivals have.are out outgoing in
              omega (arith, read, plans, all, reaches marks touched)
          | inr (none, asked) ↦
              let takes : JudgesWithin g c edit marks spent = λ all part keys rights has is keyed of. omega (arith, asked all part keys rights (good_apart c fits.good) fits.full has is keyed of) in
              let all = made_within g c edited edit marks on.0 on.1 fits.good fits.fit bound b (none edited b.u b.spoken_of.members) have.f have.fresh have.new have.with_f have.are_fresh have.survive arrivals have.are spent takes out outgoing in
              omega (arith, plans, all, reaches marks touched)
        ]

  -- ---- step by step

  pub reached_few : (now : ℕ) → Reaches g edit start now → IsFew g c edit start now
  reached_few now reaches edited bound fits b = reached_within edited bound fits b now reaches

  module _ (marks : List ℕ) (touched : AreTouched same.ghosts.eq g edit marks) (first : ℕ) (reaches : Reaches g edit start first) where
    pub judging_few : (now : ℕ) → TakesToJudge g c edit marks first now → IsFew g c edit start now
    judging_few now judging edited bound fits b = judged_few edited bound fits b marks touched first reaches now judging

    module _ (second : ℕ) (judging : TakesToJudge g c edit marks first second) (suspects found : List Item) (judges : Judges g edit marks suspects found) (lent arrivals : List Arrival) (value : lent ≡ arrivals) (arrive : Arrive found suspects arrivals) (third : ℕ)
        (plans : third ≤ second + sum_by (leaving.look_ups g marks) marks + sum_by (λ a. length (links_by a)) lent) where
      same_plans : third ≤ second + sum_by (leaving.look_ups g marks) marks + sum_by (λ a. length (links_by a)) arrivals
      same_plans = subst (λ (l : List Arrival). third ≤ second + sum_by (leaving.look_ups g marks) marks + sum_by (λ a. length (links_by a)) l) value plans

      pub planning_few : IsFew g c edit start third
      planning_few edited bound fits b = planned_few edited bound fits b marks touched first reaches second judging arrivals (come g c edited edit marks fits suspects found judges arrivals arrive) third same_plans

      pub reading_few : (out : List ℕ) → AreOutgoing g marks out → (edited : List Item) (bound : ℕ) → IsFitOn g c edited edit → IsBound c edit edited bound → third + sum_by (λ n. 1 + look_ups_with g n) out ≤ start + bound
      reading_few out outgoing edited bound fits b = read_few edited bound fits b marks touched first reaches second judging arrivals (come g c edited edit marks fits suspects found judges arrivals arrive) third same_plans out outgoing
