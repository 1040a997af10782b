use Rattle.std.proofs.Common.{◌≡◌, List, sym, subst, refl}
use Rattle.cat_items.specs.declared.item.Item.{Item}
use Rattle.cat_items.specs.Edits.{IsNew}
use Rattle.cat_items.specs.Good.{IsGood}
use Rattle.support_laws.proofs.Settled.{new_is_good}
use Rattle.board_graph.specs.Boards.{Holds}
use Rattle.catalogue_changes.specs.Changes.{IsChange}
use Rattle.catalogue_changes.specs.Widths.{IsNarrow}
use Rattle.edit_laws.specs.Sound.{IsSound}
use Rattle.catalogue_edits.specs.KnownPlaces.{KnowsPlaces}
use Rattle.catalogue_edits.specs.Revisions.{outcome_refusals}
use Rattle.catalogue_edits.specs.Stores.{IsAdmitted}
use Rattle.catalogue_edits.specs.declared.store.Admitted.{Admitted}
use Rattle.catalogue_edits.proofs.Stored.{handed_on, knows_new}
use Rattle.catalogue_edits.proofs.store.Store.change.Goals as goal

pub admit-requires-clause-narrow : goal.admit-requires-clause-narrow
admit-requires-clause-narrow g c = rw c.self.view_is c.requires.narrow

pub returns-in_err-cascade-clause-tested : goal.returns-in_err-cascade-clause-tested
returns-in_err-cascade-clause-tested g c =
    let old = c.self.inside.catalogue.items in
    let edit = c.args.edit.now in
    rw (← c.self.view_is)
    (handed_on (outcome_refusals c.args.limits.now old c.args.restrict edit) (λ (a : Admitted). (new : List Item) × IsAdmitted c.admit.new.board old edit new a) (λ (u : Unit {0}). IsNew old edit old) (old ≡ old) c.in_err-cascade.field-0.0
    c.from_residual.result refl c.from_residual.ensures.1 c.in_err-cascade.ensures.tested)

pub returns-in_err-cascade-clause-narrow : goal.returns-in_err-cascade-clause-narrow
returns-in_err-cascade-clause-narrow g c = rw c.self.view_is c.requires.narrow

pub returns-in_err-cascade-clause-few : goal.returns-in_err-cascade-clause-few
returns-in_err-cascade-clause-few g c = rw (← c.self.view_is) c.in_err-cascade.ensures.few

pub returns-in_err-reserve-clause-few : goal.returns-in_err-reserve-clause-few
returns-in_err-reserve-clause-few g c = rw (← c.self.view_is) c.in_ok-cascade.ensures.few

pub returns-in_err-reserve-clause-narrow : goal.returns-in_err-reserve-clause-narrow
returns-in_err-reserve-clause-narrow g c = subst (λ l. IsNarrow l c.args.limits.now.columns) (sym c.reserve.ensures.items) (rw c.self.view_is c.requires.narrow)

pub invariant_of-self-in_err-reserve : goal.invariant_of-self-in_err-reserve
invariant_of-self-in_err-reserve g c = (
  subst IsGood (sym c.reserve.ensures.items) c.self.invariant.0,
  subst (Holds c.admit.new.board) (sym c.reserve.ensures.items) c.in_ok-cascade.ensures.held,
  subst (λ l. KnowsPlaces l c.self.inside.places) (sym c.reserve.ensures.items) c.self.invariant.2,
)

pub invariant_of-self-2 : goal.invariant_of-self-2
invariant_of-self-2 g c =
    let old = c.self.inside.catalogue.items in
    let edit = c.args.edit.now in
    let new = c.in_ok-cascade.ensures.tested.1.0 in
    let is = c.in_ok-cascade.ensures.tested.1.1 in
    let sound : IsSound old edit = rw c.self.view_is c.requires.sound in
    let made = c.make.ensures new (subst (λ l. IsChange l new c.in_ok-cascade.field-0.change) (sym c.reserve.ensures.items) is.change) in
    let holds = c.run.ensures.held old new edit c.self.invariant.0 c.in_ok-cascade.ensures.held is.cascade in (
      subst IsGood (sym made) (new_is_good old edit sound.edited new sound.fit sound.shape is.cascade.made),
      subst (Holds c.run.new.board) (sym made) holds,
      subst (λ l. KnowsPlaces l c.note_coming.new.places) (sym made)
          (knows_new old new c.in_ok-cascade.field-0.change c.note_coming.new.places is.change (rw c.items-2.ensures.items at (c.note_coming.ensures old c.self.invariant.2))),
    )

pub returns-clause-tested : goal.returns-clause-tested
returns-clause-tested g c =
    let old = c.self.inside.catalogue.items in
    let edit = c.args.edit.now in
    let new = c.in_ok-cascade.ensures.tested.1.0 in
    let is = c.in_ok-cascade.ensures.tested.1.1 in
    let made = c.make.ensures new (subst (λ l. IsChange l new c.in_ok-cascade.field-0.change) (sym c.reserve.ensures.items) is.change) in
    rw (← c.self.view_is) (c.in_ok-cascade.ensures.tested.0, subst (IsNew old edit) (sym made) is.cascade.made)

pub returns-clause-narrow : goal.returns-clause-narrow
returns-clause-narrow g c =
    let old = c.self.inside.catalogue.items in
    let new = c.in_ok-cascade.ensures.tested.1.0 in
    let is = c.in_ok-cascade.ensures.tested.1.1 in
    let made = c.make.ensures new (subst (λ l. IsChange l new c.in_ok-cascade.field-0.change) (sym c.reserve.ensures.items) is.change) in
    subst (λ l. IsNarrow l c.args.limits.now.columns) (sym made) (c.in_ok-cascade.ensures.narrow new is.change)

pub returns-clause-few : goal.returns-clause-few
returns-clause-few g c = rw (← c.self.view_is) c.in_ok-cascade.ensures.few
