-- What an edit makes of a catalogue that is kept with its board.
use Rattle.std.proofs.Common.{◌≡◌, inl, inr, List, Option, Some, None, Result, Ok, Err, subst}
use Rattle.std.specs.Result.{IsErrAnd}
use Rattle.item_index.specs.Graphs.{Graph}
use Rattle.cat_items.specs.declared.edit.Edit.{Edit}
use Rattle.cat_items.specs.declared.edit.EditError.{EditError}
use Rattle.cat_items.specs.declared.edit.EditError.TheVariants.{Refused, Memory}
use Rattle.cat_items.specs.declared.edit.Refusal.{Refusal}
use Rattle.cat_items.specs.declared.item.Item.{Item}
use Rattle.cat_items.specs.Good.{IsGood}
use Rattle.edit_laws.specs.Sound.{IsSound}
use Rattle.edit_rules.specs.First.{First, IsTested, Tested}
use Rattle.catalogue_changes.specs.Changes.{IsChange}
use Rattle.catalogue_changes.specs.Effects.{IsMadeBy}
use Rattle.catalogue_changes.specs.declared.change.Change.{Change}
use Rattle.catalogue_edits.specs.KnownPlaces.{KnowsPlaces}
use Rattle.catalogue_edits.specs.declared.places.KnownPlaces.{KnownPlaces}
use Rattle.revoke_cascade.specs.Boards.{IsCascade}
use Rattle.revoke_cascade.specs.declared.cascade.Cascade.{Cascade}

pub made_by : (g : Graph Item) (c new : List Item) (edit : Edit) (cascade : Cascade) → IsGood c → (sound : IsSound c edit) → IsCascade g c edit new cascade → IsMadeBy c sound.edited edit new cascade.effects
made_by g c new edit cascade good sound is = record { order = good.survivors.order; fit = sound.fit; is_new = is.made; has_effects = is.effects }

-- an error is handed on
pub handed_on : {T U : Type 0} (tests : List (Refusal → Type 0)) (Done : T → Type 0) (AllDone : U → Type 0) (same : Type 0) (e : EditError) (exit : Result U EditError) → same → IsErrAnd exit (λ error. error ≡ e) → IsTested tests Done (Err e)
    → Tested tests AllDone same exit
handed_on tests Done AllDone same e (Ok value) here is h = absurd is
handed_on tests Done AllDone same (Refused q) (Err (Refused r)) here is h = let one : q ≡ r = cc in (subst (λ x. First tests x) one h.0, here)
handed_on tests Done AllDone same Memory (Err (Refused r)) here is h = absurd (let odd : Refused r ≡ Memory = is in cc)
handed_on tests Done AllDone same e (Err Memory) here is h = here

-- what is in the new catalogue was there, or has come
pub knows_new : (c new : List Item) (change : Change) (known : Option KnownPlaces) → IsChange c new change → KnowsPlaces c known × KnowsPlaces change.coming.items known → KnowsPlaces new known
knows_new c new change None is h = tt
knows_new c new change (Some it) is h = λ x there. elim ((is.members x).0 there) [ inl k ↦ h.0 x k.0 | inr k ↦ h.1 x k ]
