use Rattle.std.proofs.Common.{slice_get, ap, ◌∙◌}
use Rattle.catalogue_changes.proofs.Firsts.{least_of_firsts, least_lost, least_changed, none_further}
use Rattle.catalogue_changes.proofs.effects.least_further.Goals as goal

pub returns-in-Some-Some-clause-least : goal.returns-in-Some-Some-clause-least
returns-in-Some-Some-clause-least c = λ old edited new made.
    least_of_firsts old edited c.args.edit.now new c.args.effects.now made c.in-Some-Some.lost.now c.in-Some-Some.changed.now c.least.result.now
    (c.in-Some-Some.ensures.value ∙ ap (λ l. slice_get l 0) c.as_slice.ensures.value) (c.in-Some-Some.ensures'.value ∙ ap (λ l. slice_get l 0) c.as_slice-2.ensures)
    c.least.ensures.one c.least.ensures.first c.least.ensures.second

pub returns-in-Some-None-clause-least : goal.returns-in-Some-None-clause-least
returns-in-Some-None-clause-least c = λ old edited new made.
    least_lost old edited c.args.edit.now new c.args.effects.now made c.in-Some-None.lost.now
    (c.in-Some-None.ensures.value ∙ ap (λ l. slice_get l 0) c.as_slice.ensures.value) (c.in-Some-None.ensures'.value ∙ ap (λ l. slice_get l 0) c.as_slice-2.ensures)

pub returns-in-None-Some-clause-least : goal.returns-in-None-Some-clause-least
returns-in-None-Some-clause-least c = λ old edited new made.
    least_changed old edited c.args.edit.now new c.args.effects.now made c.in-None-Some.changed.now
    (c.in-None-Some.ensures.value ∙ ap (λ l. slice_get l 0) c.as_slice.ensures.value) (c.in-None-Some.ensures'.value ∙ ap (λ l. slice_get l 0) c.as_slice-2.ensures)

pub returns-in-None-None-clause-none : goal.returns-in-None-None-clause-none
returns-in-None-None-clause-none c = λ old edited new made.
    none_further old edited c.args.edit.now new c.args.effects.now made
    (c.in-None-None.ensures.value ∙ ap (λ l. slice_get l 0) c.as_slice.ensures.value) (c.in-None-None.ensures'.value ∙ ap (λ l. slice_get l 0) c.as_slice-2.ensures)
