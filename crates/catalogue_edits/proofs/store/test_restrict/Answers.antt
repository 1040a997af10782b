use Rattle.std.proofs.Common.{Bool, [], ◌∷◌, Option, sym, subst}
use Rattle.cat_items.specs.declared.edit.Refusal.TheVariants.{StillNeeded}
use Rattle.edit_rules.specs.First.{First, Passes}
use Rattle.catalogue_edits.specs.Restrict.{still_needed}
use Rattle.catalogue_edits.proofs.Outcomes.{nothing_further, something_further}
use Rattle.catalogue_edits.proofs.store.test_restrict.Goals as goal

pub returns-in-None : goal.returns-in-None
returns-in-None c =
    let made = c.requires.2 in (
      subst (λ (r : Option Bool). Passes (First (still_needed c.args.c.now.items r c.args.edit.now ∷ []))) (sym c.in-Some.is)
          (nothing_further c.args.c.now.items c.args.edit.now c.requires.1 c.in-Some.by_rights made.is_new (c.in-None.ensures.none c.args.c.now.items c.requires.0 c.requires.1 made)),
      tt,
    )

pub returns-in_ok-copy-in-Some-least_further : goal.returns-in_ok-copy-in-Some-least_further
returns-in_ok-copy-in-Some-least_further c =
    let made = c.requires.2 in
    let copy = c.in_ok-copy-in-Some-least_further.field-0 in (
      subst (λ (r : Option Bool). First (still_needed c.args.c.now.items r c.args.edit.now ∷ []) (StillNeeded copy c.in-Some.by_rights)) (sym c.in-Some.is)
          (something_further c.args.c.now.items c.args.edit.now c.requires.1 c.in-Some.by_rights c.in-Some-least_further.item.now copy made.is_new (c.in-Some-least_further.ensures.least c.args.c.now.items c.requires.0 c.requires.1 made) c.in_ok-copy-in-Some-least_further.ensures),
      tt,
    )
