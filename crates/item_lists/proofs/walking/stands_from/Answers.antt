use Rattle.std.proofs.lemmas.Bool.{false≢true}
use Rattle.item_lists.proofs.Steps.{gap_passed, gap_stands_not, key_is, key_passed, key_stands}
use Rattle.item_lists.proofs.walking.stands_from.Goals as goal

pub returns-in-Ok-clause-stands : goal.returns-in-Ok-clause-stands
returns-in-Ok-clause-stands c =
    let items = c.args.items.now in
    let x = c.args.x.now in
    let y = c.index-items-at.result in
    let is = c.index-items-at.is in (
      λ e. key_stands items x c.in-Ok.at y c.in-Ok.ensures.place.0 is (c.same_item.ensures.0 e),
      λ h. c.same_item.ensures.1 (key_is items x c.in-Ok.at y c.requires.order c.in-Ok.ensures.place is h),
    )

pub returns-in-Ok-clause-passed : goal.returns-in-Ok-clause-passed
returns-in-Ok-clause-passed c = key_passed c.args.items.now c.args.x.now c.in-Ok.at c.requires.order c.in-Ok.ensures.place

pub returns-in-Err-clause-stands : goal.returns-in-Err-clause-stands
returns-in-Err-clause-stands c = (λ e. absurd (false≢true e), λ h. absurd (gap_stands_not c.args.items.now c.args.x.now c.in-Err.gap c.in-Err.ensures.place h))

pub returns-in-Err-clause-passed : goal.returns-in-Err-clause-passed
returns-in-Err-clause-passed c = gap_passed c.args.items.now c.args.x.now c.in-Err.gap c.in-Err.ensures.place
