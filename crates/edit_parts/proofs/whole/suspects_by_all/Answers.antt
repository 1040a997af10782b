use Rattle.cat_items.specs.contracts.item.ItemPartialEq.TheImpl as same
use Rattle.board_steps.proofs.Edited.{good_apart}
use Rattle.edit_suspects.proofs.GhostKeys.{possible_is_granted}
use Rattle.asked_parts.proofs.UnderLaws.{same_itself}
use Rattle.edit_parts.proofs.PossibleLaws.{start_apart, start_are, touched_granted}
use Rattle.edit_parts.proofs.SuspectLaws.{suspects_by_part}
use Rattle.edit_parts.proofs.TouchedLaws.{fits_apart}
use Rattle.edit_parts.proofs.WholeLaws.{kept_unmarked, part_with_kept, suspects_apart, suspects_by_whole}
use Rattle.edit_parts.proofs.whole.suspects_by_all.Goals as goal

pub touched_items-requires-clause-fits : goal.touched_items-requires-clause-fits
touched_items-requires-clause-fits g c = (c.args.catalogue.now.items, c.requires.fit.0, c.requires.good, c.requires.full, c.requires.fit.1)

pub joined-requires : goal.joined-requires
joined-requires g c =
    touched_granted c.args.board.now c.args.edit.now c.args.marks.now.keys c.in_ok-items.field-0.rights.items c.in_ok-items.ensures.rights

pub with_kept-requires : goal.with_kept-requires
with_kept-requires g c =
    let graph = c.args.board.now in
    let edit = c.args.edit.now in
    let marks = c.args.marks.now.keys in
    let old = c.args.catalogue.now.items in
    let touched = c.in_ok-items.field-0.items.items in
    let rights = c.in_ok-items.field-0.rights.items in
    let kept = c.in_ok-kept.kept.items in
    let start = c.in_ok-start.start.items in
    let are = start_are graph edit marks touched rights start c.in_ok-items.ensures.items c.in_ok-items.ensures.rights c.in_ok-start.ensures.members in
    let apart = start_apart graph edit marks (fits_apart graph edit (old, c.requires.fit.0, c.requires.good, c.requires.full, c.requires.fit.1)) c.requires.spread start are in
    λ x y h k e. apart x y h (kept_unmarked graph edit marks old (good_apart old c.requires.good) c.requires.full touched kept c.in_ok-items.ensures.items c.in_ok-kept.ensures.members y k) e

pub touched_or_fresh-requires : goal.touched_or_fresh-requires
touched_or_fresh-requires g c =
    touched_granted c.args.board.now c.args.edit.now c.args.marks.now.keys c.in_ok-items.field-0.rights.items c.in_ok-items.ensures.rights

pub joined-requires-2 : goal.joined-requires-2
joined-requires-2 g c = λ x h. possible_is_granted c.in_ok-whole.whole.items x ((c.in_ok-further.ensures.members x).0 h).0

pub with_kept-requires-2 : goal.with_kept-requires-2
with_kept-requires-2 g c =
    let graph = c.args.board.now in
    let edit = c.args.edit.now in
    let marks = c.args.marks.now.keys in
    let old = c.args.catalogue.now.items in
    let touched = c.in_ok-items.field-0.items.items in
    let rights = c.in_ok-items.field-0.rights.items in
    let kept = c.in_ok-kept.kept.items in
    let start = c.in_ok-start.start.items in
    let are = start_are graph edit marks touched rights start c.in_ok-items.ensures.items c.in_ok-items.ensures.rights c.in_ok-start.ensures.members in
    let apart = start_apart graph edit marks (fits_apart graph edit (old, c.requires.fit.0, c.requires.good, c.requires.full, c.requires.fit.1)) c.requires.spread start are in
    let further = c.in_ok-further.further.items in
    let suspects = c.in_ok-suspects.suspects.items in
    let suspects_free = suspects_apart graph marks old start touched rights further c.in_ok-whole.whole.items suspects apart c.in_ok-start.ensures.members c.in_ok-further.ensures.members c.in_ok-suspects.ensures.members in
    λ x y h k e. suspects_free x y h (kept_unmarked graph edit marks old (good_apart old c.requires.good) c.requires.full touched kept c.in_ok-items.ensures.items c.in_ok-kept.ensures.members y k) e

pub returns-clause-suspects : goal.returns-clause-suspects
returns-clause-suspects g c =
    let graph = c.args.board.now in
    let edit = c.args.edit.now in
    let marks = c.args.marks.now.keys in
    let own = c.args.catalogue.now.items in
    let no_own = good_apart own c.requires.good in
    let touched = c.in_ok-items.field-0.items.items in
    let rights = c.in_ok-items.field-0.rights.items in
    let kept = c.in_ok-kept.kept.items in
    let start = c.in_ok-start.start.items in
    let part = c.in_ok-whole.whole.items in
    let further = c.in_ok-further.further.items in
    let suspects = c.in_ok-suspects.suspects.items in
    let are = start_are graph edit marks touched rights start c.in_ok-items.ensures.items c.in_ok-items.ensures.rights c.in_ok-start.ensures.members in
    λ old edited f fresh good whole full fit with_f are_fresh x.
    let is_part =
    part_with_kept graph edit marks own no_own c.requires.full touched kept c.in_ok-items.ensures.items c.in_ok-kept.ensures.members same.ghosts.eq whole same_itself c.requires.spread old (good_apart old good) full start part
    c.in_ok-whole.ensures.order c.in_ok-whole.ensures.members in
    let by =
    suspects_by_whole graph edit marks own no_own c.requires.full rights c.in_ok-items.ensures.rights same.ghosts.eq whole same_itself part touched further suspects c.in_ok-items.ensures.items c.in_ok-further.ensures.members
    c.in_ok-suspects.ensures.members in
    let law = suspects_by_part same.ghosts.eq graph old edited edit marks fresh good whole full fit c.requires.spread are_fresh same_itself start part are is_part f with_f x in
    (λ h. law.1 ((by x).0 h), λ h. (by x).1 (law.0 h))

pub returns-clause-part : goal.returns-clause-part
returns-clause-part g c =
    let graph = c.args.board.now in
    let edit = c.args.edit.now in
    let marks = c.args.marks.now.keys in
    let own = c.args.catalogue.now.items in
    let touched = c.in_ok-items.field-0.items.items in
    let kept = c.in_ok-kept.kept.items in
    λ old edited fresh good whole full fit are_fresh.
    part_with_kept graph edit marks own (good_apart own c.requires.good) c.requires.full touched kept c.in_ok-items.ensures.items c.in_ok-kept.ensures.members same.ghosts.eq whole same_itself c.requires.spread old (good_apart old good) full
    c.in_ok-suspects.suspects.items c.in_ok-part.part.items c.in_ok-part.ensures.order c.in_ok-part.ensures.members
