use Rattle.std.proofs.Common.{inl, inr, List, ap, arith, length, subst}
use Rattle.std.specs.List.{Contains}
use Rattle.finite_chains.specs.Chains.{IsWithin}
use Rattle.cat_items.specs.contracts.item.ItemPartialEq.TheImpl as same
use Rattle.cat_items.specs.declared.item.Item.{Item}
use Rattle.board_steps.proofs.Edited.{good_apart}
use Rattle.edit_suspects.proofs.GhostKeys.{possible_is_granted}
use Rattle.topic_keys.specs.Lists.{Gets}
use Rattle.asked_parts.proofs.MoreLaws.{closed_for}
use Rattle.asked_parts.proofs.PartLaws.{closed_part}
use Rattle.asked_parts.proofs.UnderLaws.{same_itself}
use Rattle.edit_parts.specs.Parts.{IsUnlessKept}
use Rattle.edit_parts.proofs.LeftLaws.{apart_of}
use Rattle.edit_parts.proofs.PossibleLaws.{by_parts, fewer_rights, further_of, short_start, start_apart, start_are, start_in_all, suspects_in_all, touched_granted}
use Rattle.edit_parts.proofs.SuspectLaws.{part_left, suspects_by_part}
use Rattle.edit_parts.proofs.TouchedLaws.{fits_apart}
use Rattle.edit_parts.proofs.suspects.suspects_of.Goals as goal

pub joined-requires : goal.joined-requires
joined-requires g c =
    touched_granted c.args.board.now c.args.edit.now c.args.marks.now.keys c.in_ok-items.field-0.rights.items c.in_ok-items.ensures.rights

pub part_of-requires : goal.part_of-requires
part_of-requires g c =
    let graph = c.args.board.now in
    let edit = c.args.edit.now in
    let marks = c.args.marks.now.keys in
    let touched = c.in_ok-items.field-0.items.items in
    let rights = c.in_ok-items.field-0.rights.items in
    let start = c.in_ok-start.start.items in
    let are = start_are graph edit marks touched rights start c.in_ok-items.ensures.items c.in_ok-items.ensures.rights c.in_ok-start.ensures.members in
    start_apart graph edit marks (fits_apart graph edit c.requires.fits) c.requires.spread start are

pub put_suspects-requires : goal.put_suspects-requires
put_suspects-requires g c =
    λ x h. possible_is_granted c.in_ok-asked.asked.part.items x ((c.in_ok-possible.ensures.members x).0 (subst (λ l. Contains l x) c.as_slice.ensures.value h))

pub ask_for_rights-requires-clause-granted : goal.ask_for_rights-requires-clause-granted
ask_for_rights-requires-clause-granted g c =
    touched_granted c.args.board.now c.args.edit.now c.args.marks.now.keys c.in_ok-items.field-0.rights.items c.in_ok-items.ensures.rights

pub ask_for_rights-requires-clause-start : goal.ask_for_rights-requires-clause-start
ask_for_rights-requires-clause-start g c =
    let graph = c.args.board.now in
    let edit = c.args.edit.now in
    let marks = c.args.marks.now.keys in
    let touched = c.in_ok-items.field-0.items.items in
    let rights = c.in_ok-items.field-0.rights.items in
    let start = c.in_ok-start.start.items in
    let are = start_are graph edit marks touched rights start c.in_ok-items.ensures.items c.in_ok-items.ensures.rights c.in_ok-start.ensures.members in
    let part = c.in_ok-asked.asked.part.items in
    let possible = c.in_ok-possible.possible.items in
    let new = c.put_suspects.new.suspects.items in
    let gets = subst (λ (l : List Item). Gets (λ x. (right : Item) × Contains l right × IsUnlessKept graph marks right x) touched new) c.as_slice.ensures.value c.in_ok-put_suspects.ensures.members in
    let by = by_parts graph edit marks touched possible part new c.in_ok-items.ensures.items c.in_ok-possible.ensures.members gets in
    λ x h. elim ((c.in_ok-start.ensures.members x).0 h) [ inl t ↦ inl ((gets x).1 (inl t)) | inr r ↦ inr r ]

pub ask_for_rights-requires-clause-rights : goal.ask_for_rights-requires-clause-rights
ask_for_rights-requires-clause-rights g c =
    let graph = c.args.board.now in
    let edit = c.args.edit.now in
    let marks = c.args.marks.now.keys in
    let touched = c.in_ok-items.field-0.items.items in
    let rights = c.in_ok-items.field-0.rights.items in
    let start = c.in_ok-start.start.items in
    λ x h. (c.in_ok-start.ensures.members x).1 (inr h)

pub ask_for_rights-requires-clause-further : goal.ask_for_rights-requires-clause-further
ask_for_rights-requires-clause-further g c =
    let graph = c.args.board.now in
    let edit = c.args.edit.now in
    let marks = c.args.marks.now.keys in
    let touched = c.in_ok-items.field-0.items.items in
    let rights = c.in_ok-items.field-0.rights.items in
    let start = c.in_ok-start.start.items in
    let are = start_are graph edit marks touched rights start c.in_ok-items.ensures.items c.in_ok-items.ensures.rights c.in_ok-start.ensures.members in
    let part = c.in_ok-asked.asked.part.items in
    let possible = c.in_ok-possible.possible.items in
    let new = c.put_suspects.new.suspects.items in
    let gets = subst (λ (l : List Item). Gets (λ x. (right : Item) × Contains l right × IsUnlessKept graph marks right x) touched new) c.as_slice.ensures.value c.in_ok-put_suspects.ensures.members in
    let by = by_parts graph edit marks touched possible part new c.in_ok-items.ensures.items c.in_ok-possible.ensures.members gets in
    let further = further_of graph edit marks touched rights start part new c.in_ok-items.ensures.items c.in_ok-start.ensures.members by in
    further

pub ask_for_rights-requires-clause-apart : goal.ask_for_rights-requires-clause-apart
ask_for_rights-requires-clause-apart g c =
    let graph = c.args.board.now in
    let edit = c.args.edit.now in
    let marks = c.args.marks.now.keys in
    let touched = c.in_ok-items.field-0.items.items in
    let rights = c.in_ok-items.field-0.rights.items in
    let start = c.in_ok-start.start.items in
    let are = start_are graph edit marks touched rights start c.in_ok-items.ensures.items c.in_ok-items.ensures.rights c.in_ok-start.ensures.members in
    let part = c.in_ok-asked.asked.part.items in
    let possible = c.in_ok-possible.possible.items in
    let new = c.put_suspects.new.suspects.items in
    let gets = subst (λ (l : List Item). Gets (λ x. (right : Item) × Contains l right × IsUnlessKept graph marks right x) touched new) c.as_slice.ensures.value c.in_ok-put_suspects.ensures.members in
    let by = by_parts graph edit marks touched possible part new c.in_ok-items.ensures.items c.in_ok-possible.ensures.members gets in
    let further = further_of graph edit marks touched rights start part new c.in_ok-items.ensures.items c.in_ok-start.ensures.members by in
    λ all both. apart_of graph marks start new rights all (start_apart graph edit marks (fits_apart graph edit c.requires.fits) c.requires.spread start are) further (touched_granted graph edit marks rights c.in_ok-items.ensures.rights) both

pub returns-clause-suspects : goal.returns-clause-suspects
returns-clause-suspects g c =
    let graph = c.args.board.now in
    let edit = c.args.edit.now in
    let marks = c.args.marks.now.keys in
    let touched = c.in_ok-items.field-0.items.items in
    let rights = c.in_ok-items.field-0.rights.items in
    let start = c.in_ok-start.start.items in
    let are = start_are graph edit marks touched rights start c.in_ok-items.ensures.items c.in_ok-items.ensures.rights c.in_ok-start.ensures.members in
    let part = c.in_ok-asked.asked.part.items in
    let possible = c.in_ok-possible.possible.items in
    let new = c.put_suspects.new.suspects.items in
    let gets = subst (λ (l : List Item). Gets (λ x. (right : Item) × Contains l right × IsUnlessKept graph marks right x) touched new) c.as_slice.ensures.value c.in_ok-put_suspects.ensures.members in
    let by = by_parts graph edit marks touched possible part new c.in_ok-items.ensures.items c.in_ok-possible.ensures.members gets in
    λ old edited f fresh good whole full fit with_f are_fresh x.
    let law = suspects_by_part same.ghosts.eq graph old edited edit marks fresh good whole full fit c.requires.spread are_fresh same_itself start part are (c.in_ok-asked.ensures.part old (good_apart old good) full) f with_f x in
    (λ h. law.1 ((by x).0 h), λ h. (by x).1 (law.0 h))

pub returns-clause-part : goal.returns-clause-part
returns-clause-part g c =
    let graph = c.args.board.now in
    let edit = c.args.edit.now in
    let marks = c.args.marks.now.keys in
    let touched = c.in_ok-items.field-0.items.items in
    let rights = c.in_ok-items.field-0.rights.items in
    let start = c.in_ok-start.start.items in
    let are = start_are graph edit marks touched rights start c.in_ok-items.ensures.items c.in_ok-items.ensures.rights c.in_ok-start.ensures.members in
    let part = c.in_ok-asked.asked.part.items in
    let possible = c.in_ok-possible.possible.items in
    let new = c.put_suspects.new.suspects.items in
    let gets = subst (λ (l : List Item). Gets (λ x. (right : Item) × Contains l right × IsUnlessKept graph marks right x) touched new) c.as_slice.ensures.value c.in_ok-put_suspects.ensures.members in
    let by = by_parts graph edit marks touched possible part new c.in_ok-items.ensures.items c.in_ok-possible.ensures.members gets in
    λ old edited fresh good whole full fit are_fresh.
    let left = c.in_ok-part.ensures.part old (good_apart old good) full in
    part_left same.ghosts.eq graph old edited edit marks fresh good whole full fit c.requires.spread are_fresh same_itself new rights left.0 left.1 c.in_ok-part.part.items (λ x h. (c.in_ok-items.ensures.rights x).0 h) left.2 left.3 left.4

pub returns-in_err-asked-clause-ticks : goal.returns-in_err-asked-clause-ticks
returns-in_err-asked-clause-ticks g c =
    let graph = c.args.board.now in
    let edit = c.args.edit.now in
    let marks = c.args.marks.now.keys in
    let touched = c.in_ok-items.field-0.items.items in
    let rights = c.in_ok-items.field-0.rights.items in
    let start = c.in_ok-start.start.items in
    let are = start_are graph edit marks touched rights start c.in_ok-items.ensures.items c.in_ok-items.ensures.rights c.in_ok-start.ensures.members in
    λ cat all whole keys rest no full has_all is has all_rights.
    let within = start_in_all graph edit marks start are whole all has_all in
    let asked = c.part_of.ensures.ticks whole keys (closed_for graph marks start all whole within (closed_part graph cat no full marks all whole is)) (λ k h. has k (h.0, within h.0 h.1, h.2)) in
    omega (arith, c.touched_items.ensures.ticks, asked, short_start start all c.in_ok-start.ensures.order within)

pub returns-in_err-possible-clause-ticks : goal.returns-in_err-possible-clause-ticks
returns-in_err-possible-clause-ticks g c =
    let graph = c.args.board.now in
    let edit = c.args.edit.now in
    let marks = c.args.marks.now.keys in
    let touched = c.in_ok-items.field-0.items.items in
    let rights = c.in_ok-items.field-0.rights.items in
    let start = c.in_ok-start.start.items in
    let are = start_are graph edit marks touched rights start c.in_ok-items.ensures.items c.in_ok-items.ensures.rights c.in_ok-start.ensures.members in
    λ cat all whole keys rest no full has_all is has all_rights.
    let within = start_in_all graph edit marks start are whole all has_all in
    let asked = c.part_of.ensures.ticks whole keys (closed_for graph marks start all whole within (closed_part graph cat no full marks all whole is)) (λ k h. has k (h.0, within h.0 h.1, h.2)) in
    omega (arith, c.touched_items.ensures.ticks, asked, short_start start all c.in_ok-start.ensures.order within)

pub returns-in_err-put_suspects-clause-ticks : goal.returns-in_err-put_suspects-clause-ticks
returns-in_err-put_suspects-clause-ticks g c =
    let graph = c.args.board.now in
    let edit = c.args.edit.now in
    let marks = c.args.marks.now.keys in
    let touched = c.in_ok-items.field-0.items.items in
    let rights = c.in_ok-items.field-0.rights.items in
    let start = c.in_ok-start.start.items in
    let are = start_are graph edit marks touched rights start c.in_ok-items.ensures.items c.in_ok-items.ensures.rights c.in_ok-start.ensures.members in
    λ cat all whole keys rest no full has_all is has all_rights.
    let within = start_in_all graph edit marks start are whole all has_all in
    let asked = c.part_of.ensures.ticks whole keys (closed_for graph marks start all whole within (closed_part graph cat no full marks all whole is)) (λ k h. has k (h.0, within h.0 h.1, h.2)) in
    let part = c.in_ok-asked.asked.part.items in
    let possible = c.in_ok-possible.possible.items in
    let in_whole : IsWithin part whole = c.in_ok-asked.ensures.asked.least whole (closed_for graph marks start all whole within (closed_part graph cat no full marks all whole is)) in
    let fewer = fewer_rights part whole possible rest in_whole c.in_ok-possible.ensures.order c.in_ok-possible.ensures.members all_rights in
    omega (arith, c.touched_items.ensures.ticks, asked, short_start start all c.in_ok-start.ensures.order within, fewer, ap length c.as_slice.ensures.value, c.put_suspects.ensures.ticks)

pub returns-in_err-part-clause-ticks : goal.returns-in_err-part-clause-ticks
returns-in_err-part-clause-ticks g c =
    let graph = c.args.board.now in
    let edit = c.args.edit.now in
    let marks = c.args.marks.now.keys in
    let touched = c.in_ok-items.field-0.items.items in
    let rights = c.in_ok-items.field-0.rights.items in
    let start = c.in_ok-start.start.items in
    let are = start_are graph edit marks touched rights start c.in_ok-items.ensures.items c.in_ok-items.ensures.rights c.in_ok-start.ensures.members in
    let part = c.in_ok-asked.asked.part.items in
    let possible = c.in_ok-possible.possible.items in
    let new = c.put_suspects.new.suspects.items in
    let gets = subst (λ (l : List Item). Gets (λ x. (right : Item) × Contains l right × IsUnlessKept graph marks right x) touched new) c.as_slice.ensures.value c.in_ok-put_suspects.ensures.members in
    let by = by_parts graph edit marks touched possible part new c.in_ok-items.ensures.items c.in_ok-possible.ensures.members gets in
    λ cat all whole keys rest no full has_all is has all_rights.
    let within = start_in_all graph edit marks start are whole all has_all in
    let in_whole : IsWithin part whole = c.in_ok-asked.ensures.asked.least whole (closed_for graph marks start all whole within (closed_part graph cat no full marks all whole is)) in
    let fewer = fewer_rights part whole possible rest in_whole c.in_ok-possible.ensures.order c.in_ok-possible.ensures.members all_rights in
    let suspects : IsWithin new all = suspects_in_all graph edit marks part whole all new in_whole by has_all in
    let asked = c.ask_for_rights.ensures.ticks all whole keys (within, suspects) (closed_part graph cat no full marks all whole is) has in
    omega (arith, c.touched_items.ensures.ticks, c.in_ok-asked.ensures.spent, asked, fewer, ap length c.as_slice.ensures.value, c.put_suspects.ensures.ticks)

pub returns-clause-ticks : goal.returns-clause-ticks
returns-clause-ticks g c =
    let graph = c.args.board.now in
    let edit = c.args.edit.now in
    let marks = c.args.marks.now.keys in
    let touched = c.in_ok-items.field-0.items.items in
    let rights = c.in_ok-items.field-0.rights.items in
    let start = c.in_ok-start.start.items in
    let are = start_are graph edit marks touched rights start c.in_ok-items.ensures.items c.in_ok-items.ensures.rights c.in_ok-start.ensures.members in
    let part = c.in_ok-asked.asked.part.items in
    let possible = c.in_ok-possible.possible.items in
    let new = c.put_suspects.new.suspects.items in
    let gets = subst (λ (l : List Item). Gets (λ x. (right : Item) × Contains l right × IsUnlessKept graph marks right x) touched new) c.as_slice.ensures.value c.in_ok-put_suspects.ensures.members in
    let by = by_parts graph edit marks touched possible part new c.in_ok-items.ensures.items c.in_ok-possible.ensures.members gets in
    λ cat all whole keys rest no full has_all is has all_rights.
    let within = start_in_all graph edit marks start are whole all has_all in
    let in_whole : IsWithin part whole = c.in_ok-asked.ensures.asked.least whole (closed_for graph marks start all whole within (closed_part graph cat no full marks all whole is)) in
    let fewer = fewer_rights part whole possible rest in_whole c.in_ok-possible.ensures.order c.in_ok-possible.ensures.members all_rights in
    let suspects : IsWithin new all = suspects_in_all graph edit marks part whole all new in_whole by has_all in
    let asked = c.ask_for_rights.ensures.ticks all whole keys (within, suspects) (closed_part graph cat no full marks all whole is) has in
    omega (arith, c.touched_items.ensures.ticks, c.in_ok-asked.ensures.spent, asked, fewer, ap length c.as_slice.ensures.value, c.put_suspects.ensures.ticks)
