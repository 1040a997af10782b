use Rattle.revoke_cascade.proofs.Making.{fits_within, judgement, lists_of, part_for}
use Rattle.revoke_cascade.proofs.judging.judge.Goals as goal

pub found_in-requires : goal.found_in-requires
found_in-requires g c =
    let graph = c.args.board.now in
    let edit = c.args.edit.now in
    let marks = c.args.marks.now.keys in
    let suspects = c.in_ok-suspects.field-0.suspects.items in
    let part = c.in_ok-suspects.field-0.part.items in
    fits_within graph edit marks suspects part c.args.c.now.items c.requires.fits (part_for graph edit marks suspects part c.in_ok-suspects.ensures.part)

pub returns-clause-judged : goal.returns-clause-judged
returns-clause-judged g c =
    let graph = c.args.board.now in
    let edit = c.args.edit.now in
    let marks = c.args.marks.now.keys in
    let suspects = c.in_ok-suspects.field-0.suspects.items in
    let part = c.in_ok-suspects.field-0.part.items in
    judgement graph edit marks suspects part c.in_ok-found.found.items c.requires.touched c.in_ok-suspects.ensures.order (lists_of graph edit marks suspects c.in_ok-suspects.ensures.suspects) (part_for graph edit marks suspects part c.in_ok-suspects.ensures.part) c.in_ok-found.ensures

pub returns-in_err-suspects-clause-ticks : goal.returns-in_err-suspects-clause-ticks
returns-in_err-suspects-clause-ticks g c = c.suspected.ensures.ticks

pub returns-in_err-found-clause-ticks : goal.returns-in_err-found-clause-ticks
returns-in_err-found-clause-ticks g c = c.suspected.ensures.ticks

pub returns-clause-ticks : goal.returns-clause-ticks
returns-clause-ticks g c = c.suspected.ensures.ticks
