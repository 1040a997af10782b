use Rattle.std.proofs.Common.{arith}
use Rattle.item_index.specs.Shelves.{list_at}
use Rattle.link_marks.proofs.Places.{Contains-of_some, past_of_none, place_of_some, read_of_some}
use Rattle.topic_keys.proofs.Adding.{each_begin, each_end, each_more}
use Rattle.asked_parts.specs.Under.{IsUnmarkedAt}
use Rattle.asked_parts.proofs.UnderLaws.{apart_more, rests_are_nodes}
use Rattle.asked_parts.proofs.under.put_rests.Goals as goal

pub loop-number-init : goal.loop-number-init
loop-number-init g c =
    record { found = each_begin (IsUnmarkedAt c.args.board.now c.args.marks.now.keys) (list_at c.args.board.now.rests c.args.node) c.args.found.now.items; apart = c.requires.apart; ticks = omega (arith); within = omega (arith) }

pub put_unmarked-requires : goal.put_unmarked-requires
put_unmarked-requires g c =
    let all = list_at c.args.board.now.rests c.args.node in
    rests_are_nodes c.args.board.now c.args.node c.in-Some.number c.rests.ensures.whole (Contains-of_some all c.loop-number.at c.in-Some.number c.in-Some.ensures.rests)

pub loop-number-smaller : goal.loop-number-smaller
loop-number-smaller g c = omega (arith, c.loop-number.invariant.within, (place_of_some (list_at c.args.board.now.rests c.args.node) c.loop-number.at c.in-Some.number c.in-Some.ensures.rests).0)

pub loop-number-preserved : goal.loop-number-preserved
loop-number-preserved g c =
    let all = list_at c.args.board.now.rests c.args.node in
    let at = c.loop-number.at in
    let number = c.in-Some.number in
    let place = place_of_some all at number c.in-Some.ensures.rests in
    let R = IsUnmarkedAt c.args.board.now c.args.marks.now.keys in
    record {
      found = each_more R all c.args.found.now.items c.loop-number.found.items c.put_unmarked.new.found.items at number place.0 (read_of_some all at number c.in-Some.ensures.rests) c.loop-number.invariant.found c.in_ok-put_unmarked.ensures.found;
      apart = apart_more c.args.board.now c.args.marks.now.keys (R number) c.loop-number.found.items c.put_unmarked.new.found.items c.rests.ensures.whole (λ y h. (number, h)) c.loop-number.invariant.apart c.in_ok-put_unmarked.ensures.found;
      ticks = omega (arith, c.loop-number.invariant.ticks, c.rests.ensures.ticks, c.put_unmarked.ensures.ticks);
      within = omega (arith, place.0);
    }

pub returns-clause-found : goal.returns-clause-found
returns-clause-found g c =
    let all = list_at c.args.board.now.rests c.args.node in
    each_end (IsUnmarkedAt c.args.board.now c.args.marks.now.keys) all c.args.found.now.items c.loop-number.found.items c.loop-number.at (past_of_none all c.loop-number.at c.in_default.ensures.rests) c.loop-number.invariant.found

pub returns-clause-ticks : goal.returns-clause-ticks
returns-clause-ticks g c = omega (arith, c.loop-number.invariant.ticks, c.loop-number.invariant.within, c.rests.ensures.ticks)

pub returns-in_err-put_unmarked-clause-ticks : goal.returns-in_err-put_unmarked-clause-ticks
returns-in_err-put_unmarked-clause-ticks g c =
    omega (arith, c.loop-number.invariant.ticks, (place_of_some (list_at c.args.board.now.rests c.args.node) c.loop-number.at c.in-Some.number c.in-Some.ensures.rests).0, c.rests.ensures.ticks, c.put_unmarked.ensures.ticks)
