use Rattle.std.proofs.Common.{◌++◌, ◌∙◌, ℕ, List, [], get_or, ap, arith}
use Rattle.std.specs.List.{flat_map}
use Rattle.std.proofs.lemmas.List.{take_all, take_more}
use Rattle.std.proofs.lemmas.List.Elements.{Contains-get_or}
use Rattle.std.proofs.lemmas.List.Sums.{sum_by_more, sum_by_more_le, sum_by-take-le}
use Rattle.board_changes.specs.Leaving.{links_with, look_ups_with}
use Rattle.board_changes.proofs.Going.{joined_more}
use Rattle.board_changes.proofs.leaving.links_of.Goals as goal

pub push_links-requires : goal.push_links-requires
push_links-requires g c = c.requires.nodes _ (Contains-get_or c.args.out.now c.loop-number.number-index 0 c.loop-number-test.true)

pub loop-number-preserved : goal.loop-number-preserved
loop-number-preserved g c =
    let out = c.args.out.now in
    let i = c.loop-number.number-index in
    let board = c.args.board.now in
    let one = links_with board out in
    let n = get_or out i 0 in
    let was = c.loop-number.invariant.few in
    let more = sum_by_more (look_ups_with board) out i 0 c.loop-number-test.true in
    let here = c.push_links.ensures.few in
    record {
      taken = c.in_ok-push_links.ensures.taken ∙ ap (λ (ks : List ℕ). c.loop-number.taken.items ++ links_with board ks n) c.in_ok-set.ensures ∙ ap (λ (ls : List (ℕ × ℕ)). ls ++ one n) c.loop-number.invariant.taken ∙ joined_more one out i n [] (take_more out i 0 c.loop-number-test.true);
      few = omega arith;
    }

pub returns-in_err-push_links-clause-few : goal.returns-in_err-push_links-clause-few
returns-in_err-push_links-clause-few g c =
    let out = c.args.out.now in
    let board = c.args.board.now in
    let was = c.loop-number.invariant.few in
    let more = sum_by_more_le (look_ups_with board) out c.loop-number.number-index 0 c.loop-number-test.true in
    let here = c.push_links.ensures.few in
    omega arith

pub returns-clause-taken : goal.returns-clause-taken
returns-clause-taken g c =
    let out = c.args.out.now in
    c.loop-number.invariant.taken ∙ ap (flat_map (links_with c.args.board.now out)) (take_all c.loop-number.number-index out c.loop-number-test.false)

pub returns-clause-few : goal.returns-clause-few
returns-clause-few g c =
    let out = c.args.out.now in
    let was = c.loop-number.invariant.few in
    let all = sum_by-take-le (look_ups_with c.args.board.now) out c.loop-number.number-index in
    omega arith
