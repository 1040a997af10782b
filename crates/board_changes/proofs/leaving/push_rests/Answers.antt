use Rattle.std.proofs.Common.{◌++◌, ◌∙◌, ℕ, List, [], ◌∷◌, map, ap, sym, arith}
use Rattle.std.proofs.lemmas.List.{append-nil, take_all}
use Rattle.item_index.specs.Shelves.{list_at}
use Rattle.link_marks.proofs.Places.{past_of_none, place_of_some}
use Rattle.board_changes.proofs.Going.{mapped_more}
use Rattle.board_changes.proofs.leaving.push_rests.Goals as goal

pub loop-rests_on-init : goal.loop-rests_on-init
loop-rests_on-init g c = record { taken = sym (append-nil c.args.taken.now.items); ticks = omega arith; within = omega arith }

pub loop-rests_on-smaller : goal.loop-rests_on-smaller
loop-rests_on-smaller g c = omega (arith, c.loop-rests_on.invariant.within, (place_of_some (list_at c.args.board.now.rests c.args.node) c.loop-rests_on.at c.in-Some.rests_on c.in-Some.ensures.rests).0)

pub loop-rests_on-preserved : goal.loop-rests_on-preserved
loop-rests_on-preserved g c =
    let all = list_at c.args.board.now.rests c.args.node in
    let at = c.loop-rests_on.at in
    let m = c.in-Some.rests_on in
    let place = place_of_some all at m c.in-Some.ensures.rests in
    let one : ℕ → ℕ × ℕ = λ n. (c.args.node, n) in
    record {
      taken = c.in_ok-push.ensures.items ∙ ap (λ (ls : List (ℕ × ℕ)). ls ++ one m ∷ []) c.loop-rests_on.invariant.taken ∙ mapped_more one all at m c.args.taken.now.items place.1;
      ticks = omega (arith, c.loop-rests_on.invariant.ticks, c.rests.ensures.ticks);
      within = omega (arith, place.0);
    }

pub returns-in_err-push-clause-few : goal.returns-in_err-push-clause-few
returns-in_err-push-clause-few g c =
    let place = (place_of_some (list_at c.args.board.now.rests c.args.node) c.loop-rests_on.at c.in-Some.rests_on c.in-Some.ensures.rests).0 in
    omega (arith, place, c.loop-rests_on.invariant.ticks, c.rests.ensures.ticks)

pub returns-clause-taken : goal.returns-clause-taken
returns-clause-taken g c =
    let all = list_at c.args.board.now.rests c.args.node in
    let past = past_of_none all c.loop-rests_on.at c.in_default.ensures.rests in
    c.loop-rests_on.invariant.taken ∙ ap (λ (ns : List ℕ). c.args.taken.now.items ++ map (λ (m : ℕ). (c.args.node, m)) ns) (take_all c.loop-rests_on.at all past)

pub returns-clause-few : goal.returns-clause-few
returns-clause-few g c = omega (arith, c.loop-rests_on.invariant.ticks, c.loop-rests_on.invariant.within, c.rests.ensures.ticks)
