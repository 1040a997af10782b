use Rattle.std.proofs.Common.{◌++◌, ◌∙◌, ℕ, List, ap, sym, arith}
use Rattle.std.specs.List.{flat_map}
use Rattle.std.proofs.lemmas.List.{append-nil, take_all}
use Rattle.item_index.specs.Shelves.{list_at}
use Rattle.link_marks.proofs.Places.{past_of_none, place_of_some}
use Rattle.board_changes.specs.Leaving.{link_if_stays}
use Rattle.board_changes.proofs.Going.{joined_more}
use Rattle.board_changes.proofs.leaving.push_dependents.Goals as goal

pub loop-dependent-init : goal.loop-dependent-init
loop-dependent-init g c = record { taken = sym (append-nil c.args.taken.now.items); ticks = omega arith; within = omega arith }

pub loop-dependent-smaller : goal.loop-dependent-smaller
loop-dependent-smaller g c = omega (arith, c.loop-dependent.invariant.within, (place_of_some (list_at c.args.board.now.dependents c.args.node) c.loop-dependent.at c.in-Some.dependent c.in-Some.ensures.dependents).0)

pub loop-dependent-preserved : goal.loop-dependent-preserved
loop-dependent-preserved g c =
    let all = list_at c.args.board.now.dependents c.args.node in
    let at = c.loop-dependent.at in
    let m = c.in-Some.dependent in
    let place = place_of_some all at m c.in-Some.ensures.dependents in
    let one : ℕ → List (ℕ × ℕ) = λ n. link_if_stays c.args.out.now.keys n c.args.node in
    record {
      taken = c.in_ok-push_if_stays.ensures ∙ ap (λ (ls : List (ℕ × ℕ)). ls ++ one m) c.loop-dependent.invariant.taken ∙ joined_more one all at m c.args.taken.now.items place.1;
      ticks = omega (arith, c.loop-dependent.invariant.ticks, c.dependents.ensures.ticks);
      within = omega (arith, place.0);
    }

pub returns-in_err-push_if_stays-clause-few : goal.returns-in_err-push_if_stays-clause-few
returns-in_err-push_if_stays-clause-few g c =
    let place = (place_of_some (list_at c.args.board.now.dependents c.args.node) c.loop-dependent.at c.in-Some.dependent c.in-Some.ensures.dependents).0 in
    omega (arith, place, c.loop-dependent.invariant.ticks, c.dependents.ensures.ticks)

pub returns-clause-taken : goal.returns-clause-taken
returns-clause-taken g c =
    let all = list_at c.args.board.now.dependents c.args.node in
    let past = past_of_none all c.loop-dependent.at c.in_default.ensures.dependents in
    c.loop-dependent.invariant.taken ∙ ap (λ (ns : List ℕ). c.args.taken.now.items ++ flat_map (λ (m : ℕ). link_if_stays c.args.out.now.keys m c.args.node) ns) (take_all c.loop-dependent.at all past)

pub returns-clause-few : goal.returns-clause-few
returns-clause-few g c = omega (arith, c.loop-dependent.invariant.ticks, c.loop-dependent.invariant.within, c.dependents.ensures.ticks)
