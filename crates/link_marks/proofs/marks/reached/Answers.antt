use Rattle.std.proofs.Common.{◌<◌, [], length, get_or, ◌∙◌, ap, subst, arith}
use Rattle.std.specs.List.{Contains}
use Rattle.std.proofs.lemmas.List.{get_or_default}
use Rattle.link_marks.specs.Marked.{Grows}
use Rattle.link_marks.proofs.Places.{nothing_of_none}
use Rattle.link_marks.proofs.Reaching.{cost_at_end, cost_so_far, marks_are_nodes, nodes_within, spread_begun, spread_ended, spread_more}
use Rattle.link_marks.proofs.marks.reached.Goals as goal

pub loop-at-init : goal.loop-at-init
loop-at-init g c =
    let from = c.args.from.now in
    let marked = c.mark_all.new.marked.keys in
    let grown : Grows from [] marked = subst (λ old. Grows from old marked) (nothing_of_none c.new-marked.result.keys c.new-marked.ensures.len) c.in_ok-mark_all.ensures in
    record {
      spread = spread_begun c.args.index.now.dependents from marked c.args.steps.now grown;
      nodes = λ n h. c.requires n (grown.among n (subst (λ l. Contains l n) grown.behind h));
    }

pub returns-in_err-mark_dependents-clause-few : goal.returns-in_err-mark_dependents-clause-few
returns-in_err-mark_dependents-clause-few g c =
    let marked = c.loop-at.marked.keys in
    let at = c.loop-at.at in
    let node = get_or c.as_slice.result.now at 0 in
    let within : at < length marked = omega (arith, c.loop-at-test.true, c.len.ensures.len) in
    let is = ap (λ l. get_or l at 0) c.as_slice.ensures.keys ∙ get_or_default marked at 0 node within in
    λ all reached. cost_so_far c.args.index.now.dependents c.args.from.now marked all at c.args.steps.now c.loop-at.steps c.mark_dependents.new.steps node c.loop-at.invariant.spread within is c.in_err-mark_dependents.ensures.few reached

pub loop-at-smaller : goal.loop-at-smaller
loop-at-smaller g c = omega (arith, c.loop-at-test.true, nodes_within c.args.index.now c.loop-at.marked.keys c.loop-at.invariant.spread.once c.loop-at.invariant.nodes)

pub loop-at-preserved : goal.loop-at-preserved
loop-at-preserved g c =
    let marked = c.loop-at.marked.keys in
    let after = c.mark_dependents.new.marked.keys in
    let at = c.loop-at.at in
    let node = get_or c.as_slice.result.now at 0 in
    let within : at < length marked = omega (arith, c.loop-at-test.true, c.len.ensures.len) in
    let is = ap (λ l. get_or l at 0) c.as_slice.ensures.keys ∙ get_or_default marked at 0 node within in
    let done = c.in_ok-mark_dependents.ensures in
    record {
      spread = spread_more c.args.index.now.dependents c.args.from.now marked after at c.args.steps.now c.loop-at.steps c.mark_dependents.new.steps node c.loop-at.invariant.spread within is done.grown done.ticks;
      nodes = marks_are_nodes _ c.args.index.now node marked after done.whole c.loop-at.invariant.nodes done.grown;
    }

pub returns-clause-reached : goal.returns-clause-reached
returns-clause-reached g c = (spread_ended c.args.index.now.dependents c.args.from.now c.loop-at.marked.keys c.loop-at.at c.args.steps.now c.loop-at.steps c.loop-at.invariant.spread (omega (arith, c.loop-at-test.false))).0

pub returns-clause-few : goal.returns-clause-few
returns-clause-few g c =
    let ended = spread_ended c.args.index.now.dependents c.args.from.now c.loop-at.marked.keys c.loop-at.at c.args.steps.now c.loop-at.steps c.loop-at.invariant.spread (omega (arith, c.loop-at-test.false)) in
    λ all reached. cost_at_end c.args.index.now.dependents c.args.from.now c.loop-at.marked.keys all c.args.steps.now c.loop-at.steps ended.0 ended.1 reached
