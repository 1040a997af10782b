use Rattle.std.proofs.Common.{take, subst, sym, arith}
use Rattle.std.proofs.lemmas.List.{take_all}
use Rattle.item_index.specs.Shelves.{list_at}
use Rattle.link_marks.specs.Marked.{Grows}
use Rattle.link_marks.proofs.GrownMarks.{grows_more, grows_nothing}
use Rattle.link_marks.proofs.Places.{place_of_some, past_of_none}
use Rattle.link_marks.proofs.marks.mark_dependents.Goals as goal

pub loop-dependent-init : goal.loop-dependent-init
loop-dependent-init g c = record { grown = grows_nothing c.args.marked.now.keys; ticks = omega (arith); within = omega (arith) }

pub loop-dependent-smaller : goal.loop-dependent-smaller
loop-dependent-smaller g c = omega (arith, c.loop-dependent.invariant.within, (place_of_some (list_at c.args.index.now.dependents c.args.node) c.loop-dependent.at c.in-Some.dependent c.in-Some.ensures.dependents).0)

pub loop-dependent-preserved : goal.loop-dependent-preserved
loop-dependent-preserved g c =
    let all = list_at c.args.index.now.dependents c.args.node in
    let at = c.loop-dependent.at in
    let place = place_of_some all at c.in-Some.dependent c.in-Some.ensures.dependents in
    record {
      grown = subst (λ l. Grows l c.args.marked.now.keys c.mark.new.marked.keys) (sym place.1)
          (grows_more (take at all) c.in-Some.dependent c.args.marked.now.keys c.loop-dependent.marked.keys c.mark.new.marked.keys c.loop-dependent.invariant.grown c.in_ok-mark.ensures);
      ticks = omega (arith, c.loop-dependent.invariant.ticks, c.dependents.ensures.ticks);
      within = omega (arith, place.0);
    }

pub returns-clause-grown : goal.returns-clause-grown
returns-clause-grown g c =
    let all = list_at c.args.index.now.dependents c.args.node in
    let past = past_of_none all c.loop-dependent.at c.in_default.ensures.dependents in
    subst (λ l. Grows l c.args.marked.now.keys c.loop-dependent.marked.keys) (take_all c.loop-dependent.at all past) c.loop-dependent.invariant.grown

pub returns-clause-ticks : goal.returns-clause-ticks
returns-clause-ticks g c =
    let all = list_at c.args.index.now.dependents c.args.node in
    let past = past_of_none all c.loop-dependent.at c.in_default.ensures.dependents in
    omega (arith, past, c.loop-dependent.invariant.ticks, c.loop-dependent.invariant.within, c.dependents.ensures.ticks)
