use Rattle.std.proofs.Common.{◌≡◌, ◌≤◌, ◌+◌, true, cond, length, sym, ◌∙◌, ap, subst, refl, arith}
use Rattle.cat_items.specs.Supported.{Supported}
use Rattle.part_rounds.specs.Grown.{HasStepped}
use Rattle.part_rounds.specs.Passes.{place_at}
use Rattle.part_rounds.proofs.RoundLemmas.{IsDone, IsUnderWay, all_done, done_or_at, none_done, pass_begins, pass_ends, pass_goes}
use Rattle.part_rounds.proofs.rounds.pass_back.Goals as goal
use Rattle.part_rounds.proofs.rounds.pass_back.Goals.{then-told, else-told}

pub loop-step-init : goal.loop-step-init
loop-step-init c = record {
  room = refl;
  way = pass_begins (Supported c.args.c.now.items) c.args.c.now.items _ c.requires.marks _ (none_done (Supported c.args.c.now.items) c.args.c.now.items _ c.min-turn.result c.args.rest c.requires.closed);
  found = tt;
  list = c.requires.list;
}

pub mark_with_next-told-requires-clause-room : goal.mark_with_next-told-requires-clause-room
mark_with_next-told-requires-clause-room c = rw c.loop-step.invariant.room c.requires.room

pub loop-step-preserved : goal.loop-step-preserved
loop-step-preserved c =
    let items = c.args.c.now.items in
    let sup = Supported items in
    let turn = c.min-turn.result in
    let rest = c.args.rest in
    let step = c.loop-step.step in
    let told = c.mark_with_next-told in
    let le : turn ≤ rest = omega (arith, c.min-turn.ensures) in
    let more : cond told.result.holds true c.loop-step.more ≡ c.if-told.more =
    elim c.if-told.branch [
      | then-told w ↦ ap (λ b. cond b true c.loop-step.more) w.if-told.true ∙ sym w.more-is
      | else-told w ↦ ap (λ b. cond b true c.loop-step.more) w.if-told.false ∙ sym w.more-is
    ] in
    let stepped : HasStepped sup items c.loop-step.marks (place_at step turn rest) told.result.holds told.new.marks = subst (λ k. HasStepped sup items c.loop-step.marks k told.result.holds told.new.marks) c.place_at-at.ensures told.ensures.marked in
    record {
      room = told.ensures.room ∙ c.loop-step.invariant.room;
      way = subst (λ z. IsUnderWay sup items c.args.marks.now told.new.marks z (IsDone (length items) turn rest (step + 1))) more
          (pass_goes sup items _ _ _ _ _ (place_at step turn rest) _ _ (λ j h. done_or_at (length items) turn rest step j le c.loop-step-test.true h) c.loop-step.invariant.way stepped);
      found = told.ensures.found;
      list = told.ensures.list;
    }

pub returns-clause-passed : goal.returns-clause-passed
returns-clause-passed c =
    let items = c.args.c.now.items in
    let turn = c.min-turn.result in
    let le : turn ≤ c.args.rest = omega (arith, c.min-turn.ensures) in
    pass_ends (Supported items) items _ _ _ _ (λ j low. all_done (length items) turn c.args.rest c.loop-step.step j le c.loop-step-test.false low) c.loop-step.invariant.way
