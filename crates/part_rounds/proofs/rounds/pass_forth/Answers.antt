use Rattle.std.proofs.Common.{◌≡◌, ◌+◌, cond, length, sym, ◌∙◌, ap, subst, refl, arith}
use Rattle.cat_items.specs.Supported.{Supported}
use Rattle.part_rounds.proofs.RoundLemmas.{GoesForth, forth_begins, forth_goes}
use Rattle.part_rounds.proofs.rounds.pass_forth.Goals as goal
use Rattle.part_rounds.proofs.rounds.pass_forth.Goals.{then-told, else-told}

pub loop-at-init : goal.loop-at-init
loop-at-init c = record { room = refl; way = forth_begins (Supported c.args.c.now.items) c.args.c.now.items _ c.requires.marks; found = tt; list = c.requires.list }

pub mark_with_next-told-requires-clause-room : goal.mark_with_next-told-requires-clause-room
mark_with_next-told-requires-clause-room c = rw c.loop-at.invariant.room c.requires.room

pub loop-at-preserved : goal.loop-at-preserved
loop-at-preserved c =
    let items = c.args.c.now.items in
    let sup = Supported items in
    let at = c.loop-at.at in
    let told = c.mark_with_next-told in
    let rest : cond told.result.holds (at + 1) c.loop-at.rest ≡ c.if-told.rest =
    elim c.if-told.branch [
      | then-told w ↦ ap (λ b. cond b (at + 1) c.loop-at.rest) w.if-told.true ∙ sym w.rest-is
      | else-told w ↦ ap (λ b. cond b (at + 1) c.loop-at.rest) w.if-told.false ∙ sym w.rest-is
    ] in
    record {
      room = told.ensures.room ∙ c.loop-at.invariant.room;
      way = subst (λ n. GoesForth sup items c.args.marks.now told.new.marks n (at + 1)) rest (forth_goes sup items c.args.marks.now _ _ _ _ at c.loop-at.invariant.way told.ensures.marked);
      found = told.ensures.found;
      list = told.ensures.list;
    }

pub returns-clause-grown : goal.returns-clause-grown
returns-clause-grown c = let way = c.loop-at.invariant.way in record { size = way.size; grown = way.grown; no_more = way.no_more }

pub returns-clause-more : goal.returns-clause-more
returns-clause-more c = c.loop-at.invariant.way.fewer

pub returns-clause-closed : goal.returns-clause-closed
returns-clause-closed c = λ j from low off d. c.loop-at.invariant.way.tried j from (omega (arith, low, c.loop-at-test.false, ap length c.items-count.ensures.items)) off d
