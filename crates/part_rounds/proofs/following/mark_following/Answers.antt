use Rattle.std.proofs.Common.{◌≡◌, ◌<◌, ◌∙◌, true, [], ◌∷◌, length, ap, subst, refl, arith, length-append}
use Rattle.cat_items.specs.Supported.{Supported}
use Rattle.grant_chain.specs.Rounds.{IsTried}
use Rattle.part_rounds.proofs.RoundLemmas.{growth_begins, growth_joins, tried_growth, tried_less, worklist_marked, worklist_stays}
use Rattle.part_rounds.proofs.following.mark_following.Goals as goal
use Rattle.part_rounds.proofs.following.mark_following.Goals.{then-told, else-told}

pub loop-next-init : goal.loop-next-init
loop-next-init c = record { room = refl; grown = growth_begins (Supported c.args.c.now.items) c.args.c.now.items _ c.requires.marks; found = c.requires.known; list = c.requires.list; left = omega arith }

pub try_mark-told-requires-clause-room : goal.try_mark-told-requires-clause-room
try_mark-told-requires-clause-room c = rw c.loop-next.invariant.room c.requires.room

pub loop-next-preserved : goal.loop-next-preserved
loop-next-preserved c =
    let items = c.args.c.now.items in
    let sup = Supported items in
    let m = c.loop-next.marks in
    let new = c.try_mark-told.new.marks in
    let next = c.loop-next.next in
    let before = c.loop-next.invariant in
    let told = c.try_mark-told.ensures in
    let low : next < length items = omega (arith, c.loop-next-test.true, ap length c.items-items.ensures.items) in
    let size : length m ≡ length items = before.grown.size in
    let growth = tried_growth sup items m new _ next low size told.tried in
    let fewer = growth.no_more in
    let left = before.left in
    record {
      room = told.room ∙ before.room;
      grown = growth_joins sup items c.args.marks.now m new before.grown growth;
      found = told.found;
      list = elim c.if-told.branch [
        | then-told w ↦
            let tried : IsTried sup items m next true new = subst (λ b. IsTried sup items m next b new) w.if-told.true told.tried in
            rw (w.list-is, w.push_reserved.ensures.items, w.push_reserved.ensures.capacity) (worklist_marked sup items m new c.loop-next.list.items next _ low size tried before.list)
        | else-told w ↦ rw w.list-is (worklist_stays items m new c.loop-next.list.items _ fewer before.list)
      ];
      left = elim c.if-told.branch [
        | then-told w ↦
            let tried : IsTried sup items m next true new = subst (λ b. IsTried sup items m next b new) w.if-told.true told.tried in
            let less = tried_less sup items m new next low size tried in
            rw (w.list-is, w.push_reserved.ensures.items) (omega (arith, length-append c.loop-next.list.items (next ∷ []), less, left))
        | else-told w ↦ rw w.list-is (omega (arith, fewer, left))
      ];
    }
