use Rattle.std.proofs.Common.{◌⊎◌, ◌∙◌, arith}
use Rattle.std.specs.List.{Contains}
use Rattle.topic_keys.proofs.Adding.{IsOfSome, each_end, each_more, gets_both}
use Rattle.topic_lists.proofs.Runs.{gets_from_none}
use Rattle.asked_parts.specs.Rounds.{IsAddedTo, IsAddedToBySome}
use Rattle.asked_parts.proofs.beginning.begun.Goals as goal

pub loop-x-preserved : goal.loop-x-preserved
loop-x-preserved g c = record {
  members = each_more (IsAddedTo c.args.board.now c.args.marks.now.keys) c.args.suspects.now c.put_copies.new.part.items c.loop-x.part.items c.put_added_to.new.part.items c.loop-x.x-index c.x-item.result c.loop-x-test.true c.x-item.is c.loop-x.invariant.members
      c.in_ok-put_added_to.ensures.members;
  ticks = omega (arith, c.loop-x.invariant.ticks, c.put_added_to.ensures.ticks);
}

pub returns-clause-members : goal.returns-clause-members
returns-clause-members g c =
    let R = IsAddedTo c.args.board.now c.args.marks.now.keys in
    let suspects = c.args.suspects.now in
    let none = c.of_sorted-part.result.items in
    let copied = c.put_copies.new.part.items in
    let new = c.loop-x.part.items in
    gets_from_none (λ y. Contains suspects y ⊎ IsOfSome R suspects y) (λ y. Contains suspects y ⊎ IsAddedToBySome c.args.board.now c.args.marks.now.keys suspects y) none new (c.of_sorted-part.ensures.items ∙ c.new.ensures.items) (λ y. (λ h. h, λ h. h))
    (gets_both (Contains suspects) (IsOfSome R suspects) none copied new c.in_ok-put_copies.ensures.members (each_end R suspects copied new c.loop-x.x-index (omega (arith, c.loop-x-test.false)) c.loop-x.invariant.members))
