use Rattle.std.proofs.Common.{◌≤◌, ◌+◌, ◌-◌, length}
use Rattle.std.specs.List.{sum_by}
use Rattle.asked_parts.specs.Rounds.{IsLeast, IsUnderWay}
use Rattle.asked_parts.specs.Under.{look_ups}
use Rattle.asked_parts.proofs.PartLaws.{room}
use Rattle.asked_parts.proofs.rounds.ask_more.Given as goal

abbrev pub invariant-loop-asking : goal.invariant-loop-asking
invariant-loop-asking g l = record {
  way : IsUnderWay l.board l.marks.keys l.suspects.items l.part.items l.asked.items;
  least : IsLeast l.board l.marks.keys l.suspects.items l.part.items;
  spent : l.steps + sum_by (look_ups l.board) l.fn.asked.items ≤ l.fn.steps + length l.more.items + sum_by (look_ups l.board) l.asked.items;
}

abbrev pub decreases-loop-asking : goal.decreases-loop-asking
decreases-loop-asking g l = room l.board l.suspects.items - length l.part.items

abbrev pub invariant-loop-asking-2 : goal.invariant-loop-asking-2
invariant-loop-asking-2 g l = record {
  way : IsUnderWay l.board l.marks.keys l.suspects.items l.part.items l.asked.items;
  least : IsLeast l.board l.marks.keys l.suspects.items l.part.items;
  spent : l.steps + sum_by (look_ups l.board) l.fn.asked.items ≤ l.fn.steps + length l.more.items + sum_by (look_ups l.board) l.asked.items;
}

abbrev pub decreases-loop-asking-2 : goal.decreases-loop-asking-2
decreases-loop-asking-2 g l = room l.board l.suspects.items - length l.part.items
