use Rattle.std.proofs.Common.{◌≤◌, ◌+◌, ◌*◌}
use Rattle.topic_keys.specs.Lists.{Gets}
use Rattle.topic_keys.proofs.Adding.{IsOfFirst}
use Rattle.edit_parts.specs.Parts.{IsUnlessKept}
use Rattle.edit_parts.proofs.suspects.put_suspects.Given as goal

abbrev pub invariant-loop-right : goal.invariant-loop-right
invariant-loop-right g l = record {
  members : Gets (IsOfFirst (IsUnlessKept l.board l.marks.keys) l.rights l.right-index) l.initial.suspects.items l.suspects.items;
  ticks : l.steps ≤ l.initial.steps + 2 * l.right-index;
}
