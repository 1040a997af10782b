use Rattle.std.proofs.Common.{◌-◌, ℕ, length}
use Rattle.std.specs.List.{Contains}
use Rattle.item_index.specs.Graphs.{IsNode}
use Rattle.link_marks.proofs.Reaching.{HasSpread}
use Rattle.link_marks.proofs.marks.reached.Given as goal

abbrev pub invariant-loop-at : goal.invariant-loop-at
invariant-loop-at g l = record {
  spread : HasSpread l.index.dependents l.from l.marked.keys l.at l.initial.steps l.steps;
  nodes : (n : ℕ) → Contains l.marked.keys n → IsNode l.index n;
}

abbrev pub decreases-loop-at : goal.decreases-loop-at
decreases-loop-at g l = length l.index.keys - l.at
