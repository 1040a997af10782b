use Rattle.std.proofs.Common.{◌≡◌}
use Rattle.std.specs.Option.{option_copied}
use Rattle.role_graph.specs.Judges.{counting}
use Rattle.role_graph.proofs.LoopLemmas.{NoneFrom}
use Rattle.role_graph.proofs.judge.Judge.any_among.Given as goal

abbrev pub invariant-loop-at : goal.invariant-loop-at
invariant-loop-at g l = record {
  same : l.self ≡ l.fn.self;
  none : NoneFrom l.fn.self.items (option_copied l.among) (g.T.Condition.holds l.test (counting l.fn.self)) l.initial.at l.at;
}
