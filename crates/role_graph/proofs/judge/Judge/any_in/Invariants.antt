use Rattle.std.specs.Option.{option_copied}
use Rattle.role_graph.proofs.LoopLemmas.{NoneFrom}
use Rattle.role_graph.proofs.judge.Judge.any_in.Given as goal

abbrev pub invariant-loop-at : goal.invariant-loop-at
invariant-loop-at l = record { none : NoneFrom l.self-inside.c.now.items (option_copied l.self-inside.marks) (λ y. Unit {0}) l.initial.at l.at }
