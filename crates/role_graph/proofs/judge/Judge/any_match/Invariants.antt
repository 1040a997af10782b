use Rattle.std.specs.Option.{option_copied}
use Rattle.role_graph.proofs.LoopLemmas.{NoneFrom}
use Rattle.role_graph.proofs.judge.Judge.any_match.Given as goal

abbrev pub invariant-loop-at : goal.invariant-loop-at
invariant-loop-at g l = record { none : NoneFrom l.self-inside.c.now.items (option_copied l.self-inside.marks) (g.T.Matches.fits l.test) l.initial.at l.at }
