use Rattle.std.proofs.Common.{sym, refl, arith}
use Rattle.std.proofs.lemmas.Bool.{false≢true, both_ways}
use Rattle.role_graph.proofs.LoopLemmas.{some_in, none_more, none_in}
use Rattle.role_graph.proofs.judge.Judge.any_in.Goals as goal

pub returns-then-is_counted : goal.returns-then-is_counted
returns-then-is_counted c = rw (← c.self.view_is) (λ _. some_in _ _ _ _ _ c.loop-at.at c.places-all.ensures (omega arith) c.loop-at-test.true (sym c.if-is_counted.ensures), λ _. refl)

pub loop-at-preserved : goal.loop-at-preserved
loop-at-preserved c = record { none = none_more c.self.inside.c.now.items _ (λ y. Unit {0}) _ _ c.loop-at.invariant.none (λ d on is. both_ways _ (sym c.if-is_counted.ensures) on) }

pub returns : goal.returns
returns c = rw (← c.self.view_is) (λ e. absurd (false≢true e), λ h. absurd (none_in _ _ _ _ _ _ c.places-all.ensures c.loop-at-test.false c.loop-at.invariant.none h))
