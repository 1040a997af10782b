use Rattle.std.proofs.Common.{sym, refl, arith}
use Rattle.std.proofs.lemmas.Bool.{false≢true, both_ways}
use Rattle.role_graph.proofs.LoopLemmas.{some_there, not_there, none_more, none_there}
use Rattle.role_graph.proofs.judge.Judge.any_match.Goals as goal
use Rattle.role_graph.proofs.judge.Judge.any_match.Goals.{else-is_counted-via-then-is_counted+else-matches, else-is_counted-via-else-is_counted}

pub returns-then-matches : goal.returns-then-matches
returns-then-matches g c =
    rw (← c.self.view_is)
    (λ _. some_there _ _ _ _ (g.T.Matches.fits c.args.test.now) _ _ c.loop-at.at c.index-items-at.result c.items-items.ensures.items c.places-all.ensures (omega arith) c.loop-at-test.true (sym c.if-is_counted.ensures) c.index-items-at.is (c.if-matches.ensures.0 refl), λ _. refl)

pub loop-at-preserved : goal.loop-at-preserved
loop-at-preserved g c = record {
  none = none_more c.self.inside.c.now.items _ (g.T.Matches.fits c.args.test.now) _ _ c.loop-at.invariant.none (λ d on is. elim c.else-is_counted.branch [
    | else-is_counted-via-then-is_counted+else-matches w ↦
        not_there _ _ (g.T.Matches.fits c.args.test.now) c.loop-at.at w.index-items-at.result d c.items-items.ensures.items (omega (arith, c.loop-at-test.true, c.places-all.ensures.within)) w.index-items-at.is (λ so. false≢true (w.if-matches.ensures.1 so)) is
    | else-is_counted-via-else-is_counted w ↦ both_ways _ (sym w.if-is_counted.ensures) on
  ]);
}

pub returns : goal.returns
returns g c =
    rw (← c.self.view_is)
    (λ e. absurd (false≢true e), λ h. absurd (none_there _ _ _ (g.T.Matches.fits c.args.test.now) _ _ _ c.places-all.ensures c.loop-at-test.false c.loop-at.invariant.none h))
