use Rattle.std.proofs.Common.{length, sym, ◌∙◌, ap, subst, refl, arith}
use Rattle.std.proofs.lemmas.Bool.{false≢true, both_ways}
use Rattle.cat_items.specs.Ranges.{IsIn, IsRange}
use Rattle.role_graph.specs.Judges.{Grounds, counting}
use Rattle.role_graph.proofs.LoopLemmas.{some_there, not_there, none_more, none_there}
use Rattle.role_graph.proofs.judge.Judge.any_among.Goals as goal
use Rattle.role_graph.proofs.judge.Judge.any_among.Goals.{else-is_counted-via-then-is_counted+else-is_met, else-is_counted-via-else-is_counted}

pub returns-then-is_met : goal.returns-then-is_met
returns-then-is_met g c =
    let P = g.T.Condition.holds c.args.test.now (counting c.args.self.now) in
    let met = rw c.loop-at.invariant.same at c.if-is_met.ensures.answer in
    let range = subst (λ (j : Grounds). IsRange j.items c.places-all.result.start c.places-all.result.end (IsIn c.args.part)) c.self.view_is c.places-all.ensures in
    record {
      answer = (λ _. some_there _ _ _ _ P _ _ c.loop-at.at c.index-items-at.result (c.items-items.ensures.items ∙ ap (λ (j : Grounds). j.items) c.self.view_is) range (omega arith) c.loop-at-test.true (sym c.if-is_counted.ensures) c.index-items-at.is (met.0 refl), λ _. refl);
      same = c.is_met.ensures.same ∙ c.loop-at.invariant.same;
    }

pub loop-at-preserved : goal.loop-at-preserved
loop-at-preserved g c =
    let P = g.T.Condition.holds c.args.test.now (counting c.args.self.now) in
    record {
      same = elim c.else-is_counted.branch [
        | else-is_counted-via-then-is_counted+else-is_met w ↦ w.self-is ∙ w.is_met.ensures.same ∙ c.loop-at.invariant.same
        | else-is_counted-via-else-is_counted w ↦ w.self-is ∙ c.loop-at.invariant.same
      ];
      none = none_more c.args.self.now.items _ P _ _ c.loop-at.invariant.none (λ d on is. elim c.else-is_counted.branch [
        | else-is_counted-via-then-is_counted+else-is_met w ↦
            let met = rw c.loop-at.invariant.same at w.if-is_met.ensures.answer in
            let items = c.items-items.ensures.items ∙ ap (λ (j : Grounds). j.items) c.self.view_is in
            not_there _ _ P c.loop-at.at w.index-items-at.result d items (omega (arith, c.loop-at-test.true, c.places-all.ensures.within, ap (λ (j : Grounds). length j.items) c.self.view_is)) w.index-items-at.is (λ so. false≢true (met.1 so)) is
        | else-is_counted-via-else-is_counted w ↦ both_ways _ (sym w.if-is_counted.ensures) on
      ]);
    }

pub returns : goal.returns
returns g c =
    let P = g.T.Condition.holds c.args.test.now (counting c.args.self.now) in
    let range = subst (λ (j : Grounds). IsRange j.items c.places-all.result.start c.places-all.result.end (IsIn c.args.part)) c.self.view_is c.places-all.ensures in
    record {
      answer = (λ e. absurd (false≢true e), λ h. absurd (none_there _ _ _ P _ _ _ range c.loop-at-test.false c.loop-at.invariant.none h));
      same = c.loop-at.invariant.same;
    }
