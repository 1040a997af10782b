use Rattle.std.proofs.Common.{refl, ◌∙◌, arith}
use Rattle.std.proofs.lemmas.Bool.{false≢true}
use Rattle.role_graph.proofs.CycleLemmas.{own_cycle, none_closes_more, none_closes}
use Rattle.role_graph.proofs.cycle.has_cycle.Goals as goal

pub returns-then-reaches_by-clause-cycle : goal.returns-then-reaches_by-clause-cycle
returns-then-reaches_by-clause-cycle c =
    (λ _. own_cycle _ _ c.loop-at.at c.grant_at-grant.result.now c.items.ensures.items (omega arith) c.grant_at-grant.ensures (c.if-reaches_by.ensures.answer.0 refl), λ _. refl)

pub loop-at-preserved : goal.loop-at-preserved
loop-at-preserved c = record {
  room = c.reaches_by.ensures.room ∙ c.loop-at.invariant.room;
  none = none_closes_more _ _ _ _ c.grant_at-grant.result.now c.items.ensures.items c.loop-at.invariant.none c.grant_at-grant.ensures (λ walk. false≢true (c.if-reaches_by.ensures.answer.1 walk));
}

pub returns-clause-cycle : goal.returns-clause-cycle
returns-clause-cycle c = (λ e. absurd (false≢true e), λ h. absurd (none_closes _ _ _ _ c.role_authorizations-all.ensures c.loop-at-test.false c.loop-at.invariant.none h))
