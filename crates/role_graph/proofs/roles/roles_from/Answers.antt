use Rattle.std.proofs.Common.{◌∙◌, refl, arith}
use Rattle.std.proofs.lemmas.Bool.{both_ways}
use Rattle.role_graph.proofs.NameLemmas.{roles_begin, roles_go, roles_end, in_own_range}
use Rattle.role_graph.proofs.roles.roles_from.Goals as goal
use Rattle.role_graph.proofs.roles.roles_from.Goals.{then-leads+in_ok-copy+in_ok-push, else-leads}

pub loop-at-init : goal.loop-at-init
loop-at-init c = record {
  room = omega arith;
  from_start = omega arith;
  before = rw c.new-names.ensures.items (roles_begin _ _ _ _ c.role_authorizations-all.ensures);
}

pub loop-at-smaller : goal.loop-at-smaller
loop-at-smaller c =
    let mine = in_own_range _ _ c.loop-at.at _ _ c.grant_at.result.now c.items-items.ensures.items (omega arith) c.grant_at.ensures c.role_grants_of-at.ensures in
    omega (arith, mine.1, c.loop-at-test.true)

pub loop-at-preserved : goal.loop-at-preserved
loop-at-preserved c =
    let mine = in_own_range _ _ c.loop-at.at _ _ c.grant_at.result.now c.items-items.ensures.items (omega arith) c.grant_at.ensures c.role_grants_of-at.ensures in
    record {
      room = c.leads.ensures.room ∙ c.loop-at.invariant.room;
      from_start = omega (arith, mine.1, c.loop-at.invariant.from_start);
      before = elim c.if-leads.branch [
        | then-leads+in_ok-copy+in_ok-push w ↦ rw w.names-is
            (roles_go _ _ _ _ _ _ _ c.grant_at.result.now c.leads.result c.items-items.ensures.order c.loop-at.invariant.before (omega arith) (rw c.items-items.ensures.items at c.grant_at.ensures) c.role_grants_of-at.ensures c.leads.ensures.answer
            (λ e. rw (w.in_ok-push.ensures.items, w.in_ok-copy.ensures)) (λ e. absurd (both_ways _ e w.if-leads.true)))
        | else-leads w ↦ rw w.names-is
            (roles_go _ _ _ _ _ _ _ c.grant_at.result.now c.leads.result c.items-items.ensures.order c.loop-at.invariant.before (omega arith) (rw c.items-items.ensures.items at c.grant_at.ensures) c.role_grants_of-at.ensures c.leads.ensures.answer
            (λ e. absurd (both_ways _ w.if-leads.false e)) (λ e. refl))
      ];
    }

pub returns : goal.returns
returns c = record { names = roles_end _ _ _ _ _ _ c.role_authorizations-all.ensures c.loop-at.invariant.before c.loop-at-test.false }
