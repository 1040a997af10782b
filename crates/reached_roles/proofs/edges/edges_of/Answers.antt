use Rattle.std.proofs.Common.{◌≡◌, ◌<◌, ◌∙◌, sym, get_or, length, ap, subst, arith}
use Rattle.std.proofs.lemmas.List.{get_or_default}
use Rattle.cat_items.specs.declared.item.RoleGrant.{RoleGrant}
use Rattle.role_graph.proofs.TrailLemmas.{grant_in}
use Rattle.reached_roles.proofs.EdgeLemmas.{edges_all, edges_more, no_edges, no_grant}
use Rattle.reached_roles.proofs.edges.edges_of.Goals as goal
use Rattle.reached_roles.proofs.edges.edges_of.Goals.{in-RoleAuth+in_ok-push, in_default}

pub loop-at-init : goal.loop-at-init
loop-at-init c = record { listed = rw c.new-edges.ensures.items (no_edges c.args.c.now.items _ _ c.role_authorizations-all.ensures) }

pub loop-at-preserved : goal.loop-at-preserved
loop-at-preserved c =
    let items = c.args.c.now.items in
    let at = c.loop-at.at in
    let x = c.index-items-at.result in
    let range = c.role_authorizations-all.ensures in
    let low : at < length items = omega (arith, c.loop-at-test.true, range.within) in
    let is : x ≡ get_or items at x = subst (λ l. x ≡ get_or l at x) c.items-items.ensures.items c.index-items-at.is in
    record {
      listed = elim c.match-items-at.branch [
        | in-RoleAuth+in_ok-push w ↦
            let g = w.in-RoleAuth.grant in
            rw (w.edges-is, w.in_ok-push.ensures.items)
            (edges_more items c.loop-at.edges.items at g _ low (λ d. get_or_default items at d x low ∙ sym is ∙ w.in-RoleAuth.is) (ap (λ (h : RoleGrant). h.role) w.get-grant.ensures) (ap (λ (h : RoleGrant). h.grantee) w.get-grant.ensures) c.loop-at.invariant.listed)
        | in_default w ↦ absurd (let one = grant_in x (no_grant items _ _ at x range c.loop-at.auto.at c.loop-at-test.true low is) in w.in_default.not-RoleAuth one.0 one.1)
      ];
    }

pub returns : goal.returns
returns c = edges_all c.args.c.now.items c.loop-at.edges.items _ _ c.loop-at.at c.role_authorizations-all.ensures c.loop-at-test.false c.loop-at.invariant.listed
