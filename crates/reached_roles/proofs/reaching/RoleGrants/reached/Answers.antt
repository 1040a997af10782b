use Rattle.std.proofs.Common.{◌↔◌, ℕ, List, subst, sym}
use Rattle.std.specs.List.{Contains}
use Rattle.std.proofs.lemmas.Result.{IfOk-weaker}
use Rattle.role_graph.specs.Roles.{IsApplicable}
use Rattle.reached_roles.specs.Edges.{AreEdges}
use Rattle.reached_roles.specs.Reached.{HasOfRole}
use Rattle.reached_roles.proofs.reaching.RoleGrants.reached.Goals as goal

pub returns : goal.returns
returns c =
    let items = c.args.self.now in
    let edges = c.as_slice-edges.result.now in
    let found = c.in_ok-found.found.keys in
    let from = c.args.from.now in
    let are : AreEdges items edges = subst (λ l. AreEdges l edges) c.self.view_is (subst (λ l. AreEdges c.self.inside.c.now.items l) (sym c.as_slice-edges.ensures.value) c.self.invariant.edges_are) in
    IfOk-weaker c.roles_at.result (λ names. (role : List ℕ) → Contains names.items role ↔ HasOfRole edges found role) (λ names. (role : List ℕ) → Contains names.items role ↔ IsApplicable items from role)
    (λ names same role.
    let a = same role in
    let b = c.in_ok-found.ensures.reached items are role in
    (λ h. b.0 (a.0 h), λ h. a.1 (b.1 h))) c.roles_at.ensures
