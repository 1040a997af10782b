use Rattle.std.proofs.Common.{refl, inl, subst}
use Rattle.role_graph.specs.Cycles.{HasCycle, IsStep}
use Rattle.role_edit.proofs.grants.test_cycle.Goals as goal

pub returns-then-cyclic : goal.returns-then-cyclic
returns-then-cyclic c =
    let items = c.args.c.now.items in
    let h = c.in_ok-cyclic.ensures.0 c.if-cyclic.true in
    let from = subst (λ l. HasCycle (IsStep items l c.in_ok-to.to.items)) c.in_ok-from.ensures h in
    (inl (subst (λ l. HasCycle (IsStep items c.args.roles.now l)) c.in_ok-to.ensures from, refl), tt)
