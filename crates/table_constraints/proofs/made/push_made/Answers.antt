use Rattle.std.proofs.Common.{[], ◌∷◌}
use Rattle.edit_rules.proofs.FirstLaws.{exit_of_first}
use Rattle.table_constraints.specs.Made.{MakesConstraint}
use Rattle.table_constraints.specs.OneMade.{IsOnlyMade, unbound}
use Rattle.table_constraints.proofs.MadeLemmas.{not_pushed, pushed}
use Rattle.table_constraints.proofs.made.push_made.Goals as goal

pub returns-in_err-made_of : goal.returns-in_err-made_of
returns-in_err-made_of c =
    let items = c.args.c.now.items in
    let who = c.args.who.now in
    let w = c.args.w.now in
    let n = c.args.constraint.now in
    exit_of_first (unbound items who w n ∷ []) [] (IsOnlyMade items who w n) _ c.in_err-made_of.field-0.0 c.from_residual.result c.from_residual.ensures.1 c.in_err-made_of.ensures

pub returns-in-None : goal.returns-in-None
returns-in-None c =
    let n = c.args.constraint.now in (
      c.in_ok-made_of.ensures.0,
      not_pushed c.args.made.now c.in_ok-made_of.field-0 (λ x. MakesConstraint c.args.c.now.items c.args.who.now c.args.w.now x n) c.in-None.is c.in_ok-made_of.ensures.1,
    )

pub returns-in_ok-push-in-Some : goal.returns-in_ok-push-in-Some
returns-in_ok-push-in-Some c =
    let n = c.args.constraint.now in (
      c.in_ok-made_of.ensures.0,
      pushed c.args.made.now _ c.in_ok-made_of.field-0 c.in-Some.item (λ x. MakesConstraint c.args.c.now.items c.args.who.now c.args.w.now x n) c.in_ok-push-in-Some.ensures.ok c.in-Some.is c.in_ok-made_of.ensures.1,
    )
