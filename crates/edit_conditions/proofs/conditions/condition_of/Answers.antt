use Rattle.edit_rules.specs.First.{IsTested}
use Rattle.statement_steps.specs.Resolving.{unresolved_name}
use Rattle.edit_conditions.specs.Conditions.{IsFound, outcome_in}
use Rattle.edit_conditions.proofs.Found.{found}
use Rattle.edit_conditions.proofs.conditions.condition_of.Goals as goal
use Rattle.std.proofs.Common.{[], ◌∷◌, subst, sym}

pub returns : goal.returns
returns c =
    let o = outcome_in c.args.c.now.items c.args.scope.now c.args.condition.now in
    subst (IsTested (unresolved_name o ∷ []) (IsFound o)) (sym c.by_names.ensures) (found o c.resolve_cond.result c.resolve_cond.ensures)
