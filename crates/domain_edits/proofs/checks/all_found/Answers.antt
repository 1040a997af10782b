use Rattle.std.proofs.Common.{List, Option, [], ◌∷◌, ◌++◌, take, subst, sym, ◌+◌}
use Rattle.sql_tree.specs.declared.table.DomainCheck.{DomainCheck as WrittenCheck}
use Rattle.view_deps.specs.declared.resolve.ResolvedExpr.{ResolvedExpr}
use Rattle.edit_conditions.specs.Conditions.{IsFound}
use Rattle.edit_rules.proofs.Lists.{take_next}
use Rattle.edit_rules.proofs.TestLists.{each_exit_at, each_next}
use Rattle.statement_steps.specs.Resolving.{unresolved_name}
use Rattle.table_names.proofs.PassedLemmas.{error_passes, exit_tested}
use Rattle.domain_edits.specs.Checks.{outcome_of, unresolved_checks}
use Rattle.domain_edits.specs.Found.{AreFound}
use Rattle.domain_edits.proofs.FoundLemmas.{found_more}
use Rattle.domain_edits.proofs.checks.all_found.Goals as goal

pub returns-in_err-found_of : goal.returns-in_err-found_of
returns-in_err-found_of c =
    let items = c.args.c.now.items in
    let who = c.args.who.now in
    let sort = c.args.sort in
    let checks = c.args.checks.now in
    let outcome = outcome_of items who sort c.check-item.result in
    exit_tested (unresolved_checks items who sort checks) (AreFound items who sort checks) c.in_err-found_of.field-0.0 c.from_residual.result c.from_residual.ensures.1
    (each_exit_at (λ k. unresolved_name (outcome_of items who sort k)) checks c.as_slice-check-items.result.now c.loop-check.check-index c.as_slice-check-items.ensures (Option ResolvedExpr) (List (Option ResolvedExpr)) c.check-item.result c.in_err-found_of.field-0.0
    c.from_residual.result c.from_residual.ensures.1 c.loop-check-test.true c.check-item.is c.loop-check.invariant.before
    (error_passes (unresolved_name outcome ∷ []) (IsFound outcome) c.in_err-found_of.field-0.0 c.in_err-found_of.ensures))

pub loop-check-preserved : goal.loop-check-preserved
loop-check-preserved c =
    let items = c.args.c.now.items in
    let who = c.args.who.now in
    let sort = c.args.sort in
    let checks = c.args.checks.now in
    let shown = c.as_slice-check-items.result.now in
    let i = c.loop-check.check-index in
    let k = c.check-item.result in record {
      before = each_next (λ z. unresolved_name (outcome_of items who sort z)) checks shown i c.as_slice-check-items.ensures k c.loop-check-test.true c.check-item.is c.loop-check.invariant.before c.in_ok-found_of.ensures.0;
      found =
          subst (λ (fs : List (Option ResolvedExpr)). AreFound items who sort (take (i + 1) checks) fs) (sym c.in_ok-push.ensures.ok)
          (subst (λ (ks : List WrittenCheck). AreFound items who sort ks (c.loop-check.all ++ c.in_ok-found_of.field-0 ∷ [])) (sym (take_next checks shown i c.as_slice-check-items.ensures k c.loop-check-test.true c.check-item.is))
          (found_more items who sort (take i checks) c.loop-check.all k c.in_ok-found_of.field-0 c.loop-check.invariant.found c.in_ok-found_of.ensures.1));
    }
