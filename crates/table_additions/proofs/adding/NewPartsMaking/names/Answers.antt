use Rattle.std.proofs.Common.{[], ◌∷◌, List, Option, subst}
use Rattle.view_deps.specs.declared.resolve.ResolvedExpr.{ResolvedExpr}
use Rattle.edit_rules.specs.First.{First, IsTested, Passes}
use Rattle.edit_rules.specs.Names.{unknown_base_table}
use Rattle.edit_rules.proofs.FirstLaws.{exit_of_first, exit_of_others, passes_both}
use Rattle.std.specs.declared.result.Result.TheVariants.{Err}
use Rattle.table_parts.specs.Parts.{constraints_of}
use Rattle.table_work.specs.declared.work.Work.{Work}
use Rattle.table_elements.specs.Found.{AreFoundOf}
use Rattle.table_elements.specs.Names.{unknown_in_parts}
use Rattle.table_additions.specs.Additions.{added_work}
use Rattle.table_additions.proofs.NamedTests.{IsNaming}
use Rattle.table_additions.proofs.adding.NewPartsMaking.names.Goals as goal

pub returns-in_err-test_base_table : goal.returns-in_err-test_base_table
returns-in_err-test_base_table c =
    let items = c.args.c.now.items in
    let who = c.args.who.now in
    let s = c.args.self.now in
    exit_of_first (unknown_base_table items s.table ∷ []) (unknown_in_parts items who (added_work items who s.table s.parts) s.parts) (λ (v : Unit {0}). Unit {0}) (IsNaming items who s.table s.parts) c.in_err-test_base_table.field-0.0
    c.from_residual.result c.from_residual.ensures.1 c.in_err-test_base_table.ensures

pub returns-in_err-found : goal.returns-in_err-found
returns-in_err-found c =
    let items = c.args.c.now.items in
    let who = c.args.who.now in
    let s = c.args.self.now in
    let w : Work = added_work items who s.table s.parts in
    exit_of_others (unknown_base_table items s.table ∷ []) (unknown_in_parts items who w s.parts) (λ (found : List (Option ResolvedExpr)). AreFoundOf items who w (constraints_of s.parts) found) (IsNaming items who s.table s.parts) c.in_err-found.field-0.0
    c.from_residual-in_err-found.result c.from_residual-in_err-found.ensures.1 c.in_ok-test_base_table.ensures.0
    (subst (λ (x : Work). IsTested (unknown_in_parts items who x s.parts) (λ (found : List (Option ResolvedExpr)). AreFoundOf items who x (constraints_of s.parts) found) (Err c.in_err-found.field-0.0)) c.in_ok-work.ensures c.in_err-found.ensures)

pub returns : goal.returns
returns c =
    let items = c.args.c.now.items in
    let who = c.args.who.now in
    let s = c.args.self.now in
    let w : Work = added_work items who s.table s.parts in (
      passes_both (unknown_base_table items s.table ∷ []) (unknown_in_parts items who w s.parts) c.in_ok-test_base_table.ensures.0 (subst (λ (x : Work). Passes (First (unknown_in_parts items who x s.parts))) c.in_ok-work.ensures c.in_ok-found.ensures.0),
      (c.in_ok-work.ensures, subst (λ (x : Work). AreFoundOf items who x (constraints_of s.parts) c.in_ok-found.found) c.in_ok-work.ensures c.in_ok-found.ensures.1),
    )
