use Rattle.std.proofs.Common.{List, Option, subst}
use Rattle.view_deps.specs.declared.resolve.ResolvedExpr.{ResolvedExpr}
use Rattle.edit_rules.proofs.Lists.{take_whole}
use Rattle.edit_rules.proofs.TestLists.{exit_at, pass_all, pass_next}
use Rattle.table_parts.specs.declared.parts.Part.{Part}
use Rattle.table_parts.specs.Parts.{constraints_of}
use Rattle.table_names.proofs.PassedLemmas.{error_passes, exit_tested}
use Rattle.table_elements.specs.Found.{AddsFound, AreFoundOf}
use Rattle.table_elements.specs.Names.{unknown_in_part, unknown_in_parts}
use Rattle.table_elements.proofs.FoundLists.{found_more}
use Rattle.table_elements.proofs.found.found_in_parts.Goals as goal

pub returns-in_err-push_found : goal.returns-in_err-push_found
returns-in_err-push_found c =
    let items = c.args.c.now.items in
    let who = c.args.who.now in
    let w = c.args.w.now in
    let all = c.args.parts.now in
    let part = c.part-item.result in
    let error = c.in_err-push_found.field-0.0 in
    exit_tested (unknown_in_parts items who w all) (AreFoundOf items who w (constraints_of all)) error c.from_residual-in_err-push_found.result c.from_residual-in_err-push_found.ensures.1
    (exit_at (unknown_in_part items who w) all c.as_slice-part-items.result.now c.loop-part.part-index c.as_slice-part-items.ensures (Unit {0}) (List (Option ResolvedExpr)) part error c.from_residual-in_err-push_found.result c.from_residual-in_err-push_found.ensures.1
    c.loop-part-test.true c.part-item.is c.loop-part.invariant.before
    (error_passes (unknown_in_part items who w part) (λ (done : Unit {0}). AddsFound items who w part c.loop-part.found c.push_found.new.found) error c.in_err-push_found.ensures))

pub loop-part-preserved : goal.loop-part-preserved
loop-part-preserved c =
    let items = c.args.c.now.items in
    let who = c.args.who.now in
    let w = c.args.w.now in
    let all = c.args.parts.now in
    let shown = c.as_slice-part-items.result.now in
    let at = c.loop-part.part-index in
    let same = c.as_slice-part-items.ensures in
    let part = c.part-item.result in record {
      before = pass_next (unknown_in_part items who w) all shown at same part c.loop-part-test.true c.part-item.is c.loop-part.invariant.before c.in_ok-push_found.ensures.0;
      found = found_more items who w all shown at part c.loop-part.found c.push_found.new.found same c.loop-part-test.true c.part-item.is c.loop-part.invariant.found c.in_ok-push_found.ensures.1;
    }

pub returns : goal.returns
returns c =
    let items = c.args.c.now.items in
    let who = c.args.who.now in
    let w = c.args.w.now in
    let all = c.args.parts.now in
    let shown = c.as_slice-part-items.result.now in
    let at = c.loop-part.part-index in
    let same = c.as_slice-part-items.ensures in (
      pass_all (unknown_in_part items who w) all shown at same c.loop-part-test.false c.loop-part.invariant.before,
      subst (λ (ps : List Part). AreFoundOf items who w (constraints_of ps) c.loop-part.found) (take_whole all shown at same c.loop-part-test.false) c.loop-part.invariant.found,
    )
