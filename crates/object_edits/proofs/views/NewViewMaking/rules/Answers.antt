use Rattle.std.proofs.Common.{Ok, subst}
use Rattle.view_deps.specs.Views.{IsResolved}
use Rattle.object_edits.specs.CreatedViews.{query_of}
use Rattle.object_edits.specs.ViewSteps.{IsNamed}
use Rattle.object_edits.proofs.NamedQueries.{rules_done, rules_exit}
use Rattle.object_edits.proofs.views.NewViewMaking.rules.Goals as goal

pub returns-in_err-test_columns : goal.returns-in_err-test_columns
returns-in_err-test_columns c =
    let query = query_of c.args._c.now.items c.args._who.now c.args.self.now.query.now in
    let resolved : IsResolved query (Ok c.in-Some.resolved) = subst (IsNamed query) c.in-Some.is c.requires.named in
    rules_exit c.args.self.now.columns.now query c.in-Some.resolved resolved c.names_from.result.now c.names_from.ensures c.in_err-test_columns.field-0.0 c.from_residual.result c.from_residual.ensures.1 c.in_err-test_columns.ensures

pub returns : goal.returns
returns c =
    let query = query_of c.args._c.now.items c.args._who.now c.args.self.now.query.now in
    let resolved : IsResolved query (Ok c.in-Some.resolved) = subst (IsNamed query) c.in-Some.is c.requires.named in
    rules_done c.args.self.now.columns.now query c.in-Some.resolved resolved c.names_from.result.now c.names_from.ensures c.in_ok-test_columns.ensures.0
