use Rattle.std.proofs.Common.{[], ◌∷◌, subst, sym}
use Rattle.edit_rules.specs.First.{IsTested}
use Rattle.edit_rules.specs.Names.{unknown_schema}
use Rattle.edit_rules.proofs.FirstLaws.{exit_of_first, tested_by_others}
use Rattle.statement_steps.specs.Resolving.{unresolved_name}
use Rattle.object_edits.specs.CreatedViews.{query_of}
use Rattle.object_edits.specs.ViewSteps.{IsNamed}
use Rattle.object_edits.proofs.NamedQueries.{query_named}
use Rattle.object_edits.proofs.views.NewViewMaking.names.Goals as goal

pub returns-in_err-test_schema : goal.returns-in_err-test_schema
returns-in_err-test_schema c =
    let query = query_of c.args.c.now.items c.args.who.now c.args.self.now.query.now in
    exit_of_first (unknown_schema c.args.c.now.items c.args.self.now.view.schema ∷ []) (unresolved_name query ∷ []) (λ (v : Unit {0}). Unit {0}) (IsNamed query) c.in_err-test_schema.field-0.0 c.from_residual.result c.from_residual.ensures.1 c.in_err-test_schema.ensures

pub returns : goal.returns
returns c =
    let query = query_of c.args.c.now.items c.args.who.now c.args.self.now.query.now in
    tested_by_others (unknown_schema c.args.c.now.items c.args.self.now.view.schema ∷ []) (unresolved_name query ∷ []) (IsNamed query) c.by_names.result c.in_ok-test_schema.ensures.0
    (subst (IsTested (unresolved_name query ∷ []) (IsNamed query)) (sym c.by_names.ensures) (query_named query c.resolve_query.result c.resolve_query.ensures))
