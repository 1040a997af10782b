use Rattle.edit_rules.specs.Owners.{not_owner}
use Rattle.edit_rules.proofs.FirstLaws.{passes_that}
use Rattle.statement_steps.specs.Steps.{refusals_of}
use Rattle.statement_steps.proofs.StepLaws.{all_pass, by_names, by_needs, by_owner, by_rules, by_taken, by_tree, exit_with}
use Rattle.statement_steps.proofs.making.edit_of.Goals as goal

pub returns-in_err-test_tree : goal.returns-in_err-test_tree
returns-in_err-test_tree g c =
    let steps = g.S.Making.steps c.args.statement.now c.args.c.now.items c.args.who.now in
    exit_with (refusals_of c.args.c.now.items c.args.who.now steps) steps.edit c.in_err-test_tree.field-0.0 c.from_residual.result c.from_residual.ensures.1
    (by_tree c.args.c.now.items c.args.who.now steps (λ (v : Unit {0}). Unit {0}) steps.edit c.in_err-test_tree.field-0.0 c.in_err-test_tree.ensures)

pub returns-in_err-named : goal.returns-in_err-named
returns-in_err-named g c =
    let steps = g.S.Making.steps c.args.statement.now c.args.c.now.items c.args.who.now in
    exit_with (refusals_of c.args.c.now.items c.args.who.now steps) steps.edit c.in_err-named.field-0.0 c.from_residual-in_err-named.result c.from_residual-in_err-named.ensures.1
    (by_names c.args.c.now.items c.args.who.now steps (g.S.Making.naming c.args.statement.now c.args.c.now.items c.args.who.now) steps.edit c.in_err-named.field-0.0 c.in_ok-test_tree.ensures.0 c.in_err-named.ensures)

pub returns-in_err-test_owner_of : goal.returns-in_err-test_owner_of
returns-in_err-test_owner_of g c =
    let steps = g.S.Making.steps c.args.statement.now c.args.c.now.items c.args.who.now in
    exit_with (refusals_of c.args.c.now.items c.args.who.now steps) steps.edit c.in_err-test_owner_of.field-0.0 c.from_residual-in_err-test_owner_of.result c.from_residual-in_err-test_owner_of.ensures.1
    (by_owner c.args.c.now.items c.args.who.now steps (λ (v : Unit {0}). Unit {0}) steps.edit c.in_err-test_owner_of.field-0.0 c.in_ok-test_tree.ensures.0 c.in_ok-named.ensures.0 c.in_err-test_owner_of.ensures)

pub returns-in_err-test_taken : goal.returns-in_err-test_taken
returns-in_err-test_taken g c =
    let steps = g.S.Making.steps c.args.statement.now c.args.c.now.items c.args.who.now in
    exit_with (refusals_of c.args.c.now.items c.args.who.now steps) steps.edit c.in_err-test_taken.field-0.0 c.from_residual-in_err-test_taken.result c.from_residual-in_err-test_taken.ensures.1
    (by_taken c.args.c.now.items c.args.who.now steps (λ (v : Unit {0}). Unit {0}) steps.edit c.in_err-test_taken.field-0.0 c.in_ok-test_tree.ensures.0 c.in_ok-named.ensures.0 c.in_ok-test_owner_of.ensures.0 c.in_err-test_taken.ensures)

pub returns-in_err-made : goal.returns-in_err-made
returns-in_err-made g c =
    let steps = g.S.Making.steps c.args.statement.now c.args.c.now.items c.args.who.now in
    exit_with (refusals_of c.args.c.now.items c.args.who.now steps) steps.edit c.in_err-made.field-0.0 c.from_residual-in_err-made.result c.from_residual-in_err-made.ensures.1
    (by_rules c.args.c.now.items c.args.who.now steps (g.S.Making.making c.args.statement.now c.args.c.now.items c.args.who.now) steps.edit c.in_err-made.field-0.0 c.in_ok-test_tree.ensures.0 c.in_ok-named.ensures.0 c.in_ok-test_owner_of.ensures.0 c.in_ok-test_taken.ensures.0 c.in_err-made.ensures)

pub test_needs_of-requires-clause-owned : goal.test_needs_of-requires-clause-owned
test_needs_of-requires-clause-owned g c = passes_that (not_owner c.args.c.now.items c.args.who.now (g.S.Making.steps c.args.statement.now c.args.c.now.items c.args.who.now).schema) c.in_ok-test_owner_of.ensures.0

pub returns-in_err-test_needs_of : goal.returns-in_err-test_needs_of
returns-in_err-test_needs_of g c =
    let steps = g.S.Making.steps c.args.statement.now c.args.c.now.items c.args.who.now in
    exit_with (refusals_of c.args.c.now.items c.args.who.now steps) steps.edit c.in_err-test_needs_of.field-0.0 c.from_residual-in_err-test_needs_of.result c.from_residual-in_err-test_needs_of.ensures.1
    (by_needs c.args.c.now.items c.args.who.now steps (λ (v : Unit {0}). Unit {0}) steps.edit c.in_err-test_needs_of.field-0.0 c.in_ok-test_tree.ensures.0 c.in_ok-named.ensures.0 c.in_ok-test_owner_of.ensures.0 c.in_ok-test_taken.ensures.0 c.in_ok-made.ensures.0 c.in_err-test_needs_of.ensures)

pub edit-requires-clause-passed : goal.edit-requires-clause-passed
edit-requires-clause-passed g c = all_pass c.args.c.now.items c.args.who.now (g.S.Making.steps c.args.statement.now c.args.c.now.items c.args.who.now) c.in_ok-test_tree.ensures.0 c.in_ok-named.ensures.0 c.in_ok-test_owner_of.ensures.0 c.in_ok-test_taken.ensures.0 c.in_ok-made.ensures.0 c.in_ok-test_needs_of.ensures.0

pub returns : goal.returns
returns g c = (all_pass c.args.c.now.items c.args.who.now (g.S.Making.steps c.args.statement.now c.args.c.now.items c.args.who.now) c.in_ok-test_tree.ensures.0 c.in_ok-named.ensures.0 c.in_ok-test_owner_of.ensures.0 c.in_ok-test_taken.ensures.0 c.in_ok-made.ensures.0 c.in_ok-test_needs_of.ensures.0, c.in_ok-edit.ensures)
