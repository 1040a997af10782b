use Rattle.std.proofs.Common.{List, ℕ, ◌++◌, map, subst}
use Rattle.edit_rules.specs.First.{HasPassed, tests_of}
use Rattle.edit_rules.proofs.FirstLaws.{exit_of_first}
use Rattle.table_names.specs.Given.{given_names}
use Rattle.table_names.specs.Refusals.{exists_in}
use Rattle.table_names.proofs.PassedLemmas.{passed_behind}
use Rattle.table_additions.specs.Additions.{column_taken}
use Rattle.table_additions.proofs.refusing.test_taken_names.Goals as goal

pub returns-in_err-test_new_columns : goal.returns-in_err-test_new_columns
returns-in_err-test_new_columns c =
    let items = c.args.c.now.items in
    let table = c.args.table.now in
    exit_of_first (tests_of (column_taken items table) c.args.parts.now) (map (exists_in items table.schema) (given_names c.args.parts.now)) (λ (v : Unit {0}). Unit {0}) (λ (v : Unit {0}). Unit {0}) c.in_err-test_new_columns.field-0.0
    c.from_residual.result c.from_residual.ensures.1 c.in_err-test_new_columns.ensures

pub returns : goal.returns
returns c =
    let items = c.args.c.now.items in
    let table = c.args.table.now in
    subst (λ (names : List (List ℕ)). HasPassed (tests_of (column_taken items table) c.args.parts.now ++ map (exists_in items table.schema) names) c.test_new_constraints.result) c.in_ok-names.ensures
    (passed_behind (tests_of (column_taken items table) c.args.parts.now) (map (exists_in items table.schema) c.in_ok-names.names) c.test_new_constraints.result c.in_ok-test_new_columns.ensures.0 c.test_new_constraints.ensures)
