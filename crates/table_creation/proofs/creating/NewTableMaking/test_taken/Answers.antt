use Rattle.std.proofs.Common.{[], ◌∷◌, List, ℕ, map, subst}
use Rattle.edit_rules.specs.First.{HasPassed}
use Rattle.edit_rules.specs.Names.{table_exists}
use Rattle.table_names.specs.Refusals.{exists_in}
use Rattle.table_names.proofs.PassedLemmas.{passed_behind}
use Rattle.table_creation.proofs.creating.NewTableMaking.test_taken.Goals as goal

pub returns : goal.returns
returns c =
    let items = c.args.c.now.items in
    let t = c.args.self.now in
    let first = table_exists items t.table in
    subst (λ (names : List (List ℕ)). HasPassed (first ∷ map (exists_in items t.table.schema) names) c.test_new_constraints.result) c.in_ok-names.ensures
    (passed_behind (first ∷ []) (map (exists_in items t.table.schema) c.in_ok-names.names) c.test_new_constraints.result c.in_ok-test_new_table.ensures.0 c.test_new_constraints.ensures)
