use Rattle.std.proofs.Common.{[], ◌∷◌}
use Rattle.edit_rules.specs.Names.{unknown_base_table, unknown_column}
use Rattle.edit_rules.proofs.FirstLaws.{exit_of_first, tested_by_others}
use Rattle.table_changes.specs.Defaults.{IsStanding}
use Rattle.table_changes.proofs.defaults.NewDefaultMaking.names.Goals as goal

pub returns-in_err-test_base_table : goal.returns-in_err-test_base_table
returns-in_err-test_base_table c =
    let items = c.args.c.now.items in
    let d = c.args.self.now in
    exit_of_first (unknown_base_table items d.table ∷ []) (unknown_column items d.table d.column.now ∷ []) (λ (v : Unit {0}). Unit {0}) (IsStanding items d.table d.column.now) c.in_err-test_base_table.field-0.0 c.from_residual.result c.from_residual.ensures.1
    c.in_err-test_base_table.ensures

pub returns : goal.returns
returns c =
    let items = c.args.c.now.items in
    let d = c.args.self.now in
    tested_by_others (unknown_base_table items d.table ∷ []) (unknown_column items d.table d.column.now ∷ []) (IsStanding items d.table d.column.now) c.standing_column.result c.in_ok-test_base_table.ensures.0 c.standing_column.ensures
