use Rattle.std.proofs.Common.{◌≡◌, [], ◌∷◌, List}
use Rattle.cat_items.specs.declared.need.Need.{Need}
use Rattle.edit_rules.specs.Names.{unknown_base_table, unknown_column}
use Rattle.edit_rules.proofs.FirstLaws.{exit_of_first, exit_of_others, passes_both}
use Rattle.table_changes.proofs.columns.OldColumnMaking.names.Goals as goal

pub returns-in_err-test_base_table : goal.returns-in_err-test_base_table
returns-in_err-test_base_table c =
    let items = c.args.c.now.items in
    let d = c.args.self.now in
    exit_of_first (unknown_base_table items d.table ∷ []) (unknown_column items d.table d.column.now ∷ []) (λ (v : Unit {0}). Unit {0}) (λ (needs : List Need). needs ≡ []) c.in_err-test_base_table.field-0.0 c.from_residual.result c.from_residual.ensures.1
    c.in_err-test_base_table.ensures

pub returns-in_err-test_column : goal.returns-in_err-test_column
returns-in_err-test_column c =
    let items = c.args.c.now.items in
    let d = c.args.self.now in
    exit_of_others (unknown_base_table items d.table ∷ []) (unknown_column items d.table d.column.now ∷ []) (λ (v : Unit {0}). Unit {0}) (λ (needs : List Need). needs ≡ []) c.in_err-test_column.field-0.0 c.from_residual-in_err-test_column.result
    c.from_residual-in_err-test_column.ensures.1 c.in_ok-test_base_table.ensures.0 c.in_err-test_column.ensures

pub returns : goal.returns
returns c =
    let items = c.args.c.now.items in
    let d = c.args.self.now in
    (passes_both (unknown_base_table items d.table ∷ []) (unknown_column items d.table d.column.now ∷ []) c.in_ok-test_base_table.ensures.0 c.in_ok-test_column.ensures.0, c.new.ensures)
