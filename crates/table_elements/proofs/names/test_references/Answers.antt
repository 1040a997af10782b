use Rattle.std.proofs.Common.{[], ◌∷◌, List, map, subst}
use Rattle.sql_names.specs.declared.object.Object.{Object}
use Rattle.sql_names.specs.declared.sort.Param.{Param}
use Rattle.edit_rules.specs.First.{HasPassed}
use Rattle.table_names.specs.Given.{unknown_referenced_table}
use Rattle.table_names.proofs.PassedLemmas.{passed_behind}
use Rattle.table_elements.specs.Names.{unknown_among, unknown_columns}
use Rattle.table_elements.proofs.names.test_references.Goals as goal

pub returns : goal.returns
returns c =
    let items = c.args.c.now.items in
    let w = c.args.w.now in
    let names = c.args.references.now.columns in
    let target = c.in_ok-target.target in
    subst (λ (o : Object). HasPassed (unknown_referenced_table items w.table o ∷ unknown_columns items w o names) c.test_among.result) c.in_ok-target.ensures
    (passed_behind (unknown_referenced_table items w.table target ∷ []) (unknown_columns items w target names) c.test_among.result c.in_ok-test_target.ensures.0
    (subst (λ (columns : List Param). HasPassed (map (unknown_among columns target) names) c.test_among.result) c.in_ok-columns.ensures c.test_among.ensures))
