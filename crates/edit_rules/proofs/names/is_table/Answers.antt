use Rattle.std.proofs.Common.{◌↔◌, IsTrue, subst}
use Rattle.std.proofs.lemmas.Bool.{both_ways}
use Rattle.cat_items.specs.Ranges.{IsView}
use Rattle.cat_items.specs.Reach.{Has}
use Rattle.role_graph.proofs.LoopLemmas.{join}
use Rattle.edit_rules.proofs.NameLemmas.{base_table_there, view_there}
use Rattle.edit_rules.proofs.names.is_table.Goals as goal

pub returns-else-is_base_table : goal.returns-else-is_base_table
returns-else-is_base_table c =
    let views : IsTrue c.any_in.result ↔ Has c.args.c.now.items (IsView c.args.table.now) = subst (λ o. IsTrue c.any_in.result ↔ Has c.args.c.now.items (IsView o)) c.into.ensures c.any_in.ensures in
    join views (view_there c.args.c.now.items c.args.table.now (λ base. both_ways _ c.if-is_base_table.false (c.is_base_table.ensures.1 base)))
