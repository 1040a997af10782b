use Rattle.std.proofs.Common.{subst}
use Rattle.std.specs.Result.{OnOk}
use Rattle.std.proofs.lemmas.Result.{on_ok_weaker}
use Rattle.sql_names.specs.declared.object.Object.{Object}
use Rattle.cat_items.specs.Reach.{Has}
use Rattle.cat_items.specs.Relevant.{HasUsage}
use Rattle.cat_items.specs.Shape.{IsColumnOf}
use Rattle.topic_keys.specs.Lists.{Gets}
use Rattle.topic_lists.specs.Needs.{IsCarriedBy}
use Rattle.topic_lists.proofs.NeedLaws.{gets_members, usage_of_column}
use Rattle.topic_lists.proofs.carried.push_usages.Goals as goal

pub returns : goal.returns
returns c =
    let l = c.args.c.now.items in
    let table = c.args.table.now in
    let old = c.args.needs.now.items in
    let new = c.push_each.new.needs.items in
    on_ok_weaker c.push_each.result (gets_members l (λ n y. IsColumnOf table y × IsCarriedBy y n) (HasUsage table) (usage_of_column table) old new)
    (subst (λ (o : Object). OnOk c.push_each.result (Gets (λ n. Has l (λ y. IsColumnOf o y × IsCarriedBy y n)) old new)) c.into.ensures c.push_each.ensures)
