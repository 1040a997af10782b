use Rattle.std.proofs.Common.{subst}
use Rattle.std.specs.Result.{OnOk}
use Rattle.std.proofs.lemmas.Result.{on_ok_weaker}
use Rattle.sql_names.specs.declared.object.Object.{Object}
use Rattle.cat_items.specs.Reach.{Has}
use Rattle.cat_items.specs.Relevant.{IsBaseColumnNeed}
use Rattle.cat_items.specs.Shape.{IsColumnOf}
use Rattle.topic_keys.specs.Lists.{Gets}
use Rattle.topic_lists.specs.Needs.{IsNeedBehind}
use Rattle.topic_lists.proofs.NeedLaws.{behind_column, gets_members}
use Rattle.topic_lists.proofs.own.push_behind.Goals as goal

pub returns : goal.returns
returns c =
    let l = c.args.c.now.items in
    let v = c.args.view.now in
    let action = c.args.action in
    let name = c.args.name.now in
    let old = c.args.needs.now.items in
    let new = c.push_each.new.needs.items in
    on_ok_weaker c.push_each.result (gets_members l (λ n y. IsColumnOf v.view y × IsNeedBehind v action name y n) (IsBaseColumnNeed v action name) (behind_column v action name) old new)
    (subst (λ (o : Object). OnOk c.push_each.result (Gets (λ n. Has l (λ y. IsColumnOf o y × IsNeedBehind v action name y n)) old new)) c.into.ensures c.push_each.ensures)
