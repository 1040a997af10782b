use Rattle.std.proofs.Common.{◌≡◌, ◌++◌, ◌∙◌, List, map, subst}
use Rattle.std.specs.Prelude.{flat_map}
use Rattle.sql_names.specs.NameBytes.{NameBytes}
use Rattle.sql_tree.specs.declared.body.Assignment.{Assignment}
use Rattle.sql_tree.specs.declared.rights.Action.TheVariants.{Update}
use Rattle.cat_items.specs.Needs.{needs_on_columns, value_needs}
use Rattle.body_needs.proofs.Gained.{gains_is, gains_then}
use Rattle.body_needs.proofs.bodies.put_set.Goals as goal

pub returns : goal.returns
returns c =
    let columns = needs_on_columns Update c.args.table.now (map (λ (a : Assignment). a.column) c.args.all.now) in
    let put = subst (λ (l : List NameBytes). c.put_on_columns.new.needs ≡ c.args.needs.now ++ needs_on_columns Update c.args.table.now l) (c.as_slice.ensures ∙ c.in_ok-columns.ensures) c.in_ok-put_on_columns.ensures in
    gains_then c.put_set_values.result c.args.needs.now c.put_on_columns.new.needs c.put_set_values.new.needs columns (flat_map (λ (a : Assignment). value_needs a.value) c.args.all.now)
    (gains_is c.args.needs.now c.put_on_columns.new.needs columns put) c.put_set_values.ensures
