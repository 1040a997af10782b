use Rattle.std.proofs.Common.{◌++◌, map}
use Rattle.std.specs.Prelude.{flat_map}
use Rattle.sql_tree.specs.declared.body.Assignment.{Assignment}
use Rattle.sql_tree.specs.declared.rights.Action.TheVariants.{Update}
use Rattle.cat_items.specs.Needs.{needs_on_columns, optional_needs, value_needs}
use Rattle.body_needs.proofs.Gained.{gains_then}
use Rattle.body_needs.proofs.bodies.put_updated.Goals as goal

pub returns : goal.returns
returns c =
    let set = needs_on_columns Update c.args.table.now (map (λ (a : Assignment). a.column) c.args.all.now) ++ flat_map (λ (a : Assignment). value_needs a.value) c.args.all.now in
    gains_then c.put_optional.result c.args.needs.now c.put_set.new.needs c.put_optional.new.needs set (optional_needs c.args.filter.now) c.in_ok-put_set.ensures c.put_optional.ensures
