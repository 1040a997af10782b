use Rattle.sql_tree.specs.declared.rights.Action.TheVariants.{Insert}
use Rattle.cat_items.specs.Needs.{needs_on_columns, source_needs}
use Rattle.body_needs.proofs.Gained.{gains_is, gains_then}
use Rattle.body_needs.proofs.bodies.put_inserted.Goals as goal

pub returns : goal.returns
returns c =
    let columns = needs_on_columns Insert c.args.table.now c.args.columns.now in
    gains_then c.put_source.result c.args.needs.now c.put_on_columns.new.needs c.put_source.new.needs columns (source_needs c.args.source.now)
    (gains_is c.args.needs.now c.put_on_columns.new.needs columns c.in_ok-put_on_columns.ensures) c.put_source.ensures
