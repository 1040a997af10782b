use Rattle.sql_tree.specs.declared.rights.Action.TheVariants.{Delete}
use Rattle.cat_items.specs.Needs.{needs_on, optional_needs}
use Rattle.body_needs.proofs.Gained.{gains_is, gains_then}
use Rattle.body_needs.proofs.bodies.put_deleted.Goals as goal

pub returns : goal.returns
returns c =
    let on = needs_on Delete c.args.table.now in
    gains_then c.put_optional.result c.args.needs.now c.put_on.new.needs c.put_optional.new.needs on (optional_needs c.args.filter.now)
    (gains_is c.args.needs.now c.put_on.new.needs on c.in_ok-put_on.ensures) c.put_optional.ensures
