use Rattle.std.specs.Prelude.{flat_map}
use Rattle.sql_tree.specs.declared.rights.Action.TheVariants.{Execute}
use Rattle.cat_items.specs.Needs.{expr_needs, needs_on}
use Rattle.body_needs.proofs.Gained.{gains_is, gains_then}
use Rattle.body_needs.proofs.bodies.put_called.Goals as goal

pub returns : goal.returns
returns c =
    let on = needs_on Execute c.args.routine.now in
    gains_then c.put_exprs.result c.args.needs.now c.put_on.new.needs c.put_exprs.new.needs on (flat_map expr_needs c.args.arguments.now)
    (gains_is c.args.needs.now c.put_on.new.needs on c.in_ok-put_on.ensures) c.put_exprs.ensures
