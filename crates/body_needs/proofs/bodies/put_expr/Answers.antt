use Rattle.sql_tree.specs.declared.rights.Action.TheVariants.{Select}
use Rattle.cat_items.specs.Mentions.{expr_mentions}
use Rattle.cat_items.specs.Needs.{needs_of_mentions}
use Rattle.body_needs.proofs.Gained.{gains_appended}
use Rattle.body_needs.proofs.bodies.put_expr.Goals as goal

pub returns : goal.returns
returns c =
    gains_appended c.append.result c.args.needs.now c.append.new.self c.in_ok-needs_of_expr.field-0 (needs_of_mentions Select (expr_mentions c.args.expr.now)) c.append.ensures c.in_ok-needs_of_expr.ensures.members
