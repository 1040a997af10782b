use Rattle.sql_tree.specs.declared.rights.Action.TheVariants.{Select}
use Rattle.cat_items.specs.Mentions.{query_mentions}
use Rattle.cat_items.specs.Needs.{needs_of_mentions}
use Rattle.body_needs.proofs.Gained.{gains_appended}
use Rattle.body_needs.proofs.bodies.put_query.Goals as goal

pub returns : goal.returns
returns c =
    gains_appended c.append.result c.args.needs.now c.append.new.self c.in_ok-needs_of_query.field-0 (needs_of_mentions Select (query_mentions c.args.query.now)) c.append.ensures c.in_ok-needs_of_query.ensures.members
