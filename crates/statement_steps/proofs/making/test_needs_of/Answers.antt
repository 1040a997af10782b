use Rattle.statement_steps.proofs.NeedLaws.{lacks_as}
use Rattle.statement_steps.proofs.making.test_needs_of.Goals as goal

pub returns : goal.returns
returns g c =
    let steps = g.S.Making.steps c.args.statement.now c.args.c.now.items c.args.who.now in
    lacks_as c.args.c.now.items c.schema-schema.result.now steps.schema c.needs.result.now steps.needs c.test_needs.result c.schema-schema.ensures c.needs.ensures c.test_needs.ensures
