use Rattle.statement_steps.proofs.NeedLaws.{is_owned, lacks_in}
use Rattle.statement_steps.proofs.needs.test_needs.Goals as goal

pub returns : goal.returns
returns c = lacks_in c.args.c.now.items c.items.ensures.order c.args.schema.now c.in-Some.owner.now c.in-Some.ensures.found c.args.needs.now c.test_privileges.result c.test_privileges.ensures

pub unreachable-requires : goal.unreachable-requires
unreachable-requires c = is_owned c.args.c.now.items c.args.who.now c.args.schema.now c.requires c.in-None.ensures.none
