use Rattle.topic_lists.proofs.ActorLaws.{no_owner, the_owner}
use Rattle.topic_lists.proofs.acting.owner_in.Goals as goal

pub returns-in-None : goal.returns-in-None
returns-in-None c = no_owner c.args.c.now.items c.args.schema.now c.in-None.ensures.none

pub returns-in-Some : goal.returns-in-Some
returns-in-Some c = the_owner c.args.c.now.items c.args.schema.now c.in-Some.owner.now c.items.ensures.order c.in-Some.ensures.found
