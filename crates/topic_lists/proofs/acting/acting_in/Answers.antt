use Rattle.topic_lists.specs.Actors.{auth_in}
use Rattle.topic_lists.proofs.ActorLaws.{path_owner}
use Rattle.topic_lists.proofs.acting.acting_in.Goals as goal

pub returns-in-Some : goal.returns-in-Some
returns-in-Some c = rw c.in-System.is (path_owner c.args.c.now.items c.args.right.now.need.on c.in-Some.schema.now (auth_in c.owner_in.result) c.in-Some.ensures c.owner_in.ensures)
