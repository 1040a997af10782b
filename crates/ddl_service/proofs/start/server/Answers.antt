use Rattle.ddl_service.proofs.Openings.{allowed_users}
use Rattle.ddl_service.proofs.start.server.Goals as goal

pub new-requires-clause-allowed : goal.new-requires-clause-allowed
new-requires-clause-allowed g c = allowed_users c.args.asked.now.users.items c.requires.users
