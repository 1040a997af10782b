use Rattle.ddl_service.proofs.Openings.{allowed_users}
use Rattle.ddl_service.proofs.start.script.Goals as goal

pub new-requires-clause-allowed : goal.new-requires-clause-allowed
new-requires-clause-allowed g c = allowed_users c.args.users.now.items c.requires
