use Rattle.resolved_trees.proofs.Resolved.{query_resolved}
use Rattle.resolved_trees.proofs.laws.resolved_queries_are_resolved.Goals as goal

pub returns : goal.returns
returns c = query_resolved
