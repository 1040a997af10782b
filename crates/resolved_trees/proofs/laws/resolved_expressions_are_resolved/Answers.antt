use Rattle.resolved_trees.proofs.Resolved.{expr_resolved}
use Rattle.resolved_trees.proofs.laws.resolved_expressions_are_resolved.Goals as goal

pub returns : goal.returns
returns c = expr_resolved
