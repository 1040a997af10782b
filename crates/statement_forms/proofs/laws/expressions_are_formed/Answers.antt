use Rattle.statement_forms.proofs.FormedTrees.{formed_expr}
use Rattle.statement_forms.proofs.laws.expressions_are_formed.Goals as goal

pub returns : goal.returns
returns c = formed_expr
