use Rattle.statement_forms.proofs.FormedTrees.{formed_query}
use Rattle.statement_forms.proofs.laws.queries_are_formed.Goals as goal

pub returns : goal.returns
returns c = formed_query
