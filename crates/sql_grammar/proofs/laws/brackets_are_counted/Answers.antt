use Rattle.sql_grammar.proofs.StatementDepths.{statement_limited, statement_fits}
use Rattle.sql_grammar.proofs.laws.brackets_are_counted.Goals as goal

pub returns-clause-counted : goal.returns-clause-counted
returns-clause-counted c = statement_limited

pub returns-clause-no_other_limit : goal.returns-clause-no_other_limit
returns-clause-no_other_limit c = statement_fits
