use Rattle.sql_expressions.proofs.DepthProofs.{expr_counted, expr_fits, query_counted, query_fits}
use Rattle.sql_expressions.proofs.laws.brackets_are_counted.Goals as goal

pub returns-clause-expressions : goal.returns-clause-expressions
returns-clause-expressions c = expr_counted

pub returns-clause-queries : goal.returns-clause-queries
returns-clause-queries c = query_counted

pub returns-clause-no_other_limit_of_expressions : goal.returns-clause-no_other_limit_of_expressions
returns-clause-no_other_limit_of_expressions c = expr_fits

pub returns-clause-no_other_limit_of_queries : goal.returns-clause-no_other_limit_of_queries
returns-clause-no_other_limit_of_queries c = query_fits
