use Rattle.std.proofs.Common.{lit<}
use Rattle.sql_expressions.proofs.WithinProofs.{expr_within_parses, only_spelled, all_spelled, unambiguous}
use Rattle.sql_expressions.proofs.laws.expressions_are_read_exactly.Goals as goal

pub returns-clause-only : goal.returns-clause-only
returns-clause-only c value n = only_spelled (expr_within_parses value n) (lit< tt)

pub returns-clause-all : goal.returns-clause-all
returns-clause-all c value n = all_spelled (expr_within_parses value n) (lit< tt)

pub returns-clause-unambiguous : goal.returns-clause-unambiguous
returns-clause-unambiguous c value n = unambiguous (expr_within_parses value n) (lit< tt)
