use Rattle.std.proofs.Common.{lit<}
use Rattle.sql_expressions.proofs.WithinProofs.{query_within_parses, only_spelled, all_spelled, unambiguous}
use Rattle.sql_expressions.proofs.laws.queries_are_read_exactly.Goals as goal

pub returns-clause-only : goal.returns-clause-only
returns-clause-only c value n = only_spelled (query_within_parses value n) (lit< tt)

pub returns-clause-all : goal.returns-clause-all
returns-clause-all c value n = all_spelled (query_within_parses value n) (lit< tt)

pub returns-clause-unambiguous : goal.returns-clause-unambiguous
returns-clause-unambiguous c value n = unambiguous (query_within_parses value n) (lit< tt)
