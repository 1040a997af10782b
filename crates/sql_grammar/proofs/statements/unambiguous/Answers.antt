use Rattle.sql_grammar.proofs.StatementProofs.{only}
use Rattle.sql_grammar.proofs.statements.unambiguous.Goals as goal

pub returns : goal.returns
returns c words a b = only words a b
