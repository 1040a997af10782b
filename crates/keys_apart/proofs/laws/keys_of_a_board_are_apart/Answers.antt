use Rattle.keys_apart.proofs.OneKey.{one_key, told_apart}
use Rattle.keys_apart.proofs.laws.keys_of_a_board_are_apart.Goals as goal

pub returns-clause-order : goal.returns-clause-order
returns-clause-order c = one_key

pub returns-clause-same : goal.returns-clause-same
returns-clause-same c = told_apart
