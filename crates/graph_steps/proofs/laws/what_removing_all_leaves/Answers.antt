use Rattle.graph_steps.proofs.Removing.{left_dependents, left_keys, left_lists, left_rests}
use Rattle.graph_steps.proofs.laws.what_removing_all_leaves.Goals as goal

pub returns-clause-keys : goal.returns-clause-keys
returns-clause-keys g c = left_keys

pub returns-clause-rests : goal.returns-clause-rests
returns-clause-rests g c = left_rests

pub returns-clause-dependents : goal.returns-clause-dependents
returns-clause-dependents g c = left_dependents

pub returns-clause-lists : goal.returns-clause-lists
returns-clause-lists g c = left_lists
