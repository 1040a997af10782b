use Rattle.graph_steps.proofs.Linking.{more_dependents, more_lists, more_rests, same_keys}
use Rattle.graph_steps.proofs.laws.what_linking_all_adds.Goals as goal

pub returns-clause-keys : goal.returns-clause-keys
returns-clause-keys g c = same_keys

pub returns-clause-rests : goal.returns-clause-rests
returns-clause-rests g c = more_rests

pub returns-clause-dependents : goal.returns-clause-dependents
returns-clause-dependents g c = more_dependents

pub returns-clause-lists : goal.returns-clause-lists
returns-clause-lists g c = more_lists
