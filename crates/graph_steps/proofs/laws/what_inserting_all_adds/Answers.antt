use Rattle.graph_steps.proofs.Inserting.{keys_after, orderly, same_dependents, same_lists, same_rests, was_unlinked}
use Rattle.graph_steps.proofs.laws.what_inserting_all_adds.Goals as goal

pub returns-clause-keys : goal.returns-clause-keys
returns-clause-keys g c = λ graph keys whole. keys_after graph keys (orderly g.K.PartialEq.eq graph whole)

pub returns-clause-new : goal.returns-clause-new
returns-clause-new g c = was_unlinked g.K.PartialEq.eq

pub returns-clause-rests : goal.returns-clause-rests
returns-clause-rests g c = same_rests

pub returns-clause-dependents : goal.returns-clause-dependents
returns-clause-dependents g c = same_dependents

pub returns-clause-lists : goal.returns-clause-lists
returns-clause-lists g c = same_lists
