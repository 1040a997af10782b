use Rattle.item_lists.proofs.choosing.without.Goals as goal

pub returns-clause-members : goal.returns-clause-members
returns-clause-members c = rw c.of_sorted.ensures.items c.in_ok-rest.ensures.members
