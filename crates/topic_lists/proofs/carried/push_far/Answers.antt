use Rattle.topic_lists.proofs.carried.push_far.Goals as goal

pub returns-in-Table : goal.returns-in-Table
returns-in-Table c = rw (c.in-Table.is, ← c.get.ensures) c.push_usages.ensures

pub returns-in-Held : goal.returns-in-Held
returns-in-Held c = rw (c.in-Held.is, ← c.get-in-Held.ensures) c.push_far_right.ensures

pub returns-in-Grantable : goal.returns-in-Grantable
returns-in-Grantable c = rw (c.in-Grantable.is, ← c.get-in-Grantable.ensures) c.push_far_right-in-Grantable.ensures
